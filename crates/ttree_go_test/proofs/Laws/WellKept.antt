-- What runs is stored under its own path and name, in order: what is found after it is taken out or
-- put back.
use Rattle.std.proofs.Common.{◌≡◌, ℕ, suc, zero, Bool, true, false, List, [], ◌∷◌, Option, Some, None, refl, sym, ap, subst, ◌∙◌, arith}
use Rattle.std.proofs.Math.Seq.{drop-length, take-length}
use Rattle.std.proofs.lemmas.Map.Lookups.{exact_bytes}
use Rattle.std.specs.Prelude.{⊤, ◌&&◌, bytes_eq, cond, if◌then◌else◌, is_some, length, unwrap_or, take, drop}
use Rattle.std.specs.Ordering.{is_eq, match_ordering}
use Rattle.std.specs.declared.cmp.Ordering.{Ordering}
use Rattle.std.specs.declared.cmp.Ordering.TheVariants.{Less, Equal, Greater}
use Rattle.ttree_go_test.specs.declared.go_test.running.Running.{Running}
use Rattle.ttree_go_test.specs.Names.{named, put, without}
use Rattle.ttree_go_test.specs.Texts.{ends_word}
use Rattle.ttree_go_test.specs.GoTest.{Tests, owner, owner_within}
use Rattle.ttree_go_test.proofs.Laws.Stored.{IsSorted, bytes_same, cmp, found_again, found_put, found_without, none_without, same_bytes, sorted_put, sorted_without}

-- only a package may not have started, and then it has printed nothing
abbrev pub IsPlaced : List ℕ → List ℕ → Running → Type 0
IsPlaced path name one = (one.path ≡ path) × (one.test ≡ name) × (one.has_begun ≡ false → one.part ≡ []) × (one.has_begun ≡ false → name ≡ [])

abbrev pub ArePlaced : List ℕ → Tests → Type 0
ArePlaced path [] = ⊤
ArePlaced path (e ∷ es) = IsPlaced path e.0 e.1 × ArePlaced path es

pub record AreWell (path : List ℕ) (tests : Tests) : Type 0 where
  pub placed : ArePlaced path tests
  pub sorted : IsSorted tests

abbrev pub AllWell : List (List ℕ × Tests) → Type 0
AllWell [] = ⊤
AllWell (e ∷ es) = AreWell e.0 e.1 × AllWell es

pub record IsWell (packages : List (List ℕ × Tests)) : Type 0 where
  pub all : AllWell packages
  pub sorted : IsSorted packages

placed_put : (path name : List ℕ) (one : Running) (es : Tests) → IsPlaced path name one → ArePlaced path es → ArePlaced path (put name one es)
placed_put path name one [] p h = (p, tt)
placed_put path name one (e ∷ es) p h = by (cmp name e.0) refl (placed_put path name one es p h.1) where
  by : (at : Ordering) → cmp name e.0 ≡ at → ArePlaced path (put name one es) → ArePlaced path (match_ordering at ((name, one) ∷ e ∷ es) ((e.0, one) ∷ es) (e ∷ put name one es))
  by Less is others = (p, h)
  by Equal is others = ((p.0, p.1 ∙ exact_bytes name e.0 is, p.2, λ f. sym (exact_bytes name e.0 is) ∙ p.3 f), h.1)
  by Greater is others = (h.0, others)

placed_without : (path name : List ℕ) (es : Tests) → ArePlaced path es → ArePlaced path (without name es)
placed_without path name [] h = tt
placed_without path name (e ∷ es) h = by (is_eq (cmp name e.0)) (placed_without path name es h.1) where
  by : (here : Bool) → ArePlaced path (without name es) → ArePlaced path (cond here es (e ∷ without name es))
  by true others = h.1
  by false others = (h.0, others)

pub well_put : (path name : List ℕ) (one : Running) (es : Tests) → IsPlaced path name one → AreWell path es → AreWell path (put name one es)
well_put path name one es p h = record { placed = placed_put path name one es p h.placed; sorted = sorted_put name one es h.sorted }

pub well_without : (path name : List ℕ) (es : Tests) → AreWell path es → AreWell path (without name es)
well_without path name es h = record { placed = placed_without path name es h.placed; sorted = sorted_without name es h.sorted }

all_put : (path : List ℕ) (tests : Tests) (es : List (List ℕ × Tests)) → AreWell path tests → AllWell es → AllWell (put path tests es)
all_put path tests [] t h = (t, tt)
all_put path tests (e ∷ es) t h = by (cmp path e.0) refl (all_put path tests es t h.1) where
  by : (at : Ordering) → cmp path e.0 ≡ at → AllWell (put path tests es) → AllWell (match_ordering at ((path, tests) ∷ e ∷ es) ((e.0, tests) ∷ es) (e ∷ put path tests es))
  by Less is others = (t, h)
  by Equal is others = let P : List ℕ → Type 0 = λ p. AreWell p tests in (subst P (exact_bytes path e.0 is) t, h.1)
  by Greater is others = (h.0, others)

all_without : (path : List ℕ) (es : List (List ℕ × Tests)) → AllWell es → AllWell (without path es)
all_without path [] h = tt
all_without path (e ∷ es) h = by (is_eq (cmp path e.0)) (all_without path es h.1) where
  by : (here : Bool) → AllWell (without path es) → AllWell (cond here es (e ∷ without path es))
  by true others = h.1
  by false others = (h.0, others)

pub without_well : (path : List ℕ) (es : List (List ℕ × Tests)) → IsWell es → IsWell (without path es)
without_well path es h = record { all = all_without path es h.all; sorted = sorted_without path es h.sorted }

all_found : (path : List ℕ) (es : List (List ℕ × Tests)) → AllWell es → AreWell path (unwrap_or (named path es) [])
all_found path [] h = record { placed = tt; sorted = tt }
all_found path (e ∷ es) h = by (cmp path e.0) refl (all_found path es h.1) where
  by : (at : Ordering) → cmp path e.0 ≡ at → AreWell path (unwrap_or (named path es) []) → AreWell path (unwrap_or (cond (is_eq at) (Some e.1) (named path es)) [])
  by Less is others = others
  by Equal is others = let P : List ℕ → Type 0 = λ p. AreWell p e.1 in subst P (sym (exact_bytes path e.0 is)) h.0
  by Greater is others = others

-- what is found is well
pub well_found : (path : List ℕ) (es : List (List ℕ × Tests)) → IsWell es → AreWell path (unwrap_or (named path es) [])
well_found path es h = all_found path es h.all

abbrev pub IfPlaced : List ℕ → List ℕ → Option Running → Type 0
IfPlaced path name None = ⊤
IfPlaced path name (Some one) = IsPlaced path name one

pub placed_found : (path name : List ℕ) (es : Tests) → ArePlaced path es → IfPlaced path name (named name es)
placed_found path name [] h = tt
placed_found path name (e ∷ es) h = by (cmp name e.0) refl (placed_found path name es h.1) where
  by : (at : Ordering) → cmp name e.0 ≡ at → IfPlaced path name (named name es) → IfPlaced path name (cond (is_eq at) (Some e.1) (named name es))
  by Less is others = others
  by Equal is others = (h.0.0, h.0.1 ∙ sym (exact_bytes name e.0 is), h.0.2, λ f. exact_bytes name e.0 is ∙ h.0.3 f)
  by Greater is others = others

-- ---- the longest prefix that runs

pub and_left : (a b : Bool) → (a && b) ≡ true → a ≡ true
and_left true b h = refl
and_left false b h = h

pub and_right : (a b : Bool) → (a && b) ≡ true → b ≡ true
and_right true b h = h
and_right false b h = cc

abbrev RunsOrEmpty : Tests → List ℕ → Type 0
RunsOrEmpty tests name = is_some (named name tests) ≡ false → name ≡ []

owner_by : (tests : Tests) (test : List ℕ) (n : ℕ) → RunsOrEmpty tests (owner_within tests test n)
owner_by tests test zero missing = refl
owner_by tests test (suc n) missing = by (ends_word 47 (drop (suc n) test) && is_some (named (take (suc n) test) tests)) refl (owner_by tests test n) missing where
  by : (b : Bool) → (ends_word 47 (drop (suc n) test) && is_some (named (take (suc n) test) tests)) ≡ b → RunsOrEmpty tests (owner_within tests test n) →
      RunsOrEmpty tests (if b then take (suc n) test else owner_within tests test n)
  by true is shorter value_problem = let k : true ≡ false = sym (and_right (ends_word 47 (drop (suc n) test)) (is_some (named (take (suc n) test) tests)) is) ∙ value_problem in cc
  by false is shorter value_problem = shorter value_problem

-- it runs, unless it is the package
pub owner_runs : (tests : Tests) (test : List ℕ) → is_some (named (owner tests test) tests) ≡ false → owner tests test ≡ []
owner_runs tests test = owner_by tests test (length test)

first_itself : (tests : Tests) (test : List ℕ) (n : ℕ) → length test ≡ suc n → is_some (named test tests) ≡ true → owner_within tests test (suc n) ≡ test
first_itself tests test n long is =
    let whole : take (suc n) test ≡ test = ap (λ k. take k test) (sym long) ∙ take-length test in
    let none : drop (suc n) test ≡ [] = ap (λ k. drop k test) (sym long) ∙ drop-length test in
    let e : (ends_word 47 (drop (suc n) test) && is_some (named (take (suc n) test) tests)) ≡ true =
    ap (λ rest. ends_word 47 rest && is_some (named (take (suc n) test) tests)) none ∙ ap (λ name. is_some (named name tests)) whole ∙ is in
    ap (λ b. if b then take (suc n) test else owner_within tests test n) e ∙ whole

-- a test that runs is its own longest prefix
pub owner_itself : (tests : Tests) (test : List ℕ) → is_some (named test tests) ≡ true → owner tests test ≡ test
owner_itself tests [] is = refl
owner_itself tests (b ∷ test) is = first_itself tests (b ∷ test) (length test) (omega arith) is

-- ---- what is taken out, and put back

-- without what runs under this name
abbrev pub emptied : List ℕ → List ℕ → List (List ℕ × Tests) → List (List ℕ × Tests)
emptied path name packages = put path (without name (unwrap_or (named path packages) [])) (without path packages)

-- with this under this name
abbrev pub filled : List ℕ → List ℕ → Running → List (List ℕ × Tests) → List (List ℕ × Tests)
filled path name one packages = put path (put name one (unwrap_or (named path packages) [])) (without path packages)

-- what runs under a path and a name
abbrev pub found : List ℕ → List ℕ → List (List ℕ × Tests) → Option Running
found path name packages = named name (unwrap_or (named path packages) [])

pub found_filled : (q m path name : List ℕ) (one : Running) (packages : List (List ℕ × Tests)) →
    found q m (filled path name one packages) ≡ (if bytes_eq q path && bytes_eq m name then Some one else found q m packages)
found_filled q m path name one packages =
    ap (λ o. named m (unwrap_or o [])) (found_again q path (put name one tests) packages) ∙ by (bytes_eq q path) refl where
      tests : Tests
      tests = unwrap_or (named path packages) []

      by : (b : Bool) → bytes_eq q path ≡ b → named m (unwrap_or (if b then Some (put name one tests) else named q packages) [])
          ≡ (if b && bytes_eq m name then Some one else found q m packages)
      by true is =
          found_put m name one tests
          ∙ ap (λ p. if bytes_eq m name then Some one else found p m packages) (sym (bytes_same q path is))
      by false is = refl

pub found_emptied : (q m path name : List ℕ) (packages : List (List ℕ × Tests)) → (bytes_eq q path && bytes_eq m name) ≡ false →
    found q m (emptied path name packages) ≡ found q m packages
found_emptied q m path name packages other =
    ap (λ o. named m (unwrap_or o [])) (found_again q path (without name tests) packages) ∙ by (bytes_eq q path) refl where
      tests : Tests
      tests = unwrap_or (named path packages) []

      by : (b : Bool) → bytes_eq q path ≡ b → named m (unwrap_or (if b then Some (without name tests) else named q packages) []) ≡ found q m packages
      by true is =
          found_without m name tests (sym (ap (λ b. b && bytes_eq m name) is) ∙ other)
          ∙ ap (λ p. found p m packages) (sym (bytes_same q path is))
      by false is = refl

-- a name is stored once
pub none_emptied : (path name : List ℕ) (packages : List (List ℕ × Tests)) → IsWell packages → found path name (emptied path name packages) ≡ None
none_emptied path name packages w =
    let tests : Tests = unwrap_or (named path packages) [] in
    ap (λ o. named name (unwrap_or o [])) (found_again path path (without name tests) packages)
    ∙ ap (λ b. named name (unwrap_or (if b then Some (without name tests) else named path packages) [])) (same_bytes path path refl)
    ∙ none_without name tests (well_found path packages w).sorted

pub found_back : (q m path name : List ℕ) (one : Running) (packages : List (List ℕ × Tests)) →
    found q m (filled path name one (emptied path name packages)) ≡ (if bytes_eq q path && bytes_eq m name then Some one else found q m packages)
found_back q m path name one packages = found_filled q m path name one (emptied path name packages) ∙ by (bytes_eq q path && bytes_eq m name) refl where
  by : (b : Bool) → (bytes_eq q path && bytes_eq m name) ≡ b → (if b then Some one else found q m (emptied path name packages)) ≡ (if b then Some one else found q m packages)
  by true is = refl
  by false is = found_emptied q m path name packages is

pub well_filled : (path name : List ℕ) (one : Running) (packages : List (List ℕ × Tests)) → IsPlaced path name one → IsWell packages → IsWell (filled path name one packages)
well_filled path name one packages p h =
    let tests : Tests = unwrap_or (named path packages) [] in
    record {
      all = all_put path (put name one tests) (without path packages) (well_put path name one tests p (well_found path packages h)) (all_without path packages h.all);
      sorted = sorted_put path (put name one tests) (without path packages) (sorted_without path packages h.sorted);
    }

pub well_emptied : (path name : List ℕ) (packages : List (List ℕ × Tests)) → IsWell packages → IsWell (emptied path name packages)
well_emptied path name packages h =
    let tests : Tests = unwrap_or (named path packages) [] in
    record {
      all = all_put path (without name tests) (without path packages) (well_without path name tests (well_found path packages h)) (all_without path packages h.all);
      sorted = sorted_put path (without name tests) (without path packages) (sorted_without path packages h.sorted);
    }
