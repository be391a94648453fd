-- A test is nested in its nearest running ancestor.
use Rattle.std.proofs.Common.{◌≡◌, ◌≤◌, ◌<◌, ◌⊎◌, ℕ, suc, zero, ◌+◌, Bool, true, false, List, [], ◌∷◌, ◌++◌, Option, Some, None, refl, sym, ap, subst, inl, inr, ◌∙◌, append_assoc, arith, length-append}
use Rattle.std.proofs.Math.Seq.{drop-length, take-length}
use Rattle.std.proofs.lemmas.List.{append-nil, length-take-le, take-append-drop}
use Rattle.std.proofs.lemmas.Bool.Decides.{nat_tests}
use Rattle.std.specs.Prelude.{◌&&◌, bytes_eq, codes, if◌then◌else◌, is_some, length, nat_le, option_and_then, take, drop}
use Rattle.tracing_tree_base.specs.declared.context.Id.{Id}
use Rattle.ttree_go_test.specs.declared.go_test.running.Running.{Running}
use Rattle.ttree_source.specs.Marks.{is_empty}
use Rattle.ttree_go_test.specs.Names.{named, without}
use Rattle.ttree_go_test.specs.Texts.{ends_word}
use Rattle.ttree_go_test.specs.Nesting.{IsAlone, IsAtOrIn, IsIn, IsNearest, IsParent, TakesPrinted}
use Rattle.ttree_go_test.specs.GoTest.{GoState, Tests, held_test, if_has_span, outer_span, outer_within, owner, owner_within, running_as, shown_at, span_of_test, tests_of}
use Rattle.ttree_go_test.proofs.Laws.Stored.{bytes_same, found_without, none_without}
use Rattle.ttree_go_test.proofs.Laws.Accounts.{held_holds, holder}
use Rattle.ttree_go_test.proofs.Laws.Printing.{nil_if_empty}
use Rattle.ttree_go_test.proofs.Laws.WellKept.{IsWell, well_found}

abbrev span_of_it : Option Running → Option Id
span_of_it o = option_and_then (λ (one : Running). one.span) o

-- what is found among the prefixes of at most n bytes
abbrev Within : Tests → List ℕ → ℕ → Option Running → Type 0
Within tests test n None = (k : ℕ) → 0 < k → k ≤ n → ends_word 47 (drop k test) ≡ true → span_of_test tests (take k test) ≡ None
Within tests test n (Some one) =
    (k : ℕ) × (span : Id) × (0 < k) × (k ≤ n) × (ends_word 47 (drop k test) ≡ true) × (span_of_test tests (take k test) ≡ Some span) × (one.span ≡ Some span)
    × ((j : ℕ) → k < j → j ≤ n → ends_word 47 (drop j test) ≡ true → span_of_test tests (take j test) ≡ None)

-- of what is found, this is known
record ShownAt (e : Bool) (o : Option Running) (one : Running) : Type 0 where
  ends : e ≡ true
  span : Id
  shows : span_of_it o ≡ Some span
  is : one.span ≡ Some span

with_span_is : (o : Option Running) (one : Running) → if_has_span o ≡ Some one → ShownAt true o one
with_span_is None one h = cc
with_span_is (Some other) one h = by other.span refl where
  kept : Option Id → Option Running
  kept span = if is_some span then Some other else None

  by : (span : Option Id) → other.span ≡ span → ShownAt true (Some other) one
  by None is = let k : None ≡ Some one = ap kept (sym is) ∙ h in cc
  by (Some id) is =
      let same : Some other ≡ Some one = ap kept (sym is) ∙ h in
      record { ends = refl; span = id; shows = is; is = sym (ap span_of_it same) ∙ is }

shown_is : (e : Bool) (o : Option Running) (one : Running) → (if e then if_has_span o else None) ≡ Some one → ShownAt e o one
shown_is true o one h = with_span_is o one h
shown_is false o one h = cc

none_is : (e : Bool) (o : Option Running) → (if e then if_has_span o else None) ≡ None → e ≡ true → span_of_it o ≡ None
none_is true None h is = refl
none_is true (Some one) h is = by one.span h where
  by : (span : Option Id) → (if is_some span then Some one else None) ≡ None → span ≡ None
  by None e = refl
  by (Some id) e = cc
none_is false o h is = cc

below_or_at : (j n : ℕ) → j ≤ suc n → (j ≤ n) ⊎ (j ≡ suc n)
below_or_at j n h = by (nat_le j n) refl where
  by : (b : Bool) → nat_le j n ≡ b → (j ≤ n) ⊎ (j ≡ suc n)
  by true is = inl (grind (arith, nat_tests))
  by false is = inr (grind (arith, nat_tests))

one_longer : (tests : Tests) (test : List ℕ) (n : ℕ) (r : Option Running) → (ends_word 47 (drop (suc n) test) ≡ true → span_of_test tests (take (suc n) test) ≡ None) →
    Within tests test n r → Within tests test (suc n) r
one_longer tests test n None here h = λ k low high is. by k low is (below_or_at k n high) where
  by : (k : ℕ) → 0 < k → ends_word 47 (drop k test) ≡ true → (k ≤ n) ⊎ (k ≡ suc n) → span_of_test tests (take k test) ≡ None
  by k low is (inl less) = h k low less is
  by k low is (inr at) = ap (λ i. span_of_test tests (take i test)) at ∙ here (ap (λ i. ends_word 47 (drop i test)) (sym at) ∙ is)
one_longer tests test n (Some one) here (k, span, low, high, is, shows, same, nearest) =
    (k, span, low, omega arith, is, shows, same, λ j after upto ends. by j after ends (below_or_at j n upto)) where
      by : (j : ℕ) → k < j → ends_word 47 (drop j test) ≡ true → (j ≤ n) ⊎ (j ≡ suc n) → span_of_test tests (take j test) ≡ None
      by j after ends (inl less) = nearest j after less ends
      by j after ends (inr at) = ap (λ i. span_of_test tests (take i test)) at ∙ here (ap (λ i. ends_word 47 (drop i test)) (sym at) ∙ ends)

within : (tests : Tests) (test : List ℕ) (n : ℕ) → Within tests test n (outer_within tests test n)
within tests test zero = λ k low high is. absurd (omega arith)
within tests test (suc n) = by (shown_at tests test (suc n)) refl (within tests test n) where
  by : (o : Option Running) → shown_at tests test (suc n) ≡ o → Within tests test n (outer_within tests test n) → Within tests test (suc n) (outer_within tests test (suc n))
  by None is shorter =
      rw is (one_longer tests test n (outer_within tests test n)
      (none_is (ends_word 47 (drop (suc n) test)) (named (take (suc n) test) tests) is) shorter)
  by (Some one) is shorter =
      let at = shown_is (ends_word 47 (drop (suc n) test)) (named (take (suc n) test) tests) one is in
      rw is (suc n, at.span, omega arith, omega arith, at.ends, at.shows, at.is, λ j after upto ends. absurd (omega arith))

-- ---- names

take_front : (outer rest : List ℕ) → take (length outer) (outer ++ rest) ≡ outer
take_front [] rest = refl
take_front (b ∷ outer) rest = ap (λ more. b ∷ more) (take_front outer rest)

drop_front : (outer rest : List ℕ) → drop (length outer) (outer ++ rest) ≡ rest
drop_front [] rest = refl
drop_front (b ∷ outer) rest = drop_front outer rest

-- where the name of a test around ends
record EndsAt (test outer : List ℕ) : Type 0 where
  front : take (length outer) test ≡ outer
  ends : ends_word 47 (drop (length outer) test) ≡ true
  some : 0 < length outer
  shorter : length outer < length test

long_name : (name : List ℕ) → is_empty name ≡ false → 0 < length name
long_name [] h = let k : true ≡ false = h in cc
long_name (b ∷ name) h = omega arith

ends_at : (test outer : List ℕ) → IsIn test outer → EndsAt test outer
ends_at test outer inside =
    let rest : List ℕ = codes "/" ++ inside.rest in
    let whole : test ≡ outer ++ rest = inside.whole ∙ append_assoc outer (codes "/") inside.rest in
    let long : length test ≡ length outer + length rest = ap length whole ∙ length-append outer rest in
    let more : length rest ≡ suc (length inside.rest) = refl in
    record {
      front = ap (take (length outer)) whole ∙ take_front outer rest;
      ends = ap (λ text. ends_word 47 (drop (length outer) text)) whole ∙ ap (ends_word 47) (drop_front outer rest);
      some = long_name outer inside.named;
      shorter = omega arith;
    }

-- a shorter name that ends at a `/` is of a test around
inside_at : (test : List ℕ) (k : ℕ) (rest : List ℕ) → drop k test ≡ rest → ends_word 47 rest ≡ true → 0 < k → k ≤ length test → (rest ≡ [] → ⊥) → IsIn test (take k test)
inside_at test k [] is ends low high no_rest = absurd (no_rest refl)
inside_at test k (b ∷ rest) is ends low high no_rest =
    let slash : b ≡ 47 = grind (arith, nat_tests, ends) in
    record {
      named = full (take k test) (length-take-le k test high) low;
      rest = rest;
      whole = sym (take-append-drop k test) ∙ ap (λ more. take k test ++ more) (is ∙ ap (λ c. c ∷ rest) slash) ∙ sym (append_assoc (take k test) (codes "/") rest);
    } where
      full : (name : List ℕ) → length name ≡ k → 0 < k → is_empty name ≡ false
      full [] e l = absurd (omega arith)
      full (c ∷ name) e l = grind (arith, nat_tests)

-- ---- the nearest

-- among others than the test itself
abbrev IsParentBy : Tests → Option Id → List ℕ → Option Id → Type 0
IsParentBy others root test parent =
    ((outer : List ℕ) × (span : Id) × IsNearest others test outer span × (parent ≡ Some span))
    ⊎ (IsAlone others test × (parent ≡ root))

parent_by : (others : Tests) (root : Option Id) (test : List ℕ) (r : Option Running) → named test others ≡ None → Within others test (length test) r →
    IsParentBy others root test (outer_span root r)
parent_by others root test None none h = inr (alone, refl) where
  alone : IsAlone others test
  alone outer inside =
      let at = ends_at test outer inside in
      sym (ap (span_of_test others) at.front) ∙ h (length outer) at.some (omega (arith, at.shorter)) at.ends
parent_by others root test (Some one) none (k, span, low, high, ends, shows, same, nearest) = inl (
  take k test,
  span,
  record {
    inside = inside_at test k (drop k test) refl ends low high (λ no_rest. absurd (itself no_rest));
    shows = shows;
    nearest = λ other inside longer.
        let at = ends_at test other inside in
        sym (ap (span_of_test others) at.front) ∙ nearest (length other) (omega (arith, longer, length-take-le k test high)) (omega (arith, at.shorter)) at.ends;
  },
  same,
) where
  itself : drop k test ≡ [] → ⊥
  itself no_rest =
      let whole : take k test ≡ test = sym (append-nil (take k test)) ∙ ap (λ more. take k test ++ more) (sym no_rest) ∙ take-append-drop k test in
      let e : None ≡ Some span = sym (ap span_of_it none) ∙ ap (span_of_test others) (sym whole) ∙ shows in
      cc

-- ---- among all that run

differs_in : (test other : List ℕ) → IsIn test other → bytes_eq other test ≡ false
differs_in test other inside = by (bytes_eq other test) refl where
  by : (b : Bool) → bytes_eq other test ≡ b → b ≡ false
  by true is = let at = ends_at test other inside in let same : length other ≡ length test = ap length (bytes_same other test is) in absurd (omega (arith, at.shorter, same))
  by false is = refl

nil_differs : (test : List ℕ) → is_empty test ≡ false → bytes_eq [] test ≡ false
nil_differs [] h = let k : true ≡ false = h in cc
nil_differs (b ∷ test) h = refl

parent_among : (tests : Tests) (test : List ℕ) (parent : Option Id) → is_empty test ≡ false → IsParentBy (without test tests) (span_of_test (without test tests) []) test parent → IsParent tests test parent
parent_among tests test parent full (inl (outer, span, near, is)) = inl (
  outer,
  span,
  record {
    inside = near.inside;
    shows = sym (ap span_of_it (found_without outer test tests (differs_in test outer near.inside))) ∙ near.shows;
    nearest = λ other inside longer. sym (ap span_of_it (found_without other test tests (differs_in test other inside))) ∙ near.nearest other inside longer;
  },
  is,
)
parent_among tests test parent full (inr (alone, is)) =
    inr (
      λ outer inside. sym (ap span_of_it (found_without outer test tests (differs_in test outer inside))) ∙ alone outer inside,
      is ∙ ap span_of_it (found_without [] test tests (nil_differs test full)),
    )

-- What is taken out for a test is nested in its nearest running ancestor that has a span.
pub nested_in : (path test : List ℕ) (s : GoState) → IsWell s.packages → is_empty (holder path test s) ≡ false →
    IsParent (tests_of path s) (holder path test s) (held_test path test s).one.parent
unfolding held_test
nested_in path test s w full =
    let name : List ℕ = holder path test s in
    let tests : Tests = tests_of path s in
    let others : Tests = without name tests in
    let one : Running = running_as path name tests in
    let root : Option Id = span_of_test others [] in
    let is : one.test ≡ name = (held_holds path test s w).test_is in
    let P : List ℕ → Type 0 = λ n. IsParentBy others root name (outer_span root (outer_within others n (length n))) in
    parent_among tests name (outer_span root (outer_within others one.test (length one.test))) full
    (subst P (sym is) (parent_by others root name (outer_within others name (length name)) (none_without name tests (well_found path s.packages w).sorted) (within others name (length name))))

-- A package is at the root.
pub package_place : (path test : List ℕ) (s : GoState) → IsWell s.packages → is_empty (holder path test s) ≡ true → (held_test path test s).one.parent ≡ None
unfolding held_test
package_place path test s w empty =
    let tests : Tests = tests_of path s in
    let name : List ℕ = holder path test s in
    let none : name ≡ [] = nil_if_empty name empty in
    let is : (running_as path name tests).test ≡ [] = (held_holds path test s w).test_is ∙ none in
    let others : Tests = without name tests in
    let root : Option Id = span_of_test others [] in
    ap (λ n. outer_span root (outer_within others n (length n))) is
    ∙ ap (λ n. span_of_test (without n tests) []) none
    ∙ ap span_of_it (none_without [] tests (well_found path s.packages w).sorted)

-- ---- what takes a string

-- what is found among the prefixes of at most n bytes
record OwnerWithin (tests : Tests) (test : List ℕ) (n : ℕ) (name : List ℕ) : Type 0 where
  size : ℕ
  front : name ≡ take size test
  upto : size ≤ n
  ends : 0 < size → ends_word 47 (drop size test) ≡ true
  runs : 0 < size → is_some (named name tests) ≡ true
  nearest : (k : ℕ) → size < k → k ≤ n → ends_word 47 (drop k test) ≡ true → is_some (named (take k test) tests) ≡ false

and_none : (a b : Bool) → (a && b) ≡ false → a ≡ true → b ≡ false
and_none true b h is = h
and_none false b h is = cc

first_true : (a b : Bool) → (a && b) ≡ true → a ≡ true
first_true true b h = refl
first_true false b h = h

last_true : (a b : Bool) → (a && b) ≡ true → b ≡ true
last_true true b h = h
last_true false b h = cc

owner_found : (tests : Tests) (test : List ℕ) (n : ℕ) → OwnerWithin tests test n (owner_within tests test n)
owner_found tests test zero = record {
  size = 0;
  front = refl;
  upto = omega arith;
  ends = λ some. absurd (omega arith);
  runs = λ some. absurd (omega arith);
  nearest = λ k after upto is. absurd (omega arith);
}
owner_found tests test (suc n) = by (ends_word 47 (drop (suc n) test) && is_some (named (take (suc n) test) tests)) refl (owner_found tests test n) where
  ends_here : Bool
  ends_here = ends_word 47 (drop (suc n) test)

  runs_here : Bool
  runs_here = is_some (named (take (suc n) test) tests)

  by : (b : Bool) → (ends_here && runs_here) ≡ b → OwnerWithin tests test n (owner_within tests test n) →
      OwnerWithin tests test (suc n) (if b then take (suc n) test else owner_within tests test n)
  by true is shorter = record {
    size = suc n;
    front = refl;
    upto = omega arith;
    ends = λ some. first_true ends_here runs_here is;
    runs = λ some. last_true ends_here runs_here is;
    nearest = λ k after upto ends. absurd (omega arith);
  }
  by false is shorter = record {
    size = shorter.size;
    front = shorter.front;
    upto = omega (arith, shorter.upto);
    ends = shorter.ends;
    runs = shorter.runs;
    nearest = λ k after upto ends. at k after ends (below_or_at k n upto);
  } where
    at : (k : ℕ) → shorter.size < k → ends_word 47 (drop k test) ≡ true → (k ≤ n) ⊎ (k ≡ suc n) → is_some (named (take k test) tests) ≡ false
    at k after ends (inl less) = shorter.nearest k after less ends
    at k after ends (inr same) = ap (λ i. is_some (named (take i test) tests)) same ∙ and_none ends_here runs_here is (ap (λ i. ends_word 47 (drop i test)) (sym same) ∙ ends)

none_if : (o : Option Running) → is_some o ≡ false → o ≡ None
none_if None h = refl
none_if (Some one) h = cc

-- A string is taken by its test, or by the nearest that it is nested in and that runs.
pub takes_printed : (tests : Tests) (test : List ℕ) → TakesPrinted tests test (owner tests test)
takes_printed tests test = record { runs = by found.size refl; nearest = λ other among longer. at other longer among } where
  name : List ℕ
  name = owner tests test

  found : OwnerWithin tests test (length test) (owner tests test)
  found = owner_found tests test (length test)

  whole : (rest : List ℕ) → drop found.size test ≡ rest → 0 < found.size → IsAtOrIn test (take found.size test)
  whole [] is some = inl (sym (append-nil (take found.size test)) ∙ ap (λ more. take found.size test ++ more) (sym is) ∙ take-append-drop found.size test)
  whole (b ∷ rest) is some = inr (inside_at test found.size (b ∷ rest) is (ap (ends_word 47) (sym is) ∙ found.ends some) some found.upto (λ e. cc))

  by : (n : ℕ) → found.size ≡ n → (name ≡ []) ⊎ (IsAtOrIn test name × (is_some (named name tests) ≡ true))
  by zero is = inl (found.front ∙ ap (λ k. take k test) is)
  by (suc n) is =
      let some : 0 < found.size = omega (arith, is) in
      inr ((let P : List ℕ → Type 0 = λ x. IsAtOrIn test x in subst P (sym found.front) (whole (drop found.size test) refl some)), found.runs some)

  size_is : length name ≡ found.size
  size_is = ap length found.front ∙ length-take-le found.size test found.upto

  at : (other : List ℕ) → length name < length other → IsAtOrIn test other → named other tests ≡ None
  at other longer (inl same) =
      none_if (named other tests) (ap (λ n. is_some (named n tests)) (same ∙ sym (take-length test))
      ∙ found.nearest (length test) (omega (arith, longer, size_is, ap length same)) (omega arith) (ap (ends_word 47) (drop-length test)))
  at other longer (inr inside) =
      let ends = ends_at test other inside in
      none_if (named other tests) (ap (λ n. is_some (named n tests)) (sym ends.front)
      ∙ found.nearest (length other) (omega (arith, longer, size_is)) (omega (arith, ends.shorter)) ends.ends)
