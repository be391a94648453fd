-- All text is accounted for: it is in a line that is shown, or it is pending.
use Rattle.std.proofs.Common.{◌≡◌, ℕ, Bool, true, false, List, [], ◌∷◌, ◌++◌, Option, Some, None, refl, sym, ap, ◌∙◌, append_assoc}
use Rattle.std.proofs.lemmas.Grind.{flat_map-append}
use Rattle.std.proofs.lemmas.List.{append-nil}
use Rattle.std.specs.Prelude.{◌&&◌, bytes_eq, if◌then◌else◌, is_some, unwrap_or}
use Rattle.std.specs.Option.{option_map_or}
use Rattle.ttree_go_test.specs.declared.go_test.running.Running.{Running}
use Rattle.ttree_go_test.specs.Names.{named}
use Rattle.ttree_go_test.specs.GoTest.{GoState, Held, Tests, held_test, holds, new_running, owner, started, test_kept, tests_of}
use Rattle.ttree_go_test.specs.Printed.{Printed, Shown, line_in, lines_in, shown_message, shown_messages, test_text, text_by}
use Rattle.ttree_go_test.proofs.Laws.Printing.{Cuts, Ends, Finishes, Sends, joined, lines_of_its, none_sent, sent, then_sends, no_other_lines, no_others_then, others_in}
use Rattle.ttree_go_test.proofs.Laws.Stored.{bytes_same}
use Rattle.ttree_go_test.proofs.Laws.WellKept.{IfPlaced, IsPlaced, IsWell, and_left, and_right, emptied, filled, found, found_back, found_emptied, none_emptied, owner_runs, placed_found, well_emptied, well_filled, well_found}

abbrev pub part_of : Option Running → List ℕ
part_of o = option_map_or (λ (one : Running). one.part) o []

-- what a test has printed of a line that isn't ended yet
abbrev pub pending : List ℕ → List ℕ → GoState → List ℕ
pending path name s = part_of (found path name s.packages)

-- Between two states the text is accounted for.
pub record Accounts (texts : List Printed) (s t : GoState) : Type 0 where
  pub items : List Shown
  pub cut : (q m : List ℕ) → test_text q m (lines_in items) ++ pending q m t ≡ pending q m s ++ test_text q m texts
  pub sends : sent t ≡ sent s ++ shown_messages items
  pub builds : t.builds ≡ s.builds
  pub well : IsWell t.packages
  pub no_other : others_in items ≡ []

text_then : (q m : List ℕ) (a b : List Printed) → test_text q m (a ++ b) ≡ test_text q m a ++ test_text q m b
text_then q m a b = flat_map-append (text_by q m) a b

pub lines_then : (q m : List ℕ) (a b : List Shown) → test_text q m (lines_in (a ++ b)) ≡ test_text q m (lines_in a) ++ test_text q m (lines_in b)
lines_then q m a b = ap (test_text q m) (flat_map-append line_in a b) ∙ text_then q m (lines_in a) (lines_in b)

cut_then : (a b p r u x y : List ℕ) → a ++ r ≡ p ++ x → b ++ u ≡ r ++ y → (a ++ b) ++ u ≡ p ++ (x ++ y)
cut_then a b p r u x y one two = append_assoc a b u ∙ ap (λ rest. a ++ rest) two ∙ sym (append_assoc a r y) ∙ ap (λ front. front ++ y) one ∙ append_assoc p x y

pub then_accounts : (a b : List Printed) (s t u : GoState) → Accounts a s t → Accounts b t u → Accounts (a ++ b) s u
then_accounts a b s t u h k = record {
  items = h.items ++ k.items;
  cut = λ q m. ap (λ text. text ++ pending q m u) (lines_then q m h.items k.items)
      ∙ cut_then (test_text q m (lines_in h.items)) (test_text q m (lines_in k.items)) (pending q m s) (pending q m t) (pending q m u) (test_text q m a) (test_text q m b) (h.cut q m) (k.cut q m)
      ∙ ap (λ text. pending q m s ++ text) (sym (text_then q m a b));
  sends = k.sends ∙ ap (λ all. all ++ shown_messages k.items) h.sends ∙ append_assoc (sent s) (shown_messages h.items) (shown_messages k.items)
      ∙ ap (λ more. sent s ++ more) (sym (flat_map-append shown_message h.items k.items));
  builds = k.builds ∙ h.builds;
  well = k.well;
  no_other = no_others_then h.items k.items h.no_other k.no_other;
}

pub with_texts : (a b : List Printed) (s t : GoState) → ((q m : List ℕ) → test_text q m a ≡ test_text q m b) → Accounts a s t → Accounts b s t
with_texts a b s t same h = record {
  items = h.items;
  cut = λ q m. h.cut q m ∙ ap (λ text. pending q m s ++ text) (same q m);
  sends = h.sends;
  builds = h.builds;
  well = h.well;
  no_other = h.no_other;
}

-- nothing of it changes
pub same_accounts : (s t : GoState) → IsWell s.packages → Sends s t [] → Accounts [] s t
same_accounts s t w h = record {
  items = [];
  cut = λ q m. ap (λ packages. part_of (found q m packages)) h.packages ∙ sym (append-nil (pending q m s));
  sends = h.sent_too;
  builds = h.builds;
  well = subst_well h.packages;
  no_other = refl;
} where
  subst_well : t.packages ≡ s.packages → IsWell t.packages
  subst_well e = rw e w

-- ---- the text of one test

if_joined : (b : Bool) (line rest text : List ℕ) → text ≡ (if b then rest else []) → (if b then line else []) ++ text ≡ (if b then line ++ rest else [])
if_joined true line rest text h = ap (λ more. line ++ more) h
if_joined false line rest text h = h

abbrev pub nothing : List ℕ
nothing = []

pub if_nil : (b : Bool) → nothing ≡ (if b then nothing else nothing)
if_nil true = refl
if_nil false = refl

text_its : (q m : List ℕ) (one : Running) (lines : List (List ℕ)) →
    test_text q m (lines_in (lines_of_its one lines)) ≡ (if bytes_eq q one.path && bytes_eq m one.test then joined lines else [])
text_its q m one [] = if_nil (bytes_eq q one.path && bytes_eq m one.test)
text_its q m one (line ∷ lines) =
    if_joined (bytes_eq q one.path && bytes_eq m one.test) line (joined lines) (test_text q m (lines_in (lines_of_its one lines))) (text_its q m one lines)

-- and its end
pub text_ended : (q m : List ℕ) (one : Running) (lines : List (List ℕ)) (ends : List Shown) → lines_in ends ≡ [] →
    test_text q m (lines_in (lines_of_its one lines ++ ends)) ≡ (if bytes_eq q one.path && bytes_eq m one.test then joined lines else [])
text_ended q m one lines ends none =
    lines_then q m (lines_of_its one lines) ends
    ∙ ap (λ more. test_text q m (lines_in (lines_of_its one lines)) ++ test_text q m more) none
    ∙ append-nil (test_text q m (lines_in (lines_of_its one lines))) ∙ text_its q m one lines

-- text of this test
abbrev pub its : List ℕ → List ℕ → List ℕ → List Printed
its path name text = record { path = path; test = name; text = text } ∷ []

pub no_text : (path name q m : List ℕ) → test_text q m (its path name []) ≡ test_text q m []
no_text path name q m = by (bytes_eq q path && bytes_eq m name) where
  by : (b : Bool) → (if b then nothing else nothing) ++ nothing ≡ nothing
  by true = refl
  by false = refl

-- ---- what is taken out of a state

pub record Holds (path name : List ℕ) (s : GoState) (h : Held) : Type 0 where
  pub path_is : h.one.path ≡ path
  pub test_is : h.one.test ≡ name
  pub part_is : h.one.part ≡ pending path name s
  pub begins : h.one.has_begun ≡ false → h.one.part ≡ []
  pub of_package : h.one.has_begun ≡ false → name ≡ []
  pub packages : h.state.packages ≡ emptied path name s.packages
  pub builds : h.state.builds ≡ s.builds
  pub sent_too : sent h.state ≡ sent s

pub started_holds : (path name : List ℕ) (s : GoState) (h : Held) → Holds path name s h → Holds path name s (started h)
started_holds path name s h k = record {
  path_is = k.path_is;
  test_is = k.test_is;
  part_is = k.part_is;
  begins = λ is. cc;
  of_package = λ is. cc;
  packages = k.packages;
  builds = k.builds;
  sent_too = k.sent_too;
}

pub same_pending : (q m path name : List ℕ) (s : GoState) → (bytes_eq q path && bytes_eq m name) ≡ true → pending q m s ≡ pending path name s
same_pending q m path name s is =
    ap (λ p. pending p m s) (bytes_same q path (and_left (bytes_eq q path) (bytes_eq m name) is))
    ∙ ap (λ n. pending path n s) (bytes_same m name (and_right (bytes_eq q path) (bytes_eq m name) is))

-- the text of this test is cut, and all other text stays
cut_at : (q m path name : List ℕ) (one : Running) (s : GoState) (lines : List (List ℕ)) (ends : List Shown) (part text after : List ℕ) → one.path ≡ path → one.test ≡ name →
    lines_in ends ≡ [] → joined lines ++ part ≡ pending path name s ++ text → after ≡ (if bytes_eq q path && bytes_eq m name then part else pending q m s) →
    test_text q m (lines_in (lines_of_its one lines ++ ends)) ++ after ≡ pending q m s ++ test_text q m (its path name text)
cut_at q m path name one s lines ends part text after p n none cut is =
    let here : Bool = bytes_eq q path && bytes_eq m name in
    let at : (bytes_eq q one.path && bytes_eq m one.test) ≡ here =
    ap (λ x. bytes_eq q x && bytes_eq m one.test) p ∙ ap (λ x. bytes_eq q path && bytes_eq m x) n in
    ap (λ front. front ++ after) (text_ended q m one lines ends none ∙ ap (λ b. if b then joined lines else []) at)
    ∙ ap (λ rest. (if here then joined lines else []) ++ rest) is
    ∙ by (bytes_eq q path && bytes_eq m name) (same_pending q m path name s) where
      by : (b : Bool) → (b ≡ true → pending q m s ≡ pending path name s) →
          (if b then joined lines else []) ++ (if b then part else pending q m s) ≡ pending q m s ++ ((if b then text else []) ++ [])
      by true same = cut ∙ ap (λ front. front ++ text) (sym (same refl)) ∙ ap (λ rest. pending q m s ++ rest) (sym (append-nil text))
      by false same = sym (append-nil (pending q m s))

pub part_if : (b : Bool) (one : Running) (o : Option Running) → part_of (if b then Some one else o) ≡ (if b then one.part else part_of o)
part_if true one o = refl
part_if false one o = refl

-- it is put back after its text was cut, and after an end was shown
pub kept_accounts : (path name text : List ℕ) (s : GoState) (h k : Held) (t : GoState) → IsWell s.packages → Holds path name s h → Cuts text h k → (k.one.has_begun ≡ false → k.one.part ≡ []) → (k.one.has_begun ≡ false → name ≡ []) →
    Ends k.state t → Accounts (its path name text) s (test_kept (holds k.one t))
unfolding test_kept
kept_accounts path name text s h k t w is cuts begins of_package shows =
    let packages : t.packages ≡ emptied path name s.packages = shows.sends.packages ∙ cuts.sends.packages ∙ is.packages in
    let p : k.one.path ≡ path = cuts.path ∙ is.path_is in
    let n : k.one.test ≡ name = cuts.test ∙ is.test_is in
    let all : (test_kept (holds k.one t)).packages ≡ filled path name k.one (emptied path name s.packages) =
    ap (λ x. filled x k.one.test k.one t.packages) p ∙ ap (λ x. filled path x k.one t.packages) n ∙ ap (filled path name k.one) packages in
    let sends = then_sends h.state k.state t (shown_messages (lines_of_its h.one cuts.lines)) (shown_messages shows.ends) cuts.sends shows.sends in
    record {
      items = lines_of_its h.one cuts.lines ++ shows.ends;
      cut = λ q m. cut_at q m path name h.one s cuts.lines shows.ends k.one.part text (pending q m (test_kept (holds k.one t))) is.path_is is.test_is shows.no_line
          (cuts.cut ∙ ap (λ part. part ++ text) is.part_is)
          (ap (λ x. part_of (found q m x)) all ∙ ap part_of (found_back q m path name k.one s.packages) ∙ part_if (bytes_eq q path && bytes_eq m name) k.one (found q m s.packages));
      sends = sends.sent_too ∙ ap (λ more. more ++ (shown_messages (lines_of_its h.one cuts.lines) ++ shown_messages shows.ends)) is.sent_too
          ∙ ap (λ more. sent s ++ more) (sym (flat_map-append shown_message (lines_of_its h.one cuts.lines) shows.ends));
      builds = sends.builds ∙ is.builds;
      no_other = no_others_then (lines_of_its h.one cuts.lines) shows.ends (no_other_lines h.one cuts.lines) shows.no_other;
      well = rw all (well_filled path name k.one (emptied path name s.packages) (p, n, begins, of_package) (well_emptied path name s.packages w));
    }

pub no_end : (s : GoState) → Ends s s
no_end s = record { ends = []; no_line = refl; no_other = refl; sends = none_sent s }

-- it has ended
pub removed_accounts : (path name : List ℕ) (s : GoState) (h : Held) (t : GoState) → IsWell s.packages → Holds path name s h → Finishes h t → Accounts [] s t
removed_accounts path name s h t w is ends =
    let packages : t.packages ≡ emptied path name s.packages = ends.sends.packages ∙ is.packages in
    with_texts (its path name []) [] s t (λ q m. no_text path name q m)
    (record {
      items = lines_of_its h.one ends.lines ++ ends.ends;
      cut = λ q m. cut_at q m path name h.one s ends.lines ends.ends [] [] (pending q m t) is.path_is is.test_is ends.no_line
          (append-nil (joined ends.lines) ∙ ends.cut ∙ is.part_is ∙ sym (append-nil (pending path name s)))
          (ap (λ x. part_of (found q m x)) packages ∙ gone q m (bytes_eq q path && bytes_eq m name) refl);
      sends = ends.sends.sent_too ∙ ap (λ more. more ++ shown_messages (lines_of_its h.one ends.lines ++ ends.ends)) is.sent_too;
      builds = ends.sends.builds ∙ is.builds;
      no_other = no_others_then (lines_of_its h.one ends.lines) ends.ends (no_other_lines h.one ends.lines) ends.no_other;
      well = rw packages (well_emptied path name s.packages w);
    }) where
      gone : (q m : List ℕ) (b : Bool) → (bytes_eq q path && bytes_eq m name) ≡ b → part_of (found q m (emptied path name s.packages)) ≡ (if b then [] else pending q m s)
      gone q m true e =
          ap (λ p. part_of (found p m (emptied path name s.packages))) (bytes_same q path (and_left (bytes_eq q path) (bytes_eq m name) e))
          ∙ ap (λ n. part_of (found path n (emptied path name s.packages))) (bytes_same m name (and_right (bytes_eq q path) (bytes_eq m name) e))
          ∙ ap part_of (none_emptied path name s.packages w)
      gone q m false e = ap part_of (found_emptied q m path name s.packages e)

-- ---- the longest prefix of a name that runs is taken out

abbrev pub or_begun : List ℕ → Option Running → Running
or_begun path o = unwrap_or o (new_running path [])

pub placed_by : (path name : List ℕ) (o : Option Running) → IfPlaced path name o → (is_some o ≡ false → name ≡ []) → IsPlaced path name (or_begun path o)
placed_by path name None h missing = (refl, sym (missing refl), λ _. refl, λ _. missing refl)
placed_by path name (Some one) h missing = h

pub part_by : (path : List ℕ) (o : Option Running) → (or_begun path o).part ≡ part_of o
part_by path None = refl
part_by path (Some one) = refl

abbrev pub holder : List ℕ → List ℕ → GoState → List ℕ
holder path test s = owner (tests_of path s) test

pub held_holds : (path test : List ℕ) (s : GoState) → IsWell s.packages → Holds path (holder path test s) s (held_test path test s)
unfolding held_test
held_holds path test s w =
    let name : List ℕ = holder path test s in
    let tests : Tests = tests_of path s in
    let is : IsPlaced path name (or_begun path (named name tests)) =
    placed_by path name (named name tests) (placed_found path name tests (well_found path s.packages w).placed) (owner_runs tests test) in
    record {
      path_is = is.0;
      test_is = is.1;
      part_is = part_by path (named name tests);
      begins = is.2;
      of_package = is.3;
      packages = refl;
      builds = refl;
      sent_too = refl;
    }
