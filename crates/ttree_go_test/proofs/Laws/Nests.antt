-- What a test prints, and what it opens when it starts, is placed by its name.
use Rattle.std.proofs.Common.{◌≡◌, ℕ, Bool, true, false, List, [], None, refl, sym, ap, subst, inl, inr, ◌∙◌}
use Rattle.std.specs.Prelude.{◌||◌, not, bytes_eq, if◌then◌else◌, is_some}
use Rattle.ttree_go_test.specs.declared.go_test.running.Kind.{Kind}
use Rattle.ttree_go_test.specs.declared.go_test.tally.Ending.TheVariants.{Unfinished}
use Rattle.ttree_source.specs.Marks.{is_empty}
use Rattle.ttree_go_test.specs.Names.{named}
use Rattle.ttree_go_test.specs.Nesting.{IsPlace, PlacesCalls}
use Rattle.ttree_go_test.specs.GoTest.{GoState, Held, Tests, above_held, begun_in, held_test, left_one, held_opened, part_emitted, printed, ran, started, tests_of, go_takes, nothing_run, output_kind}
use Rattle.ttree_go_test.proofs.Laws.Accounts.{held_holds, holder}
use Rattle.ttree_go_test.proofs.Laws.NestedIn.{nested_in, package_place, takes_printed}
use Rattle.tracing_tree_base.specs.declared.context.Moment.{Moment}
use Rattle.json.specs.Json.{Json}
use Rattle.ttree_source.specs.Source.{interpret}
use Rattle.ttree_go_test.proofs.Laws.Reachable.{reached_well}
use Rattle.ttree_go_test.proofs.Laws.Placing.{opens_in, prints_in}
use Rattle.ttree_go_test.proofs.Laws.Stored.{bytes_same}
use Rattle.ttree_go_test.proofs.Laws.WellKept.{IsWell, owner_runs}

place_is : (path test : List ℕ) (s : GoState) → IsWell s.packages → IsPlace (tests_of path s) (holder path test s) (held_test path test s).one.parent
place_is path test s w = by (is_empty (holder path test s)) refl where
  by : (b : Bool) → is_empty (holder path test s) ≡ b → IsPlace (tests_of path s) (holder path test s) (held_test path test s).one.parent
  by true is = inl (is, package_place path test s w is)
  by false is = inr (is, nested_in path test s w is)

-- what a test prints
pub printed_places : (kind : Kind) (path test text : List ℕ) (s : GoState) → IsWell s.packages → PlacesCalls path test s (printed kind path test text s)
printed_places kind path test text s w =
    let prints = prints_in kind path test text s w in
    record {
      name = holder path test s;
      takes = takes_printed (tests_of path s) test;
      parent = (held_test path test s).one.parent;
      place = place_is path test s w;
      calls = prints.more;
      adds = prints.calls;
      placed = prints.placed;
    }

-- What a test opens when it starts, if no test of its name runs.
pub ran_places : (path test : List ℕ) (s : GoState) → IsWell s.packages → named test (tests_of path s) ≡ None → PlacesCalls path test s (ran path test s)
unfolding above_held
ran_places path test s w none =
    let tests : Tests = tests_of path s in
    let name : List ℕ = holder path test s in
    let h : Held = held_test path test s in
    let is = held_holds path test s w in
    let opens = opens_in path test s w (differs (bytes_eq name test) refl) in
    let stays : (is_empty test || not (bytes_eq h.one.test test)) ≡ true = first (is_empty test) refl in
    let P : Bool → Type 0 = λ b. PlacesCalls path test s (begun_in path test (started (held_opened (part_emitted (if b then h else held_test path test (left_one Unfinished h.one h.state)))))) in
    subst P (sym stays) (record {
      name = name;
      takes = takes_printed tests test;
      parent = h.one.parent;
      place = place_is path test s w;
      calls = opens.more;
      adds = opens.calls;
      placed = opens.placed;
    }) where
      differs : (b : Bool) → bytes_eq (holder path test s) test ≡ b → is_empty test ≡ false → b ≡ false
      differs false is full = refl
      differs true is full =
          let itself : holder path test s ≡ test = bytes_same (holder path test s) test is in
          let nothing_runs : is_some (named (holder path test s) (tests_of path s)) ≡ false = ap (λ n. is_some (named n (tests_of path s))) itself ∙ ap is_some none in
          let empty : test ≡ [] = sym itself ∙ owner_runs (tests_of path s) test nothing_runs in
          let e : true ≡ false = sym (ap is_empty empty) ∙ full in
          cc

      first : (b : Bool) → is_empty test ≡ b → (b || not (bytes_eq (held_test path test s).one.test test)) ≡ true
      first true is = refl
      first false is =
          ap (λ c. not c) (ap (λ n. bytes_eq n test) (held_holds path test s w).test_is ∙ differs (bytes_eq (holder path test s) test) refl is)

-- ---- after any lines

abbrev after : ℕ → Moment → List (List ℕ) → GoState
after next moment lines = (interpret go_takes (nothing_run next moment) lines).source

pub printed_after : (next : ℕ) (moment : Moment) (before : List (List ℕ)) (value : Json) (path test text : List ℕ) →
    PlacesCalls path test (after next moment before) (printed (output_kind value) path test text (after next moment before))
printed_after next moment before value path test text = printed_places (output_kind value) path test text (after next moment before) (reached_well next moment before)

pub ran_after : (next : ℕ) (moment : Moment) (before : List (List ℕ)) (path test : List ℕ) → named test (tests_of path (after next moment before)) ≡ None →
    PlacesCalls path test (after next moment before) (ran path test (after next moment before))
ran_after next moment before path test none = ran_places path test (after next moment before) (reached_well next moment before) none
