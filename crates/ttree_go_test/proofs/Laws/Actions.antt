-- What each action does to the text that is printed: it is shown, or it stays pending.
use Rattle.std.proofs.Common.{◌≡◌, ℕ, Bool, true, false, List, [], ◌∷◌, ◌++◌, Option, Some, None, refl, sym, ap, ◌∙◌}
use Rattle.std.proofs.lemmas.List.{append-nil}
use Rattle.std.specs.Prelude.{not, ◌&&◌, ◌||◌, bytes_eq, if◌then◌else◌, is_some}
use Rattle.ttree_source.specs.Marks.{is_empty}
use Rattle.tracing_tree_base.specs.declared.context.Id.{Id}
use Rattle.ttree_source.specs.Calls.{close_call}
use Rattle.ttree_go_test.specs.declared.go_test.running.Kind.{Kind}
use Rattle.ttree_go_test.specs.declared.go_test.running.Running.{Running}
use Rattle.ttree_go_test.specs.declared.go_test.tally.Ending.{Ending}
use Rattle.ttree_go_test.specs.declared.go_test.tally.Ending.TheVariants.{Passed, Failed, Skipped, Unfinished}
use Rattle.ttree_go_test.specs.Names.{named}
use Rattle.ttree_go_test.specs.GoTest.{GoState, Held, above_held, begun_in, elapsed_fields, end_counted, held_finished, held_opened, held_test, holds, is_framing, left_one, new_running, noted_left, only_closed, package_counted, package_over, package_started, part_emitted, printed, quiet_emitted, ran, started, string_printed, test_ended, test_kept, tests_of}
use Rattle.ttree_go_test.specs.Texts.{own_name}
use Rattle.ttree_go_test.specs.Printed.{Printed, Shown.NamedEnd, test_text}
use Rattle.ttree_go_test.proofs.Laws.Printing.{call_sends, Cuts, Finishes, Sends, finished_shows, joined, nil_if_empty, no_cut, none_sent, opened_cut, part_cut, quiet_sends, sent, started_cut, string_cut, then_sends}
use Rattle.ttree_go_test.proofs.Laws.Stored.{bytes_same, same_bytes}
use Rattle.ttree_go_test.proofs.Laws.Accounts.{Accounts, held_holds, holder, its, kept_accounts, no_end, no_text, part_if, part_of, pending, removed_accounts, same_accounts, same_pending, started_holds, then_accounts, with_texts}
use Rattle.ttree_go_test.proofs.Laws.WellKept.{IsWell, emptied, found, found_filled, none_emptied, owner_itself, well_filled}

-- ---- counts

counted_sends : (ending : Ending) (path test : List ℕ) (s : GoState) → Sends s (end_counted ending path test s) []
counted_sends Passed path test s = record { packages = refl; builds = refl; sent_too = sym (append-nil (sent s)) }
counted_sends Failed path test s = record { packages = refl; builds = refl; sent_too = sym (append-nil (sent s)) }
counted_sends Skipped path test s = record { packages = refl; builds = refl; sent_too = sym (append-nil (sent s)) }
counted_sends Unfinished path test s = record { packages = refl; builds = refl; sent_too = sym (append-nil (sent s)) }

pub package_counted_sends : (ending : Ending) (path : List ℕ) (s : GoState) → Sends s (package_counted ending path s) []
package_counted_sends Passed path s = record { packages = refl; builds = refl; sent_too = sym (append-nil (sent s)) }
package_counted_sends Failed path s = record { packages = refl; builds = refl; sent_too = sym (append-nil (sent s)) }
package_counted_sends Skipped path s = record { packages = refl; builds = refl; sent_too = sym (append-nil (sent s)) }
package_counted_sends Unfinished path s = record { packages = refl; builds = refl; sent_too = sym (append-nil (sent s)) }

noted_sends : (ending : Ending) (one : Running) (s : GoState) → Sends s (noted_left ending one s) []
noted_sends ending one s = by (is_empty one.test) where
  by : (b : Bool) → Sends s (if b then package_counted ending one.path s else end_counted ending one.path one.test s) []
  by true = package_counted_sends ending one.path s
  by false = counted_sends ending one.path one.test s

-- what still runs comes to an end
pub left_finishes : (ending : Ending) (one : Running) (s : GoState) → (one.has_begun ≡ false → one.part ≡ []) → Finishes (holds one s) (left_one ending one s)
left_finishes ending one s begins = by one.has_begun begins where
  by : (b : Bool) → (b ≡ false → one.part ≡ []) → Finishes (holds one s) (if b then held_finished ending None (holds one (noted_left ending one s)) else s)
  by true h =
      let noted_too : GoState = noted_left ending one s in
      let ends = finished_shows ending None (holds one noted_too) in
      record {
        lines = ends.lines;
        cut = ends.cut;
        ends = ends.ends;
        no_line = ends.no_line;
        no_other = ends.no_other;
        sends = then_sends s noted_too (held_finished ending None (holds one noted_too)) [] _ (noted_sends ending one s) ends.sends;
      }
  by false h = record {
    lines = [];
    cut = sym (h refl);
    ends = [];
    no_line = refl;
    no_other = refl;
    sends = none_sent s;
  }

pub closed_sends : (span : Option Id) (h : Held) → Sends h.state (only_closed span h) []
closed_sends None h = none_sent h.state
closed_sends (Some id) h = call_sends h.one.parent (close_call h.state.moment id h.one.parent) h.state

-- a package ends at the end of the input
pub over_finishes : (one : Running) (s : GoState) → (one.has_begun ≡ false → one.part ≡ []) → Finishes (holds one s) (package_over one s)
over_finishes one s begins = by one.has_begun begins where
  by : (b : Bool) → (b ≡ false → one.part ≡ []) → Finishes (holds one s) (if b then left_one Unfinished one s else only_closed one.span (holds one s))
  by true h = left_finishes Unfinished one s begins
  by false h = record {
    lines = [];
    cut = sym (h refl);
    ends = [];
    no_line = refl;
    no_other = refl;
    sends = closed_sends one.span (holds one s);
  }

-- ---- a string is printed

abbrev pub text_by_kind : Kind → List ℕ → List ℕ → List ℕ → List Printed
text_by_kind kind path name text = if is_framing kind name text then [] else its path name text

pub printed_accounts : (kind : Kind) (path test text : List ℕ) (s : GoState) → IsWell s.packages →
    Accounts (text_by_kind kind path (holder path test s) text) s (printed kind path test text s)
printed_accounts kind path test text s w =
    let name : List ℕ = holder path test s in
    let h : Held = started (held_test path test s) in
    let is = started_holds path name s (held_test path test s) (held_holds path test s w) in
    let k : Held = string_printed kind text h in
    let cuts = string_cut kind text h in
    with_texts (its path name (if is_framing kind h.one.test text then [] else text)) (text_by_kind kind path name text) s (test_kept k)
    (λ q m. ap (λ n. test_text q m (its path name (if is_framing kind n text then [] else text))) is.test_is ∙ by q m (is_framing kind name text))
    (kept_accounts path name (if is_framing kind h.one.test text then [] else text) s h k k.state w is cuts
    (λ not_begun. let e : true ≡ false = sym (cuts.begins refl) ∙ not_begun in cc) (λ not_begun. let e : true ≡ false = sym (cuts.begins refl) ∙ not_begun in cc) (no_end k.state)) where
      by : (q m : List ℕ) (b : Bool) → test_text q m (its path (holder path test s) (if b then [] else text)) ≡ test_text q m (if b then [] else its path (holder path test s) text)
      by q m true = no_text path (holder path test s) q m
      by q m false = refl

-- ---- a test starts

nil_right : (x y : List ℕ) → x ++ y ≡ [] → y ≡ []
nil_right [] y h = h
nil_right (b ∷ x) y h = cc

new_accounts : (path test : List ℕ) (s : GoState) → IsWell s.packages → pending path test s ≡ [] → Accounts [] s (test_kept (holds (new_running path test) s))
unfolding test_kept
new_accounts path test s w none = record {
  items = [];
  cut = λ q m. ap part_of (found_filled q m path test (new_running path test) s.packages)
      ∙ part_if (bytes_eq q path && bytes_eq m test) (new_running path test) (found q m s.packages)
      ∙ by q m (bytes_eq q path && bytes_eq m test) refl ∙ sym (append-nil (pending q m s));
  sends = sym (append-nil (sent s));
  builds = refl;
  no_other = refl;
  well = well_filled path test (new_running path test) s.packages (refl, refl, λ _. refl, only_package (is_empty test) refl) w;
} where
  only_package : (b : Bool) → is_empty test ≡ b → not b ≡ false → test ≡ []
  only_package true is f = nil_if_empty test is
  only_package false is f = cc

  by : (q m : List ℕ) (b : Bool) → (bytes_eq q path && bytes_eq m test) ≡ b → (if b then [] else pending q m s) ≡ pending q m s
  by q m true e = sym (same_pending q m path test s e ∙ none)
  by q m false e = refl

-- a test that isn't its own longest prefix doesn't run
not_running : (path test : List ℕ) (s : GoState) → IsWell s.packages → bytes_eq (held_test path test s).one.test test ≡ false → pending path test s ≡ []
not_running path test s w differs = by (named test (tests_of path s)) refl where
  by : (o : Option Running) → named test (tests_of path s) ≡ o → part_of o ≡ []
  by None is = refl
  by (Some one) is =
      let itself = owner_itself (tests_of path s) test (ap is_some is) in
      let e : true ≡ false = sym (same_bytes (held_test path test s).one.test test ((held_holds path test s w).test_is ∙ itself)) ∙ differs in
      cc

ran_from : (path test : List ℕ) (s : GoState) → IsWell s.packages → (is_empty test ≡ false → pending path test s ≡ []) →
    Accounts [] s (begun_in path test
    (started (held_opened (part_emitted (held_test path test s)))))
ran_from path test s w none = by (is_empty test) refl where
  name : List ℕ
  name = holder path test s

  h : Held
  h = held_test path test s

  k : Held
  k = started (held_opened (part_emitted h))

  first : Accounts [] s (test_kept k)
  first =
      with_texts (its path name []) [] s (test_kept k) (λ q m. no_text path name q m)
      (kept_accounts path name [] s h k k.state w (held_holds path test s w)
      (started_cut [] h (held_opened (part_emitted h)) (opened_cut [] h (part_emitted h) (part_cut h))) (λ not_begun. cc) (λ not_begun. cc) (no_end k.state))

  by : (b : Bool) → is_empty test ≡ b → Accounts [] s (if b then test_kept k else test_kept (holds (new_running path test) (test_kept k)))
  by true is = first
  by false is =
      let still : pending path test (test_kept k) ≡ [] =
      nil_right (test_text path test _) (pending path test (test_kept k)) (first.cut path test ∙ append-nil (pending path test s) ∙ none is) in
      then_accounts [] [] s (test_kept k) (test_kept (holds (new_running path test) (test_kept k))) first (new_accounts path test (test_kept k) first.well still)

-- a package starts
pub started_accounts : (path : List ℕ) (s : GoState) → IsWell s.packages → Accounts [] s (package_started path s)
started_accounts path s w =
    let name : List ℕ = holder path [] s in
    let h : Held = held_test path [] s in
    let k : Held = started h in
    with_texts (its path name []) [] s (test_kept k) (λ q m. no_text path name q m)
    (kept_accounts path name [] s h k k.state w (held_holds path [] s w) (started_cut [] h h (no_cut h)) (λ not_begun. cc) (λ not_begun. cc) (no_end k.state))

or_false : (a b : Bool) → (a || not b) ≡ false → b ≡ true
or_false true b h = cc
or_false false true h = refl
or_false false false h = cc

or_true : (a b : Bool) → (a || not b) ≡ true → a ≡ false → b ≡ false
or_true true b h k = cc
or_true false true h k = cc
or_true false false h k = refl

pub ran_accounts : (path test : List ℕ) (s : GoState) → IsWell s.packages → Accounts [] s (ran path test s)
unfolding above_held
ran_accounts path test s w = by (is_empty test || not (bytes_eq (held_test path test s).one.test test)) refl where
  name : List ℕ
  name = holder path test s

  h : Held
  h = held_test path test s

  left : GoState
  left = left_one Unfinished h.one h.state

  by : (b : Bool) → (is_empty test || not (bytes_eq h.one.test test)) ≡ b → Accounts [] s (begun_in path test (started (held_opened (part_emitted (if b then h else held_test path test left)))))
  by true is = ran_from path test s w (λ full. not_running path test s w (or_true (is_empty test) (bytes_eq h.one.test test) is full))
  by false is =
      let holds_it = held_holds path test s w in
      let ends = left_finishes Unfinished h.one h.state holds_it.begins in
      let first : Accounts [] s left = removed_accounts path name s h left w holds_it ends in
      let itself : name ≡ test = sym holds_it.test_is ∙ bytes_same h.one.test test (or_false (is_empty test) (bytes_eq h.one.test test) is) in
      let gone : pending path test left ≡ [] =
      ap (λ packages. part_of (found path test packages)) (ends.sends.packages ∙ holds_it.packages)
      ∙ ap (λ n. part_of (found path test (emptied path n s.packages))) itself
      ∙ ap part_of (none_emptied path test s.packages w) in
      then_accounts [] [] s left (begun_in path test (started (held_opened (part_emitted (held_test path test left))))) first (ran_from path test left first.well (λ _. gone))

-- ---- a test ends

begins_after : (h k : Held) → (h.one.has_begun ≡ false → h.one.part ≡ []) → Cuts [] h k → k.one.has_begun ≡ false → k.one.part ≡ []
begins_after h k begins cuts not_begun = by h.one.has_begun refl where
  by : (b : Bool) → h.one.has_begun ≡ b → k.one.part ≡ []
  by true is = let e : true ≡ false = sym (cuts.begins is) ∙ not_begun in cc
  by false is = nil_right (joined cuts.lines) k.one.part (cuts.cut ∙ append-nil h.one.part ∙ begins is)

not_yet : (h k : Held) → Cuts [] h k → k.one.has_begun ≡ false → h.one.has_begun ≡ false
not_yet h k cuts not_begun = by h.one.has_begun refl where
  by : (b : Bool) → h.one.has_begun ≡ b → b ≡ false
  by true is = let e : true ≡ false = sym (cuts.begins is) ∙ not_begun in cc
  by false is = refl

pub test_accounts : (ending : Ending) (path test : List ℕ) (elapsed : Option (List ℕ)) (s : GoState) → IsWell s.packages →
    Accounts [] s (test_ended ending test elapsed
    (held_test path test (end_counted ending path test s)))
test_accounts ending path test elapsed s w = then_accounts [] [] s at (test_ended ending test elapsed h) first (by (bytes_eq h.one.test test)) where
  at : GoState
  at = end_counted ending path test s

  h : Held
  h = held_test path test at

  first : Accounts [] s at
  first = same_accounts s at w (counted_sends ending path test s)

  name : List ℕ
  name = holder path test at

  parent : Held
  parent = held_opened h

  own : List ℕ
  own = own_name parent.one.test test

  quiet : GoState
  quiet = quiet_emitted ending own (elapsed_fields elapsed) parent.one.span parent.state

  by : (b : Bool) → Accounts [] at (if b then held_finished ending elapsed h else test_kept (record parent { state = quiet }))
  by true = removed_accounts path name at h (held_finished ending elapsed h) first.well (held_holds path test at first.well) (finished_shows ending elapsed h)
  by false =
      let is = held_holds path test at first.well in
      let cuts = opened_cut [] h h (no_cut h) in
      with_texts (its path name []) [] at (test_kept (holds parent.one quiet)) (λ q m. no_text path name q m)
      (kept_accounts path name [] at h parent quiet first.well is cuts (begins_after h parent is.begins cuts) (λ not_begun. is.of_package (not_yet h parent cuts not_begun))
      (record { ends = NamedEnd ending own ∷ []; no_line = refl; no_other = refl; sends = quiet_sends ending own (elapsed_fields elapsed) parent.one.span parent.state }))
