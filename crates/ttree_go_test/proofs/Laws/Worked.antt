-- Examples of what the laws of Go's tests say.
use Rattle.std.proofs.Common.{◌≡◌, ℕ, List, [], ◌∷◌, Some, None, refl, true, false}
use Rattle.std.specs.Prelude.{codes}
use Rattle.tracing_tree_base.specs.declared.context.Moment.{Moment}
use Rattle.tracing_tree_spans.specs.Registry.Ids.{id_of}
use Rattle.ttree_go_test.specs.declared.go_test.running.Kind.TheVariants.{Plain}
use Rattle.ttree_go_test.specs.declared.go_test.tally.Ending.TheVariants.{Passed}
use Rattle.ttree_go_test.specs.Closing.{spans_closed}
use Rattle.ttree_go_test.specs.Failures.{some_failed}
use Rattle.ttree_go_test.specs.Nesting.{IsIn}
use Rattle.ttree_go_test.specs.Printed.{Printed, Shown.Line, Shown.End, messages, shown_messages, text_added, test_text, Shown.Built, is_plain, strings_of}
use Rattle.ttree_go_test.specs.GoTest.{GoState, above_held, held_test, nothing_run, package_ended, printed, ran, test_kept, test_or_package_ended}
use Rattle.ttree_source.specs.Calls.{shown_text}
use Rattle.ttree_go_test.specs.Texts.{is_frame}

abbrev p : List ℕ
p = codes "p"

-- two lines of one test, of which the second only frames
abbrev two_lines : List Printed
two_lines =
    record { path = p; test = codes "T"; text = codes "xy\n" }
    ∷ record { path = p; test = codes "T"; text = codes "--- PASS: T (0.00s)\n" } ∷ []

pub text_of_a_test : (test_text p (codes "T") two_lines ≡ codes "xy\n--- PASS: T (0.00s)\n") × (test_text p [] two_lines ≡ [])
text_of_a_test = (refl, refl)

pub a_frame_and_a_blank_line_have_no_event : shown_messages (Line (record { path = p; test = codes "T"; text = codes "xy\n" }) ∷ Line (record { path = p; test = codes "T"; text = codes "=== RUN   T\n" })
    ∷ Line (record { path = p; test = codes "T"; text = codes " \n" }) ∷ End Passed ∷ []) ≡ shown_text (codes "xy") ∷ shown_text (codes "pass") ∷ []
unfolding is_frame
a_frame_and_a_blank_line_have_no_event = refl

pub strings_of_a_build : strings_of p (record { path = p; string = codes "x\n" } ∷ record { path = codes "q"; string = codes "y\n" } ∷ []) ≡ codes "x\n" ∷ []
strings_of_a_build = refl

pub lines_that_are_not_json : (is_plain (codes "panic: oops") ≡ true) × (is_plain (codes "# p") ≡ false) × (is_plain (codes "ok  \tp\t0.003s") ≡ false) × (is_plain (codes " ") ≡ false)
lines_that_are_not_json = (refl, refl, refl, refl)

pub the_heading_of_a_build_has_no_event : shown_messages (Built p (codes "# p\n") ∷ Built p (codes "# p\n./a.go:3: x\n") ∷ []) ≡ shown_text (codes "./a.go:3: x") ∷ []
the_heading_of_a_build_has_no_event = refl

pub a_test_in_another : IsIn (codes "T/x/y") (codes "T")
a_test_in_another = record { named = refl; rest = codes "x/y"; whole = refl }

module _ (moment : Moment) where
  abbrev begins : GoState
  begins = nothing_run 1 moment

  -- a test that runs, and has printed what doesn't end a line
  abbrev unended : GoState
  unended = printed Plain p (codes "T") (codes "x") (ran p (codes "T") begins)

  pub a_string_waits : messages unended.calls ≡ []
  unfolding held_test test_kept above_held is_frame
  a_string_waits = refl

  pub two_strings_are_one_line : messages (printed Plain p (codes "T") (codes "y\n") unended).calls ≡ shown_text (codes "xy") ∷ []
  unfolding held_test test_kept above_held is_frame
  two_strings_are_one_line = refl

  pub a_frame_ends_a_line : messages (printed Plain p (codes "T") (codes "--- PASS: T (0.00s)\n") unended).calls ≡ shown_text (codes "x") ∷ []
  unfolding held_test test_kept above_held is_frame
  a_frame_ends_a_line = refl

  pub a_test_that_does_not_run_prints_in_another : text_added unended (Some (record { path = p; test = codes "T/a/b"; kind = Plain; string = codes "z\n" }))
      ≡ record { path = p; test = codes "T"; text = codes "z\n" } ∷ []
  unfolding held_test test_kept above_held is_frame
  a_test_that_does_not_run_prints_in_another = refl

  -- a test and one in it, which has a span
  abbrev nested : GoState
  nested = printed Plain p (codes "T/x") (codes "a\n") (ran p (codes "T/x") (ran p (codes "T") begins))

  pub the_package_closes_last : spans_closed (package_ended Passed p None nested).calls ≡ id_of 3 ∷ id_of 2 ∷ id_of 1 ∷ []
  unfolding held_test test_kept above_held is_frame package_ended
  the_package_closes_last = refl

  -- a test that ends before one in it is closed before it
  pub a_test_that_ends_first_is_closed_first : spans_closed (test_or_package_ended Passed p (codes "T/x") None (test_or_package_ended Passed p (codes "T") None nested)).calls ≡ id_of 2 ∷ id_of 3 ∷ []
  unfolding held_test test_kept above_held is_frame
  a_test_that_ends_first_is_closed_first = refl

  -- a package that started and has no end
  pub a_package_that_still_runs_has_failed : (some_failed [] (ran p [] begins) ≡ true) × (some_failed [] nested ≡ true)
  unfolding held_test test_kept above_held is_frame
  a_package_that_still_runs_has_failed = (refl, refl)
