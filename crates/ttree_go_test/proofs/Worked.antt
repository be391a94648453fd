-- Examples computed from the definitions of Go's tests, and of what failed of them.
use Rattle.std.proofs.Common.{◌≡◌, ℕ, List, true, false, None, Some, [], ◌∷◌, codes, refl}
use Rattle.json.specs.Json.{string, object, member, no_members}
use Rattle.ttree_go_test.specs.Failed.{FailedState, Pending, forgotten, is_inner, is_over, none_failed, outermost, released, verdict_of}
use Rattle.ttree_go_test.specs.GoTest.{GoState, Tests, above_held, all_ended, new_running, build_printed, build_emitted, built_after, test_or_package_ended, failed_counted, go_problem, held_test, test_kept, kind_named, left_as, left_over, level_of_build, level_of_text, more_names, no_counts, nothing_run, owner, package_counted, package_ended, package_started, test_placed, printed, ran, takes_text, without_heading}
use Rattle.ttree_go_test.specs.Texts.{coverage_in, is_cached, is_frame, is_frame_line, own_name, up_to_space}
use Rattle.ttree_go_test.specs.declared.go_test.running.Kind.TheVariants.{Plain, Frame, Failure}
use Rattle.ttree_go_test.specs.declared.go_test.tally.Ending.TheVariants.{Passed, Failed, Unfinished}
use Rattle.ttree_go_test.specs.declared.failed.HeldLine.{HeldLine}
use Rattle.ttree_go_test.specs.declared.failed.Verdict.{Verdict}
use Rattle.ttree_go_test.specs.declared.failed.Verdict.TheVariants.{Open, Good, Bad}
use Rattle.ttree_source.specs.declared.notes.Problem.TheVariants.{Package}
use Rattle.tracing_tree_base.specs.declared.context.Moment.{Moment}
use Rattle.tracing_tree_base.specs.declared.style.Level.TheVariants.{Info, Warn, Error}
use Rattle.tracing_tree_spans.specs.Registry.Ids.{id_of}
use Rattle.ttree_source.specs.Calls.{close_call, event_call, message_field, span_call}

pub frame_of_its_own : is_frame (codes "TestSum") (codes "    --- PASS: TestSum (0.00s)") ≡ true
unfolding is_frame
frame_of_its_own = refl

pub frame_of_another : is_frame (codes "TestSum") (codes "--- PASS: TestSums (0.00s)") ≡ false
unfolding is_frame
frame_of_another = refl

pub frame_of_a_package : is_frame [] (codes "ok  \texample.com/ok\t0.003s") ≡ true
unfolding is_frame coverage_in
frame_of_a_package = refl

pub frame_of_a_benchmark : (is_frame (codes "BenchmarkAtoi/Pos") (codes "BenchmarkAtoi/Pos") ≡ true) × (is_frame (codes "TestAtoi") (codes "TestAtoi") ≡ false)
unfolding is_frame
frame_of_a_benchmark = (refl, refl)

pub frame_of_an_attribute : is_frame (codes "TestSum") (codes "=== ATTR  TestSum owner me") ≡ true
unfolding is_frame
frame_of_an_attribute = refl

pub a_frame_is_a_whole_line : (is_frame_line (codes "TestSum") (codes "--- PASS: TestSum (0.00s)\n") ≡ true) × (is_frame_line (codes "TestSum") (codes "--- PASS: TestSum") ≡ false)
unfolding is_frame
a_frame_is_a_whole_line = (refl, refl)

pub name_in_the_test_around : (own_name (codes "TestSum") (codes "TestSum/a/b") ≡ codes "a/b") × (own_name (codes "TestSum/a") (codes "TestSum/a/b") ≡ codes "b")
name_in_the_test_around = (refl, refl)

pub name_in_the_package : own_name [] (codes "TestSum/a/b") ≡ codes "TestSum/a/b"
name_in_the_package = refl

pub coverage_by_itself : coverage_in (codes "coverage: 80.0% of statements in ./...") ≡ Some (codes "80.0%")
unfolding coverage_in
coverage_by_itself = refl

pub coverage_behind_the_time : coverage_in (codes "ok  \tp\t0.003s\tcoverage: 80.0% of statements") ≡ Some (codes "80.0%")
unfolding coverage_in
coverage_behind_the_time = refl

pub no_coverage : (coverage_in (codes "coverage: [no statements]") ≡ None) × (coverage_in (codes "ok  \tp\t0.003s") ≡ None)
unfolding coverage_in
no_coverage = (refl, refl)

pub a_cached_result : (is_cached (codes "ok  \tp\t(cached)\tcoverage: 80.0% of statements") ≡ true) × (is_cached (codes "ok  \tp\t0.003s") ≡ false)
a_cached_result = (refl, refl)

pub kinds_of_strings : (kind_named (codes "frame") ≡ Frame) × (kind_named (codes "error-continue") ≡ Failure) × (kind_named [] ≡ Plain)
kinds_of_strings = (refl, refl, refl)

pub without_its_heading : (without_heading (codes "# r [r.test]\n./a.go:3: x\n") ≡ codes "./a.go:3: x\n") × (without_heading (codes "# r [r.test]\n") ≡ [])
without_its_heading = (refl, refl)

pub a_panic_among_lines : (level_of_text (codes "panic: oops") ≡ Error) × (level_of_text (codes "go: downloading x v1") ≡ Info)
a_panic_among_lines = (refl, refl)

pub ten_names_and_no_more : (more_names 9 (codes "p.A") (codes "p.B") ≡ codes "p.A p.B") × (more_names 10 (codes "p.A") (codes "p.B") ≡ codes "p.A")
ten_names_and_no_more = (refl, refl)

pub what_go_fetches : (level_of_build Error (codes "go: finding module for package x") ≡ Info) × (level_of_build Error (codes "go: x") ≡ Error)
what_go_fetches = (refl, refl)

pub a_heading_in_brackets_names_no_other_package : (built_after (codes "[example.com/a]") (codes "example.com/a") ≡ codes "example.com/a") × (built_after (codes "b [b.test]") (codes "example.com/a") ≡ codes "b")
a_heading_in_brackets_names_no_other_package = (refl, refl)

pub package_of_a_heading : up_to_space (codes "q [q.test]") ≡ codes "q"
package_of_a_heading = refl

pub an_action_without_a_package : go_problem (Some (object (member (codes "Action") (string (codes "run")) no_members))) ≡ Package
an_action_without_a_package = refl

module _ (moment : Moment) where
  abbrev two_that_run : Tests
  two_that_run = (codes "TestA", new_running (codes "p") (codes "TestA")) ∷ (codes "TestA/b", new_running (codes "p") (codes "TestA/b")) ∷ []

  pub the_longest_beginning_that_runs : owner two_that_run (codes "TestA/b/c") ≡ codes "TestA/b"
  the_longest_beginning_that_runs = refl

  pub no_test_runs_between : owner two_that_run (codes "TestA/x/y") ≡ codes "TestA"
  no_test_runs_between = refl

  pub a_longer_name_is_the_packages : owner two_that_run (codes "TestAll") ≡ []
  a_longer_name_is_the_packages = refl

  pub what_stands_in_a_test_ends_first : (left_over Unfinished None [] two_that_run (nothing_run 1 moment)).calls
      ≡ event_call moment Error (message_field (codes "unfinished TestA/b") ∷ []) None
      ∷ event_call moment Error (message_field (codes "unfinished TestA") ∷ []) None ∷ []
  what_stands_in_a_test_ends_first = refl

  abbrev one_with_a_span : Tests
  one_with_a_span = (codes "TestA", record (new_running (codes "p") (codes "TestA")) { span = Some (id_of 7) }) ∷ []

  pub a_test_stands_in_the_longest_beginning_with_a_span : (test_placed (Some (id_of 3)) one_with_a_span (new_running (codes "p") (codes "TestA/b/c"))).parent ≡ Some (id_of 7)
  a_test_stands_in_the_longest_beginning_with_a_span = refl

  pub once_that_ended_it_stands_in_the_package : (test_placed (Some (id_of 3)) [] (new_running (codes "p") (codes "TestA/b/c"))).parent ≡ Some (id_of 3)
  once_that_ended_it_stands_in_the_package = refl

  pub a_benchmark_without_an_end_has_passed : (left_over (left_as Passed) None [] two_that_run (nothing_run 1 moment)).tally
      ≡ record no_counts { passed = 2 }
  a_benchmark_without_an_end_has_passed = refl

  pub but_not_in_a_package_that_fails : (left_over (left_as Failed) None [] two_that_run (nothing_run 1 moment)).tally
      ≡ record no_counts { unfinished = 2 }
  but_not_in_a_package_that_fails = refl

  pub a_package_that_fails_is_counted_and_named : (package_counted Failed (codes "p") (nothing_run 1 moment)).tally
      ≡ record no_counts { packages = 1; packages_failed = 1 }
  a_package_that_fails_is_counted_and_named = refl

  pub a_test_that_fails_is_named : (failed_counted (codes "p") (codes "TestA/b") (nothing_run 1 moment)).failing.tests ≡ codes "p.TestA/b"
  a_test_that_fails_is_named = refl

  abbrev half_a_line : GoState
  half_a_line = printed Plain (codes "p") (codes "T") (codes "x") (ran (codes "p") (codes "T") (nothing_run 1 moment))

  pub a_frame_ends_the_line_before_it : (printed Plain (codes "p") (codes "T") (codes "--- PASS: T (0.00s)\n") half_a_line).calls
      ≡ span_call moment (codes "p") [] None ∷ span_call moment (codes "T") [] (Some (id_of 1))
      ∷ event_call moment Info (message_field (codes "x") ∷ []) (Some (id_of 2)) ∷ []
  unfolding above_held held_test test_kept is_frame coverage_in
  a_frame_ends_the_line_before_it = refl

  pub so_does_a_test_that_begins_in_it : (ran (codes "p") (codes "T/s") half_a_line).calls
      ≡ span_call moment (codes "p") [] None ∷ span_call moment (codes "T") [] (Some (id_of 1))
      ∷ event_call moment Info (message_field (codes "x") ∷ []) (Some (id_of 2)) ∷ []
  unfolding above_held held_test test_kept is_frame coverage_in
  so_does_a_test_that_begins_in_it = refl

  pub an_error_is_one : (printed Failure (codes "p") [] (codes "x\n") (nothing_run 1 moment)).calls
      ≡ span_call moment (codes "p") [] None ∷ event_call moment Error (message_field (codes "x") ∷ []) (Some (id_of 1)) ∷ []
  unfolding held_test test_kept is_frame coverage_in
  an_error_is_one = refl

  abbrev built : GoState
  built = build_printed (codes "p") (codes "x\n") (nothing_run 1 moment)

  pub a_build_is_emitted_when_it_is_known_whether_it_fails : (built.calls ≡ [])
      × ((build_emitted Error (codes "p") built).calls
      ≡ span_call moment (codes "p") [] None ∷ event_call moment Error (message_field (codes "x") ∷ []) (Some (id_of 1)) ∷ [])
  unfolding held_test test_kept
  a_build_is_emitted_when_it_is_known_whether_it_fails = (refl, refl)

  pub a_line_that_isnt_json_is_emitted_in_the_last_span : (takes_text (codes "note") (ran (codes "p") [] (nothing_run 1 moment))).calls
      ≡ span_call moment (codes "p") [] None ∷ event_call moment Info (message_field (codes "note") ∷ []) (Some (id_of 1)) ∷ []
  unfolding above_held held_test test_kept
  a_line_that_isnt_json_is_emitted_in_the_last_span = refl

  -- a build that fails, and what is printed after its package's end
  abbrev failed_build : GoState
  failed_build = takes_text (codes "bad") (takes_text (codes "# p") (nothing_run 1 moment))

  pub after_its_package_a_line_is_no_builds : (takes_text (codes "make: x") (test_or_package_ended Failed (codes "p") [] None failed_build)).calls
      ≡ span_call moment (codes "p") [] None ∷ event_call moment Error (message_field (codes "bad") ∷ []) (Some (id_of 1))
      ∷ event_call moment Error (message_field (codes "fail") ∷ []) (Some (id_of 1)) ∷ close_call moment (id_of 1) None
      ∷ event_call moment Info (message_field (codes "make: x") ∷ []) None ∷ []
  unfolding held_test test_kept package_ended
  after_its_package_a_line_is_no_builds = refl

  pub of_another_package_they_go_on : (test_or_package_ended Failed (codes "q") [] None failed_build).building ≡ codes "p"
  unfolding held_test test_kept package_ended
  of_another_package_they_go_on = refl

  pub a_package_that_started_and_has_no_end : (all_ended (package_started (codes "p") (nothing_run 1 moment))).calls
      ≡ event_call moment Error (message_field (codes "unfinished p") ∷ []) None ∷ []
  unfolding held_test test_kept
  a_package_that_started_and_has_no_end = refl

  pub has_failed_and_is_counted : (all_ended (package_started (codes "p") (nothing_run 1 moment))).tally
      ≡ record no_counts { packages = 1; packages_failed = 1 }
  unfolding held_test test_kept
  has_failed_and_is_counted = refl

  pub a_build_without_its_package_closes : (all_ended built).calls
      ≡ span_call moment (codes "p") [] None ∷ event_call moment Warn (message_field (codes "x") ∷ []) (Some (id_of 1)) ∷ close_call moment (id_of 1) None ∷ []
  a_build_without_its_package_closes = refl

  pub so_does_one_among_other_lines : (all_ended failed_build).calls
      ≡ span_call moment (codes "p") [] None ∷ event_call moment Error (message_field (codes "bad") ∷ []) (Some (id_of 1)) ∷ close_call moment (id_of 1) None ∷ []
  unfolding held_test test_kept
  so_does_one_among_other_lines = refl

  abbrev run_twice : GoState
  run_twice = ran (codes "p") (codes "TestA") (ran (codes "p") (codes "TestA") (nothing_run 1 moment))

  pub a_test_that_runs_again_ends_first : run_twice.tally.unfinished ≡ 1
  unfolding above_held held_test test_kept
  a_test_that_runs_again_ends_first = refl

-- ---- what failed

pub a_skipped_test_is_left_out : verdict_of (codes "skip") ≡ Good
a_skipped_test_is_left_out = refl

pub a_build_may_fail : verdict_of (codes "build-fail") ≡ Bad
a_build_may_fail = refl

pub a_pause_ends_nothing : verdict_of (codes "pause") ≡ Open
a_pause_ends_nothing = refl

pub a_test_in_another : (is_inner (codes "TestSum/small") ≡ true) × (is_inner (codes "TestSum") ≡ false)
a_test_in_another = (refl, refl)

pub outermost_of_a_test : (outermost (codes "TestSum/a/b") ≡ codes "TestSum") × (outermost (codes "TestSum") ≡ codes "TestSum")
outermost_of_a_test = (refl, refl)

module _ (line : List ℕ) (moment : Moment) where
  abbrev kept_of : List ℕ → Verdict → HeldLine
  kept_of test verdict = record { test = test; verdict = verdict; line = line }

  pub what_passed_in_a_failed_test_isnt_emitted : released (codes "p") (kept_of (codes "TestA/x") Open ∷ kept_of (codes "TestA/x") Good ∷ []) (nothing_run 1 moment) ≡ nothing_run 1 moment
  what_passed_in_a_failed_test_isnt_emitted = refl

  pub what_passed_and_failed_isnt_over : is_over (kept_of (codes "TestA/x") Good ∷ kept_of (codes "TestA/x") Bad ∷ []) (codes "TestA/x") ≡ false
  what_passed_and_failed_isnt_over = refl

  abbrev lines_of_two : Pending
  lines_of_two = (codes "TestA", kept_of (codes "TestA/x") Good ∷ []) ∷ (codes "TestAll", kept_of (codes "TestAll") Open ∷ []) ∷ []

  abbrev two_kept : FailedState
  two_kept = record (none_failed 1 moment) { packages = (codes "p", lines_of_two) ∷ [] }

  pub what_a_test_has_in_it_is_forgotten_with_it : (forgotten (codes "p") (codes "TestA") two_kept).packages
      ≡ (codes "p", (codes "TestAll", kept_of (codes "TestAll") Open ∷ []) ∷ []) ∷ []
  what_a_test_has_in_it_is_forgotten_with_it = refl
