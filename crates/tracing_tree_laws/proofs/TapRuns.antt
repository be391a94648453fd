-- What a whole run over lines of TAP says of failures.
use Rattle.std.proofs.Common.{◌≡◌, ℕ, Bool, false, List, Option, Some, None, IfSome, ap, ◌∙◌}
use Rattle.tracing_tree_base.specs.declared.context.Moment.{Moment}
use Rattle.tracing_tree_layer.specs.Layered.Answered.{IsAnswered}
use Rattle.tracing_tree_layer.specs.Layered.Seen.{Seen}
use Rattle.tracing_tree_lines.specs.Lines.Spelled.{input_lines}
use Rattle.ttree_source.specs.Source.{Makes, RunsSource, source_after}
use Rattle.ttree_source.specs.declared.run.SourceRun.{SourceRun}
use Rattle.ttree_tap.specs.Failures.{calls_before_counts, has_error}
use Rattle.ttree_tap.specs.Tally.{tally_has_failure}
use Rattle.ttree_tap.specs.Tap.{TapState, nothing_run, tap_ended, tap_ends, tap_takes}
use Rattle.ttree_tap.specs.Said.{counted, has_braces, no_outcomes, outcomes_in, results_of}
use Rattle.ttree_tap.specs.declared.tally.Tally.{Tally}
use Rattle.ttree_tap.proofs.Failing.{failed_by_a_row}
use Rattle.ttree_tap.proofs.ShownLines.{counts_of_results}

pub failed_after_run : (known : Option (List ℕ)) (next : ℕ) (moment : Moment) (begun source : TapState) (run : SourceRun) (old new : Seen) →
    begun ≡ nothing_run false next moment → run.fault ≡ None → RunsSource Makes IsAnswered tap_takes tap_ends tap_ended known begun source run old new →
    (failed : Bool) → failed ≡ tally_has_failure source.tally → IfSome known (λ input. failed ≡ has_error (calls_before_counts (nothing_run false next moment) (input_lines input)))
failed_after_run None next moment begun source run old new first whole h failed is = tt
failed_after_run (Some input) next moment begun source run old new first whole h failed is =
    let ran = rw whole at h in
    is ∙ ap (λ (s : TapState). tally_has_failure s.tally) ran.2
    ∙ ap (λ (s : TapState). tally_has_failure (source_after tap_takes tap_ended s (input_lines input)).tally) first
    ∙ failed_by_a_row false next moment (input_lines input)

-- what a whole run over lines of TAP counts
pub counted_after_run : (known : Option (List ℕ)) (next : ℕ) (moment : Moment) (begun source : TapState) (run : SourceRun) (old new : Seen) →
    begun ≡ nothing_run false next moment → run.fault ≡ None → RunsSource Makes IsAnswered tap_takes tap_ends tap_ended known begun source run old new →
    (tally : Tally) → tally ≡ source.tally → IfSome known (λ input. has_braces (input_lines input) ≡ false → outcomes_in tally ≡ counted (results_of (input_lines input)) no_outcomes)
counted_after_run None next moment begun source run old new first whole h tally is = tt
counted_after_run (Some input) next moment begun source run old new first whole h tally is = λ none.
    let ran = rw whole at h in
    ap outcomes_in is ∙ ap (λ (s : TapState). outcomes_in s.tally) ran.2
    ∙ ap (λ (s : TapState). outcomes_in (source_after tap_takes tap_ended s (input_lines input)).tally) first
    ∙ counts_of_results false next moment (input_lines input) none
