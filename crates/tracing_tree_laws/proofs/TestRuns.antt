-- What a whole run over Go's tests says of failures.
use Rattle.std.proofs.Common.{◌≡◌, ℕ, Bool, List, Option, Some, None, IfSome, ap, ◌∙◌}
use Rattle.tracing_tree_base.specs.declared.context.Moment.{Moment}
use Rattle.tracing_tree_layer.specs.Layered.Answered.{IsAnswered}
use Rattle.tracing_tree_layer.specs.Layered.Seen.{Seen}
use Rattle.tracing_tree_lines.specs.Lines.Spelled.{input_lines}
use Rattle.ttree_source.specs.Source.{Makes, RunsSource, interpret, source_after}
use Rattle.ttree_source.specs.declared.run.SourceRun.{SourceRun}
use Rattle.ttree_go_test.specs.Failures.{some_failed}
use Rattle.ttree_go_test.specs.GoTest.{GoState, any_failed, go_ended, go_ends, go_takes, nothing_run}
use Rattle.ttree_go_test.proofs.Failing.{some_failed_after}

pub failed_after_run : (known : Option (List ℕ)) (next : ℕ) (moment : Moment) (begun source : GoState) (run : SourceRun) (old new : Seen) → begun ≡ nothing_run next moment → run.fault ≡ None →
    RunsSource Makes IsAnswered go_takes go_ends go_ended known begun source run old new → (failed : Bool) → failed ≡ any_failed source →
    IfSome known (λ input. failed ≡ some_failed (input_lines input) (interpret go_takes (nothing_run next moment) (input_lines input)).source)
failed_after_run None next moment begun source run old new first whole h failed is = tt
failed_after_run (Some input) next moment begun source run old new first whole h failed is =
    let ran = rw whole at h in
    is ∙ ap any_failed ran.2
    ∙ ap (λ (s : GoState). any_failed (source_after go_takes go_ended s (input_lines input))) first
    ∙ some_failed_after next moment (input_lines input)
