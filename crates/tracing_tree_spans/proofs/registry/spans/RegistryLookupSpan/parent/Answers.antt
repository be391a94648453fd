use Rattle.std.proofs.Common.{sym, ap, ◌∙◌, subst}
use Rattle.std.specs.Option.{option_and_then}
use Rattle.tracing_tree_spans.specs.Registry.Spans.{Span}
use Rattle.tracing_tree_spans.specs.Registry.Forest.{IsGrownForest}
use Rattle.tracing_tree_spans.proofs.GrownForests.{as_forest}
use Rattle.tracing_tree_spans.proofs.Registers.{seen}
use Rattle.tracing_tree_spans.proofs.registry.spans.RegistryLookupSpan.parent.Goals as goal

pub returns-in_err-get-clause-parent : goal.returns-in_err-get-clause-parent
returns-in_err-get-clause-parent c =
    let none = seen c.self.inside.nodes _ c.args.self.now c.args.id _ c.self.view_is (sym c.in_err-get.ensures) in
    c.from_residual.ensures ∙ sym (ap (λ o. option_and_then (λ (span : Span). span.parent) o) none)

pub returns-clause-parent : goal.returns-clause-parent
returns-clause-parent c =
    let here = seen c.self.inside.nodes _ c.args.self.now c.args.id _ c.self.view_is (sym c.in_ok-get.ensures) in
    c.parent.ensures ∙ sym (ap (λ o. option_and_then (λ (span : Span). span.parent) o) here)

pub returns-in_err-get-clause-formed : goal.returns-in_err-get-clause-formed
returns-in_err-get-clause-formed c = as_forest c.args.self.now (subst IsGrownForest c.self.view_is c.self.invariant.0.0)

pub returns-clause-formed : goal.returns-clause-formed
returns-clause-formed c = as_forest c.args.self.now (subst IsGrownForest c.self.view_is c.self.invariant.0.0)
