use Rattle.std.proofs.Common.{Some, sym, ap, ◌∙◌, subst}
use Rattle.std.specs.Option.{option_map, option_copied}
use Rattle.tracing_tree_spans.specs.Registry.Spans.{Span}
use Rattle.tracing_tree_spans.specs.Registry.Forest.{IsGrownForest}
use Rattle.tracing_tree_spans.proofs.GrownForests.{as_forest}
use Rattle.tracing_tree_spans.proofs.Registers.{seen}
use Rattle.tracing_tree_spans.proofs.registry.spans.RegistryLookupSpan.data.Goals as goal

pub returns-in_err-get-clause-kept : goal.returns-in_err-get-clause-kept
returns-in_err-get-clause-kept c =
    let none = seen c.self.inside.nodes _ c.args.self.now c.args.id _ c.self.view_is (sym c.in_err-get.ensures) in
    ap option_copied c.from_residual.ensures ∙ sym (ap (λ o. option_map (λ (span : Span). span.kept) o) none)

pub returns-clause-kept : goal.returns-clause-kept
returns-clause-kept c =
    let here = seen c.self.inside.nodes _ c.args.self.now c.args.id _ c.self.view_is (sym c.in_ok-get.ensures) in
    ap (λ d. Some d) c.data.ensures ∙ sym (ap (λ o. option_map (λ (span : Span). span.kept) o) here)

pub returns-in_err-get-clause-formed : goal.returns-in_err-get-clause-formed
returns-in_err-get-clause-formed c = as_forest c.args.self.now (subst IsGrownForest c.self.view_is c.self.invariant.0.0)

pub returns-clause-formed : goal.returns-clause-formed
returns-clause-formed c = as_forest c.args.self.now (subst IsGrownForest c.self.view_is c.self.invariant.0.0)
