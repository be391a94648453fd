use Rattle.std.proofs.Common.{sym, ap, ◌∙◌, subst}
use Rattle.std.specs.Option.{option_map}
use Rattle.tracing_tree_spans.specs.Registry.Spans.{shown_span}
use Rattle.tracing_tree_spans.specs.Registry.Forest.{IsGrownForest}
use Rattle.tracing_tree_spans.proofs.GrownForests.{as_forest}
use Rattle.tracing_tree_spans.proofs.Registers.{seen}
use Rattle.tracing_tree_spans.proofs.registry.spans.RegistryLookupSpan.span.Goals as goal

pub returns-in_err-get-clause-shown : goal.returns-in_err-get-clause-shown
returns-in_err-get-clause-shown c =
    let none = seen c.self.inside.nodes _ c.args.self.now c.args.id _ c.self.view_is (sym c.in_err-get.ensures) in
    c.from_residual.ensures ∙ sym (ap (λ o. option_map shown_span o) none)

pub returns-clause-shown : goal.returns-clause-shown
returns-clause-shown c =
    let here = seen c.self.inside.nodes _ c.args.self.now c.args.id _ c.self.view_is (sym c.in_ok-get.ensures) in
    rw c.look.ensures (sym (ap (λ o. option_map shown_span o) here))

pub returns-in_err-get-clause-formed : goal.returns-in_err-get-clause-formed
returns-in_err-get-clause-formed c = as_forest c.args.self.now (subst IsGrownForest c.self.view_is c.self.invariant.0.0)

pub returns-clause-formed : goal.returns-clause-formed
returns-clause-formed c = as_forest c.args.self.now (subst IsGrownForest c.self.view_is c.self.invariant.0.0)
