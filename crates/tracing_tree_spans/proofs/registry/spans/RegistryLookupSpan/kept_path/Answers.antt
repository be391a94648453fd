use Rattle.std.proofs.Common.{refl, sym, ap, ◌∙◌, subst}
use Rattle.std.specs.Option.{is_some}
use Rattle.tracing_tree_spans.specs.Registry.Forest.{IsGrownForest}
use Rattle.tracing_tree_spans.proofs.GrownForests.{as_forest}
use Rattle.tracing_tree_spans.proofs.Registers.{seen, stored-whole}
use Rattle.tracing_tree_spans.proofs.registry.spans.RegistryLookupSpan.kept_path.Goals as goal

pub returns-in_err-get-clause-live : goal.returns-in_err-get-clause-live
returns-in_err-get-clause-live c =
    let none = ap is_some (seen c.self.inside.nodes _ c.args.self.now c.args.id _ c.self.view_is (sym c.in_err-get.ensures)) in
    let gone = ap is_some c.from_residual.ensures in
    ((λ h. none ∙ sym gone ∙ h), (λ h. gone ∙ sym none ∙ h))

pub returns-clause-live : goal.returns-clause-live
returns-clause-live c =
    let here = ap is_some (seen c.self.inside.nodes _ c.args.self.now c.args.id _ c.self.view_is (sym c.in_ok-get.ensures)) in
    ((λ h. here), (λ h. refl))

pub returns-in_err-get-clause-formed : goal.returns-in_err-get-clause-formed
returns-in_err-get-clause-formed c = as_forest c.args.self.now (subst IsGrownForest c.self.view_is c.self.invariant.0.0)

pub returns-clause-formed : goal.returns-clause-formed
returns-clause-formed c = as_forest c.args.self.now (subst IsGrownForest c.self.view_is c.self.invariant.0.0)

pub returns-clause-kept : goal.returns-clause-kept
returns-clause-kept c =
    stored-whole c.self.inside.branches.branches.items c.self.inside.nodes c.self.inside.next c.args.self.now c.self.view_is c.self.invariant.1 c.args.id _ (sym c.in_ok-get.ensures)
    c.path.result.now c.path.ensures c.path-2.result.now c.path-2.ensures
