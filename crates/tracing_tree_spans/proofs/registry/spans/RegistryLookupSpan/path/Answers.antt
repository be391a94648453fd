use Rattle.std.proofs.Common.{◌≡◌, IfOk, rules, sym, ◌∙◌, subst}
use Rattle.tracing_tree_spans.specs.Registry.Forest.{IsGrownForest}
use Rattle.tracing_tree_spans.proofs.GrownForests.{as_forest}
use Rattle.tracing_tree_spans.proofs.PathLaws.{path_of-whole}
use Rattle.tracing_tree_spans.proofs.Registers.{seen, stored-whole, error-live, path-gone, if-whole}
use Rattle.tracing_tree_spans.proofs.registry.spans.RegistryLookupSpan.path.Goals as goal

pub returns-in-Some-clause-path : goal.returns-in-Some-clause-path
returns-in-Some-clause-path c =
    let stored = stored-whole c.self.inside.branches.branches.items c.self.inside.nodes c.self.inside.next c.args.self.now c.self.view_is c.self.invariant.1 c.args.id _ (sym c.in-Some.ensures)
    c.path.result.now c.path.ensures c.path-in-Some.result.now c.path-in-Some.ensures in
    let copied : IfOk c.to_vec.result (λ path. path.items ≡ c.path-in-Some.result.now) = search rules in
    rw stored at copied

pub returns-in-Some-clause-whole : goal.returns-in-Some-clause-whole
returns-in-Some-clause-whole c =
    if-whole c.args.self.now (subst IsGrownForest c.self.view_is c.self.invariant.0.0) c.args.id c.to_vec.result (returns-in-Some-clause-path c)

pub returns-in-Some-clause-live : goal.returns-in-Some-clause-live
returns-in-Some-clause-live c =
    error-live c.to_vec.result c.args.self.now c.args.id _ (seen c.self.inside.nodes _ c.args.self.now c.args.id _ c.self.view_is (sym c.in-Some.ensures))

pub returns-in-None-clause-path : goal.returns-in-None-clause-path
returns-in-None-clause-path c =
    let none = seen c.self.inside.nodes _ c.args.self.now c.args.id _ c.self.view_is (sym c.in-None.ensures) in
    c.new.ensures.items ∙ sym (path-gone c.args.self.now c.args.id none)

pub returns-in-None-clause-whole : goal.returns-in-None-clause-whole
returns-in-None-clause-whole c =
    path_of-whole c.args.self.now (as_forest c.args.self.now (subst IsGrownForest c.self.view_is c.self.invariant.0.0)) c.args.id _ (returns-in-None-clause-path c)

pub returns-in-Some-clause-formed : goal.returns-in-Some-clause-formed
returns-in-Some-clause-formed c = as_forest c.args.self.now (subst IsGrownForest c.self.view_is c.self.invariant.0.0)

pub returns-in-None-clause-formed : goal.returns-in-None-clause-formed
returns-in-None-clause-formed c = as_forest c.args.self.now (subst IsGrownForest c.self.view_is c.self.invariant.0.0)
