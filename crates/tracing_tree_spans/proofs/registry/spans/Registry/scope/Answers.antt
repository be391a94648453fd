use Rattle.std.proofs.Common.{◌≡◌, IfOk, List, reverse, rules, sym, ap, ◌∙◌, subst}
use Rattle.std.proofs.lemmas.List.{reverse-reverse}
use Rattle.tracing_tree_spans.specs.Registry.Forest.{IsGrownForest, path_of}
use Rattle.tracing_tree_base.specs.declared.context.Id.{Id}
use Rattle.tracing_tree_spans.proofs.GrownForests.{as_forest}
use Rattle.tracing_tree_spans.proofs.PathLaws.{path_of-whole}
use Rattle.tracing_tree_spans.proofs.Registers.{seen, stored-whole, error-live, path-gone, if-turned}
use Rattle.tracing_tree_spans.proofs.registry.spans.Registry.scope.Goals as goal

pub returns-in-Some-clause-scope : goal.returns-in-Some-clause-scope
returns-in-Some-clause-scope c =
    let stored = stored-whole c.self.inside.branches.branches.items c.self.inside.nodes c.self.inside.next c.args.self.now c.self.view_is c.self.invariant.1 c.args.id _ (sym c.in-Some.ensures)
    c.path.result.now c.path.ensures c.path-in-Some.result.now c.path-in-Some.ensures in
    let turned : IfOk c.collect.result (λ scope. scope.items ≡ reverse c.path-in-Some.result.now) = search rules in
    rw stored at turned

pub returns-in-Some-clause-whole : goal.returns-in-Some-clause-whole
returns-in-Some-clause-whole c =
    if-turned c.args.self.now (subst IsGrownForest c.self.view_is c.self.invariant.0.0) c.args.id c.collect.result (returns-in-Some-clause-scope c)

pub returns-in-Some-clause-live : goal.returns-in-Some-clause-live
returns-in-Some-clause-live c =
    error-live c.collect.result c.args.self.now c.args.id _ (seen c.self.inside.nodes _ c.args.self.now c.args.id _ c.self.view_is (sym c.in-Some.ensures))

pub returns-in-None-clause-scope : goal.returns-in-None-clause-scope
returns-in-None-clause-scope c =
    let none = seen c.self.inside.nodes _ c.args.self.now c.args.id _ c.self.view_is (sym c.in-None.ensures) in
    let gone = path-gone c.args.self.now c.args.id none in
    c.new.ensures.items ∙ sym (ap (λ (ids : List Id). reverse ids) gone)

pub returns-in-None-clause-whole : goal.returns-in-None-clause-whole
returns-in-None-clause-whole c =
    path_of-whole c.args.self.now (as_forest c.args.self.now (subst IsGrownForest c.self.view_is c.self.invariant.0.0)) c.args.id _
    (ap (λ (ids : List Id). reverse ids) (returns-in-None-clause-scope c) ∙ reverse-reverse (path_of c.args.self.now c.args.id))
