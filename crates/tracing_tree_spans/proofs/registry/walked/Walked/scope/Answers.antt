use Rattle.std.proofs.Common.{◌++◌, ◌∷◌, [], List, reverse, sym, ap, ◌∙◌, subst}
use Rattle.std.proofs.lemmas.List.{reverse-reverse}
use Rattle.tracing_tree_spans.specs.Registry.Forest.{IsForest, path_of}
use Rattle.tracing_tree_base.specs.declared.context.Id.{Id}
use Rattle.tracing_tree_spans.proofs.ClosingWalk.{way_up, way-live}
use Rattle.tracing_tree_spans.proofs.PathLaws.{path_of-whole}
use Rattle.tracing_tree_spans.proofs.RegistryLaws.{on_error}
use Rattle.tracing_tree_spans.proofs.WalkedPaths.{look_at, walk-begins, looked, walk-more, walk-falls, walk-ends}
use Rattle.tracing_tree_spans.proofs.registry.walked.Walked.scope.Goals as goal

pub loop-span-init : goal.loop-span-init
loop-span-init c = walk-begins c.self.inside.spans c.args.id _ _ c.span-span.ensures.formed c.new-scope.ensures.items c.span-span.ensures.shown

pub returns-in_err-push-clause-live : goal.returns-in_err-push-clause-live
returns-in_err-push-clause-live c =
    let forest = c.self.inside.spans in
    let walked = c.loop-span.invariant in
    let here = looked forest c.in-Some.shown walked.at (sym c.in-Some.is ∙ walked.shown) in
    let live = way-live forest walked.formed here.id c.args.id here.span _ here.found (ap (λ o. c.loop-span.scope.items ++ way_up forest o) (sym here.here) ∙ walked.way) in
    on_error c.from_residual.result (rw (← c.self.view_is) live)

-- at a span with a parent
pub loop-span-smaller-in-Some-parent : goal.loop-span-smaller-in-Some-parent
loop-span-smaller-in-Some-parent c =
    let forest = c.self.inside.spans in
    let walked = c.loop-span.invariant in
    let here = looked forest c.in-Some.shown walked.at (sym c.in-Some.is ∙ walked.shown) in
    let next = c.span-span-in-Some-parent.ensures.shown ∙ ap (look_at forest) (sym (sym c.parent.ensures ∙ c.in-Some-parent.is)) in
    rw c.in-Some.is (walk-falls forest c.in-Some.shown walked.at _ walked.formed here next)

pub loop-span-preserved-in-Some-parent : goal.loop-span-preserved-in-Some-parent
loop-span-preserved-in-Some-parent c =
    let forest = c.self.inside.spans in
    let walked = c.loop-span.invariant in
    let here = looked forest c.in-Some.shown walked.at (sym c.in-Some.is ∙ walked.shown) in
    let next = c.span-span-in-Some-parent.ensures.shown ∙ ap (look_at forest) (sym (sym c.parent.ensures ∙ c.in-Some-parent.is)) in
    walk-more forest c.args.id c.loop-span.scope.items _ c.in-Some.shown walked.at _ walked.formed here walked.way
    (c.in_ok-push.ensures.items ∙ ap (λ j. c.loop-span.scope.items ++ j ∷ []) c.id.ensures) next

-- at a root
pub loop-span-smaller : goal.loop-span-smaller
loop-span-smaller c =
    let forest = c.self.inside.spans in
    let walked = c.loop-span.invariant in
    let here = looked forest c.in-Some.shown walked.at (sym c.in-Some.is ∙ walked.shown) in
    let next = ap (look_at forest) (sym (sym c.parent.ensures ∙ c.in-None.is)) in
    rw c.in-Some.is (walk-falls forest c.in-Some.shown walked.at _ walked.formed here next)

pub loop-span-preserved : goal.loop-span-preserved
loop-span-preserved c =
    let forest = c.self.inside.spans in
    let walked = c.loop-span.invariant in
    let here = looked forest c.in-Some.shown walked.at (sym c.in-Some.is ∙ walked.shown) in
    let next = ap (look_at forest) (sym (sym c.parent.ensures ∙ c.in-None.is)) in
    walk-more forest c.args.id c.loop-span.scope.items _ c.in-Some.shown walked.at _ walked.formed here walked.way
    (c.in_ok-push.ensures.items ∙ ap (λ j. c.loop-span.scope.items ++ j ∷ []) c.id.ensures) next

pub returns-clause-scope : goal.returns-clause-scope
returns-clause-scope c =
    let walked = c.loop-span.invariant in
    rw (← c.self.view_is) (walk-ends c.self.inside.spans c.args.id _ walked.at walked.formed (sym c.in_default.is ∙ walked.shown) walked.way)

pub returns-clause-whole : goal.returns-clause-whole
returns-clause-whole c =
    path_of-whole c.args.self.now (subst IsForest c.self.view_is c.loop-span.invariant.formed) c.args.id (reverse c.loop-span.scope.items)
    (ap (λ (ids : List Id). reverse ids) (returns-clause-scope c) ∙ reverse-reverse (path_of c.args.self.now c.args.id))
