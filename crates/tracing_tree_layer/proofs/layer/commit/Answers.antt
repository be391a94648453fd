use Rattle.std.proofs.Common.{◌≡◌, [], ◌+◌, List, drop, sym, ap, ◌∙◌, arith}
use Rattle.std.proofs.lemmas.Grind.{common_steps}
use Rattle.std.proofs.lemmas.List.{drop_more}
use Rattle.tracing_tree_spans.specs.Registry.Forest.{mark_all}
use Rattle.tracing_tree_base.specs.declared.context.Id.{Id}
use Rattle.tracing_tree_layer.proofs.Marks.{marks_first, mark_all-none}
use Rattle.tracing_tree_layer.proofs.layer.commit.Goals as goal

pub loop-id-preserved : goal.loop-id-preserved
loop-id-preserved g c =
    let ids = c.fresh-id-items.result.now in
    let k = c.loop-id.id-index in
    let before = g.S.LookupSpan.forest c.loop-id.spans in
    let rest : List Id = drop (k + 1) ids in
    ap (mark_all rest) c.set_written.ensures ∙ sym (marks_first _ rest before)
    ∙ ap (λ others. mark_all others before) (sym (drop_more ids k _ c.loop-id-test.true)) ∙ c.loop-id.invariant

pub returns-clause-forest : goal.returns-clause-forest
returns-clause-forest g c =
    let none : drop c.loop-id.id-index c.fresh-id-items.result.now ≡ [] = grind (arith, common_steps) in
    sym (mark_all-none (g.S.LookupSpan.forest c.loop-id.spans))
    ∙ ap (λ ids. mark_all ids (g.S.LookupSpan.forest c.loop-id.spans)) (sym none) ∙ c.loop-id.invariant
    ∙ ap (λ ids. mark_all ids (g.S.LookupSpan.forest c.args.spans.now)) c.fresh-id-items.ensures
