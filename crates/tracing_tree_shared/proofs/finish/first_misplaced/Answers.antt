use Rattle.std.proofs.Common.{◌+◌, ◌∙◌, ap, drop, flat_map, None}
use Rattle.tracing_tree_shared.specs.History.{Slips}
use Rattle.tracing_tree_shared.specs.Finish.{misplaced, smallest}
use Rattle.tracing_tree_shared.proofs.Receipts.{passes_more}
use Rattle.tracing_tree_shared.proofs.finish.first_misplaced.Goals as goal

pub loop-pass-preserved : goal.loop-pass-preserved
loop-pass-preserved g c =
    let history = c.args.history.now in
    let rest = flat_map (misplaced history None) (drop (c.loop-pass.pass-index + 1) c.args.passes.now) in
    ap (λ found. smallest found rest) (c.first_in_pass-first.ensures ∙ ap (λ (slips : Slips). smallest c.loop-pass.first (misplaced history None slips)) (c.receipts.ensures ∙ c.pass-item.is))
    ∙ passes_more history c.loop-pass.first c.args.passes.now c.loop-pass.pass-index c.pass-item.result c.loop-pass-test.true
    ∙ c.loop-pass.invariant
