use Rattle.tracing_tree_shared.proofs.Receipts.{keeps_both, keeps_neither, keeps_past}
use Rattle.tracing_tree_shared.proofs.finish.keeps.Goals as goal

pub returns-then-eq : goal.returns-then-eq
returns-then-eq c =
    keeps_both c.args.history.now c.args.receipt.now c.in-Some.entry.now c.place.result c.call.result.now c.reply.result c.eq.result c.eq-then-eq.result
    c.place.ensures c.in-Some.ensures.lookup.3.0 c.in-Some.ensures.lookup.1 c.call.ensures c.reply.ensures c.eq.ensures c.eq-then-eq.ensures c.if-eq.true

pub returns-else-eq : goal.returns-else-eq
returns-else-eq c =
    keeps_neither c.args.history.now c.args.receipt.now c.in-Some.entry.now c.place.result c.call.result.now c.eq.result
    c.place.ensures c.in-Some.ensures.lookup.3.0 c.in-Some.ensures.lookup.1 c.call.ensures c.eq.ensures c.if-eq.false

pub returns-in-None : goal.returns-in-None
returns-in-None c = keeps_past c.args.history.now c.args.receipt.now c.place.result c.place.ensures c.in-None.ensures.lookup.3
