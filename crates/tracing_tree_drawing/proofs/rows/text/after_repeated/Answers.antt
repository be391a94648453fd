use Rattle.std.proofs.Common.{rules, arith}
use Rattle.tracing_tree_drawing.proofs.RowsRead.Trims.{taken-one, taken-none}
use Rattle.tracing_tree_drawing.proofs.rows.text.after_repeated.Goals as goal

pub returns-in_err-rest : goal.returns-in_err-rest
returns-in_err-rest c =
    rw c.from_residual.ensures (taken-none c.args.piece.now c.args.text.now c.loop-done.rest.now c.args.count c.loop-done.done c.loop-done-test.true c.loop-done.invariant.2 c.in_err-rest.ensures)

pub loop-done-preserved : goal.loop-done-preserved
loop-done-preserved c = (
  search rules,
  omega arith,
  taken-one c.args.piece.now c.args.text.now c.loop-done.rest.now c.in_ok-rest.rest.now c.args.count c.loop-done.done c.loop-done-test.true c.loop-done.invariant.2 c.in_ok-rest.ensures,
)
