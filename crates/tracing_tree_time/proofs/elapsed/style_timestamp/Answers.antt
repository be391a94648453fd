use Rattle.tracing_tree_time.proofs.TimerTexts.{elapsed_asks}
use Rattle.tracing_tree_time.proofs.elapsed.style_timestamp.Goals as goal

pub returns-then-higher_precision-clause-memory : goal.returns-then-higher_precision-clause-memory
returns-then-higher_precision-clause-memory c = elapsed_asks c.args.higher_precision c.args.ansi c.args.elapsed_ns _

pub returns-else-higher_precision-clause-memory : goal.returns-else-higher_precision-clause-memory
returns-else-higher_precision-clause-memory c = elapsed_asks c.args.higher_precision c.args.ansi c.args.elapsed_ns _
