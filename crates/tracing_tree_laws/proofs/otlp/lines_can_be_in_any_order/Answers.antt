use Rattle.ttree_otlp.proofs.Order.Law.{same_calls_in_any_order}
use Rattle.tracing_tree_laws.proofs.otlp.lines_can_be_in_any_order.Goals as goal

pub returns : goal.returns
returns c = same_calls_in_any_order
