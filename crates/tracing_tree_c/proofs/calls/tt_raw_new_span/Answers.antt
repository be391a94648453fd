use Rattle.tracing_tree_c.specs.Parts.{call_of_new}
use Rattle.tracing_tree_c.proofs.Makes.{makes_call}
use Rattle.tracing_tree_c.proofs.calls.tt_raw_new_span.Goals as goal

pub returns : goal.returns
returns c = (c.perform-outcome.result, c.status.ensures, c.id_or.ensures, makes_call call_of_new _ _ _ _ _ _ _ _ c.new_in-read.ensures c.perform-outcome.ensures)
