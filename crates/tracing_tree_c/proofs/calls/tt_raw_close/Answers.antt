use Rattle.tracing_tree_c.specs.Parts.{call_of_close}
use Rattle.tracing_tree_c.proofs.Makes.{makes_call}
use Rattle.tracing_tree_c.proofs.calls.tt_raw_close.Goals as goal

pub returns : goal.returns
returns c = (c.perform-outcome.result, c.status.ensures, c.went_or.ensures, makes_call call_of_close _ _ _ _ _ _ _ _ c.close_in-read.ensures c.perform-outcome.ensures)
