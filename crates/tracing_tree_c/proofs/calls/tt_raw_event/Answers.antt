use Rattle.tracing_tree_c.specs.Parts.{call_of_event}
use Rattle.tracing_tree_c.proofs.Makes.{makes_call}
use Rattle.tracing_tree_c.proofs.calls.tt_raw_event.Goals as goal

pub returns : goal.returns
returns c = (c.perform.result, c.status.ensures, makes_call call_of_event _ _ _ _ _ _ _ _ c.event_in-read.ensures c.perform.ensures)
