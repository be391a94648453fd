-- The calls of the parts that were read from C's values.
use Rattle.tracing_tree_layer.specs.declared.call.Call.{Call}
use Rattle.tracing_tree_layer.specs.declared.call.Call.TheVariants.{New, Event, Close as CloseCall}
use Rattle.tracing_tree_c.specs.declared.parts.NewSpan.{NewSpan}
use Rattle.tracing_tree_c.specs.declared.parts.LentEvent.{LentEvent}
use Rattle.tracing_tree_c.specs.declared.parts.Close.{Close}

abbrev pub call_of_new : NewSpan → Call
call_of_new parts = New parts.attributes parts.context

abbrev pub call_of_event : LentEvent → Call
call_of_event parts = Event parts.event parts.context

abbrev pub call_of_close : Close → Call
call_of_close parts = CloseCall parts.id parts.context
