-- A receiver that keeps its calls in a list.
use Rattle.std.specs.Prelude.{◌≡◌, true, List, [], ◌∷◌, ◌++◌, length, Result, Ok, Err}
use Rattle.tracing_tree_base.specs.declared.context.Refusal.{Refusal}
use Rattle.tracing_tree_base.specs.declared.context.Refusal.TheVariants.{Memory}
use Rattle.tracing_tree_layer.specs.declared.call.Call.{Call}
use Rattle.tracing_tree_layer.specs.declared.call.Call.TheVariants.{New, Clone, Record, Event, Close}
use Rattle.tracing_tree_layer.specs.declared.call.Reply.{Reply}
use Rattle.tracing_tree_layer.specs.declared.call.Reply.TheVariants.{Span, Cloned, Done, Closed}
use Rattle.tracing_tree_spans.specs.Registry.Ids.{id_of}

-- a span's id is the number of the calls before it
abbrev pub recorded_reply : Call → List Call → Reply
recorded_reply (New attributes context) calls = Span (id_of (length calls))
recorded_reply (Clone i) calls = Cloned i
recorded_reply (Record i values) calls = Done
recorded_reply (Event event context) calls = Done
recorded_reply (Close i context) calls = Closed true

-- the call is the last of the list, or memory ran out and the list is unchanged
abbrev pub IsRecorded : Call → Result Reply Refusal → List Call → List Call → Type 0
IsRecorded call (Ok reply) old new =
    (new ≡ old ++ call ∷ []) × (reply ≡ recorded_reply call old)
IsRecorded call (Err refusal) old new = (new ≡ old) × (refusal ≡ Memory)
