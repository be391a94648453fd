-- Replies to calls, and the answers of calls by their parts.
use Rattle.std.specs.Prelude.{◌≡◌, Bool, Result, Ok, Err}
use Rattle.tracing_tree_base.specs.declared.context.Id.{Id}
use Rattle.tracing_tree_base.specs.declared.context.Refusal.{Refusal}
use Rattle.tracing_tree_layer.specs.declared.call.Call.{Call}
use Rattle.tracing_tree_layer.specs.declared.call.Call.TheVariants.{New, Clone, Record, Event, Close}
use Rattle.tracing_tree_layer.specs.declared.call.Reply.{Reply}
use Rattle.tracing_tree_layer.specs.declared.call.Reply.TheVariants.{Span, Cloned, Done, Closed}

-- a reply is of the kind that an accepted call gets
abbrev pub IsReplyTo : Call → Reply → Type 0
IsReplyTo (New attributes context) reply = (id : Id) × (reply ≡ Span id)
IsReplyTo (Clone i) reply = reply ≡ Cloned i
IsReplyTo (Record i record') reply = reply ≡ Done
IsReplyTo (Event event context) reply = reply ≡ Done
IsReplyTo (Close i context) reply = (was_removed : Bool) × (reply ≡ Closed was_removed)

-- the answer to a whole call, by the answer to the call by its parts
abbrev pub answer_as : {A : Type 0} → (A → Reply) → Result A Refusal → Result Reply Refusal
answer_as reply (Ok value) = Ok (reply value)
answer_as reply (Err refusal) = Err refusal

abbrev pub span : Id → Reply
span id = Span id

abbrev pub cloned : Id → Reply
cloned id = Cloned id

abbrev pub done : Unit {0} → Reply
done nothing = Done

abbrev pub closed : Bool → Reply
closed was_removed = Closed was_removed
