-- An accepted call: its reply, the rows that it draws, and the state after it.
use Rattle.std.specs.Prelude.{◌==◌, not, length, Option, unwrap_or}
use Rattle.tracing_tree_drawing.specs.Format.Settings.{Settings}
use Rattle.tracing_tree_spans.specs.Registry.Ids.{id_of}
use Rattle.tracing_tree_time.specs.Clock.{Timer}
use Rattle.tracing_tree_spans.specs.Registry.Forest.{Forest, new_span, add_span, add_handle, add_fields, closing_of, take_handle, without_spans}
use Rattle.tracing_tree_base.specs.declared.context.Id.{Id}
use Rattle.tracing_tree_layer.specs.Layered.State.{State, Turn, quiet_turn}
use Rattle.tracing_tree_layer.specs.Layer.Turns.{turn_of_new, turn_of_event, turn_of_closes}
use Rattle.tracing_tree_layer.specs.declared.call.Call.{Call}
use Rattle.tracing_tree_layer.specs.declared.call.Call.TheVariants.{New, Clone, Record, Event, Close}
use Rattle.tracing_tree_layer.specs.declared.call.Reply.{Reply}
use Rattle.tracing_tree_layer.specs.declared.call.Reply.TheVariants.{Span, Cloned, Done, Closed}

-- the id that a new span gets (if no id is left, the call is refused, and nothing depends on this)
abbrev pub new_id : Forest → Id
new_id forest = unwrap_or forest.next (id_of 0)

-- the reply to an accepted call
abbrev pub reply_of : Forest → Call → Reply
reply_of forest (New attributes context) = Span (new_id forest)
reply_of forest (Clone i) = Cloned i
reply_of forest (Close i context) = Closed (not (length (closing_of forest i) == 0))
reply_of forest call = Done

module _ (settings : Settings) (timer : Timer) (forest : Forest) where
  -- the rows of an accepted call, and the printed marks and the last span after it
  abbrev pub turn_of : Option Id → Call → Turn
  turn_of last (New attributes context) =
      let made = new_span (new_id forest) attributes context.current context.moment.mono in
      turn_of_new settings context (add_span made forest) last (new_id forest)
  turn_of last (Event event context) = turn_of_event settings timer context forest last event
  turn_of last (Close i context) = turn_of_closes settings context (closing_of forest i) forest last
  turn_of last call = quiet_turn forest last

-- what an accepted call also changes in the forest, once its marks are made (a new span is there
-- already); the first forest is the one before the call
abbrev pub changed_forest : Forest → Call → Forest → Forest
changed_forest old (Clone i) forest = add_handle i forest
changed_forest old (Record i record') forest = add_fields record'.fields i forest
changed_forest old (Close i _) forest = without_spans (closing_of old i) (take_handle i forest)
changed_forest old call forest = forest

-- the state after an accepted call
abbrev pub state_after : Settings → Timer → State → Call → State
state_after settings timer state call =
    let turn = turn_of settings timer state.forest state.last call in
    record state { forest = changed_forest state.forest call turn.forest; last = turn.last }
