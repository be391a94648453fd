-- When a call is refused, and which refusal comes first.
use Rattle.std.specs.Prelude.{◌==◌, ◌-◌, ◌^◌, Bool, true, false, not, ◌||◌, List, [], ◌∷◌, Option, None, is_none, is_some, length, option_map}
use Rattle.std.specs.Option.{option_map_or, option_or}
use Rattle.std.specs.Bool.{then_some}
use Rattle.std.specs.List.{list_any}
use Rattle.tracing_tree_drawing.specs.Format.Settings.{Settings}
use Rattle.tracing_tree_time.specs.Clock.{Timer}
use Rattle.tracing_tree_drawing.specs.Format.Picture.{is_too_wide}
use Rattle.tracing_tree_spans.specs.Registry.Forest.{Forest, is_live, handles_of, closing_of, named_parent, unless_live, any_unless_live}
use Rattle.tracing_tree_base.specs.declared.context.Id.{Id}
use Rattle.tracing_tree_base.specs.declared.context.Context.{Context}
use Rattle.tracing_tree_base.specs.declared.context.Refusal.{Refusal}
use Rattle.tracing_tree_base.specs.declared.context.Refusal.TheVariants.{NotHeld, TooWide, TooMany, Timer as TimerFault, Failed}
use Rattle.tracing_tree_layer.specs.Layered.State.{State}
use Rattle.tracing_tree_layer.specs.Layer.Turns.{time_in_current, event_row}
use Rattle.tracing_tree_layer.specs.Layered.Step.{turn_of}
use Rattle.tracing_tree_layer.specs.declared.call.Call.{Call}
use Rattle.tracing_tree_layer.specs.declared.call.Call.TheVariants.{New, Clone, Record, Event, Close}

-- the id that a call needs and that is not held: a parent, a span to be cloned, or one with no
-- handle left to close
abbrev pub id_not_held : Forest → Call → Option Id
id_not_held forest (New attributes context) =
    any_unless_live forest (named_parent attributes.parent context.current)
id_not_held forest (Clone i) = unless_live forest i
id_not_held forest (Close i context) = then_some (handles_of forest i == 0) i
id_not_held forest call = None

-- no id is left for a new span, or no further handle can be counted
abbrev pub is_too_many : Forest → Call → Bool
is_too_many forest (New attributes context) = is_none forest.next
is_too_many forest (Clone i) = handles_of forest i == (2 ^ 64 - 1)
is_too_many forest call = false

-- the first of several
abbrev pub first_of_all : List (Option Refusal) → Option Refusal
first_of_all [] = None
first_of_all (o ∷ others) = option_or o (first_of_all others)

module _ (settings : Settings) (timer : Timer) where
  -- the timer has no string for the moment of an event, or for the time in its current span
  abbrev pub timer_faults_at : Forest → Context → Bool
  timer_faults_at forest context =
      is_none (timer.moment_text context.moment)
      || option_map_or (λ nanos. is_none (timer.elapsed_text settings.ansi nanos))
      (time_in_current forest context) false

  -- the timer has no string for an event
  abbrev pub timer_faults : Forest → Call → Bool
  timer_faults forest (Event event context) = timer_faults_at forest context
  timer_faults forest call = false

  -- why a call is refused, except for `Memory` and faults of the writer
  abbrev pub cause_of : State → Call → Option Refusal
  cause_of state call =
      let rows = (turn_of settings timer state.forest state.last call).rows in
      first_of_all (
      then_some state.failed Failed
      ∷ option_map NotHeld (id_not_held state.forest call)
      ∷ then_some (is_too_many state.forest call) TooMany
      ∷ then_some (list_any (is_too_wide settings) rows) TooWide
      ∷ then_some (timer_faults state.forest call) TimerFault
      ∷ [])

  -- A call that never runs out of memory: it grows nothing, or is refused before. It is a new span
  -- whose parent isn't held or without a next id, a clone, a record of a span that isn't live, an
  -- event whose own row is too wide, or a close that removes no span.
  abbrev pub takes_no_memory : Forest → Call → Bool
  takes_no_memory forest (New attributes context) =
      is_some (id_not_held forest (New attributes context)) || is_none forest.next
  takes_no_memory forest (Clone i) = true
  takes_no_memory forest (Record i record') = not (is_live forest i)
  takes_no_memory forest (Event event context) =
      is_too_wide settings (event_row settings timer forest event context)
  takes_no_memory forest (Close i context) =
      not (handles_of forest i == 1) || (length (closing_of forest i) == 0)
