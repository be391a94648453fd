-- Bare calls on a layer, over any live spans.
use Rattle.std.specs.Prelude.{◌≡◌, ℕ, Bool, false, true, not, ◌||◌, List, [], ◌∷◌, Option, option_map, None, Some, Result, Ok, Err}
use Rattle.std.specs.Bool.{then_some}
use Rattle.tracing_tree_drawing.specs.Format.Settings.{Settings}
use Rattle.tracing_tree_time.specs.Clock.{Timer}
use Rattle.tracing_tree_spans.specs.Registry.Forest.{Forest, is_live, unless_live, add_fields}
use Rattle.tracing_tree_drawing.specs.Format.Picture.{draw}
use Rattle.tracing_tree_base.specs.declared.context.Id.{Id}
use Rattle.tracing_tree_base.specs.declared.context.Context.{Context}
use Rattle.tracing_tree_base.specs.declared.context.Refusal.{Refusal}
use Rattle.tracing_tree_base.specs.declared.context.Refusal.TheVariants.{NotHeld, TooWide, Timer as TimerFault, Failed}
use Rattle.tracing_tree_spans.specs.declared.registry.Event.{Event}
use Rattle.tracing_tree_spans.specs.declared.registry.Record.{Record}
use Rattle.tracing_tree_layer.specs.Layered.State.{State, Turn, quiet_turn}
use Rattle.tracing_tree_layer.specs.Layered.Seen.{Seen, seen_later}
use Rattle.tracing_tree_layer.specs.Layer.Turns.{turn_of_new, turn_of_event, turn_of_close}
use Rattle.tracing_tree_layer.specs.Layered.Refused.{first_of_all, timer_faults_at}
use Rattle.tracing_tree_layer.specs.Layer.Drawn.{draws_too_wide}
use Rattle.tracing_tree_layer.specs.Layered.Run.{IsRefusedFor, after_refusal}
use Rattle.tracing_tree_layer.specs.Layered.Answered.{Writes}

-- a call on a layer by itself: the spans exist already, and stay
pub data BareCall : Type 0 where
  on_new_span : Id → Context → BareCall
  on_record : Id → Record → BareCall
  on_event : Event → Context → BareCall
  on_close : Id → Context → BareCall

-- the rows of an accepted call, and the printed marks and the last span after it; a close is that
-- of its one span
abbrev pub bare_turn_of : Settings → Timer → Forest → Option Id → BareCall → Turn
bare_turn_of settings timer forest last (on_new_span i context) =
    turn_of_new settings context forest last i
bare_turn_of settings timer forest last (on_record i record') = quiet_turn forest last
bare_turn_of settings timer forest last (on_event event context) =
    turn_of_event settings timer context forest last event
bare_turn_of settings timer forest last (on_close i context) =
    turn_of_close settings context forest last i

-- what an accepted call also changes in the forest: a record of an id that isn't live changes
-- nothing
abbrev pub bare_changed_forest : BareCall → Forest → Forest
bare_changed_forest (on_record i record') forest = add_fields record'.fields i forest
bare_changed_forest call forest = forest

-- the state after an accepted call
abbrev pub bare_state_after : Settings → Timer → State → BareCall → State
bare_state_after settings timer state call =
    let turn = bare_turn_of settings timer state.forest state.last call in
    record {
      forest = bare_changed_forest call turn.forest;
      last = turn.last;
      failed = state.failed;
    }

-- the text of a call
abbrev pub bare_text : Settings → Timer → State → BareCall → List ℕ
bare_text settings timer state call =
    draw settings (bare_turn_of settings timer state.forest state.last call).rows

-- ---- refusals

-- the id that a call needs and that isn't live
abbrev pub bare_not_held : Forest → BareCall → Option Id
bare_not_held forest (on_new_span i context) = unless_live forest i
bare_not_held forest (on_close i context) = unless_live forest i
bare_not_held forest call = None

-- the timer has no string for an event
abbrev pub bare_timer_faults : Settings → Timer → Forest → BareCall → Bool
bare_timer_faults settings timer forest (on_event event context) =
    timer_faults_at settings timer forest context
bare_timer_faults settings timer forest call = false

-- why a call is refused, except for `Memory` and faults of the writer; ids and handles aren't
-- counted here
abbrev pub bare_cause_of : Settings → Timer → State → BareCall → Option Refusal
bare_cause_of settings timer state call = first_of_all (
    then_some state.failed Failed
    ∷ option_map NotHeld (bare_not_held state.forest call)
    ∷ then_some
    (draws_too_wide settings (bare_turn_of settings timer state.forest state.last call).rows) TooWide
    ∷ then_some (bare_timer_faults settings timer state.forest call) TimerFault
    ∷ [])

-- ---- answers

-- A call that never runs out of memory: each call on a layer that has failed, one for which a span
-- is missing, and a record of a span that isn't live.
abbrev pub bare_takes_no_memory : State → BareCall → Bool
bare_takes_no_memory state (on_new_span i context) = state.failed || not (is_live state.forest i)
bare_takes_no_memory state (on_record i record') = state.failed || not (is_live state.forest i)
bare_takes_no_memory state (on_event event context) = state.failed
bare_takes_no_memory state (on_close i context) = state.failed || not (is_live state.forest i)

-- an answer that a call may get
abbrev pub BareMayAnswer : Settings → Timer → State → BareCall → Result (Unit {0}) Refusal → Type 0
BareMayAnswer settings timer state call (Ok done) = bare_cause_of settings timer state call ≡ None
BareMayAnswer settings timer state call (Err refusal) =
    IsRefusedFor (bare_cause_of settings timer state call) (bare_text settings timer state call)
    (bare_takes_no_memory state call) refusal

-- the state after an answer
abbrev pub bare_state_after_answer : Settings → Timer → State → BareCall → Result (Unit {0}) Refusal
    → State
bare_state_after_answer settings timer state call (Ok done) =
    bare_state_after settings timer state call
bare_state_after_answer settings timer state call (Err refusal) = after_refusal state refusal

-- whether a call continues: the layer hasn't failed, and nothing is missing
abbrev pub IsChecked : Bool → Option Id → Result (Unit {0}) Refusal → Type 0
IsChecked failed missing (Ok done) = (failed ≡ false) × (missing ≡ None)
IsChecked failed missing (Err Failed) = failed ≡ true
IsChecked failed missing (Err (NotHeld i)) = (failed ≡ false) × (missing ≡ Some i)
IsChecked failed missing (Err refusal) = ⊥

-- one call: its answer, the state after it, and what was written
pub record IsBareAnswered (call : BareCall) (answer : Result (Unit {0}) Refusal)
    (old new : Seen) : Type 0 where
  pub allowed : BareMayAnswer old.settings old.timer old.state call answer
  pub left : new
      ≡ seen_later old (bare_state_after_answer old.settings old.timer old.state call answer)
      new.writer
  pub written : Writes (bare_text old.settings old.timer old.state call) answer old.writer
      new.writer
