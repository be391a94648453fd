-- Rows that are drawn one after another, and written once. No public contract names these.
use Rattle.std.specs.Prelude.{◌≡◌, ◌⊎◌, ℕ, Bool, true, false, List, [], ◌∷◌, ◌++◌, Option, None, Some, is_none, Result, Ok, Err}
use Rattle.std.specs.Option.{option_map_or, option_or}
use Rattle.std.specs.Bool.{then_some}
use Rattle.std.specs.List.{list_any}
use Rattle.std.specs.Io.KnownBytes.{Appends}
use Rattle.tracing_tree_drawing.specs.Format.Settings.{Settings}
use Rattle.tracing_tree_time.specs.Clock.{Timer as Clock}
use Rattle.tracing_tree_drawing.specs.Format.Picture.{Row, draw, is_too_wide}
use Rattle.tracing_tree_spans.specs.Registry.Forest.{Forest}
use Rattle.tracing_tree_output.specs.Writers.{LeavesCut, SeenWriter}
use Rattle.tracing_tree_base.specs.declared.context.Context.{Context}
use Rattle.tracing_tree_base.specs.declared.context.Id.{Id}
use Rattle.tracing_tree_spans.specs.declared.registry.Event.{Event}
use Rattle.tracing_tree_base.specs.declared.context.Refusal.{Refusal}
use Rattle.tracing_tree_base.specs.declared.context.Refusal.TheVariants.{TooWide, Memory, Timer, Writer}
use Rattle.tracing_tree_layer.specs.Layered.State.{Turn}
use Rattle.tracing_tree_layer.specs.Layer.Turns.{event_row}
use Rattle.tracing_tree_layer.specs.Layer.Layers.{LayerView}
use Rattle.tracing_tree_layer.specs.Layer.Plan.{PlanView, marked_by}
use Rattle.tracing_tree_layer.specs.Layered.Run.{IsRefusedFor}
use Rattle.tracing_tree_layer.specs.Layered.Answered.{Writes}

-- ---- rows

-- one of these rows would be too wide
abbrev pub draws_too_wide : Settings → List Row → Bool
draws_too_wide settings rows = list_any (is_too_wide settings) rows

-- the row of an event itself would be too wide
abbrev pub is_event_too_wide : Settings → Clock → Forest → Event → Context → Bool
is_event_too_wide settings timer forest event context =
    is_too_wide settings (event_row settings timer forest event context)

-- the timer has no string for this elapsed time, if there is one
abbrev pub lacks_elapsed : Settings → Clock → Option ℕ → Bool
lacks_elapsed settings timer since =
    option_map_or (λ nanos. is_none (timer.elapsed_text settings.ansi nanos)) since false

-- why rows aren't drawn: one is too wide, or the timer has no string
abbrev pub rows_cause : Settings → List Row → Bool → Option Refusal
rows_cause settings rows faults =
    option_or (then_some (draws_too_wide settings rows) TooWide) (then_some faults Timer)

abbrev pub has_no_row : List Row → Bool
has_no_row [] = true
has_no_row (row ∷ others) = false

abbrev pub has_no_id : List Id → Bool
has_no_id [] = true
has_no_id (i ∷ others) = false

-- rows are refused for their cause, or because memory ran out, unless they take no memory
abbrev pub IsUndrawn : Option Refusal → Bool → Refusal → Type 0
IsUndrawn cause quiet refusal = (cause ≡ Some refusal) ⊎ ((refusal ≡ Memory) × (quiet ≡ false))

-- Rows are drawn after those before them, or refused.
abbrev pub DrawsRows : Settings → List Row → Bool → Result (Unit {0}) Refusal → List ℕ → List ℕ
    → Type 0
DrawsRows settings rows faults (Ok done) old new =
    (rows_cause settings rows faults ≡ None) × (new ≡ old ++ draw settings rows)
DrawsRows settings rows faults (Err refusal) old new =
    IsUndrawn (rows_cause settings rows faults) (has_no_row rows) refusal

-- The rows of a turn are drawn, and the plan has its marks and its last span; or the turn is
-- refused.
abbrev pub Drafts : Settings → Forest → Turn → Bool → Bool → Result (Unit {0}) Refusal → List ℕ
    → List ℕ → PlanView → Type 0
Drafts settings forest turn faults quiet (Ok done) old new plan =
    DrawsRows settings turn.rows faults (Ok done) old new
    × (marked_by plan forest ≡ turn.forest) × (plan.last ≡ turn.last)
Drafts settings forest turn faults quiet (Err refusal) old new plan =
    IsUndrawn (rows_cause settings turn.rows faults) quiet refusal

-- a refusal while a string of the timer is appended: memory ran out, or the timer has no string
abbrev pub IsUntimed : Bool → Refusal → Type 0
IsUntimed lacking refusal = ((refusal ≡ Timer) × (lacking ≡ true)) ⊎ (refusal ≡ Memory)

-- ---- what a call leaves

-- whether a layer has failed after this answer
abbrev pub failed_by : {A : Type 0} → Result A Refusal → Bool
failed_by (Ok answer) = false
failed_by (Err Timer) = true
failed_by (Err Writer) = true
failed_by (Err refusal) = false

-- the first value after an accepted call, otherwise the second
abbrev pub when_ok : {A B : Type 0} → Result A Refusal → B → B → B
when_ok (Ok answer) new old = new
when_ok (Err refusal) new old = old

-- What was drawn is written once, whole, or discarded. Only what was drawn whole is written, and
-- only a fault of the writer leaves text in the buffer.
abbrev pub Sends : Result (Unit {0}) Refusal → Result (Unit {0}) Refusal → List ℕ → List ℕ
    → SeenWriter → SeenWriter → Type 0
Sends (Ok done) (Ok sent) old new before after =
    Appends before.bytes after.bytes old × (after.faults ≡ before.faults) × (new ≡ [])
Sends (Ok done) (Err Writer) old new before after = LeavesCut old before after
Sends (Ok done) (Err refusal) old new before after = ⊥
Sends (Err cause) result old new before after =
    (result ≡ Err cause) × (after ≡ before) × (new ≡ [])

-- an answer that rows may get: they are refused for their cause, or because memory ran out, unless
-- they take no memory
abbrev pub IsAllowed : Option Refusal → Bool → List ℕ → Result (Unit {0}) Refusal → Type 0
IsAllowed cause quiet text (Ok done) = cause ≡ None
IsAllowed cause quiet text (Err refusal) = IsRefusedFor cause text quiet refusal

-- rows were written, or refused for their cause
pub record IsWritten (settings : Settings) (rows : List Row) (faults quiet : Bool)
    (result : Result (Unit {0}) Refusal) (old new : SeenWriter) : Type 0 where
  pub answer : IsAllowed (rows_cause settings rows faults) quiet (draw settings rows) result
  pub written : Writes (draw settings rows) result old new

module _ {W FT : Type 0} where
  -- A layer does a turn: it writes its rows, and then marks its spans and takes its last span; or
  -- it is refused.
  pub record DoesTurn (see : W → SeenWriter) (turn : Turn) (faults quiet : Bool)
      (result : Result (Unit {0}) Refusal) (old new : LayerView W FT)
      (forest after : Forest) : Type 0 where
    pub written : IsWritten old.settings turn.rows faults quiet result
        (see old.writer) (see new.writer)
    pub layer : new ≡ record old {
      writer = new.writer;
      last = when_ok result turn.last old.last;
      failed = failed_by result;
      unwritten = new.unwritten;
    }
    pub marked : after ≡ when_ok result turn.forest forest
