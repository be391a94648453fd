-- What readers of a line's value answer.
use Rattle.std.specs.Prelude.{◌≡◌, false, List, ℕ, Option, Some, None, Result, Ok, Err, ⊤}
use Rattle.serde_json.specs.Data.{Data}
use Rattle.serde_json.specs.Written.{has_float}
use Rattle.tracing_tree_drawing.specs.Format.Settings.{Settings}
use Rattle.tracing_tree_base.specs.declared.context.Context.{Context}
use Rattle.tracing_tree_base.specs.declared.context.Moment.{Moment}
use Rattle.tracing_tree_time.specs.Clock.{Timer, no_timer, utc_timer, local_timer, uptime_timer}
use Rattle.tracing_tree_lines.specs.Lines.Spelled.{Asked, SpellsSettings, IsMomentIn, context_in, object_call}
use Rattle.tracing_tree_layer.specs.declared.call.Call.{Call}
use Rattle.tracing_tree_lines.specs.declared.lines.settings.timer.Timer.{Timer as AskedTimer}
use Rattle.tracing_tree_lines.specs.declared.lines.settings.timer.Timer.TheVariants as Ask
use Rattle.tracing_tree_lines.specs.declared.lines.LineCause.{LineCause}
use Rattle.tracing_tree_lines.specs.declared.lines.LineCause.TheVariants.{Settings as NoSettings, NotACall, Read, Memory, Refused}

-- memory ran out, or the cause is `blamed` for that reason
abbrev pub IsUnlessMemory : LineCause → Type 0 → LineCause → Type 0
IsUnlessMemory blamed reason NoSettings = (blamed ≡ NoSettings) × reason
IsUnlessMemory blamed reason NotACall = (blamed ≡ NotACall) × reason
IsUnlessMemory blamed reason Read = ⊥
IsUnlessMemory blamed reason Memory = ⊤
IsUnlessMemory blamed reason (Refused refusal) = ⊥

-- what is encoded is returned, and `NotACall` if nothing is; or memory ran out
abbrev pub IsReadAs : {A : Type 0} → Option A → Result A LineCause → Type 0
IsReadAs spelled (Ok value) = spelled ≡ Some value
IsReadAs spelled (Err cause) = IsUnlessMemory NotACall (spelled ≡ None) cause

-- the timer that a line sets
abbrev pub asked_timer : AskedTimer → Timer
asked_timer Ask.None = no_timer
asked_timer (Ask.Utc clock) = utc_timer clock.higher_precision
asked_timer (Ask.Local offset higher) = local_timer higher (λ nanos. offset.seconds)
asked_timer (Ask.Uptime clock) = uptime_timer clock.higher_precision clock.epoch

-- what a line sets
abbrev pub asked_of : Settings × AskedTimer → Asked
asked_of setup = (setup.0, asked_timer setup.1)

-- the settings and the timer that the first line encodes
abbrev pub ReadsFirst : List ℕ → Result (Settings × AskedTimer) LineCause → Type 0
ReadsFirst line (Ok setup) = SpellsSettings line setup.0 (asked_timer setup.1)
ReadsFirst line (Err cause) =
    IsUnlessMemory NoSettings
    ((settings : Settings) (timer : Timer) → ¬ SpellsSettings line settings timer) cause

-- the moment that a value encodes, if it encodes one
abbrev pub ReadsMoment : Data → Option Moment → Type 0
ReadsMoment value (Some moment) = IsMomentIn value moment
ReadsMoment value None = (moment : Moment) → ¬ IsMomentIn value moment

-- the context that a value encodes
abbrev pub ReadsContext : Data → Result Context LineCause → Type 0
ReadsContext value (Ok context) =
    IsMomentIn value context.moment × (context_in value context.moment ≡ Some context)
ReadsContext value (Err cause) =
    IsUnlessMemory NotACall
    ((moment : Moment) → IsMomentIn value moment → context_in value moment ≡ None) cause

-- the value holds no float, and encodes this call at a moment that it encodes
pub record ValueSpells (value : Data) (call : Call) : Type 0 where
  pub no_float : has_float value ≡ false
  pub moment : Moment
  pub timed : IsMomentIn value moment
  pub spelled : object_call value moment ≡ Some call
