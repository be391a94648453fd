-- Drafts of calls, and the tails that are drawn with them.
use Rattle.std.specs.Prelude.{◌≡◌, Bool, List, ℕ, Option, Some, None, ⊤}
use Rattle.tracing_tree_drawing.specs.Format.Settings.{Settings, default_settings}
use Rattle.tracing_tree_layer.specs.Layer.Block.{event_tail}
use Rattle.tracing_tree_layer.specs.declared.call.Call.{Call}
use Rattle.tracing_tree_layer.specs.declared.call.Call.TheVariants.{New, Clone, Record, Event, Close}

-- level, target and fields of an event, and the two settings under which they were drawn
pub record TailView : Type 0 where
  pub ansi : Bool
  pub targets : Bool
  pub text : List ℕ

-- a call on its way
pub record DraftView : Type 0 where
  pub call : Call
  pub tail : Option TailView

-- a string is the tail of a call under these settings
abbrev pub IsTailOf : Settings → Call → List ℕ → Type 0
IsTailOf settings (New attributes context) text = ⊥
IsTailOf settings (Clone i) text = ⊥
IsTailOf settings (Record i record') text = ⊥
IsTailOf settings (Event event context) text = text ≡ event_tail settings event
IsTailOf settings (Close i context) text = ⊥

-- settings with these two
abbrev pub settings_with : Bool → Bool → Settings
settings_with ansi targets = record default_settings { ansi = ansi; targets = targets }

-- a tail, if there is one, is the call's
abbrev pub KeepsTail : Call → Option TailView → Type 0
KeepsTail call None = ⊤
KeepsTail call (Some tail) = IsTailOf (settings_with tail.ansi tail.targets) call tail.text

-- a copy, if there is one, is the call's
abbrev pub IsCopyOf : Call → Option Call → Type 0
IsCopyOf call None = ⊤
IsCopyOf call (Some copy) = copy ≡ call

-- the tail of an event under these two settings; other calls have no tail
abbrev pub tail_under : Bool → Bool → Call → Option TailView
tail_under ansi targets (New attributes context) = None
tail_under ansi targets (Clone i) = None
tail_under ansi targets (Record i record') = None
tail_under ansi targets (Event event context) = Some (record {
  ansi = ansi;
  targets = targets;
  text = event_tail (settings_with ansi targets) event;
})
tail_under ansi targets (Close i context) = None

abbrev pub tail_text : Option TailView → Option (List ℕ)
tail_text None = None
tail_text (Some tail) = Some tail.text

-- a layer for several threads: its passes, and the two settings under which it drafts events
pub record SharedView : Type 0 where
  pub passes : ℕ
  pub ansi : Bool
  pub targets : Bool
