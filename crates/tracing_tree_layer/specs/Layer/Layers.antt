-- What contracts see of a layer, and of a registry with a layer.
use Rattle.std.specs.Prelude.{◌≡◌, ℕ, Bool, not, ◌&&◌, List, Option, is_none}
use Rattle.std.specs.Io.KnownBytes.{Keeps}
use Rattle.tracing_tree_drawing.specs.Format.Settings.{Settings}
use Rattle.tracing_tree_spans.specs.Registry.Forest.{Forest}
use Rattle.tracing_tree_base.specs.declared.context.Id.{Id}
use Rattle.tracing_tree_output.specs.declared.output.Output.{Ghosts as Output}
use Rattle.tracing_tree_time.specs.declared.timer.FormatTime.{Ghosts as FormatTime}
use Rattle.tracing_tree_output.specs.Writers.{IsShown, seen_writer}
use Rattle.tracing_tree_layer.specs.Layered.Seen.{Seen}

-- a layer: its settings, its writer and timer, the last span, whether it has failed, and what it
-- has built of a call's text and not written
pub record LayerView (W FT : Type 0) : Type 0 where
  pub settings : Settings
  pub writer : W
  pub timer : FT
  pub last : Option Id
  pub failed : Bool
  pub unwritten : List ℕ

-- no last span, and nothing has failed
abbrev pub is_fresh : {W FT : Type 0} → LayerView W FT → Bool
is_fresh layer = not layer.failed && is_none layer.last

-- a layer's writer flushed, or failed to; its known bytes, its count of faults and everything else
-- are unchanged
pub record IsFlushed {W FT : Type 0} (output : Output W) (old new : LayerView W FT) : Type 0 where
  pub kept : Keeps (output.contents old.writer) (output.contents new.writer)
  pub calm : output.fault_count new.writer ≡ output.fault_count old.writer
  pub same : new ≡ record old { writer = new.writer }
  pub shown : IsShown output new.writer

-- a registry with a layer
pub record LayeredView (W FT : Type 0) : Type 0 where
  pub forest : Forest
  pub layer : LayerView W FT

module _ {W FT : Type 0} where
  -- what `FormatTime` and `Output` say of it
  abbrev pub seen : FormatTime FT → Output W → LayeredView W FT → Seen
  seen time output layered =
      let layer = layered.layer in
      record {
        settings = layer.settings;
        timer = time.timer layer.timer;
        state = record { forest = layered.forest; last = layer.last; failed = layer.failed };
        writer = seen_writer output layer.writer;
      }

  -- What is changed: settings and timer stay, and this holds of what was seen before and after.
  pub record Changes (see : LayeredView W FT → Seen) (Holds : Seen → Seen → Type 0)
      (old new : LayeredView W FT) : Type 0 where
    pub changed : Holds (see old) (see new)
    pub fixed : new.layer
        ≡ record old.layer {
          writer = new.layer.writer;
          last = new.layer.last;
          failed = new.layer.failed;
          unwritten = new.layer.unwritten;
        }

-- what is seen of it after its writer flushed: its known bytes, its count of faults and everything
-- else are unchanged
pub record Flushes (old new : Seen) : Type 0 where
  pub kept : Keeps old.writer.bytes new.writer.bytes
  pub same : new ≡ record old { writer = record old.writer { bytes = new.writer.bytes } }
