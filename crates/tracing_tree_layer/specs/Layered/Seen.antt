-- What is seen of a registry with a layer.
use Rattle.tracing_tree_drawing.specs.Format.Settings.{Settings}
use Rattle.tracing_tree_time.specs.Clock.{Timer}
use Rattle.tracing_tree_output.specs.Writers.{SeenWriter}
use Rattle.tracing_tree_layer.specs.Layered.State.{State}

-- a registry with a layer: settings and timer, the state between calls, and the writer
pub record Seen : Type 0 where
  pub settings : Settings
  pub timer : Timer
  pub state : State
  pub writer : SeenWriter

-- What is seen later, in this state and with this writer: settings, timer and whether strings are
-- taken whole are unchanged.
abbrev pub seen_later : Seen → State → SeenWriter → Seen
seen_later old state writer =
    record old { state = state; writer = record writer { whole = old.writer.whole } }
