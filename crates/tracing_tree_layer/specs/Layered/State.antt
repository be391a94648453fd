-- What a registry with a layer holds between calls.
use Rattle.std.specs.Prelude.{Bool, false, Option, None, List, []}
use Rattle.tracing_tree_spans.specs.Registry.Forest.{Forest}
use Rattle.tracing_tree_drawing.specs.Format.Picture.{Row}
use Rattle.tracing_tree_base.specs.declared.context.Id.{Id}

-- The live spans with their printed marks, the last span, and whether the layer has failed. The
-- last span is the last one shown: a span that opened, one that an event or a close was retraced
-- to, or the parent of one that closed.
pub record State : Type 0 where
  pub forest : Forest
  pub last : Option Id
  pub failed : Bool

-- no span is live, there is no last span, and nothing has failed; the first id, if an id is left
abbrev pub opening_state : Option Id → State
opening_state first =
    record { forest = record { spans = []; next = first }; last = None; failed = false }

-- the rows of a call, the forest with its new span and the printed marks that it made, and the last
-- span
pub record Turn : Type 0 where
  pub rows : List Row
  pub forest : Forest
  pub last : Option Id

-- no row, and nothing changes
abbrev pub quiet_turn : Forest → Option Id → Turn
quiet_turn forest last = record { rows = []; forest = forest; last = last }
