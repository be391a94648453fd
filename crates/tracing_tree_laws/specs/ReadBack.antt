-- What is read back of a run from its text.
use Rattle.std.specs.Prelude.{◌≡◌, ◌&&◌, false, List, [], ◌∷◌, ◌++◌, Option, None, IsTrue}
use Rattle.tracing_tree_base.specs.declared.context.Id.{Id}
use Rattle.tracing_tree_drawing.specs.Format.Settings.{Settings, retraces}
use Rattle.tracing_tree_drawing.specs.Rows.Readable.{IsReadable}
use Rattle.tracing_tree_drawing.specs.declared.rows.paths.EventPath.{EventPath}
use Rattle.tracing_tree_layer.specs.Layer.Layers.{LayeredView}
use Rattle.tracing_tree_layer.specs.Laws.Reading.{EventInRun, IsInCurrent, rows_of}
use Rattle.tracing_tree_layer.specs.Layered.Refused.{cause_of}
use Rattle.tracing_tree_layer.specs.Layered.Run.{run}
use Rattle.tracing_tree_layer.specs.Layered.State.{opening_state}
use Rattle.tracing_tree_layer.specs.declared.call.Call.{Call}
use Rattle.tracing_tree_lines.specs.Laws.Ancestry.{FindsAncestors}
use Rattle.tracing_tree_time.specs.Clock.{Timer}

-- no span is live, there is no last span, and nothing has failed; the first id, if an id is left
pub record IsEmpty {W FT : Type 0} (first : Option Id) (layered : LayeredView W FT) : Type 0 where
  pub no_span : layered.forest ≡ record { spans = []; next = first }
  pub no_last : layered.layer.last ≡ None
  pub sound : layered.layer.failed ≡ false

-- each of these calls is accepted in the state to which those before it lead
abbrev pub AreAllAccepted : Settings → Timer → Option Id → List Call → Type 0
AreAllAccepted settings timer first calls =
    (before after : List Call) (call : Call) → calls ≡ before ++ call ∷ after →
    cause_of settings timer (run settings timer (opening_state first) before).state call ≡ None

-- If the rows of a run that began empty are readable, with `close_retrace`, and with `span_retrace`
-- or `deferred_spans`, the ancestors of each event in its current span are found.
abbrev pub FindsAll : Settings → Timer → Option Id → List Call → List EventPath → Type 0
FindsAll settings timer first calls paths =
    IsReadable settings (rows_of settings timer first calls) →
    IsTrue (settings.close_retrace && retraces settings) →
    (e : EventInRun settings timer first calls) (i : Id) → IsInCurrent e i →
    FindsAncestors e i paths
