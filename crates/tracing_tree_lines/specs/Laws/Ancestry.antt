-- What is found in the text of a run's drawing.
use Rattle.std.specs.Prelude.{◌≡◌, ◌<◌, ◌||◌, ℕ, List, length, slice_get, Contains, IsSomeAnd, IsTrue, Option}
use Rattle.tracing_tree_drawing.specs.Format.Settings.{Settings, retraces}
use Rattle.tracing_tree_time.specs.Clock.{Timer}
use Rattle.tracing_tree_spans.specs.Registry.Forest.{path_of}
use Rattle.tracing_tree_base.specs.declared.context.Id.{Id}
use Rattle.tracing_tree_drawing.specs.Rows.Readable.{IsDrawing}
use Rattle.tracing_tree_drawing.specs.Rows.Paths.{place_at}
use Rattle.tracing_tree_layer.specs.Laws.Reading.{EventInRun, IsInCurrent, forest_at, opens_at, place_of, rows_of, run_is_on_path}
use Rattle.tracing_tree_layer.specs.Layered.State.{opening_state}
use Rattle.tracing_tree_layer.specs.declared.call.Call.{Call}
use Rattle.tracing_tree_drawing.specs.declared.rows.paths.EventPath.{EventPath}

module _ {settings : Settings} {timer : Timer} {first : Option Id} {calls : List Call} where
  -- Among the paths is the event's, with an entry for each span on the path to the span that it is
  -- in: the place of a row that opens exactly that span.
  pub record FindsAncestors (e : EventInRun settings timer first calls) (i : Id)
      (paths : List EventPath) : Type 0 where
    pub path : EventPath
    pub among : Contains paths path
    pub event : path.event ≡ place_of e
    pub counted : length path.ancestors ≡ length (path_of (forest_at e) i)
    pub shown : (level : ℕ) → level < length (path_of (forest_at e) i) →
        IsSomeAnd (place_at path.ancestors level)
        (λ place. IsSomeAnd (slice_get (rows_of settings timer first calls) place)
        (λ row. IsTrue (opens_at level row)
        × (row.span ≡ slice_get (path_of (forest_at e) i) level)))

-- The text is the readable drawing of a run that began empty, with `span_retrace` or
-- `deferred_spans`, and with `close_retrace` or no close off the current branch: the ancestors of
-- each event in its current span are found.
abbrev pub FindsInRuns : ℕ → List ℕ → List EventPath → Type 0
FindsInRuns amount text paths =
    (settings : Settings) (timer : Timer) (first : Option Id) (calls : List Call) →
    IsDrawing amount text settings (rows_of settings timer first calls) →
    IsTrue (retraces settings) →
    IsTrue (settings.close_retrace || run_is_on_path settings timer (opening_state first) calls) →
    (e : EventInRun settings timer first calls) (i : Id) → IsInCurrent e i →
    FindsAncestors e i paths
