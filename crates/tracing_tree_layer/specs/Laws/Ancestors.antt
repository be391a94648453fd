-- What the drawing of a run shows of the spans that an event is in.
use Rattle.std.specs.Prelude.{◌≡◌, ℕ, ◌<◌, List, length, slice_get, Option, IsSomeAnd, IsTrue}
use Rattle.tracing_tree_drawing.specs.Format.Settings.{Settings}
use Rattle.tracing_tree_drawing.specs.Rows.RowText.{ancestor_at}
use Rattle.tracing_tree_drawing.specs.Rows.Readable.{text_rows}
use Rattle.tracing_tree_time.specs.Clock.{Timer}
use Rattle.tracing_tree_spans.specs.Registry.Forest.{path_of}
use Rattle.tracing_tree_base.specs.declared.context.Id.{Id}
use Rattle.tracing_tree_layer.specs.Laws.Reading.{EventInRun, IsInCurrent, forest_at, opens_at, place_of, rows_of}
use Rattle.tracing_tree_layer.specs.declared.call.Call.{Call}

-- For an event in its current span the drawing shows, at each level, the place of a row that opens
-- the span which the path has at that level.
abbrev pub AncestorsLaw : Settings → Timer → Option Id → List Call → Type 0
AncestorsLaw settings timer first calls =
    (e : EventInRun settings timer first calls) (i : Id) → IsInCurrent e i → (level : ℕ) →
    level < length (path_of (forest_at e) i) →
    IsSomeAnd (ancestor_at (text_rows (rows_of settings timer first calls)) (place_of e) level)
    (λ place. IsSomeAnd (slice_get (rows_of settings timer first calls) place)
    (λ row. IsTrue (opens_at level row) × (row.span ≡ slice_get (path_of (forest_at e) i) level)))
