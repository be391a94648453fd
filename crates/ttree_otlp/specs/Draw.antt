-- Rows in drawing order, as calls.
use Rattle.std.specs.Prelude.{ℕ, ◌-◌, ◌==◌, zero, suc, pos, ◌||◌, if◌then◌else◌, List, [], ◌∷◌, ◌++◌, length, Option, Some, None, codes, bytes_eq}
use Rattle.tracing_tree_base.specs.declared.context.Id.{Id}
use Rattle.tracing_tree_base.specs.declared.context.Moment.{Moment}
use Rattle.tracing_tree_base.specs.Field.{rendered_field, whole_field}
use Rattle.tracing_tree_base.specs.declared.field.Field.{Field}
use Rattle.tracing_tree_base.specs.declared.style.Level.TheVariants.{Info}
use Rattle.tracing_tree_spans.specs.Registry.Ids.{id_of}
use Rattle.tracing_tree_layer.specs.declared.call.Call.{Call}
use Rattle.ttree_source.specs.Counts.{one_more}
use Rattle.ttree_source.specs.Marks.{is_empty}
use Rattle.ttree_source.specs.Moments.{moment_at}
use Rattle.ttree_source.specs.Calls.{close_call, event_call, message_field, span_call}
use Rattle.ttree_source.specs.Length.{length_text}
use Rattle.ttree_otlp.specs.Cut.{sum_of}
use Rattle.ttree_otlp.specs.Read.{named_event_field}
use Rattle.ttree_otlp.specs.declared.draw.Frame.{Frame}
use Rattle.ttree_otlp.specs.declared.item.Item.{Item}
use Rattle.ttree_otlp.specs.declared.item.Note.{Note}
use Rattle.ttree_otlp.specs.declared.item.Shape.{Shape}
use Rattle.ttree_otlp.specs.declared.item.Shape.TheVariants.{Trace, Span as OfSpan, Note as OfNote, LeftOut}
use Rattle.ttree_otlp.specs.declared.item.Span.{Span}
use Rattle.ttree_otlp.specs.declared.walk.Row.{Row}

-- The id of the next span, the moment of the last row, the open spans with the innermost first, how
-- many spans were left out at the root, and the calls so far.
pub record TreeState : Type 0 where
  pub next : ℕ
  pub moment : Moment
  pub frames : List Frame
  pub left : ℕ
  pub calls : List Call

-- ---- what is open

abbrev pub row_call_emitted : Call → TreeState → TreeState
row_call_emitted call s = record s { calls = s.calls ++ call ∷ [] }

-- a row without a time happens when the row before it did
abbrev pub at_time : ℕ → TreeState → TreeState
at_time time s = if time == 0 then s else record s { moment = moment_at (pos time) }

abbrev pub id_on_top : List Frame → Option Id
id_on_top [] = None
id_on_top (frame ∷ below) = Some frame.id

abbrev pub service_on_top : List Frame → List ℕ
service_on_top [] = []
service_on_top (frame ∷ below) = frame.service

abbrev pub pushed : Frame → TreeState → TreeState
pushed frame s = record s { frames = frame ∷ s.frames }

-- a span opens in the innermost one
abbrev pub frame_opened : List ℕ → List Field → ℕ → List ℕ → TreeState → TreeState
frame_opened name fields end service s =
    let parent = id_on_top s.frames in
    pushed (record { id = id_of s.next; parent = parent; end = end; service = service; left = 0 })
    (record (row_call_emitted (span_call s.moment name fields parent) s) { next = one_more s.next })

-- ---- spans that are left out

-- these count as left out in the innermost span
abbrev pub left_counted_in : List Frame → ℕ → TreeState → TreeState
left_counted_in [] count s = record s { left = sum_of s.left count }
left_counted_in (frame ∷ below) count s =
    record s { frames = (record frame { left = sum_of frame.left count }) ∷ below }

abbrev pub left_counted : ℕ → TreeState → TreeState
left_counted count s = left_counted_in s.frames count s

-- how many were left out, if any
abbrev pub left_emitted : ℕ → Option Id → TreeState → TreeState
left_emitted count parent s =
    if count == 0 then s
    else row_call_emitted
    (event_call s.moment Info
    (message_field (codes "left out") ∷ whole_field (codes "spans") (pos count) ∷ []) parent) s

-- ---- rows

-- a service is shown if it isn't that of its parent
abbrev pub service_fields : List ℕ → List ℕ → List Field
service_fields current service =
    if is_empty service || bytes_eq service current then []
    else named_event_field (codes "service") service ∷ []

abbrev pub kind_text : ℕ → List ℕ
kind_text kind =
    if kind == 2 then codes "server"
    else if kind == 3 then codes "client"
    else if kind == 4 then codes "producer"
    else if kind == 5 then codes "consumer"
    else []

-- a field, unless it is empty
abbrev pub field_if : List ℕ → List ℕ → List Field
field_if name text = if is_empty text then [] else named_event_field name text ∷ []

-- the parent of a span that isn't nested in one
abbrev pub parent_fields : List ℕ → List ℕ → List Field
parent_fields nested_in parent = if is_empty nested_in then field_if (codes "parent") parent else []

abbrev pub time_field : ℕ → Field
time_field nanoseconds = rendered_field (codes "time") (length_text nanoseconds)

-- how long a span took, if it has ended
abbrev pub time_fields : ℕ → ℕ → List Field
time_fields start end = if end == 0 then [] else time_field (end - start) ∷ []

-- what the row of a span shows before its attributes
abbrev pub leading_fields : List Field → List Field → List Field → ℕ → List Field
leading_fields service time parent kind =
    ((service ++ time) ++ parent) ++ field_if (codes "kind") (kind_text kind)

-- a span opens in the innermost one; one that isn't nested in a span of the input shows its parent
abbrev pub input_span_shown : List ℕ → ℕ → Span → TreeState → TreeState
input_span_shown nested_in start span s =
    let fields =
    leading_fields (service_fields (service_on_top s.frames) span.service)
    (time_fields start span.end)
    (parent_fields nested_in span.parent) span.kind in
    frame_opened span.name (fields ++ span.fields) span.end span.service s

abbrev pub trace_shown : List ℕ → TreeState → TreeState
trace_shown id s = frame_opened (codes "trace") (named_event_field (codes "id") id ∷ []) 0 [] s

abbrev pub note_fields : Note → List ℕ → List Field
note_fields note service =
    (note.message ++ service_fields service note.service) ++ note.fields

abbrev pub note_shown : Note → TreeState → TreeState
note_shown note s =
    row_call_emitted (event_call s.moment note.level (note_fields note (service_on_top s.frames))
    (id_on_top s.frames)) s

abbrev pub row_shown_as : Shape → Item → TreeState → TreeState
row_shown_as (Trace id) item s = trace_shown id s
row_shown_as (OfSpan span) item s = input_span_shown item.parent item.time span s
row_shown_as (OfNote note) item s = note_shown note s
row_shown_as (LeftOut count) item s = left_counted count s

abbrev pub row_shown : Item → TreeState → TreeState
row_shown item s = row_shown_as item.shape item (at_time item.time s)

-- ---- the drawing

-- A span closes at its end. One that hasn't ended, and a trace, close when their last row does.
abbrev pub frame_closed : Frame → TreeState → TreeState
frame_closed frame s =
    let ended = left_emitted frame.left (Some frame.id) (at_time frame.end s) in
    row_call_emitted (close_call ended.moment frame.id frame.parent) ended

abbrev pub closed_as : List Frame → TreeState → TreeState
closed_as [] s = s
closed_as (frame ∷ below) s = frame_closed frame (record s { frames = below })

abbrev pub closed_one : TreeState → TreeState
closed_one s = closed_as s.frames s

abbrev pub closed_times : ℕ → TreeState → TreeState
closed_times zero s = s
closed_times (suc n) s = closed_one (closed_times n s)

-- spans close until this many are open
abbrev pub closed_to : ℕ → TreeState → TreeState
closed_to depth s = closed_times (length s.frames - depth) s

-- the spans that a row isn't nested in close before it
abbrev pub row_drawn : Row → TreeState → TreeState
row_drawn row s = row_shown row.item (closed_to row.depth s)

abbrev pub rows_drawn : List Row → TreeState → TreeState
rows_drawn [] s = s
rows_drawn (row ∷ others) s = rows_drawn others (row_drawn row s)

abbrev pub begun_tree : ℕ → Moment → TreeState
begun_tree next moment =
    record { next = next; moment = moment; frames = []; left = 0; calls = [] }

-- all that is open closes, and what was left out at the root is counted last
abbrev pub rows_finished : TreeState → TreeState
rows_finished s = let closed = closed_to 0 s in left_emitted closed.left None closed

-- the calls that draw rows
abbrev pub calls_of_rows : ℕ → Moment → List Row → List Call
calls_of_rows next moment rows = (rows_finished (rows_drawn rows (begun_tree next moment))).calls
