-- What the lines of an input say together: rows, and the span of each.
use Rattle.std.specs.Prelude.{ℕ, ◌-◌, ◌^◌, ◌==◌, min, Bool, not, ◌||◌, ◌&&◌, if◌then◌else◌, List, [], ◌∷◌, ◌++◌, length, Option, Some, None, is_some, codes}
use Rattle.std.specs.Ordering.{nat_cmp, ordering_then}
use Rattle.std.specs.declared.cmp.Ordering.{Ordering}
use Rattle.std.specs.Str.Lines.{lines}
use Rattle.json.specs.Json.{Json, Items, no_items, item, document}
use Rattle.json.specs.Find.{as_object, get}
use Rattle.ttree_source.specs.Blanks.{first_byte}
use Rattle.ttree_source.specs.Counts.{one_more}
use Rattle.ttree_source.specs.Marks.{is_empty}
use Rattle.ttree_otlp.specs.Item.{parent_of, event_note, failed_note, has_body, id_number, link_note, log_note, log_time, span_read, unfinished_note}
use Rattle.ttree_otlp.specs.Keyed.{key_of, kept_at, with_kept}
use Rattle.ttree_otlp.specs.Named.{status_is_error}
use Rattle.ttree_otlp.specs.Read.{count_at, id_at, items_at, service_in}
use Rattle.ttree_otlp.specs.declared.item.Item.{Item}
use Rattle.ttree_otlp.specs.declared.item.Place.{Place}
use Rattle.ttree_otlp.specs.declared.item.Shape.{Shape}
use Rattle.ttree_otlp.specs.declared.item.Shape.TheVariants.{Trace, Span, Note, LeftOut}

-- The number of the last line, the service whose resource was read last, the rows, the traces and
-- spans that there are, and the lines of what was skipped.
pub record GatheredState : Type 0 where
  pub line : ℕ
  pub service : List ℕ
  pub items : List Item
  pub known : List (List ℕ × ℕ)
  pub problems : List ℕ

abbrev pub nothing_gathered : GatheredState
nothing_gathered = record { line = 0; service = []; items = []; known = []; problems = [] }

-- ---- rows

-- an event or a log comes before a span that starts at the same time
abbrev pub rank_of : Shape → ℕ
rank_of (Trace id) = 1
rank_of (Span span) = 1
rank_of (Note note) = 0
rank_of (LeftOut count) = 0

abbrev pub number_in : Shape → ℕ
number_in (Trace id) = id_number id
number_in (Span span) = id_number span.id
number_in (Note note) = 0
number_in (LeftOut count) = 0

abbrev pub row_place : ℕ → Shape → ℕ → Place
row_place order shape index =
    record { time = order; rank = rank_of shape; number = number_in shape; index = index }

-- one row more, nested in this span of this trace
abbrev pub row_gathered : List ℕ → List ℕ → ℕ → ℕ → Shape → GatheredState → GatheredState
row_gathered trace parent order time shape s = record s {
  items = s.items ++ (record {
    trace = trace;
    parent = parent;
    place = row_place order shape (length s.items);
    time = time;
    shape = shape;
  }) ∷ [];
}

abbrev pub note_known : List ℕ → ℕ → GatheredState → GatheredState
note_known key time s = record s { known = with_kept key time s.known }

abbrev pub trace_seen_as : Option ℕ → List ℕ → ℕ → GatheredState → GatheredState
trace_seen_as (Some earliest) trace time s = note_known (key_of trace []) (min earliest time) s
trace_seen_as None trace time s =
    row_gathered [] [] time time (Trace trace) (note_known (key_of trace []) time s)

-- something happened in a trace at a time; the trace is a row at the root
abbrev pub trace_seen : List ℕ → ℕ → GatheredState → GatheredState
trace_seen trace time s = trace_seen_as (kept_at (key_of trace []) s.known) trace time s

-- ---- spans

-- links come first in a span
abbrev pub links_taken : List ℕ → List ℕ → ℕ → Items → GatheredState → GatheredState
links_taken trace span time no_items s = s
links_taken trace span time (item value others) s =
    links_taken trace span time others
    (row_gathered trace span 0 time (Note (link_note s.service value))
    s)

abbrev pub event_taken : List ℕ → List ℕ → Json → GatheredState → GatheredState
event_taken trace span value s =
    let time = count_at (codes "timeUnixNano") value in
    row_gathered trace span time time (Note (event_note s.service value)) s

abbrev pub events_taken : List ℕ → List ℕ → Items → GatheredState → GatheredState
events_taken trace span no_items s = s
events_taken trace span (item value others) s =
    events_taken trace span others (event_taken trace span value s)

-- a span without an end is unfinished
abbrev pub end_taken : List ℕ → List ℕ → ℕ → GatheredState → GatheredState
end_taken trace span end s =
    if end == 0 then row_gathered trace span (2 ^ 64 - 1) 0
    (Note (unfinished_note s.service)) s else s

-- a failure comes last in a span
abbrev pub status_taken : List ℕ → List ℕ → ℕ → Option Json → GatheredState → GatheredState
status_taken trace span end None s = s
status_taken trace span end (Some status) s =
    if status_is_error status
    then row_gathered trace span (2 ^ 64 - 1) end (Note (failed_note s.service status)) s else s

-- a span without an id, or without that of its trace, is skipped
abbrev pub lost : GatheredState → GatheredState
lost s = record s { problems = s.problems ++ s.line ∷ [] }

-- a span's links, events, end and failure
abbrev pub notes_taken : List ℕ → List ℕ → Json → GatheredState → GatheredState
notes_taken trace span value s =
    status_taken trace span (count_at (codes "endTimeUnixNano") value) (get (codes "status") value)
    (end_taken trace span (count_at (codes "endTimeUnixNano") value)
    (events_taken trace span (items_at (codes "events") value)
    (links_taken trace span (count_at (codes "startTimeUnixNano") value)
    (items_at (codes "links") value) s)))

-- a span of this id and trace, with what is in it
abbrev pub span_added : List ℕ → List ℕ → Json → GatheredState → GatheredState
span_added trace id value s =
    let start = count_at (codes "startTimeUnixNano") value in
    row_gathered trace (parent_of id (id_at (codes "parentSpanId") value)) start start
    (Span (span_read s.service value))
    (notes_taken trace id value (note_known (key_of trace id) start (trace_seen trace start s)))

abbrev pub span_taken : Json → GatheredState → GatheredState
span_taken value s =
    if is_empty (id_at (codes "traceId") value) || is_empty (id_at (codes "spanId") value) then
    lost s
    else span_added (id_at (codes "traceId") value) (id_at (codes "spanId") value) value s

abbrev pub spans_taken : Items → GatheredState → GatheredState
spans_taken no_items s = s
spans_taken (item value others) s = spans_taken others (span_taken value s)

-- ---- logs

abbrev pub log_added : List ℕ → List ℕ → Json → GatheredState → GatheredState
log_added trace span value s =
    row_gathered trace span (log_time value) (log_time value) (Note (log_note s.service value)) s

-- a log without a trace is at the root
abbrev pub log_taken : Json → GatheredState → GatheredState
log_taken value s =
    if is_empty (id_at (codes "traceId") value) then log_added [] [] value s
    else log_added (id_at (codes "traceId") value) (id_at (codes "spanId") value) value
    (trace_seen (id_at (codes "traceId") value) (log_time value) s)

abbrev pub logs_taken : Items → GatheredState → GatheredState
logs_taken no_items s = s
logs_taken (item value others) s = logs_taken others (log_taken value s)

-- ---- scopes, resources and lines

abbrev pub scope_taken : Json → GatheredState → GatheredState
scope_taken value s =
    logs_taken (items_at (codes "logRecords") value) (spans_taken (items_at (codes "spans") value)
    s)

abbrev pub scopes_taken : Items → GatheredState → GatheredState
scopes_taken no_items s = s
scopes_taken (item value others) s = scopes_taken others (scope_taken value s)

abbrev pub of_service : List ℕ → GatheredState → GatheredState
of_service service s = record s { service = service }

-- a resource's scopes, at the keys of today and of older writers
abbrev pub resource_taken : Json → GatheredState → GatheredState
resource_taken value s =
    scopes_taken (items_at (codes "instrumentationLibraryLogs") value)
    (scopes_taken (items_at (codes "scopeLogs") value)
    (scopes_taken (items_at (codes "instrumentationLibrarySpans") value)
    (scopes_taken (items_at (codes "scopeSpans") value) (of_service (service_in value) s))))

abbrev pub resources_taken : Items → GatheredState → GatheredState
resources_taken no_items s = s
resources_taken (item value others) s = resources_taken others (resource_taken value s)

abbrev pub object_taken : Json → GatheredState → GatheredState
object_taken value s =
    resources_taken (items_at (codes "resourceLogs") value)
    (resources_taken (items_at (codes "resourceSpans") value) s)

abbrev pub has_key : List ℕ → Json → Bool
has_key key value = is_some (get key value)

-- an object of OTLP has one of these keys, or none at all
abbrev pub is_export : Json → Bool
is_export value =
    is_some (as_object value)
    && ((((not (has_body value) || has_key (codes "resourceSpans") value)
    || has_key (codes "resourceLogs") value) || has_key (codes "resourceMetrics") value)
    || has_key (codes "resourceProfiles") value)

-- what isn't an object of OTLP is skipped
abbrev pub value_taken : Option Json → GatheredState → GatheredState
value_taken None s = lost s
value_taken (Some value) s = if is_export value then object_taken value s else lost s

abbrev pub next_line : GatheredState → GatheredState
next_line s = record s { line = one_more s.line }

abbrev pub line_taken_as : Option ℕ → List ℕ → GatheredState → GatheredState
line_taken_as None line s = s
line_taken_as (Some byte) line s = value_taken (document line) s

-- a blank line says nothing
abbrev pub otlp_line_taken : List ℕ → GatheredState → GatheredState
otlp_line_taken line s = line_taken_as (first_byte line) line (next_line s)

abbrev pub lines_taken : List (List ℕ) → GatheredState → GatheredState
lines_taken [] s = s
lines_taken (line ∷ others) s = lines_taken others (otlp_line_taken line s)

-- an input that is one value; any other leaves what was gathered unchanged
abbrev pub whole_taken : Option Json → GatheredState → GatheredState
whole_taken (Some value) s = value_taken (Some value) (next_line s)
whole_taken None s = s

abbrev pub text_taken_as : Option Json → List ℕ → GatheredState → GatheredState
text_taken_as (Some value) text s = whole_taken (Some value) s
text_taken_as None text s = lines_taken (lines text) s

-- an input is one value, which may take several lines; otherwise each line is a value
abbrev pub gathered_in : List ℕ → GatheredState
gathered_in text = text_taken_as (document text) text nothing_gathered

-- ---- the spans in which rows are nested

abbrev pub at_earliest : Option ℕ → Item → Item
at_earliest (Some time) row = record row { time = time; place = record row.place { time = time } }
at_earliest None row = row

abbrev pub in_known_span : Option ℕ → Item → Item
in_known_span (Some time) row = row
in_known_span None row = record row { parent = [] }

abbrev pub resolved_as : Shape → List (List ℕ × ℕ) → Item → Item
resolved_as (Trace id) known row = at_earliest (kept_at (key_of id []) known) row
resolved_as (Span span) known row = in_known_span (kept_at (key_of row.trace row.parent) known) row
resolved_as (Note note) known row = in_known_span (kept_at (key_of row.trace row.parent) known) row
resolved_as (LeftOut count) known row =
    in_known_span (kept_at (key_of row.trace row.parent) known) row

-- A trace is a row at its earliest time. A row whose span is unknown is nested in the trace.
abbrev pub resolved : List (List ℕ × ℕ) → Item → Item
resolved known row = resolved_as row.shape known row

-- by the time, events and logs first, by the id, and then in their order
abbrev pub item_cmp : Item → Item → Ordering
item_cmp a b =
    ordering_then
    (ordering_then
    (ordering_then (nat_cmp a.place.time b.place.time) (nat_cmp a.place.rank b.place.rank))
    (nat_cmp a.place.number b.place.number))
    (nat_cmp a.place.index b.place.index)
