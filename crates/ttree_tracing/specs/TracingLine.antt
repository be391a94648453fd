-- What one line of tracing's JSON means.
use Rattle.std.specs.Prelude.{ℕ, ◌-◌, ◌==◌, ◌&&◌, ◌||◌, Bool, true, false, not, if◌then◌else◌, List, [], ◌∷◌, ◌++◌, length, take, slice_get, Option, Some, None, is_none, is_some, unwrap_or, option_map, codes, bytes_eq}
use Rattle.std.specs.List.{ends_with, list_any}
use Rattle.json.specs.Json.{Json, Items, no_items, item}
use Rattle.json.specs.Find.{get, as_object}
use Rattle.tracing_tree_base.specs.Equal.{field_eq, fields_eq}
use Rattle.tracing_tree_base.specs.declared.field.Field.{Field}
use Rattle.ttree_source.specs.Marks.{after_mark}
use Rattle.ttree_source.specs.Fields.{fields_besides, object_fields}
use Rattle.ttree_source.specs.Values.{array_at, text_at}
use Rattle.ttree_source.specs.Calls.{shown_text}
use Rattle.ttree_tracing.specs.declared.tracing.line.Listed.{Listed}
use Rattle.ttree_tracing.specs.declared.tracing.line.Kind.{Kind}
use Rattle.ttree_tracing.specs.declared.tracing.line.Kind.TheVariants.{Event as AnEvent, New, Enter, Exit, Close}

-- ---- values and fields

-- the keys of a line other than its event's fields
abbrev pub line_keys : List (List ℕ)
line_keys =
    codes "timestamp" ∷ codes "level" ∷ codes "target" ∷ codes "filename" ∷ codes "line_number"
    ∷ codes "span" ∷ codes "spans" ∷ codes "threadId" ∷ codes "threadName" ∷ []

abbrev pub object_at : List ℕ → Json → Option Json
object_at key value = if_object (get key value) where
  if_object : Option Json → Option Json
  if_object None = None
  if_object (Some found) = if is_some (as_object found) then Some found else None

-- the fields of a line's event: those at `fields`, otherwise all but the line's own keys
abbrev pub line_fields : Json → List Field
line_fields value = at_fields (object_at (codes "fields") value) where
  at_fields : Option Json → List Field
  at_fields (Some fields) = object_fields fields
  at_fields None = fields_besides line_keys value

-- the thread of a line, or an empty string if the line doesn't name it
abbrev pub thread_in : Json → List ℕ
thread_in value =
    unwrap_or (text_at (codes "threadId") value)
    (unwrap_or (text_at (codes "threadName") value) [])

-- a thread's number, without the words that Rust writes with it
abbrev pub bare_thread : List ℕ → List ℕ
bare_thread text = inside (after_mark (codes "ThreadId(") text) where
  inside : Option (List ℕ) → List ℕ
  inside (Some rest) = if ends_with (λ a b. a == b) rest (codes ")") then take (length rest - 1)
      rest else text
  inside None = text

-- how a thread is shown: its number and its name, as far as the line has them
abbrev pub thread_label : Option (List ℕ) → Option (List ℕ) → Option (List ℕ)
thread_label (Some id) (Some name) = Some (shown_text (bare_thread id ++ codes ":" ++ name))
thread_label (Some id) None = Some (shown_text (bare_thread id))
thread_label None (Some name) = Some (shown_text name)
thread_label None None = None

-- how the thread of a line is shown
abbrev pub label_in : Json → Option (List ℕ)
label_in value = thread_label (text_at (codes "threadId") value) (text_at (codes "threadName")
    value)

-- ---- spans

abbrev pub listed_of : Json → Listed
listed_of value = record {
  name = unwrap_or (text_at (codes "name") value) [];
  fields = fields_besides (codes "name" ∷ []) value;
}

abbrev pub items_listed : Items → List Listed
items_listed no_items = []
items_listed (item value others) = listed_of value ∷ items_listed others

-- the current span of a line
abbrev pub listed_span : Json → Option Listed
listed_span value = option_map listed_of (object_at (codes "span") value)

-- the spans that a line lists, the root first
abbrev pub spans_in : Json → Option (List Listed)
spans_in value = option_map items_listed (array_at (codes "spans") value)

abbrev pub lists_same : Listed → Listed → Bool
lists_same one other = bytes_eq one.name other.name && fields_eq one.fields other.fields

-- each of the first fields is among the second
abbrev pub fields_within : List Field → List Field → Bool
fields_within [] fields = true
fields_within (field ∷ others) fields =
    list_any (λ f. field_eq f field) fields && fields_within others fields

-- an entry may be the span first listed as the other: a field may be new, and no field was removed
abbrev pub may_be : Listed → Listed → Bool
may_be entry first =
    bytes_eq entry.name first.name && fields_within first.fields entry.fields

abbrev pub is_last : Option Listed → Listed → Bool
is_last None span = false
is_last (Some last) span = lists_same last span

-- the current span is the last of those that are listed
abbrev pub is_current : Json → Bool
is_current value = among (listed_span value) (spans_in value) where
  among : Option Listed → Option (List Listed) → Bool
  among (Some span) (Some spans) = is_last (slice_get spans (length spans - 1)) span
  among (Some span) None = false
  among None spans = false

abbrev pub names_span : Json → Bool
names_span value =
    is_some (object_at (codes "span") value) || is_some (array_at (codes "spans") value)

-- ---- kinds of lines

abbrev pub is_message_with : Field → List ℕ → Bool
is_message_with field text = bytes_eq field.name (codes "message") && bytes_eq field.value text

-- the fields of the event that reports a close
abbrev pub is_timed_close : List Field → Bool
is_timed_close (message ∷ busy ∷ idle ∷ []) =
    is_message_with message (codes "close") && bytes_eq busy.name (codes "time.busy")
    && bytes_eq idle.name (codes "time.idle")
is_timed_close _ = false

abbrev pub kind_of_message : Field → Bool → Kind
kind_of_message message current =
    if is_message_with message (codes "enter") then Enter
    else if current then AnEvent
    else if is_message_with message (codes "new") then New
    else if is_message_with message (codes "exit") then Exit
    else if is_message_with message (codes "close") then Close
    else AnEvent

abbrev pub kind_by_message : List Field → Bool → Kind
kind_by_message (message ∷ []) current = kind_of_message message current
kind_by_message _ current = AnEvent

-- What a line means, by its event's fields. If the current span is the last one listed, the span
-- that opens, closes or is left isn't named, so the line is an event of the current span.
abbrev pub line_kind : List Field → Json → Kind
line_kind fields value =
    if not (names_span value) then AnEvent
    else if is_timed_close fields then Close
    else kind_by_message fields (is_current value)

-- the spans that a line is in, the root first: those that are listed, otherwise the current one
abbrev pub path_in : Kind → Json → List Listed
path_in kind value = listed_or_current (spans_in value) where
  current : Kind → Option Listed → List Listed
  current AnEvent (Some span) = span ∷ []
  current Enter (Some span) = span ∷ []
  current _ _ = []

  listed_or_current : Option (List Listed) → List Listed
  listed_or_current (Some spans) = spans
  listed_or_current None = current kind (listed_span value)

-- the current span, if spans are listed and it isn't the last of them
abbrev pub other_parent : Json → Option Listed
other_parent value =
    if is_none (array_at (codes "spans") value) || is_current value then None else listed_span value

-- the span that an event names as its parent
abbrev pub parent_in : Kind → Json → Option Listed
parent_in AnEvent value = other_parent value
parent_in New value = None
parent_in Enter value = None
parent_in Exit value = None
parent_in Close value = None
