-- The strings of labels, fields and prefixes.
use Rattle.std.specs.Prelude.{ℕ, ◌||◌, nat_eq, Bool, true, false, not, if◌then◌else◌, List, [], ◌∷◌, ◌++◌, map, filter, Option, Some, None, decimal, codes, bytes_eq}
use Rattle.std.specs.List.{join_by, starts_with}
use Rattle.tracing_tree_base.specs.declared.context.Context.{Context}
use Rattle.tracing_tree_base.specs.declared.field.Field.{Field}
use Rattle.tracing_tree_drawing.specs.Format.Settings.{Settings}
use Rattle.tracing_tree_drawing.specs.declared.format.SpanMode.{SpanMode}
use Rattle.tracing_tree_drawing.specs.declared.format.SpanMode.TheVariants.{PreOpen, Open, Close, Retrace, PostClose, Event}

-- ---- labels

abbrev pub label : SpanMode → List ℕ
label PreOpen = codes "pre_open: "
label (Open false) = codes "open: "
label (Open true) = codes "open(v): "
label (Close false) = codes "close: "
label (Close true) = codes "close(v): "
label (Retrace false) = codes "retrace: "
label (Retrace true) = codes "retrace(v): "
label PostClose = codes "post_close: "
label Event = codes "event: "

-- ---- fields

-- `name=value`
abbrev pub named_value : Field → List ℕ
named_value field = field.name ++ 61 ∷ field.value

abbrev pub is_message : Field → Bool
is_message field = bytes_eq field.name (codes "message")

-- a message shows only its value
abbrev pub shown_field : Field → List ℕ
shown_field field = if is_message field then field.value else named_value field

-- the fields of a span: a message shows only its value, but only in the first place
abbrev pub span_fields : List Field → List ℕ
span_fields [] = []
span_fields (first ∷ others) =
    join_by (λ piece. piece) (codes ", ") (shown_field first ∷ map named_value others)

-- a field whose name begins with `log.` belongs to a log record, and an event doesn't show it
abbrev pub is_log_field : Field → Bool
is_log_field field = starts_with nat_eq field.name (codes "log.")

-- one field of an event, with a comma if another field precedes it
abbrev pub event_field : Bool → Field → List ℕ
event_field comma field =
    if is_log_field field then [] else (if comma then codes "," else []) ++ 32 ∷ shown_field field

-- whether a comma precedes the field after this one
abbrev pub comma_after : Bool → Field → Bool
comma_after comma field = comma || not (is_log_field field)

-- a space and the fields, or nothing if there are no fields
abbrev pub spaced_fields : List Field → List ℕ
spaced_fields [] = []
spaced_fields (first ∷ others) =
    32 ∷ join_by (λ piece. piece) (codes ", ") (shown_field first ∷ map shown_field others)

-- the fields of an event
abbrev pub event_fields : List Field → List ℕ
event_fields fields = spaced_fields (filter (λ field. not (is_log_field field)) fields)

-- ---- prefixes

-- the thread's name, after a colon if its number precedes it
abbrev pub thread_name_text : Bool → Option (List ℕ) → List ℕ
thread_name_text numbered None = []
thread_name_text numbered (Some name) = (if numbered then codes ":" else []) ++ name

-- what each line of a call's rows begins with
abbrev pub prefix_text : Settings → Context → List ℕ
prefix_text settings context =
    (if settings.render_thread_ids then decimal context.thread_id else [])
    ++ (if settings.render_thread_names then thread_name_text settings.render_thread_ids
    context.thread_name else [])
