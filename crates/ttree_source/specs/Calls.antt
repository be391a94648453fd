-- The calls of a source: each names the span that it is in as its current span.
use Rattle.std.specs.Prelude.{ℕ, ◌==◌, ◌||◌, ◌&&◌, nat_lt, nat_le, Bool, false, if◌then◌else◌, List, [], ◌++◌, flat_map, map, Option, Some, None, codes}
use Rattle.std.specs.Char.{encode_utf8}
use Rattle.std.specs.Fmt.{digits}
use Rattle.std.specs.Str.{chars}
use Rattle.tracing_tree_base.specs.declared.context.Id.{Id}
use Rattle.tracing_tree_base.specs.declared.context.Moment.{Moment}
use Rattle.tracing_tree_base.specs.declared.context.Context.{Context}
use Rattle.tracing_tree_base.specs.declared.field.Field.{Field}
use Rattle.tracing_tree_base.specs.declared.style.Level.{Level}
use Rattle.tracing_tree_spans.specs.declared.registry.Parent.TheVariants.{Current}
use Rattle.tracing_tree_layer.specs.declared.call.Call.{Call}
use Rattle.tracing_tree_layer.specs.declared.call.Call.TheVariants.{New, Clone, Record, Event, Close}

abbrev pub context_at : Moment → Option Id → Context
context_at moment current = record {
  current = current;
  thread_id = 1;
  thread_name = None;
  moment = moment;
}

-- A character that is shown by its code: a control character, except a tab and a line end.
abbrev pub is_escaped : ℕ → Bool
is_escaped c =
    if (c == 9) || (c == 10) then false else nat_lt c 32 || (nat_le 127 c && nat_le c 159)

-- a byte that isn't a printable character of ASCII
abbrev pub is_unprintable : ℕ → Bool
is_unprintable byte = nat_lt byte 32 || nat_lt 126 byte

abbrev pub shown_char : ℕ → List ℕ
shown_char c =
    if is_escaped c then codes "\\u{" ++ digits 16 false c ++ codes "}" else encode_utf8 c

-- A string in the form that is drawn.
abbrev pub shown_text : List ℕ → List ℕ
shown_text text = flat_map shown_char (chars text)

abbrev pub span_call : Moment → List ℕ → List Field → Option Id → Call
span_call moment name fields parent =
    New (record { name = shown_text name; target = []; parent = Current; fields = fields })
    (context_at moment parent)

abbrev pub message_field : List ℕ → Field
message_field text = record { name = codes "message"; value = shown_text text }

abbrev pub event_call : Moment → Level → List Field → Option Id → Call
event_call moment level fields parent =
    Event (record { level = level; target = []; parent = Current; fields = fields })
    (context_at moment parent)

abbrev pub close_call : Moment → Id → Option Id → Call
close_call moment id parent = Close id (context_at moment parent)

abbrev pub record_call : Id → List Field → Call
record_call id fields = Record id (record { fields = fields })

-- a call on the thread of this name
abbrev pub on_thread : List ℕ → Call → Call
on_thread name (New attributes context) = New attributes (record context {
  thread_name = Some name;
})
on_thread name (Event event context) = Event event (record context { thread_name = Some name })
on_thread name (Close id context) = Close id (record context { thread_name = Some name })
on_thread name (Clone id) = Clone id
on_thread name (Record id record_of_it) = Record id record_of_it

-- these calls on the thread of this name, if it has one
abbrev pub all_on_thread : Option (List ℕ) → List Call → List Call
all_on_thread (Some name) calls = map (on_thread name) calls
all_on_thread None calls = calls
