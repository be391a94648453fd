-- The events of calls, each with the name of the span that it is in.
use Rattle.std.specs.Prelude.{ℕ, ◌==◌, if◌then◌else◌, List, [], ◌∷◌, ◌++◌, Option, Some, None}
use Rattle.tracing_tree_base.specs.declared.context.Id.{Id}
use Rattle.tracing_tree_base.specs.declared.field.Field.{Field}
use Rattle.tracing_tree_base.specs.declared.style.Level.{Level}
use Rattle.tracing_tree_spans.specs.Registry.Ids.{id_of}
use Rattle.tracing_tree_layer.specs.declared.call.Call.{Call}
use Rattle.tracing_tree_layer.specs.declared.call.Call.TheVariants.{New, Clone, Record, Event, Close}
use Rattle.ttree_source.specs.Counts.{one_more}

-- an event: its level, its fields with the message first, and the name of its span
pub record Row : Type 0 where
  pub level : Level
  pub fields : List Field
  pub inside : Option (List ℕ)

pub record OpenSpan : Type 0 where
  pub id : Id
  pub name : List ℕ

abbrev pub name_of : Option Id → List OpenSpan → Option (List ℕ)
name_of None spans = None
name_of (Some id) [] = None
name_of (Some id) (span ∷ others) =
    if span.id.0 == id.0 then Some span.name else name_of (Some id) others

-- the events so far, the open spans with the innermost first, and the number of the next span
pub record Seen : Type 0 where
  pub rows : List Row
  pub spans : List OpenSpan
  pub next : ℕ

abbrev pub without_first : List OpenSpan → List OpenSpan
without_first [] = []
without_first (span ∷ others) = others

-- a span is named until it closes; each closes after the spans in it
abbrev pub call_seen : Call → Seen → Seen
call_seen (New attributes context) seen = record seen {
  spans = record { id = id_of seen.next; name = attributes.name } ∷ seen.spans;
  next = one_more seen.next;
}
call_seen (Clone id) seen = seen
call_seen (Record id fields) seen = seen
call_seen (Event event context) seen = record seen {
  rows = seen.rows ++ (record {
    level = event.level;
    fields = event.fields;
    inside = name_of context.current seen.spans;
  }) ∷ [];
}
call_seen (Close id context) seen = record seen { spans = without_first seen.spans }

abbrev pub calls_seen : List Call → Seen → Seen
calls_seen [] seen = seen
calls_seen (call ∷ calls) seen = calls_seen calls (call_seen call seen)

abbrev pub nothing_seen : ℕ → Seen
nothing_seen next = record { rows = []; spans = []; next = next }

-- the events of calls, the first of whose spans has this number
abbrev pub rows_of : ℕ → List Call → List Row
rows_of next calls = (calls_seen calls (nothing_seen next)).rows
