-- What a span, its links, its events and its status, and a log mean.
use Rattle.std.specs.Prelude.{ℕ, ◌+◌, ◌-◌, ◌*◌, ◌%◌, ◌^◌, ◌==◌, nat_le, Bool, true, false, ◌&&◌, if◌then◌else◌, List, [], ◌∷◌, Option, Some, None, codes, bytes_eq}
use Rattle.json.specs.Json.{Json, null, boolean, number, string, array, object, Members, no_members, member}
use Rattle.json.specs.Find.{get}
use Rattle.tracing_tree_base.specs.declared.field.Field.{Field}
use Rattle.tracing_tree_base.specs.declared.style.Level.{Level}
use Rattle.tracing_tree_base.specs.declared.style.Level.TheVariants.{Info, Warn, Error}
use Rattle.ttree_source.specs.Marks.{is_empty}
use Rattle.ttree_source.specs.Calls.{message_field}
use Rattle.ttree_otlp.specs.AnyValue.{any_text}
use Rattle.ttree_otlp.specs.Named.{kind_at, level_at}
use Rattle.ttree_otlp.specs.Read.{attributes_in, count_at, id_at, named_event_field, string_at}
use Rattle.ttree_otlp.specs.declared.item.Note.{Note}
use Rattle.ttree_otlp.specs.declared.item.Span.{Span}

-- ---- events and logs

-- the time of a log: when it happened, otherwise when it was observed
abbrev pub log_time : Json → ℕ
log_time value =
    if count_at (codes "timeUnixNano") value == 0
    then count_at (codes "observedTimeUnixNano") value else count_at (codes "timeUnixNano") value

abbrev pub has_members : Members → Bool
has_members no_members = false
has_members (member _ _ _) = true

-- null and an empty object aren't messages
abbrev pub has_body : Json → Bool
has_body null = false
has_body (boolean _) = true
has_body (number _) = true
has_body (string _) = true
has_body (array _) = true
has_body (object members) = has_members members

abbrev pub body_fields : Option Json → List Field
body_fields (Some body) = if has_body body then message_field (any_text body) ∷ [] else []
body_fields None = []

abbrev pub log_note : List ℕ → Json → Note
log_note service value = record {
  level = level_at value;
  message = body_fields (get (codes "body") value);
  service = service;
  fields = attributes_in true value;
}

-- an event called `exception` is an error
abbrev pub event_level : List ℕ → Level
event_level name = if bytes_eq name (codes "exception") then Error else Info

abbrev pub event_note : List ℕ → Json → Note
event_note service value = record {
  level = event_level (string_at (codes "name") value);
  message = message_field (string_at (codes "name") value) ∷ [];
  service = service;
  fields = attributes_in true value;
}

-- a link to another span
abbrev pub link_note : List ℕ → Json → Note
link_note service value = record {
  level = Info;
  message =
      message_field (codes "link")
      ∷ named_event_field (codes "trace") (id_at (codes "traceId") value)
      ∷ named_event_field (codes "span") (id_at (codes "spanId") value) ∷ [];
  service = service;
  fields = attributes_in true value;
}

abbrev pub reason_fields : List ℕ → List Field
reason_fields text = if is_empty text then [] else named_event_field (codes "message") text ∷ []

-- the last row of a span whose status is that it failed
abbrev pub failed_note : List ℕ → Json → Note
failed_note service status = record {
  level = Error;
  message = message_field (codes "failed") ∷ [];
  service = service;
  fields = reason_fields (string_at (codes "message") status);
}

-- the last row of a span that hasn't ended
abbrev pub unfinished_note : List ℕ → Note
unfinished_note service = record {
  level = Warn;
  message = message_field (codes "unfinished") ∷ [];
  service = service;
  fields = [];
}

-- ---- spans

abbrev pub span_read : List ℕ → Json → Span
span_read service value = record {
  id = id_at (codes "spanId") value;
  parent = id_at (codes "parentSpanId") value;
  name = string_at (codes "name") value;
  kind = kind_at value;
  end = count_at (codes "endTimeUnixNano") value;
  service = service;
  fields = attributes_in false value;
}

-- The span in which a span is nested. A span that is its own parent is a root.
abbrev pub parent_of : List ℕ → List ℕ → List ℕ
parent_of id recorded = if bytes_eq id recorded then [] else recorded

-- ---- the order of ids

abbrev pub hex_digit : ℕ → ℕ
hex_digit byte =
    if nat_le 48 byte && nat_le byte 57 then byte - 48
    else if nat_le 97 byte && nat_le byte 102 then byte - 87
    else 0

-- one digit more; the last sixteen count
abbrev pub digit_added : ℕ → ℕ → ℕ
digit_added sum byte = (sum * 16 % 2 ^ 64 + hex_digit byte) % 2 ^ 64

abbrev pub number_from : ℕ → List ℕ → ℕ
number_from sum [] = sum
number_from sum (byte ∷ others) = number_from (digit_added sum byte) others

-- the number that an id's hexadecimal digits write
abbrev pub id_number : List ℕ → ℕ
id_number id = number_from 0 id
