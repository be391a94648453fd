-- Spans in one row each.
use Rattle.std.specs.Prelude.{ℕ, ◌≡◌, ◌⊎◌, ◌==◌, ◌||◌, Bool, true, false, if◌then◌else◌, List, flat_map, map, Option, Result, Err, codes}
use Rattle.std.specs.Char.{encode_utf8}
use Rattle.std.specs.List.{list_any}
use Rattle.std.specs.Str.{chars}
use Rattle.json.specs.Json.{Json}
use Rattle.tracing_tree_base.specs.declared.context.Refusal.{Refusal}
use Rattle.tracing_tree_base.specs.declared.context.Refusal.TheVariants.{Memory}
use Rattle.tracing_tree_base.specs.declared.field.Field.{Field}
use Rattle.tracing_tree_layer.specs.declared.call.Call.{Call}
use Rattle.tracing_tree_layer.specs.declared.call.Call.TheVariants.{New, Clone, Record, Event, Close}
use Rattle.tracing_tree_layer.specs.declared.call.Reply.{Reply}
use Rattle.tracing_tree_spans.specs.declared.registry.Attributes.{Attributes}
use Rattle.ttree_adapters.specs.Mapping.{Made}
use Rattle.ttree_adapters.specs.declared.one_row.OneRow.{OneRow}

abbrev pub is_line_end : ℕ → Bool
is_line_end c = c == 10

abbrev pub has_line_end : List ℕ → Bool
has_line_end text = list_any is_line_end text

-- a line end is shown as its escape
abbrev pub one_row_char : ℕ → List ℕ
one_row_char c = if is_line_end c then codes "\\n" else encode_utf8 c

abbrev pub one_row_text : List ℕ → List ℕ
one_row_text text = if has_line_end text then flat_map one_row_char (chars text) else text

abbrev pub is_lined : Field → Bool
is_lined field = has_line_end field.name || has_line_end field.value

abbrev pub one_row_field : Field → Field
one_row_field field = record {
  name = one_row_text field.name;
  value = one_row_text field.value;
}

-- a span that would take several rows
abbrev pub spans_lines : Attributes → Bool
spans_lines attributes = has_line_end attributes.name || list_any is_lined attributes.fields

abbrev pub has_lines : Call → Bool
has_lines (New attributes context) = spans_lines attributes
has_lines (Record id record_of_it) = list_any is_lined record_of_it.fields
has_lines (Event event context) = false
has_lines (Clone id) = false
has_lines (Close id context) = false

-- a span that takes one row
abbrev pub one_row_attributes : Attributes → Attributes
one_row_attributes attributes = record attributes {
  name = one_row_text attributes.name;
  fields = map one_row_field attributes.fields;
}

-- a call whose span takes one row
abbrev pub one_row_call : Call → Call
one_row_call (New attributes context) = New (one_row_attributes attributes) context
one_row_call (Record id record_of_it) =
    Record id (record { fields = map one_row_field record_of_it.fields })
one_row_call (Event event context) = Event event context
one_row_call (Clone id) = Clone id
one_row_call (Close id context) = Close id context

abbrev pub makes_one_row : OneRow → Option Json → List Call → Made OneRow
makes_one_row s value calls = record { calls = map one_row_call calls; mapping = s }

module _ {C : Type 0} (answers : Call → Result Reply Refusal → C → C → Type 0) where
  -- the receiver answers the call whose span takes one row, or memory ran out before
  abbrev pub AnswersInOneRow : Bool → Call → Result Reply Refusal → C → C → Type 0
  AnswersInOneRow true call answer old new =
      answers (one_row_call call) answer old new ⊎ (answer ≡ Err Memory) × (new ≡ old)
  AnswersInOneRow false call answer old new = answers call answer old new

  -- a call is passed on unchanged, unless its span would take several rows
  abbrev pub one_row_answers : Call → Result Reply Refusal → C → C → Type 0
  one_row_answers call = AnswersInOneRow (has_lines call) call
