-- Long values of fields, cut.
use Rattle.std.specs.Prelude.{ℕ, ◌==◌, ◌&&◌, ◌||◌, Bool, false, not, if◌then◌else◌, List, [], ◌∷◌, ◌++◌, map, Option, bytes_eq, codes}
use Rattle.std.specs.List.{list_any}
use Rattle.std.specs.Str.{chars, encode_utf8_all}
use Rattle.json.specs.Json.{Json}
use Rattle.tracing_tree_base.specs.declared.field.Field.{Field}
use Rattle.tracing_tree_layer.specs.declared.call.Call.{Call}
use Rattle.tracing_tree_layer.specs.declared.call.Call.TheVariants.{New, Clone, Record, Event, Close}
use Rattle.ttree_columns.specs.Columns.{fitting, is_wider, start}
use Rattle.ttree_adapters.specs.Mapping.{Made}
use Rattle.ttree_adapters.specs.declared.short.ShortValues.{ShortValues}

-- what an array or an object begins with
abbrev pub is_structure : List ℕ → Bool
is_structure [] = false
is_structure (byte ∷ rest) = (byte == 91) || (byte == 123)

-- more than 200 columns
abbrev pub is_over : List ℕ → Bool
is_over value = is_wider 200 start (chars value)

-- a field that is cut: an array or an object of more than 200 columns, and no message
abbrev pub is_cut_field : Field → Bool
is_cut_field field =
    is_structure field.value && not (bytes_eq field.name (codes "message")) && is_over field.value

-- `…` in UTF-8
abbrev pub ellipsis : List ℕ
ellipsis = 226 ∷ 128 ∷ 166 ∷ []

-- the first characters, which leave a column for `…`
abbrev pub short_text : List ℕ → List ℕ
short_text value = encode_utf8_all (fitting 200 start (chars value)) ++ ellipsis

abbrev pub short_field : Field → Field
short_field field =
    if is_cut_field field then record field { value = short_text field.value } else field

abbrev pub call_fields : Call → List Field
call_fields (New attributes context) = attributes.fields
call_fields (Event event context) = event.fields
call_fields (Record id record_of_it) = record_of_it.fields
call_fields (Clone id) = []
call_fields (Close id context) = []

abbrev pub has_long : Call → Bool
has_long call = list_any is_cut_field (call_fields call)

-- a call whose long fields are cut
abbrev pub short_call : Call → Call
short_call (New attributes context) =
    New (record attributes { fields = map short_field attributes.fields }) context
short_call (Event event context) =
    Event (record event { fields = map short_field event.fields }) context
short_call (Record id record_of_it) =
    Record id (record { fields = map short_field record_of_it.fields })
short_call (Clone id) = Clone id
short_call (Close id context) = Close id context

abbrev pub makes_short : ShortValues → Option Json → List Call → Made ShortValues
makes_short s value calls = record { calls = map short_call calls; mapping = s }
