-- Further members of a line's JSON object, shown at its events.
use Rattle.std.specs.Prelude.{ℕ, List, [], ◌∷◌, ◌++◌, flat_map, map, Option, Some, None}
use Rattle.json.specs.Json.{Json}
use Rattle.json.specs.Find.{get}
use Rattle.tracing_tree_base.specs.declared.field.Field.{Field}
use Rattle.tracing_tree_layer.specs.declared.call.Call.{Call}
use Rattle.tracing_tree_layer.specs.declared.call.Call.TheVariants.{New, Clone, Record, Event, Close}
use Rattle.ttree_source.specs.Fields.{value_text}
use Rattle.ttree_source.specs.Calls.{shown_text}
use Rattle.ttree_adapters.specs.Mapping.{Made}
use Rattle.ttree_adapters.specs.declared.line_fields.Member.{Member}

abbrev pub field_if : List ℕ → Option Json → List Field
field_if name (Some value) = (record { name = shown_text name; value = value_text value }) ∷ []
field_if name None = []

-- a member as a field, if the object has it
abbrev pub member_field : Json → Member → List Field
member_field value member = field_if member.name (get member.key value)

abbrev pub found_fields : Json → List Member → List Field
found_fields value members = flat_map (member_field value) members

-- an event with further fields; any other call is unchanged
abbrev pub call_with : List Field → Call → Call
call_with fields (Event event context) =
    Event (record event { fields = event.fields ++ fields }) context
call_with fields (New attributes context) = New attributes context
call_with fields (Record id record_of_it) = Record id record_of_it
call_with fields (Clone id) = Clone id
call_with fields (Close id context) = Close id context

abbrev pub all_with : List Field → List Call → List Call
all_with fields calls = map (call_with fields) calls

abbrev pub makes_with_members : List Member → Option Json → List Call → Made (List Member)
makes_with_members members (Some value) calls = record {
  calls = all_with (found_fields value members) calls;
  mapping = members;
}
makes_with_members members None calls = record { calls = calls; mapping = members }
