-- An object's members as fields.
use Rattle.std.specs.Prelude.{ℕ, if◌then◌else◌, List, [], ◌∷◌, ◌++◌, unwrap_or, codes, bytes_eq}
use Rattle.std.specs.List.{list_any}
use Rattle.json.specs.Json.{Json, null, boolean, number, string, array, object, Members, no_members, member}
use Rattle.json.specs.Find.{as_object}
use Rattle.tracing_tree_base.specs.declared.field.Field.{Field}
use Rattle.ttree_source.specs.JsonText.{json_text}
use Rattle.ttree_source.specs.Calls.{shown_text}

-- a value in its drawn form: an array and an object as compact JSON
abbrev pub value_text : Json → List ℕ
value_text null = codes "null"
value_text (boolean b) = if b then codes "true" else codes "false"
value_text (number text) = text
value_text (string text) = shown_text text
value_text (array items) = shown_text (json_text (array items))
value_text (object members) = shown_text (json_text (object members))

-- a member as a field, unless it has one of these keys
abbrev pub member_fields : List (List ℕ) → List ℕ → Json → List Field
member_fields keys key value =
    if list_any (bytes_eq key) keys then []
    else (record { name = shown_text key; value = value_text value }) ∷ []

abbrev pub members_fields : List (List ℕ) → Members → List Field
members_fields keys no_members = []
members_fields keys (member key value others) =
    member_fields keys key value ++ members_fields keys others

-- an object's members as fields, except those with these keys
abbrev pub fields_besides : List (List ℕ) → Json → List Field
fields_besides keys value = members_fields keys (unwrap_or (as_object value) no_members)

-- an object's members as the fields of an event
abbrev pub object_fields : Json → List Field
object_fields value = fields_besides [] value
