-- The values of OTLP/JSON's objects at their keys.
use Rattle.std.specs.Prelude.{ℕ, ◌^◌, ◌==◌, ◌&&◌, nat_lt, Bool, not, if◌then◌else◌, List, [], ◌∷◌, ◌++◌, map, Option, Some, None, unwrap_or, option_and_then, codes, bytes_eq}
use Rattle.std.specs.Char.{to_ascii_lowercase}
use Rattle.std.specs.List.{list_all}
use Rattle.std.specs.Str.{all_ascii_digits}
use Rattle.std.specs.Str.Parse.{digits_value}
use Rattle.json.specs.Json.{Json, null, boolean, number, string, array, object, Items, no_items, item}
use Rattle.json.specs.Find.{get}
use Rattle.tracing_tree_base.specs.declared.field.Field.{Field}
use Rattle.ttree_source.specs.Marks.{is_empty}
use Rattle.ttree_source.specs.Calls.{message_field, shown_text}
use Rattle.ttree_source.specs.Values.{array_at, text_at}
use Rattle.ttree_otlp.specs.AnyValue.{any_text}

-- ---- numbers

-- one digit or more, and only digits
abbrev pub is_digits : List ℕ → Bool
is_digits text = not (is_empty text) && all_ascii_digits text

-- the number that digits write, if a u64 holds it
abbrev pub whole_of : List ℕ → Option ℕ
whole_of text =
    if is_digits text && nat_lt (digits_value 10 text) (2 ^ 64)
    then Some (digits_value 10 text) else None

-- the digits of a number, which may be in a string
abbrev pub number_digits : Json → Option (List ℕ)
number_digits null = None
number_digits (boolean _) = None
number_digits (number text) = Some text
number_digits (string text) = Some text
number_digits (array _) = None
number_digits (object _) = None

abbrev pub number_at : List ℕ → Json → Option ℕ
number_at key value = option_and_then whole_of (option_and_then number_digits (get key value))

-- the count at a key, or 0
abbrev pub count_at : List ℕ → Json → ℕ
count_at key value = unwrap_or (number_at key value) 0

-- ---- strings, lists and ids

-- the string at a key, or an empty string
abbrev pub string_at : List ℕ → Json → List ℕ
string_at key value = unwrap_or (text_at key value) []

-- the items at a key
abbrev pub items_at : List ℕ → Json → Items
items_at key value = unwrap_or (array_at key value) no_items

abbrev pub is_zero : ℕ → Bool
is_zero byte = byte == 48

-- An id in lower case. An id of only zeros is absent, as an empty one is.
abbrev pub id_of : List ℕ → List ℕ
id_of text = if list_all is_zero text then [] else map to_ascii_lowercase text

abbrev pub id_at : List ℕ → Json → List ℕ
id_at key value = id_of (string_at key value)

-- ---- attributes

abbrev pub text_or_null : Option Json → List ℕ
text_or_null (Some value) = any_text value
text_or_null None = codes "null"

-- an attribute's value
abbrev pub attribute_text : Json → List ℕ
attribute_text attribute = text_or_null (get (codes "value") attribute)

-- a field of a span
abbrev pub span_field : List ℕ → List ℕ → Field
span_field name text = record { name = shown_text name; value = shown_text text }

-- A field of an event. One called `message` would be drawn without its name, so its value begins
-- with it.
abbrev pub named_event_field : List ℕ → List ℕ → Field
named_event_field name text =
    if bytes_eq name (codes "message") then message_field (codes "message=" ++ text)
    else span_field name text

abbrev pub attribute_field : Bool → Json → Field
attribute_field is_event attribute =
    if is_event then named_event_field (string_at (codes "key") attribute)
    (attribute_text attribute)
    else span_field (string_at (codes "key") attribute) (attribute_text attribute)

abbrev pub attribute_fields : Bool → Items → List Field
attribute_fields is_event no_items = []
attribute_fields is_event (item attribute others) =
    attribute_field is_event attribute ∷ attribute_fields is_event others

-- the attributes of an object as fields of an event, or of a span
abbrev pub attributes_in : Bool → Json → List Field
attributes_in is_event value = attribute_fields is_event (items_at (codes "attributes") value)

-- the value of the first of these attributes with this key, or an empty string
abbrev pub attribute_at : List ℕ → Items → List ℕ
attribute_at key no_items = []
attribute_at key (item attribute others) =
    if bytes_eq (string_at (codes "key") attribute) key then attribute_text attribute
    else attribute_at key others

-- the name of the service with this resource, or an empty string
abbrev pub service_of : Json → List ℕ
service_of resource = attribute_at (codes "service.name") (items_at (codes "attributes") resource)

abbrev pub service_or_none : Option Json → List ℕ
service_or_none (Some resource) = service_of resource
service_or_none None = []

-- the service whose resource an object has
abbrev pub service_in : Json → List ℕ
service_in value = service_or_none (get (codes "resource") value)
