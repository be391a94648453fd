-- A value of OTLP (`AnyValue`) as a string.
use Rattle.std.specs.Prelude.{ℕ, ◌==◌, Bool, true, false, ◌||◌, if◌then◌else◌, List, [], ◌++◌, flat_map, Option, Some, None, unwrap_or, codes, bytes_eq}
use Rattle.std.specs.Char.{encode_utf8}
use Rattle.std.specs.Str.{chars}
use Rattle.json.specs.Json.{Json, null, boolean, number, string, array, object, Items, no_items, item, Members, no_members, member}
use Rattle.ttree_source.specs.Values.{text_at}

-- ---- strings between quotes

-- a character between quotes: 34 is a quote, 92 a backslash, 10 a line end and 9 a tab
abbrev pub quoted_char : ℕ → List ℕ
quoted_char c =
    if c == 34 then codes "\\\""
    else if c == 92 then codes "\\\\"
    else if c == 10 then codes "\\n"
    else if c == 9 then codes "\\t"
    else encode_utf8 c

abbrev pub quoted_chars : List ℕ → List ℕ
quoted_chars text = flat_map quoted_char (chars text)

abbrev pub quoted_value : List ℕ → List ℕ
quoted_value text = codes "\"" ++ quoted_chars text ++ codes "\""

-- a comma before all but the first
abbrev pub separator : Bool → List ℕ
separator first = if first then [] else codes ","

-- ---- values

abbrev pub is_text_key : List ℕ → Bool
is_text_key key = bytes_eq key (codes "stringValue") || bytes_eq key (codes "bytesValue")

-- the keys of a value that isn't a list
abbrev pub is_scalar_key : List ℕ → Bool
is_scalar_key key =
    is_text_key key || bytes_eq key (codes "boolValue") || bytes_eq key (codes "intValue")
    || bytes_eq key (codes "doubleValue")

-- A value that isn't a list. An integer is a string of JSON, and has no quotes.
abbrev pub scalar_text : Bool → Json → List ℕ
scalar_text has_quotes null = codes "null"
scalar_text has_quotes (boolean b) = if b then codes "true" else codes "false"
scalar_text has_quotes (number text) = text
scalar_text has_quotes (string text) = if has_quotes then quoted_value text else text
scalar_text has_quotes (array _) = codes "[..]"
scalar_text has_quotes (object _) = codes "{..}"

-- the key of an entry of a list of keys and values
abbrev pub key_text : Json → List ℕ
key_text entry = quoted_value (unwrap_or (text_at (codes "key") entry) []) ++ codes ":"

-- A value as JSON: the first member with a known key says what it is, and one without is null. In a
-- list of keys and values (`with_keys`) an entry has its value at `value`.
abbrev mutual
  pub value_json : Bool → Json → List ℕ
  value_json with_keys null = codes "null"
  value_json with_keys (boolean _) = codes "null"
  value_json with_keys (number _) = codes "null"
  value_json with_keys (string _) = codes "null"
  value_json with_keys (array _) = codes "null"
  value_json with_keys (object members) =
      if with_keys then key_text (object members) ++ entry_json members else variant_json members

  pub entry_json : Members → List ℕ
  entry_json no_members = codes "null"
  entry_json (member key value others) =
      if bytes_eq key (codes "value") then value_json false value else entry_json others

  pub variant_json : Members → List ℕ
  variant_json no_members = codes "null"
  variant_json (member key value others) =
      if bytes_eq key (codes "arrayValue") then codes "[" ++ list_json false value ++ codes "]"
      else if bytes_eq key (codes "kvlistValue") then codes "{" ++ list_json true value ++ codes "}"
      else if is_scalar_key key then scalar_text (is_text_key key) value
      else variant_json others

  pub list_json : Bool → Json → List ℕ
  list_json with_keys null = []
  list_json with_keys (boolean _) = []
  list_json with_keys (number _) = []
  list_json with_keys (string _) = []
  list_json with_keys (array _) = []
  list_json with_keys (object members) = values_json with_keys members

  -- the items at `values`
  pub values_json : Bool → Members → List ℕ
  values_json with_keys no_members = []
  values_json with_keys (member key value others) =
      if bytes_eq key (codes "values") then array_json with_keys value else values_json with_keys
      others

  pub array_json : Bool → Json → List ℕ
  array_json with_keys null = []
  array_json with_keys (boolean _) = []
  array_json with_keys (number _) = []
  array_json with_keys (string _) = []
  array_json with_keys (array items) = items_json with_keys true items
  array_json with_keys (object _) = []

  -- the items with a comma between them; `first` says that no item is written yet
  pub items_json : Bool → Bool → Items → List ℕ
  items_json with_keys first no_items = []
  items_json with_keys first (item value others) =
      separator first ++ value_json with_keys value ++ items_json with_keys false others

-- a string, or bytes as base64
abbrev pub raw_text : Json → Option (List ℕ)
raw_text value = or_bytes (text_at (codes "stringValue") value) where
  or_bytes : Option (List ℕ) → Option (List ℕ)
  or_bytes (Some text) = Some text
  or_bytes None = text_at (codes "bytesValue") value

-- a value as a string: a string by itself, and any other value as JSON
abbrev pub any_text : Json → List ℕ
any_text value = or_json (raw_text value) where
  or_json : Option (List ℕ) → List ℕ
  or_json (Some text) = text
  or_json None = value_json false value
