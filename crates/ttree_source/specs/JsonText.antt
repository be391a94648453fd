-- A JSON value in a field's form: compact, and with its strings between quotes.
use Rattle.std.specs.Prelude.{ℕ, ◌==◌, Bool, true, false, if◌then◌else◌, List, [], ◌++◌, flat_map, codes}
use Rattle.std.specs.Char.{encode_utf8}
use Rattle.std.specs.Str.{chars}
use Rattle.json.specs.Json.{Json, null, boolean, number, string, array, object, Items, no_items, item, Members, no_members, member}

-- a character between quotes: 34 is a quote, 92 a backslash, 10 a line end and 9 a tab
abbrev pub quoted_char : ℕ → List ℕ
quoted_char c =
    if c == 34 then codes "\\\""
    else if c == 92 then codes "\\\\"
    else if c == 10 then codes "\\n"
    else if c == 9 then codes "\\t"
    else encode_utf8 c

abbrev pub quoted_chars : List ℕ → List ℕ
quoted_chars text = flat_map quoted_char (chars text)

abbrev pub json_quoted : List ℕ → List ℕ
json_quoted text = codes "\"" ++ quoted_chars text ++ codes "\""

-- a comma before all but the first
abbrev pub separator : Bool → List ℕ
separator first = if first then [] else codes ","

abbrev mutual
  pub json_text : Json → List ℕ
  json_text null = codes "null"
  json_text (boolean b) = if b then codes "true" else codes "false"
  json_text (number text) = text
  json_text (string text) = json_quoted text
  json_text (array items) = codes "[" ++ items_text true items ++ codes "]"
  json_text (object members) = codes "{" ++ members_text true members ++ codes "}"

  -- the items with a comma between them; `first` says that no item is written yet
  pub items_text : Bool → Items → List ℕ
  items_text first no_items = []
  items_text first (item value others) =
      separator first ++ json_text value ++ items_text false others

  pub members_text : Bool → Members → List ℕ
  members_text first no_members = []
  members_text first (member key value others) =
      separator first ++ json_quoted key ++ codes ":" ++ json_text value
      ++ members_text false others
