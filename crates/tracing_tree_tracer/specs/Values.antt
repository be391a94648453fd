-- Values of fields, and the fields of spans and events.
use Rattle.std.specs.Prelude.{ℕ, ◌==◌, ◌||◌, ◌&&◌, nat_lt, nat_le, Bool, false, if◌then◌else◌, List, [], ◌∷◌, ◌++◌, flat_map, map, codes}
use Rattle.std.specs.Borrow.{Bor}
use Rattle.std.specs.Char.{encode_utf8}
use Rattle.std.specs.Fmt.{digits}
use Rattle.std.specs.Str.{chars}
use Rattle.tracing_tree_base.specs.Field.{rendered_field, whole_field, truth_field}
use Rattle.tracing_tree_base.specs.declared.field.Field.{Field}
use Rattle.tracing_tree_tracer.specs.declared.value.Value.{Value}
use Rattle.tracing_tree_tracer.specs.declared.value.Value.TheVariants.{Quoted, Plain, Whole, Truth}

-- a character by its code
abbrev pub escaped_code : ℕ → List ℕ
escaped_code c = codes "\\u{" ++ digits 16 false c ++ codes "}"

-- a control character, which is shown by its code unless it has a short escape
abbrev pub is_control : ℕ → Bool
is_control c = nat_lt c 32 || (nat_le 127 c && nat_le c 159)

-- a character between quotes
abbrev pub escaped_char : ℕ → List ℕ
escaped_char c =
    if (c == 34) || (c == 92) then 92 ∷ c ∷ []
    else (if c == 9 then codes "\\t"
    else (if c == 10 then codes "\\n"
    else (if c == 13 then codes "\\r"
    else (if c == 0 then codes "\\0"
    else (if is_control c then escaped_code c
    else encode_utf8 c)))))

abbrev pub escaped_text : List ℕ → List ℕ
escaped_text text = flat_map escaped_char (chars text)

abbrev pub quoted_text : List ℕ → List ℕ
quoted_text text = 34 ∷ escaped_text text ++ 34 ∷ []

-- the field of this name
abbrev pub field_of : List ℕ → Value → Field
field_of name (Quoted text) = rendered_field name (quoted_text text.now)
field_of name (Plain text) = rendered_field name text.now
field_of name (Whole number) = whole_field name number
field_of name (Truth truth) = truth_field name truth

abbrev pub pair_field : Bor (List ℕ) × Value → Field
pair_field pair = field_of pair.0.now pair.1

-- the fields, in order
abbrev pub fields_of : List (Bor (List ℕ) × Value) → List Field
fields_of fields = map pair_field fields

-- a message is a field too
abbrev pub message_field : List ℕ → Field
message_field text = rendered_field (codes "message") text
