-- Fields: their values, and lists of them.
use Rattle.std.specs.Prelude.{ℕ, ℤ, ◌==◌, ◌||◌, nat_lt, Bool, true, false, if◌then◌else◌, List, [], ◌∷◌, ◌++◌, flat_map, codes}
use Rattle.std.specs.Fmt.{digits, signed_decimal}
use Rattle.tracing_tree_base.specs.declared.field.Field.{Field}
use Rattle.tracing_tree_base.specs.declared.field.Storage.{Storage}
use Rattle.tracing_tree_base.specs.declared.field.Storage.TheVariants.{One, Many}

-- an ASCII character as Rust's debug form of a string shows it
abbrev pub escaped : ℕ → List ℕ
escaped byte =
    if (byte == 34) || (byte == 92) then 92 ∷ byte ∷ []
    else (if byte == 9 then codes "\\t"
    else (if byte == 10 then codes "\\n"
    else (if byte == 13 then codes "\\r"
    else (if byte == 0 then codes "\\0"
    else (if nat_lt byte 32 || (byte == 127) then codes "\\u{" ++ digits 16 false byte ++ codes "}"
    else byte ∷ [])))))

-- an ASCII string in Rust's debug form
abbrev pub quoted : List ℕ → List ℕ
quoted text = 34 ∷ flat_map escaped text ++ 34 ∷ []

abbrev pub truth_text : Bool → List ℕ
truth_text true = codes "true"
truth_text false = codes "false"

-- the values of fields: an unchanged string, a whole number, a truth value, and a quoted string
abbrev pub rendered_field : List ℕ → List ℕ → Field
rendered_field name value = record { name = name; value = value }

abbrev pub whole_field : List ℕ → ℤ → Field
whole_field name value = rendered_field name (signed_decimal value)

abbrev pub truth_field : List ℕ → Bool → Field
truth_field name value = rendered_field name (truth_text value)

abbrev pub text_field : List ℕ → List ℕ → Field
text_field name value = rendered_field name (quoted value)

-- which fields a list has, wherever they are stored
abbrev pub kept_fields : Storage → List Field
kept_fields (One field) = field ∷ []
kept_fields (Many list) = list.items
