-- The fields of a row, one after the other.
use Rattle.std.proofs.Common.{◌≡◌, ℕ, Bool, true, false, not, if◌then◌else◌, List, [], ◌∷◌, ◌++◌, map, filter, flat_map, codes, refl, ap}
use Rattle.tracing_tree_base.specs.declared.field.Field.{Field}
use Rattle.tracing_tree_drawing.specs.Format.Texts.{is_log_field, shown_field, event_field, comma_after, event_fields, spaced_fields}

-- what these fields of an event add, after a field or not
abbrev pub added_fields : Bool → List Field → List ℕ
added_fields comma [] = []
added_fields comma (field ∷ others) = event_field comma field ++ added_fields (comma_after comma field) others

-- a comma, a space and a string
abbrev pub behind_comma : List ℕ → List ℕ
behind_comma text = codes ", " ++ text

-- the fields of an event that are shown
abbrev pub shown_fields : List Field → List Field
shown_fields fields = filter (λ field. not (is_log_field field)) fields

-- after a field, each field that is shown follows a comma
pub added_fields-true : (fields : List Field) → added_fields true fields ≡ flat_map behind_comma (map shown_field (shown_fields fields))
added_fields-true [] = refl
added_fields-true (field ∷ others) =
    elim (is_log_field field) as (λ b. (if b then [] else codes "," ++ 32 ∷ shown_field field) ++ added_fields true others
    ≡ flat_map behind_comma (map shown_field (if not b then field ∷ shown_fields others else shown_fields others))) [
      | true ↦ added_fields-true others
      | false ↦ ap (λ rest. (44 ∷ 32 ∷ shown_field field) ++ rest) (added_fields-true others)
    ]

-- the fields of an event are what they add after no field
pub added_fields-false : (fields : List Field) → added_fields false fields ≡ event_fields fields
added_fields-false [] = refl
added_fields-false (field ∷ others) =
    elim (is_log_field field) as (λ b. (if b then [] else 32 ∷ shown_field field) ++ added_fields (not b) others
    ≡ spaced_fields (if not b then field ∷ shown_fields others else shown_fields others)) [
      | true ↦ added_fields-false others
      | false ↦ ap (λ rest. (32 ∷ shown_field field) ++ rest) (added_fields-true others)
    ]
