-- Fields, and those of the rest.
use Rattle.std.specs.Prelude.{◌≡◌, List, [], ◌∷◌, ◌++◌, Option, Some, None, refl, option_and_then}
use Rattle.serde_json.specs.Data.{Data, Items, item}
use Rattle.tracing_tree_base.specs.declared.field.Field.{Field}
use Rattle.std.proofs.Common.{ap, sym, append_assoc}
use Rattle.tracing_tree_lines.specs.Lines.Spelled.{field_value, item_fields}

-- fields, and then those of the rest, if they can be read
abbrev pub behind : List Field → Option (List Field) → Option (List Field)
behind done None = None
behind done (Some others) = Some (done ++ others)

-- one field more
behind_one : (done : List Field) (field : Field) (others : Option (List Field)) →
    behind done (option_and_then (λ fields. Some (field ∷ fields)) others) ≡ behind (done ++ field ∷ []) others
behind_one done field None = refl
behind_one done field (Some fields) = ap Some (sym (append_assoc done (field ∷ []) fields))

pub behind_more : (done : List Field) (value : Data) (field : Field) (others : Items) → field_value value ≡ Some field →
    behind done (item_fields (item value others)) ≡ behind (done ++ field ∷ []) (item_fields others)
behind_more done value field others is = rw is (behind_one done field (item_fields others))
