-- Fields that C passes, one by one.
use Rattle.std.proofs.Common.{◌≡◌, ◌+◌, ℕ, ◌<◌, List, [], ◌∷◌, ◌++◌, length, drop, arith, zero, suc, refl, sym, subst, ap, ◌∙◌, Bool, append_assoc}
use Rattle.std.specs.Prelude.{Result, Ok, Err, ⊤, slice_index_or}
use Rattle.tracing_tree_base.specs.declared.field.Field.{Field}
use Rattle.tracing_tree_drawing.specs.Format.Texts.{comma_after, event_field}
use Rattle.tracing_tree_layer.proofs.FieldTexts.{added_fields}
use Rattle.tracing_tree_c.specs.Foreign.{HasNoFields, IsSmallField, IsUtf8Field, IsUtf8Fields, Reads, foreign_field, foreign_fields}
use Rattle.tracing_tree_c.specs.declared.foreign.FieldRef.{FieldRef}
use Rattle.tracing_tree_c.specs.declared.foreign.Unreadable.{Unreadable}
use Rattle.tracing_tree_c.specs.declared.foreign.Unreadable.TheVariants.{Unknown, NotUtf8, Starved}

-- what is read past the end
abbrev pub no_field : FieldRef
no_field = record { name = record { ref_ptr = (0, 0); now = [] }; value = record { ref_ptr = (0, 0); now = [] } }

-- the rest from a place on is the field there and the others
from_place : (xs : List FieldRef) (i : ℕ) (d : FieldRef) → i < length xs → drop i xs ≡ slice_index_or xs i d ∷ drop (i + 1) xs
from_place [] i d h = absurd (omega arith)
from_place (x ∷ xs) zero d h = refl
from_place (x ∷ xs) (suc i) d h =
    let next : suc i + 1 ≡ suc (i + 1) = omega arith in
    from_place xs i d (omega arith) ∙ ap (λ n. slice_index_or xs i d ∷ drop n (x ∷ xs)) (sym next)

-- if the rest are UTF-8, so are the others
pub tail_of : (xs : List FieldRef) (i : ℕ) (d : FieldRef) → i < length xs → IsUtf8Fields (drop i xs) → IsUtf8Fields (drop (i + 1) xs)
tail_of xs i d h all = (subst IsUtf8Fields (from_place xs i d h) all).1

-- a field was appended, and the others are left
pub pushed : (old new total : List ℕ) (comma later : Bool) (xs : List FieldRef) (i : ℕ) (d : FieldRef) → i < length xs →
    old ++ added_fields comma (foreign_fields (drop i xs)) ≡ total →
    new ≡ old ++ event_field comma (foreign_field (slice_index_or xs i d)) →
    later ≡ comma_after comma (foreign_field (slice_index_or xs i d)) →
    new ++ added_fields later (foreign_fields (drop (i + 1) xs)) ≡ total
pushed old new total comma later xs i d h whole grown after =
    let field = foreign_field (slice_index_or xs i d) in
    let rest = foreign_fields (drop (i + 1) xs) in
    ap (λ text. text ++ added_fields later rest) grown
    ∙ ap (λ c. (old ++ event_field comma field) ++ added_fields c rest) after
    ∙ append_assoc old (event_field comma field) (added_fields (comma_after comma field) rest)
    ∙ ap (λ fields. old ++ added_fields comma (foreign_fields fields)) (sym (from_place xs i d h))
    ∙ whole

-- a list of one
pub alone : (xs : List FieldRef) (d : FieldRef) → length xs ≡ 1 → xs ≡ slice_index_or xs 0 d ∷ []
alone [] d e = absurd (omega (arith, e))
alone (x ∷ []) d e = refl
alone (x ∷ y ∷ xs) d e = absurd (omega (arith, e))

-- what was read of the only field was read of the list
pub alone_is : (xs : List FieldRef) (x : FieldRef) (read : Result (List Field) Unreadable) → xs ≡ x ∷ [] →
    Reads ⊤ (IsUtf8Field x) (IsSmallField x) (λ fields. fields ≡ foreign_field x ∷ []) read →
    Reads ⊤ (IsUtf8Fields xs) (HasNoFields xs) (λ fields. fields ≡ foreign_fields xs) read
alone_is xs x read e r =
    subst (λ all. Reads ⊤ (IsUtf8Fields all) (HasNoFields all) (λ fields. fields ≡ foreign_fields all) read) (sym e) (of_one x read r)
  where
    of_one : (x : FieldRef) (read : Result (List Field) Unreadable) →
        Reads ⊤ (IsUtf8Field x) (IsSmallField x) (λ fields. fields ≡ foreign_field x ∷ []) read →
        Reads ⊤ (IsUtf8Fields (x ∷ [])) (HasNoFields (x ∷ [])) (λ fields. fields ≡ foreign_fields (x ∷ [])) read
    of_one x (Ok fields) (known, text, is) = (known, (text, tt), is)
    of_one x (Err Unknown) unknown = unknown
    of_one x (Err NotUtf8) cannot = λ all. cannot all.0
    of_one x (Err Starved) large = λ none. cc
