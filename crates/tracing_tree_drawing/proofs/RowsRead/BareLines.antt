-- Lines that begin with no mark.
use Rattle.std.proofs.Common.{◌≡◌, ℕ, ◌+◌, ◌-◌, ◌%◌, ◌/◌, ◌==◌, List, [], ◌∷◌, Option, Some, None, is_some, MatchOption, Bor, encode_utf8_all, refl, ap, ◌∙◌}
use Rattle.std.specs.Char.{encode_utf8}
use Rattle.std.specs.List.{starts_with}
use Rattle.std.proofs.lemmas.List.{append-nil}
use Rattle.tracing_tree_drawing.specs.Format.Picture.{columns}
use Rattle.tracing_tree_drawing.proofs.Characters.{horizontal}
use Rattle.tracing_tree_drawing.specs.declared.rows.row.Shape.TheVariants.{Event}
use Rattle.tracing_tree_drawing.specs.Rows.Line.{after_front, one_line_row, read_event}
use Rattle.tracing_tree_drawing.proofs.RowsRead.Bytes.{begins-after}

pub begins-is : (mark : ℕ) (text : List ℕ) → starts_with (λ x y. x == y) text (encode_utf8_all (mark ∷ [])) ≡ is_some (after_front (encode_utf8 mark) text)
begins-is mark text =
    begins-after (encode_utf8_all (mark ∷ [])) text ∙ ap (λ front. is_some (after_front front text)) (append-nil (encode_utf8 mark))

-- ---- events

pub event-none : (amount spaces : ℕ) (text : List ℕ) → spaces % amount ≡ 0 → after_front (columns (amount - 1) horizontal) text ≡ None → read_event amount spaces text ≡ None
event-none amount spaces text e k = rw (e, k) refl

pub event-some : (amount spaces : ℕ) (text rest : List ℕ) → spaces % amount ≡ 0 → after_front (columns (amount - 1) horizontal) text ≡ Some rest →
    read_event amount spaces text ≡ Some (one_line_row Event (spaces / amount + 1) rest)
event-some amount spaces text rest e k = rw (e, k) refl

-- whether a prefix was removed
pub taken-emits : (front text : List ℕ) (r : Option (Bor (List ℕ))) → MatchOption r (after_front front text ≡ None) (λ x. after_front front text ≡ Some x.now) →
    is_some (after_front front text) ≡ is_some r
taken-emits front text None h = ap is_some h
taken-emits front text (Some x) h = ap is_some h
