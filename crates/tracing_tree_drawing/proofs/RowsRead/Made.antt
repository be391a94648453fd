-- Whether a row may have a shape, a level and lines, part by part.
use Rattle.std.proofs.Common.{◌≡◌, ℕ, ◌==◌, ◌&&◌, Bool, true, false, List, [], ◌∷◌, length, map, String, Global, string_bytes, nat_le, refl, sym, ap, ◌∙◌, arith, eqb-true}
use Rattle.std.specs.List.{list_all}
use Rattle.std.proofs.lemmas.Bool.{false≢true, le-leb}
use Rattle.std.proofs.lemmas.List.Folds.{list_all-map}
use Rattle.tracing_tree_drawing.specs.Rows.RowText.{TextRow, fits_shape, is_text_row, is_unbroken}
use Rattle.tracing_tree_drawing.specs.declared.rows.row.Shape.{Shape}

abbrev texts : List (String Global) → List (List ℕ)
texts lines = map (λ s. string_bytes s) lines

abbrev row : Shape → ℕ → List (String Global) → TextRow
row shape level lines = record { shape = shape; level = level; lines = texts lines }

pub row-empty : (shape : Shape) (level : ℕ) (lines : List (String Global)) → (length lines == 0) ≡ true → false ≡ is_text_row (row shape level lines)
row-empty shape level [] e = refl
row-empty shape level (line ∷ lines) e = absurd (let z : length (line ∷ lines) ≡ 0 = eqb-true (length (line ∷ lines)) 0 e in omega arith)

and-no : (b : Bool) → (b && false) ≡ false
and-no true = refl
and-no false = refl

pub row-broken : (shape : Shape) (level : ℕ) (lines : List (String Global)) → list_all (λ s. is_unbroken (string_bytes s)) lines ≡ false → false ≡ is_text_row (row shape level lines)
row-broken shape level lines e =
    let broken : list_all is_unbroken (texts lines) ≡ false = list_all-map is_unbroken (λ s. string_bytes s) lines ∙ e in
    sym (ap (λ b. (nat_le 1 (length (texts lines)) && b) && fits_shape shape level (texts lines)) broken
    ∙ ap (λ b. b && fits_shape shape level (texts lines)) (and-no (nat_le 1 (length (texts lines)))))

pub row-fits : (shape : Shape) (level : ℕ) (lines : List (String Global)) → (length lines == 0) ≡ false → list_all (λ s. is_unbroken (string_bytes s)) lines ≡ true →
    is_text_row (row shape level lines) ≡ fits_shape shape level (texts lines)
row-fits shape level [] some e = absurd (false≢true (sym some))
row-fits shape level (line ∷ lines) some e =
    let unbroken : list_all is_unbroken (texts (line ∷ lines)) ≡ true = list_all-map is_unbroken (λ s. string_bytes s) (line ∷ lines) ∙ e in
    ap (λ b. (b && list_all is_unbroken (texts (line ∷ lines))) && fits_shape shape level (texts (line ∷ lines))) (le-leb 1 (length (texts (line ∷ lines))) (omega arith))
    ∙ ap (λ b. b && fits_shape shape level (texts (line ∷ lines))) unbroken
