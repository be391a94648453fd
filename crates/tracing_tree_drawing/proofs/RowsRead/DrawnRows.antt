-- Rows drawn line by line.
use Rattle.std.proofs.Common.{◌≡◌, ℕ, ◌<◌, ◌==◌, ◌&&◌, Bool, true, false, List, [], ◌∷◌, ◌++◌, length, get_or, if◌then◌else◌, refl, sym, ap, ◌∙◌, arith, append_assoc, append-nil, eqb-true}
use Rattle.std.specs.List.{list_all, list_any}
use Rattle.std.proofs.lemmas.Bool.{le-leb, and_from, false≢true}
use Rattle.std.proofs.lemmas.List.Folds.{list_all-append, list_any_at}
use Rattle.tracing_tree_drawing.specs.Format.Picture.{lined_frame}
use Rattle.tracing_tree_drawing.specs.Rows.RowText.{TextRow, AreTextRows, ended, is_row_too_wide, is_text_row, mode_of, row_text, rows_text}
use Rattle.tracing_tree_drawing.specs.declared.rows.row.Shape.{Shape}
use Rattle.tracing_tree_drawing.proofs.RowsRead.RowLines.{framed_lines, later_line, ended-append, rows_text-append}
use Rattle.tracing_tree_drawing.proofs.RowsRead.LinesDrawn.{framed-more}

-- a line more of a row
pub line-pushed : (amount : ℕ) (shape : Shape) (level : ℕ) (before : List (List ℕ)) (text start whole : List ℕ) (first : Bool) → first ≡ (length before == 0) →
    whole ≡ (((start ++ ended (framed_lines amount shape level before)) ++ lined_frame (mode_of shape) amount level (if first then 0 else 1)) ++ text) ++ 10 ∷ [] →
    whole ≡ start ++ ended (framed_lines amount shape level (before ++ text ∷ []))
line-pushed amount shape level [] text start whole true f e =
    let frame : List ℕ = lined_frame (mode_of shape) amount level 0 in
    e ∙ ap (λ t. ((t ++ frame) ++ text) ++ 10 ∷ []) (append-nil start) ∙ regroup start frame text ∙ ap (λ t. start ++ t) (sym (append-nil ((frame ++ text) ++ 10 ∷ [])))
  where
    regroup : (a c d : List ℕ) → ((a ++ c) ++ d) ++ 10 ∷ [] ≡ a ++ ((c ++ d) ++ 10 ∷ [])
    regroup a c d = simp append_assoc
line-pushed amount shape level [] text start whole false f e = absurd (false≢true f)
line-pushed amount shape level (line ∷ before) text start whole true f e = absurd (let z : length (line ∷ before) ≡ 0 = eqb-true (length (line ∷ before)) 0 (sym f) in omega arith)
line-pushed amount shape level (line ∷ before) text start whole false f e =
    let lines : List (List ℕ) = framed_lines amount shape level (line ∷ before) in
    let later : List ℕ = later_line amount shape level text in
    let more : ended (framed_lines amount shape level (line ∷ before ++ text ∷ [])) ≡ ended lines ++ (later ++ 10 ∷ []) =
    ap ended (framed-more amount shape level (line ∷ before) text (le-leb 1 (length (line ∷ before)) (omega arith))) ∙ ended-append lines (later ∷ []) ∙ ap (λ t. ended lines ++ t) (append-nil (later ++ 10 ∷ [])) in
    e ∙ regroup start (ended lines) (lined_frame (mode_of shape) amount level 1) text ∙ ap (λ t. start ++ t) (sym more)
  where
    regroup : (a b c d : List ℕ) → (((a ++ b) ++ c) ++ d) ++ 10 ∷ [] ≡ a ++ (b ++ ((c ++ d) ++ 10 ∷ []))
    regroup a b c d = simp append_assoc

-- a row more
pub row-pushed : (amount : ℕ) (rows : List TextRow) (row : TextRow) (text whole : List ℕ) → text ≡ rows_text amount rows → AreTextRows rows →
    whole ≡ text ++ row_text amount row → is_text_row row ≡ true → (whole ≡ rows_text amount (rows ++ row ∷ [])) × AreTextRows (rows ++ row ∷ [])
row-pushed amount rows row text whole e h w p = (
  w ∙ ap (λ t. t ++ row_text amount row) e ∙ ap (λ t. rows_text amount rows ++ t) (sym (append-nil (row_text amount row))) ∙ sym (rows_text-append amount rows (row ∷ [])),
  list_all-append is_text_row rows (row ∷ []) ∙ and_from (list_all is_text_row rows) (is_text_row row && true) h (and_from (is_text_row row) true p refl),
)

-- a row of these isn't too wide if no row is
pub narrow-at : (amount : ℕ) (rows : List TextRow) (i : ℕ) (row : TextRow) → list_any (is_row_too_wide amount) rows ≡ false → i < length rows → row ≡ get_or rows i row →
    is_row_too_wide amount row ≡ false
narrow-at amount rows i row none lt at = by (is_row_too_wide amount row) refl
  where
    by : (b : Bool) → is_row_too_wide amount row ≡ b → is_row_too_wide amount row ≡ false
    by true e = absurd (false≢true (sym none ∙ list_any_at (is_row_too_wide amount) rows i row lt (ap (is_row_too_wide amount) (sym at) ∙ e)))
    by false e = e
