-- The text of rows, line by line.
use Rattle.std.proofs.Common.{◌≡◌, ℕ, suc, ◌+◌, ◌<◌, ◌≤◌, ◌==◌, ◌&&◌, true, not, List, [], ◌∷◌, ◌++◌, length, map, flat_map, ⊎_elim, nat_le, refl, sym, ap, ◌∙◌, arith, append_assoc, eqb-true, ne_eqb}
use Rattle.std.specs.List.{enumerate_from, list_all}
use Rattle.std.proofs.lemmas.Bool.{and_parts, and_from, or_cases, or_left, or_right, leb-true, le-leb}
use Rattle.tracing_tree_drawing.specs.Format.Picture.{has_line_end, drawn_line, lined_frame, shift_of}
use Rattle.tracing_tree_drawing.specs.Rows.RowText.{ended, TextRow, mode_of, fits_shape, is_bare_text, is_one_line, is_text_row, row_text, rows_text}
use Rattle.tracing_tree_drawing.specs.declared.rows.row.Shape.{Shape}
use Rattle.tracing_tree_drawing.specs.declared.rows.row.Shape.TheVariants.{PreOpen, OpenRoot, Open, CloseRoot, Close, PostClose, Event}

-- ---- lines

abbrev pub first_line : ℕ → Shape → ℕ → List ℕ → List ℕ
first_line amount shape level text = lined_frame (mode_of shape) amount level 0 ++ text

abbrev pub later_line : ℕ → Shape → ℕ → List ℕ → List ℕ
later_line amount shape level text = lined_frame (mode_of shape) amount level 1 ++ text

-- the lines of a row of these strings
abbrev pub framed_lines : ℕ → Shape → ℕ → List (List ℕ) → List (List ℕ)
framed_lines amount shape level [] = []
framed_lines amount shape level (text ∷ texts) = first_line amount shape level text ∷ map (later_line amount shape level) texts

abbrev pub all_lines : ℕ → List TextRow → List (List ℕ)
all_lines amount rows = flat_map (λ row. framed_lines amount row.shape row.level row.lines) rows

pub ended-append : (first second : List (List ℕ)) → ended (first ++ second) ≡ ended first ++ ended second
ended-append [] second = refl
ended-append (line ∷ first) second =
    ap (λ text. (line ++ 10 ∷ []) ++ text) (ended-append first second) ∙ sym (append_assoc (line ++ 10 ∷ []) (ended first) (ended second))

later-texts : (amount : ℕ) (shape : Shape) (level n : ℕ) (texts : List (List ℕ)) →
    flat_map (λ line. drawn_line [] (lined_frame (mode_of shape) amount level line.0) line.1) (enumerate_from (suc n) texts)
    ≡ ended (map (later_line amount shape level) texts)
later-texts amount shape level n [] = refl
later-texts amount shape level n (text ∷ texts) =
    let rest : List ℕ = flat_map (λ line. drawn_line [] (lined_frame (mode_of shape) amount level line.0) line.1) (enumerate_from (suc n + 1) texts) in
    ap (λ frame. ((frame ++ text) ++ 10 ∷ []) ++ rest) (same-frame n)
    ∙ ap (λ t. (later_line amount shape level text ++ 10 ∷ []) ++ t)
    (ap (λ m. flat_map (λ line. drawn_line [] (lined_frame (mode_of shape) amount level line.0) line.1) (enumerate_from m texts)) (let e : suc n + 1 ≡ suc (suc n) = omega arith in e)
    ∙ later-texts amount shape level (suc n) texts)
  where
    same-frame : (n : ℕ) → lined_frame (mode_of shape) amount level (suc n) ≡ lined_frame (mode_of shape) amount level 1
    same-frame n = rw (ne_eqb (suc n) 0 (λ e. omega arith)) refl

framed-text : (amount : ℕ) (shape : Shape) (level : ℕ) (texts : List (List ℕ)) →
    flat_map (λ line. drawn_line [] (lined_frame (mode_of shape) amount level line.0) line.1) (enumerate_from 0 texts) ≡ ended (framed_lines amount shape level texts)
framed-text amount shape level [] = refl
framed-text amount shape level (text ∷ texts) = ap (λ t. (first_line amount shape level text ++ 10 ∷ []) ++ t) (later-texts amount shape level 0 texts)

pub row_text-lines : (amount : ℕ) (row : TextRow) → row_text amount row ≡ ended (framed_lines amount row.shape row.level row.lines)
row_text-lines amount row = framed-text amount row.shape row.level row.lines

pub rows_text-lines : (amount : ℕ) (rows : List TextRow) → rows_text amount rows ≡ ended (all_lines amount rows)
rows_text-lines amount [] = refl
rows_text-lines amount (row ∷ rows) =
    ap (λ t. t ++ rows_text amount rows) (row_text-lines amount row)
    ∙ ap (λ t. ended (framed_lines amount row.shape row.level row.lines) ++ t) (rows_text-lines amount rows)
    ∙ sym (ended-append (framed_lines amount row.shape row.level row.lines) (all_lines amount rows))

pub rows_text-append : (amount : ℕ) (first second : List TextRow) → rows_text amount (first ++ second) ≡ rows_text amount first ++ rows_text amount second
rows_text-append amount [] second = refl
rows_text-append amount (row ∷ first) second =
    ap (λ t. row_text amount row ++ t) (rows_text-append amount first second) ∙ sym (append_assoc (row_text amount row) (rows_text amount first) (rows_text amount second))

-- ---- what may be a row

pub fits-first : (shape : Shape) (level : ℕ) (text : List ℕ) (texts : List (List ℕ)) → fits_shape shape level (text ∷ texts) ≡ true → fits_shape shape level (text ∷ []) ≡ true
fits-first PreOpen level text texts e = refl
fits-first OpenRoot level text texts e = and_from (level == 0) true (and_parts (level == 0) (is_one_line (text ∷ texts)) e).0 refl
fits-first (Open verbose) level text texts e = e
fits-first CloseRoot level text texts e = and_from (level == 0) true (and_parts (level == 0) (is_one_line (text ∷ texts)) e).0 refl
fits-first (Close verbose) level text texts e = e
fits-first PostClose level text texts e = refl
fits-first Event level text texts e =
    ⊎_elim (λ h. or_left (nat_le 1 level) (is_bare_text text && true) h)
    (λ h. or_right (nat_le 1 level) (is_bare_text text && true)
    (and_from (is_bare_text text) true (and_parts (is_bare_text text) (list_all is_bare_text texts) (and_parts (is_one_line (text ∷ texts)) (list_all is_bare_text (text ∷ texts)) h).1).0 refl))
    (or_cases (nat_le 1 level) (is_one_line (text ∷ texts) && list_all is_bare_text (text ∷ texts)) e)

not-one : {A : Type 0} (first second : List ℕ) (texts : List (List ℕ)) → is_one_line (first ∷ second ∷ texts) ≡ true → A
not-one first second texts e = absurd (let h : length (first ∷ second ∷ texts) ≡ 1 = eqb-true (length (first ∷ second ∷ texts)) 1 e in omega arith)

-- a row of several lines isn't drawn at the left edge
pub fits-later : (shape : Shape) (level : ℕ) (first second : List ℕ) (texts : List (List ℕ)) → fits_shape shape level (first ∷ second ∷ texts) ≡ true →
    0 < level + shift_of (mode_of shape)
fits-later PreOpen level first second texts e = omega arith
fits-later OpenRoot level first second texts e = not-one first second texts (and_parts (level == 0) (is_one_line (first ∷ second ∷ texts)) e).1
fits-later (Open verbose) level first second texts e = let h : 1 ≤ level = leb-true 1 level e in omega arith
fits-later CloseRoot level first second texts e = not-one first second texts (and_parts (level == 0) (is_one_line (first ∷ second ∷ texts)) e).1
fits-later (Close verbose) level first second texts e = let h : 1 ≤ level = leb-true 1 level e in omega arith
fits-later PostClose level first second texts e = omega arith
fits-later Event level first second texts e =
    ⊎_elim (λ k. let h : 1 ≤ level = leb-true 1 level k in omega arith)
    (λ h. not-one first second texts (and_parts (is_one_line (first ∷ second ∷ texts)) (list_all is_bare_text (first ∷ second ∷ texts)) h).0)
    (or_cases (nat_le 1 level) (is_one_line (first ∷ second ∷ texts) && list_all is_bare_text (first ∷ second ∷ texts)) e)

-- and may have more lines then
pub fits-more : (shape : Shape) (level : ℕ) (texts more : List (List ℕ)) → 0 < level + shift_of (mode_of shape) → fits_shape shape level texts ≡ true → fits_shape shape level more ≡ true
fits-more PreOpen level texts more used e = refl
fits-more OpenRoot level texts more used e = absurd (let h : level ≡ 0 = eqb-true level 0 (and_parts (level == 0) (is_one_line texts) e).0 in omega arith)
fits-more (Open verbose) level texts more used e = e
fits-more CloseRoot level texts more used e = absurd (let h : level ≡ 0 = eqb-true level 0 (and_parts (level == 0) (is_one_line texts) e).0 in omega arith)
fits-more (Close verbose) level texts more used e = e
fits-more PostClose level texts more used e = refl
fits-more Event level texts more used e = or_left (nat_le 1 level) (is_one_line more && list_all is_bare_text more) (le-leb 1 level (omega arith))

-- the parts of a row that may be
pub record IsProper (row : TextRow) : Type 0 where
  pub some : nat_le 1 (length row.lines) ≡ true
  pub unbroken : list_all (λ line. not (has_line_end line)) row.lines ≡ true
  pub fits : fits_shape row.shape row.level row.lines ≡ true

pub proper-parts : (row : TextRow) → is_text_row row ≡ true → IsProper row
proper-parts row e =
    let first = and_parts (nat_le 1 (length row.lines) && list_all (λ line. not (has_line_end line)) row.lines) (fits_shape row.shape row.level row.lines) e in
    let second = and_parts (nat_le 1 (length row.lines)) (list_all (λ line. not (has_line_end line)) row.lines) first.0 in
    record { some = second.0; unbroken = second.1; fits = first.1 }

pub proper-whole : (row : TextRow) → IsProper row → is_text_row row ≡ true
proper-whole row h =
    and_from (nat_le 1 (length row.lines) && list_all (λ line. not (has_line_end line)) row.lines) (fits_shape row.shape row.level row.lines)
    (and_from (nat_le 1 (length row.lines)) (list_all (λ line. not (has_line_end line)) row.lines) h.some h.unbroken) h.fits
