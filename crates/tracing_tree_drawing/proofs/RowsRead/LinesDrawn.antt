-- What lines are read as is drawn as these lines.
use Rattle.std.proofs.Common.{◌≡◌, ℕ, ◌+◌, ◌<◌, ◌≤◌, ◌==◌, ◌&&◌, ◌||◌, Bool, true, false, not, List, [], ◌∷◌, ◌++◌, length, map, Option, Some, None, option_map, option_and_then, nat_le, refl, sym, ap, ◌∙◌, subst, arith, append_assoc, length-append}
use Rattle.std.specs.Option.{option_map_or}
use Rattle.std.specs.List.{list_all}
use Rattle.std.proofs.lemmas.Bool.{and_parts, and_from, or_parts, le-leb}
use Rattle.std.proofs.lemmas.List.{append-nil}
use Rattle.std.proofs.lemmas.List.Folds.{list_all-append, list_any-append}
use Rattle.tracing_tree_drawing.specs.Format.Picture.{has_line_end, lined_frame, shift_of}
use Rattle.tracing_tree_drawing.specs.Rows.RowText.{ended, is_unbroken, TextRow, mode_of, is_text_row, row_text, rows_text}
use Rattle.tracing_tree_drawing.specs.declared.rows.row.Shape.{Shape}
use Rattle.tracing_tree_drawing.specs.Rows.Line.{LineRead, LineRead.FirstLine, LineRead.LaterLine, one_line_row, read_first, read_later, read_below, read_line, with_line, with_last, rows_after, last_after, read_from, read_lines}
use Rattle.tracing_tree_drawing.proofs.RowsRead.FirstDrawn.{IsFirstOf, first-is}
use Rattle.tracing_tree_drawing.proofs.RowsRead.LaterRead.{later-is}
use Rattle.tracing_tree_drawing.proofs.RowsRead.RowLines.{first_line, later_line, framed_lines, row_text-lines, rows_text-append, ended-append, fits-more, IsProper, proper-parts, proper-whole}

-- ---- line ends

not-true : (b : Bool) → not b ≡ true → b ≡ false
not-true true e = absurd (cc)
not-true false e = refl

-- what follows a frame has no line end if the line has no line end
unbroken-end : (front text : List ℕ) → is_unbroken (front ++ text) ≡ true → is_unbroken text ≡ true
unbroken-end front text e =
    let none : (has_line_end front || has_line_end text) ≡ false =
    sym (list_any-append (λ byte. byte == 10) front text) ∙ not-true (has_line_end (front ++ text)) e in
    ap not (or_parts (has_line_end front) (has_line_end text) none).1

-- ---- one line

and_then-some : {A B : Type 0} (f : A → Option B) (o : Option A) (y : B) → option_and_then f o ≡ Some y → (x : A) × (o ≡ Some x) × (f x ≡ Some y)
and_then-some f None y e = absurd (cc)
and_then-some f (Some x) y e = (x, refl, e)

first-some : (o : Option (List ℕ)) (p : Option TextRow) (row : TextRow) →
    option_map_or (λ text. Some (LaterLine text)) o (option_map FirstLine p) ≡ Some (FirstLine row) → p ≡ Some row
first-some None None row e = absurd (cc)
first-some None (Some x) row e = ap (λ o. option_and_then row_of o) e
  where
    row_of : LineRead → Option TextRow
    row_of (FirstLine r) = Some r
    row_of (LaterLine t) = None
first-some (Some t) p row e = absurd (let h : None ≡ Some row = ap (λ o. option_and_then row_of o) e in cc)
  where
    row_of : LineRead → Option TextRow
    row_of (FirstLine r) = Some r
    row_of (LaterLine t) = None

later-some : (o : Option (List ℕ)) (p : Option TextRow) (text : List ℕ) →
    option_map_or (λ text. Some (LaterLine text)) o (option_map FirstLine p) ≡ Some (LaterLine text) → o ≡ Some text
later-some None None text e = absurd (cc)
later-some None (Some x) text e = absurd (let h : None ≡ Some text = ap (λ o. option_and_then text_of o) e in cc)
  where
    text_of : LineRead → Option (List ℕ)
    text_of (FirstLine r) = None
    text_of (LaterLine t) = Some t
later-some (Some t) p text e = ap (λ o. option_and_then text_of o) e
  where
    text_of : LineRead → Option (List ℕ)
    text_of (FirstLine r) = None
    text_of (LaterLine t) = Some t

-- ---- rows

-- valid rows with this text
pub record AreRowsOf (amount : ℕ) (rows : List TextRow) (text : List ℕ) : Type 0 where
  pub proper : list_all is_text_row rows ≡ true
  pub drawn : rows_text amount rows ≡ text

-- the row that a line begins may be one
pub first-proper : (amount : ℕ) (line : List ℕ) (row : TextRow) → IsFirstOf amount line row → is_unbroken line ≡ true → is_text_row row ≡ true
first-proper amount line row first unbroken =
    let clean : is_unbroken first.text ≡ true =
    unbroken-end (lined_frame (mode_of first.shape) amount first.level 0) first.text (ap is_unbroken first.drawn ∙ unbroken) in
    ap is_text_row first.is
    ∙ proper-whole (one_line_row first.shape first.level first.text) (record { some = refl; unbroken = and_from (is_unbroken first.text) true clean refl; fits = first.fits })

-- one row more
row-added : (amount : ℕ) (rows : List TextRow) (text : List ℕ) (line : List ℕ) (row : TextRow) → AreRowsOf amount rows text → is_unbroken line ≡ true →
    IsFirstOf amount line row → AreRowsOf amount (rows ++ row ∷ []) (text ++ (line ++ 10 ∷ []))
row-added amount rows text line row h unbroken first =
    let one : TextRow = one_line_row first.shape first.level first.text in
    let own : row_text amount row ≡ line ++ 10 ∷ [] =
    ap (row_text amount) first.is ∙ row_text-lines amount one ∙ append-nil (first_line amount first.shape first.level first.text ++ 10 ∷ []) ∙ ap (λ t. t ++ 10 ∷ []) first.drawn in
    record {
      proper = list_all-append is_text_row rows (row ∷ [])
          ∙ and_from (list_all is_text_row rows) (is_text_row row && true) h.proper (and_from (is_text_row row) true (first-proper amount line row first unbroken) refl);
      drawn = rows_text-append amount rows (row ∷ []) ∙ ap (λ t. t ++ rows_text amount (row ∷ [])) h.drawn
          ∙ ap (λ t. text ++ t) (append-nil (row_text amount row) ∙ own);
    }

-- the lines of a row with one line more
pub framed-more : (amount : ℕ) (shape : Shape) (level : ℕ) (texts : List (List ℕ)) (text : List ℕ) → nat_le 1 (length texts) ≡ true →
    framed_lines amount shape level (texts ++ text ∷ []) ≡ framed_lines amount shape level texts ++ later_line amount shape level text ∷ []
framed-more amount shape level [] text one = absurd (cc)
framed-more amount shape level (first ∷ texts) text one = ap (λ ls. first_line amount shape level first ∷ ls) (mapped texts)
  where
    mapped : (texts : List (List ℕ)) → map (later_line amount shape level) (texts ++ text ∷ []) ≡ map (later_line amount shape level) texts ++ later_line amount shape level text ∷ []
    mapped [] = refl
    mapped (t ∷ texts) = ap (λ ls. later_line amount shape level t ∷ ls) (mapped texts)

-- a row with one line more may be one
pub later-proper : (amount : ℕ) (row : TextRow) (line here : List ℕ) → is_text_row row ≡ true → is_unbroken line ≡ true →
    (0 < row.level + shift_of (mode_of row.shape)) × (later_line amount row.shape row.level here ≡ line) → is_text_row (with_line row here) ≡ true
later-proper amount row line here whole unbroken later =
    let clean : is_unbroken here ≡ true =
    unbroken-end (lined_frame (mode_of row.shape) amount row.level 1) here (ap is_unbroken later.1 ∙ unbroken) in
    let old : IsProper row = proper-parts row whole in
    proper-whole (with_line row here) (record {
      some = le-leb 1 (length (row.lines ++ here ∷ [])) (let n = length-append row.lines (here ∷ []) in omega arith);
      unbroken = list_all-append is_unbroken row.lines (here ∷ []) ∙ and_from (list_all is_unbroken row.lines) (is_unbroken here && true) old.unbroken (and_from (is_unbroken here) true clean refl);
      fits = fits-more row.shape row.level row.lines (row.lines ++ here ∷ []) later.0 old.fits;
    })

-- one line more of the last row
line-added : (amount : ℕ) (rows : List TextRow) (row : TextRow) (text line here : List ℕ) → AreRowsOf amount (rows ++ row ∷ []) text → is_unbroken line ≡ true →
    (0 < row.level + shift_of (mode_of row.shape)) × (later_line amount row.shape row.level here ≡ line) →
    AreRowsOf amount (rows ++ with_line row here ∷ []) (text ++ (line ++ 10 ∷ []))
line-added amount rows row text line here h unbroken later =
    let both = and_parts (list_all is_text_row rows) (is_text_row row && true) (sym (list_all-append is_text_row rows (row ∷ [])) ∙ h.proper) in
    let whole : is_text_row row ≡ true = (and_parts (is_text_row row) true both.1).0 in
    let longer : TextRow = with_line row here in
    let own : row_text amount longer ≡ row_text amount row ++ (line ++ 10 ∷ []) =
    row_text-lines amount longer
    ∙ ap ended (framed-more amount row.shape row.level row.lines here (proper-parts row whole).some)
    ∙ ended-append (framed_lines amount row.shape row.level row.lines) (later_line amount row.shape row.level here ∷ [])
    ∙ ap (λ t. t ++ ((later_line amount row.shape row.level here ++ 10 ∷ []) ++ [])) (sym (row_text-lines amount row))
    ∙ ap (λ t. row_text amount row ++ t) (append-nil (later_line amount row.shape row.level here ++ 10 ∷ []) ∙ ap (λ t. t ++ 10 ∷ []) later.1) in
    record {
      proper = list_all-append is_text_row rows (longer ∷ [])
          ∙ and_from (list_all is_text_row rows) (is_text_row longer && true) both.0 (and_from (is_text_row longer) true (later-proper amount row line here whole unbroken later) refl);
      drawn = rows_text-append amount rows (longer ∷ [])
          ∙ ap (λ t. rows_text amount rows ++ t) (append-nil (row_text amount longer) ∙ own)
          ∙ sym (append_assoc (rows_text amount rows) (row_text amount row) (line ++ 10 ∷ []))
          ∙ ap (λ t. t ++ (line ++ 10 ∷ [])) (ap (λ t. rows_text amount rows ++ t) (sym (append-nil (row_text amount row))) ∙ sym (rows_text-append amount rows (row ∷ [])) ∙ h.drawn);
    }

-- (b) of one line
pub line-drawn : (amount : ℕ) → 2 ≤ amount → (rows : List TextRow) (last : Option TextRow) (text line : List ℕ) (read : LineRead) →
    AreRowsOf amount (with_last rows last) text → is_unbroken line ≡ true → read_line amount last line ≡ Some read →
    AreRowsOf amount (with_last (rows_after rows last read) (last_after last read)) (text ++ (line ++ 10 ∷ []))
line-drawn amount two rows last text line (FirstLine row) h unbroken e =
    row-added amount (with_last rows last) text line row h unbroken (first-is amount two line row (first-some (read_below amount last line) (read_first amount line) row e))
line-drawn amount two rows None text line (LaterLine here) h unbroken e =
    absurd (let z : None ≡ Some here = later-some None (read_first amount line) here e in cc)
line-drawn amount two rows (Some row) text line (LaterLine here) h unbroken e =
    line-added amount rows row text line here h unbroken
    (later-is amount (omega arith) row.shape row.level line here (later-some (read_later amount row.shape row.level line) (read_first amount line) here e))

-- (b) of all lines
pub lines-drawn_from : (amount : ℕ) → 2 ≤ amount → (lines : List (List ℕ)) (rows : List TextRow) (last : Option TextRow) (text : List ℕ) (out : List TextRow) →
    AreRowsOf amount (with_last rows last) text → list_all is_unbroken lines ≡ true → read_from amount rows last lines ≡ Some out →
    AreRowsOf amount out (text ++ ended lines)
lines-drawn_from amount two [] rows last text out h unbroken e =
    let same : with_last rows last ≡ out = some-same (with_last rows last) out e in
    subst (λ rs. AreRowsOf amount rs (text ++ [])) same (subst (λ t. AreRowsOf amount (with_last rows last) t) (sym (append-nil text)) h)
  where
    some-same : (x y : List TextRow) → Some x ≡ Some y → x ≡ y
    some-same x y e = cc
lines-drawn_from amount two (line ∷ lines) rows last text out h unbroken e =
    let both = and_parts (is_unbroken line) (list_all is_unbroken lines) unbroken in
    let k = and_then-some (λ read. read_from amount (rows_after rows last read) (last_after last read) lines) (read_line amount last line) out e in
    subst (λ t. AreRowsOf amount out t) (append_assoc text (line ++ 10 ∷ []) (ended lines))
    (lines-drawn_from amount two lines (rows_after rows last k.0) (last_after last k.0) (text ++ (line ++ 10 ∷ [])) out
    (line-drawn amount two rows last text line k.0 h both.0 k.1) both.1 k.2)

pub lines-drawn : (amount : ℕ) → 2 ≤ amount → (lines : List (List ℕ)) (rows : List TextRow) → list_all is_unbroken lines ≡ true → read_lines amount lines ≡ Some rows →
    AreRowsOf amount rows (ended lines)
lines-drawn amount two lines rows unbroken e = lines-drawn_from amount two lines [] None [] rows (record { proper = refl; drawn = refl }) unbroken e
