-- The lines of rows are read as these rows.
use Rattle.std.proofs.Common.{◌≡◌, ℕ, ◌+◌, ◌<◌, ◌≤◌, true, List, [], ◌∷◌, ◌++◌, length, map, Option, Some, None, option_map, option_and_then, nat_le, refl, sym, ap, ◌∙◌, arith, append_assoc}
use Rattle.std.specs.Char.{encode_utf8}
use Rattle.std.specs.Option.{option_map_or}
use Rattle.std.specs.List.{list_all}
use Rattle.std.proofs.lemmas.Bool.{and_parts}
use Rattle.std.proofs.lemmas.List.{append-nil}
use Rattle.tracing_tree_drawing.specs.Format.Picture.{shift_of}
use Rattle.tracing_tree_drawing.proofs.Characters.{vertical}
use Rattle.tracing_tree_drawing.specs.Rows.RowText.{TextRow, mode_of, fits_shape, is_text_row, without_start_spaces}
use Rattle.tracing_tree_drawing.specs.declared.rows.row.Shape.{Shape}
use Rattle.tracing_tree_drawing.specs.Rows.Line.{LineRead.FirstLine, LineRead.LaterLine, after_front, start_spaces, one_line_row, read_first, read_later_at, read_below, read_line, with_last, rows_after, last_after, read_from, read_lines}
use Rattle.tracing_tree_drawing.proofs.RowsRead.FirstRead.{IsFirstRead, first-drawn}
use Rattle.tracing_tree_drawing.proofs.RowsRead.LaterRead.{later-drawn}
use Rattle.tracing_tree_drawing.proofs.RowsRead.RowLines.{first_line, later_line, framed_lines, all_lines, fits-first, fits-later, proper-parts}

-- a line that isn't barred doesn't continue a row
below-none : (amount : ℕ) (last : Option TextRow) (line : List ℕ) → after_front (encode_utf8 vertical) (without_start_spaces line) ≡ None → read_below amount last line ≡ None
below-none amount None line e = refl
below-none amount (Some row) line e = ap (option_and_then (read_later_at amount row.shape (row.level + shift_of (mode_of row.shape)) (start_spaces line))) e

-- (a) of one line
pub first-read : (amount : ℕ) → 2 ≤ amount → (last : Option TextRow) (shape : Shape) (level : ℕ) (text : List ℕ) → fits_shape shape level (text ∷ []) ≡ true →
    read_line amount last (first_line amount shape level text) ≡ Some (FirstLine (one_line_row shape level text))
first-read amount two last shape level text fits =
    let line : List ℕ = first_line amount shape level text in
    let h : IsFirstRead amount line (one_line_row shape level text) = first-drawn amount two shape level text fits in
    ap (λ o. option_map_or (λ text. Some (LaterLine text)) o (option_map FirstLine (read_first amount line))) (below-none amount last line h.unbarred)
    ∙ ap (option_map FirstLine) h.read

pub later-read : (amount : ℕ) → 0 < amount → (row : TextRow) (text : List ℕ) → 0 < row.level + shift_of (mode_of row.shape) →
    read_line amount (Some row) (later_line amount row.shape row.level text) ≡ Some (LaterLine text)
later-read amount some row text used =
    ap (λ o. option_map_or (λ text. Some (LaterLine text)) o (option_map FirstLine (read_first amount (later_line amount row.shape row.level text))))
    (later-drawn amount some row.shape row.level 1 text used (omega arith))

-- the later lines of a row
later-lines : (amount : ℕ) → 0 < amount → (rows : List TextRow) (shape : Shape) (level : ℕ) → 0 < level + shift_of (mode_of shape) →
    (before texts more : List (List ℕ)) →
    read_from amount rows (Some (record { shape = shape; level = level; lines = before })) (map (later_line amount shape level) texts ++ more)
    ≡ read_from amount rows (Some (record { shape = shape; level = level; lines = before ++ texts })) more
later-lines amount some rows shape level used before [] more =
    ap (λ ts. read_from amount rows (Some (record { shape = shape; level = level; lines = ts })) more) (sym (append-nil before))
later-lines amount some rows shape level used before (text ∷ texts) more =
    let row : TextRow = record { shape = shape; level = level; lines = before } in
    let rest : List (List ℕ) = map (later_line amount shape level) texts ++ more in
    ap (option_and_then (λ read. read_from amount (rows_after rows (Some row) read) (last_after (Some row) read) rest)) (later-read amount some row text used)
    ∙ later-lines amount some rows shape level used (before ++ text ∷ []) texts more
    ∙ ap (λ ts. read_from amount rows (Some (record { shape = shape; level = level; lines = ts })) more) (append_assoc before (text ∷ []) texts)

-- all lines of a row
row-lines : (amount : ℕ) → 2 ≤ amount → (rows : List TextRow) (last : Option TextRow) (shape : Shape) (level : ℕ) (texts more : List (List ℕ)) →
    nat_le 1 (length texts) ≡ true → fits_shape shape level texts ≡ true →
    read_from amount rows last (framed_lines amount shape level texts ++ more)
    ≡ read_from amount (with_last rows last) (Some (record { shape = shape; level = level; lines = texts })) more
row-lines amount two rows last shape level [] more one fits = absurd (cc)
row-lines amount two rows last shape level (text ∷ texts) more one fits =
    let rest : List (List ℕ) = map (later_line amount shape level) texts ++ more in
    ap (option_and_then (λ read. read_from amount (rows_after rows last read) (last_after last read) rest))
    (first-read amount two last shape level text (fits-first shape level text texts fits))
    ∙ others texts fits
  where
    others : (texts : List (List ℕ)) → fits_shape shape level (text ∷ texts) ≡ true →
        read_from amount (with_last rows last) (Some (one_line_row shape level text)) (map (later_line amount shape level) texts ++ more)
        ≡ read_from amount (with_last rows last) (Some (record { shape = shape; level = level; lines = text ∷ texts })) more
    others [] e = refl
    others (second ∷ texts) e = later-lines amount (omega arith) (with_last rows last) shape level (fits-later shape level text second texts e) (text ∷ []) (second ∷ texts) more

-- all lines of rows
pub lines-read_from : (amount : ℕ) → 2 ≤ amount → (rows more : List TextRow) (last : Option TextRow) → list_all is_text_row more ≡ true →
    read_from amount rows last (all_lines amount more) ≡ Some (with_last rows last ++ more)
lines-read_from amount two rows [] last h = ap (λ rs. Some rs) (sym (append-nil (with_last rows last)))
lines-read_from amount two rows (row ∷ more) last h =
    let both = and_parts (is_text_row row) (list_all is_text_row more) h in
    let proper = proper-parts row both.0 in
    row-lines amount two rows last row.shape row.level row.lines (all_lines amount more) proper.some proper.fits
    ∙ lines-read_from amount two (with_last rows last) more (Some row) both.1
    ∙ ap (λ rs. Some rs) (append_assoc (with_last rows last) (row ∷ []) more)

pub lines-read : (amount : ℕ) → 2 ≤ amount → (rows : List TextRow) → list_all is_text_row rows ≡ true → read_lines amount (all_lines amount rows) ≡ Some rows
lines-read amount two rows h = lines-read_from amount two [] rows None h
