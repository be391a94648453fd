-- The drawing of readable rows is the text of the rows that are read back from it.
use Rattle.std.proofs.Common.{◌≡◌, ℕ, zero, suc, ◌+◌, ◌-◌, ◌%◌, ◌<◌, ◌≤◌, ◌==◌, ◌&&◌, ◌||◌, Bool, true, false, not, List, [], ◌∷◌, ◌++◌, length, map, take, flat_map, Option, Some, None, nat_le, nat_lt, slice_index, if◌then◌else◌, refl, sym, ap, ◌∙◌, subst, arith, append_assoc, length-append, eqb-true, ne_eqb}
use Rattle.std.specs.List.{enumerate_from, list_all, join_with_byte}
use Rattle.std.specs.Str.Lines.{lines_of_parts, strip_carriage_return}
use Rattle.std.proofs.lemmas.Bool.{and_parts, and_from, or_from, or_parts, le-leb, leb-true, ltb-true}
use Rattle.std.proofs.lemmas.List.{append-nil}
use Rattle.std.proofs.lemmas.List.Folds.{list_all-append}
use Rattle.std.proofs.Math.Nat.{mod-eq_of_lt}
use Rattle.tracing_tree_drawing.specs.Format.Settings.{Settings}
use Rattle.tracing_tree_drawing.specs.Format.Picture.{Row, AreParts, has_line_end, parts_of, row_lines, row_frame, drawn_line, lined_frame, wrapped_level, is_last_before_wrap, mark_line, mark_before_corner, mark_after_corner, picture, drawn_row, draw}
use Rattle.tracing_tree_drawing.specs.declared.format.SpanMode.{SpanMode}
use Rattle.tracing_tree_drawing.specs.declared.format.SpanMode.TheVariants as Mode
use Rattle.tracing_tree_drawing.proofs.PartsLaws.{parts_of-only, parts_of-are_parts}
use Rattle.tracing_tree_drawing.specs.Rows.RowText.{ended, is_unbroken, AreTextRows, mode_of, open_shape, close_shape, shape_of, fits_shape, is_one_line, is_text_row, row_text, rows_text, IsOnlyReading}
use Rattle.tracing_tree_drawing.specs.Rows.Readable.{IsReadable, is_readable_row, is_plain_at_edge, text_row, text_rows}
use Rattle.tracing_tree_drawing.specs.declared.rows.row.Shape.{Shape}
use Rattle.tracing_tree_drawing.proofs.RowsRead.RowLines.{rows_text-lines, all_lines, proper-whole}
use Rattle.tracing_tree_drawing.proofs.RowsRead.CleanFrames.{all-unbroken}
use Rattle.tracing_tree_drawing.proofs.RowsRead.LinesRead.{lines-read}
use Rattle.tracing_tree_drawing.proofs.RowsRead.TextsRead.{joined-lines, read-only}

-- ---- frames

-- at the left edge verbose rows have the frames of plain ones
open-frames : (verbose : Bool) (amount level place : ℕ) → lined_frame (Mode.Open verbose) amount level place ≡ lined_frame (mode_of (open_shape verbose level)) amount level place
open-frames verbose amount level place = by (level == 0) refl
  where
    by : (b : Bool) → (level == 0) ≡ b → lined_frame (Mode.Open verbose) amount level place ≡ lined_frame (mode_of (open_shape verbose level)) amount level place
    by true e =
        ap (λ n. lined_frame (Mode.Open verbose) amount n place) (eqb-true level 0 e) ∙ ap (λ n. lined_frame (Mode.Open false) amount n place) (sym (eqb-true level 0 e))
        ∙ ap (λ b. lined_frame (mode_of (if b then Shape.OpenRoot else Shape.Open verbose)) amount level place) (sym e)
    by false e = ap (λ b. lined_frame (mode_of (if b then Shape.OpenRoot else Shape.Open verbose)) amount level place) (sym e)

-- the frames of a mode are those of its shape
same-frames : (mode : SpanMode) (amount level place : ℕ) → lined_frame mode amount level place ≡ lined_frame (mode_of (shape_of mode level)) amount level place
same-frames Mode.PreOpen amount level place = refl
same-frames (Mode.Open verbose) amount level place = open-frames verbose amount level place
same-frames (Mode.Retrace verbose) amount level place = open-frames verbose amount level place
same-frames (Mode.Close verbose) amount level place = by (level == 0) refl
  where
    by : (b : Bool) → (level == 0) ≡ b → lined_frame (Mode.Close verbose) amount level place ≡ lined_frame (mode_of (close_shape verbose level)) amount level place
    by true e =
        ap (λ n. lined_frame (Mode.Close verbose) amount n place) (eqb-true level 0 e) ∙ ap (λ n. lined_frame (Mode.Close false) amount n place) (sym (eqb-true level 0 e))
        ∙ ap (λ b. lined_frame (mode_of (if b then Shape.CloseRoot else Shape.Close verbose)) amount level place) (sym e)
    by false e = ap (λ b. lined_frame (mode_of (if b then Shape.CloseRoot else Shape.Close verbose)) amount level place) (sym e)
same-frames Mode.PostClose amount level place = refl
same-frames Mode.Event amount level place = refl

-- ---- what a readable row is

record IsPlainRow (settings : Settings) (row : Row) : Type 0 where
  prefix : row.prefix ≡ []
  low : row.level + 1 < settings.wraparound
  edge : (nat_le 1 row.level || is_plain_at_edge row.mode (row_lines true row.block)) ≡ true

no-items : (xs : List ℕ) → length xs ≡ 0 → xs ≡ []
no-items [] e = refl
no-items (x ∷ xs) e = absurd (omega (arith, e))

plain-row : (settings : Settings) (row : Row) → is_readable_row settings row ≡ true → IsPlainRow settings row
plain-row settings row e =
    let first = and_parts ((length row.prefix == 0) && nat_lt (row.level + 1) settings.wraparound) (nat_le 1 row.level || is_plain_at_edge row.mode (row_lines true row.block)) e in
    let second = and_parts (length row.prefix == 0) (nat_lt (row.level + 1) settings.wraparound) first.0 in
    record {
      prefix = no-items row.prefix (eqb-true (length row.prefix) 0 second.0);
      low = ltb-true (row.level + 1) settings.wraparound second.1;
      edge = first.1;
    }

-- no row has a wrap mark
no-mark : (settings : Settings) (row : Row) (corner : Option ℕ) → row.level + 1 < settings.wraparound → mark_line settings row corner ≡ []
no-mark settings row None low = refl
no-mark settings row (Some corner) low =
    let rest : (row.level + 1) % settings.wraparound ≡ row.level + 1 = mod-eq_of_lt low in
    let other : ((row.level + 1) % settings.wraparound == 0) ≡ false = ne_eqb ((row.level + 1) % settings.wraparound) 0 (λ e. omega (arith, rest)) in
    let last : is_last_before_wrap settings row.level ≡ false =
    ap (λ b. settings.indent_lines && nat_lt 0 row.level && b) other ∙ false-right (settings.indent_lines && nat_lt 0 row.level) in
    rw last refl
  where
    false-right : (b : Bool) → (b && false) ≡ false
    false-right true = refl
    false-right false = refl

row-drawn : (settings : Settings) (row : Row) → settings.indent_lines ≡ true → IsPlainRow settings row → drawn_row settings row ≡ row_text settings.indent_amount (text_row row)
row-drawn settings row lined h =
    let amount : ℕ = settings.indent_amount in
    let wrapped : wrapped_level settings row.level ≡ row.level = mod-eq_of_lt (let lt : row.level < settings.wraparound = let l = h.low in omega arith in lt) in
    let frames : (place : ℕ) → row_frame settings row.mode row.level place ≡ lined_frame (mode_of (shape_of row.mode row.level)) amount row.level place =
    λ place. rw lined (ap (λ n. lined_frame row.mode amount n place) wrapped ∙ same-frames row.mode amount row.level place) in
    let pictures : picture settings row ≡ row_text amount (text_row row) =
    ap (λ b. flat_map (λ line. drawn_line row.prefix (row_frame settings row.mode row.level line.0) line.1) (enumerate_from 0 (row_lines b row.block))) lined
    ∙ (λ i. flat_map (λ line. drawn_line (h.prefix i) (frames line.0 i) line.1) (enumerate_from 0 (row_lines true row.block))) in
    ap (λ t. (t ++ picture settings row) ++ mark_line settings row (mark_after_corner row.mode)) (no-mark settings row (mark_before_corner row.mode) h.low)
    ∙ ap (λ t. picture settings row ++ t) (no-mark settings row (mark_after_corner row.mode) h.low)
    ∙ append-nil (picture settings row) ∙ pictures

-- ---- lines of a block

ended-joined : (first : List ℕ) (parts : List (List ℕ)) → ended (first ∷ parts) ≡ join_with_byte 10 (first ∷ parts) ++ 10 ∷ []
ended-joined first [] = append-nil (first ++ 10 ∷ [])
ended-joined first (next ∷ parts) =
    ap (λ t. (first ++ 10 ∷ []) ++ t) (ended-joined next parts)
    ∙ append_assoc first (10 ∷ []) (join_with_byte 10 (next ∷ parts) ++ 10 ∷ [])
    ∙ sym (append_assoc first (10 ∷ join_with_byte 10 (next ∷ parts)) (10 ∷ []))

-- the parts of a block with a line end more
parts-more : (block : List ℕ) → parts_of (block ++ 10 ∷ []) ≡ parts_of block ++ [] ∷ []
parts-more block = sym (parts_of-only (block ++ 10 ∷ []) (parts_of block ++ [] ∷ []) (record {
  joined = joined-lines (parts_of block) [] ∙ append-nil (ended (parts_of block)) ∙ whole (parts_of block) (parts.some) ∙ ap (λ t. t ++ 10 ∷ []) parts.joined;
  some = let n = length-append (parts_of block) ([] ∷ []) in omega arith;
  without_line_ends = list_all-append is_unbroken (parts_of block) ([] ∷ []) ∙ and_from (list_all is_unbroken (parts_of block)) true parts.without_line_ends refl;
}))
  where
    parts : AreParts block (parts_of block)
    parts = parts_of-are_parts block

    whole : (ps : List (List ℕ)) → 0 < length ps → ended ps ≡ join_with_byte 10 ps ++ 10 ∷ []
    whole [] lt = absurd (omega arith)
    whole (p ∷ ps) lt = ended-joined p ps

stripped-parts : (parts : List (List ℕ)) → lines_of_parts (parts ++ [] ∷ []) ≡ map strip_carriage_return parts
stripped-parts [] = refl
stripped-parts (part ∷ []) = refl
stripped-parts (part ∷ next ∷ parts) = ap (λ ls. strip_carriage_return part ∷ ls) (stripped-parts (next ∷ parts))

-- the lines of a row are its block's parts, each without the carriage return at its end
pub row_lines-parts : (block : List ℕ) → row_lines true block ≡ map strip_carriage_return (parts_of block)
row_lines-parts block = ap lines_of_parts (parts-more block) ∙ stripped-parts (parts_of block)

unbroken-front : (n : ℕ) (text : List ℕ) → has_line_end text ≡ false → has_line_end (take n text) ≡ false
unbroken-front zero text e = refl
unbroken-front (suc n) [] e = refl
unbroken-front (suc n) (byte ∷ text) e =
    let both = or_parts (byte == 10) (has_line_end text) e in
    or_from (byte == 10) (has_line_end (take n text)) both.0 (unbroken-front n text both.1)

unbroken-stripped : (text : List ℕ) → is_unbroken text ≡ true → is_unbroken (strip_carriage_return text) ≡ true
unbroken-stripped text e = by (slice_index text (length text - 1) == 13) refl
  where
    not-true : (b : Bool) → not b ≡ true → b ≡ false
    not-true true e = absurd (cc)
    not-true false e = refl

    by : (b : Bool) → (slice_index text (length text - 1) == 13) ≡ b → is_unbroken (strip_carriage_return text) ≡ true
    by true k = rw k (ap not (unbroken-front (length text - 1) text (not-true (has_line_end text) e)))
    by false k = rw k e

lines-unbroken : (parts : List (List ℕ)) → list_all is_unbroken parts ≡ true → list_all is_unbroken (map strip_carriage_return parts) ≡ true
lines-unbroken [] e = refl
lines-unbroken (part ∷ parts) e =
    let both = and_parts (is_unbroken part) (list_all is_unbroken parts) e in
    and_from (is_unbroken (strip_carriage_return part)) (list_all is_unbroken (map strip_carriage_return parts)) (unbroken-stripped part both.0) (lines-unbroken parts both.1)

-- ---- proper rows

-- at the left edge a row that opens or closes has one line
root-fits : (level : ℕ) (verbose : Bool) (ls : List (List ℕ)) → (nat_le 1 level || is_one_line ls) ≡ true → fits_shape (open_shape verbose level) level ls ≡ true
root-fits zero verbose ls e = e
root-fits (suc k) verbose ls e =
    ap (λ b. fits_shape (if b then Shape.OpenRoot else Shape.Open verbose) (suc k) ls) (ne_eqb (suc k) 0 (λ z. omega arith)) ∙ le-leb 1 (suc k) (omega arith)

close-fits : (level : ℕ) (verbose : Bool) (ls : List (List ℕ)) → (nat_le 1 level || is_one_line ls) ≡ true → fits_shape (close_shape verbose level) level ls ≡ true
close-fits zero verbose ls e = e
close-fits (suc k) verbose ls e =
    ap (λ b. fits_shape (if b then Shape.CloseRoot else Shape.Close verbose) (suc k) ls) (ne_eqb (suc k) 0 (λ z. omega arith)) ∙ le-leb 1 (suc k) (omega arith)

edge-fits : (mode : SpanMode) (level : ℕ) (ls : List (List ℕ)) → (nat_le 1 level || is_plain_at_edge mode ls) ≡ true → fits_shape (shape_of mode level) level ls ≡ true
edge-fits Mode.PreOpen level ls e = refl
edge-fits (Mode.Open verbose) level ls e = root-fits level verbose ls e
edge-fits (Mode.Retrace verbose) level ls e = root-fits level verbose ls e
edge-fits (Mode.Close verbose) level ls e = close-fits level verbose ls e
edge-fits Mode.PostClose level ls e = refl
edge-fits Mode.Event level ls e = e

row-proper : (settings : Settings) (row : Row) → IsPlainRow settings row → is_text_row (text_row row) ≡ true
row-proper settings row h =
    let parts : AreParts row.block (parts_of row.block) = parts_of-are_parts row.block in
    let are : row_lines true row.block ≡ map strip_carriage_return (parts_of row.block) = row_lines-parts row.block in
    proper-whole (text_row row) (record {
      some = ap (λ (ls : List (List ℕ)). nat_le 1 (length ls)) are ∙ some-mapped (parts_of row.block) parts.some;
      unbroken = ap (list_all is_unbroken) are ∙ lines-unbroken (parts_of row.block) parts.without_line_ends;
      fits = edge-fits row.mode row.level (row_lines true row.block) h.edge;
    })
  where
    some-mapped : (ps : List (List ℕ)) → 0 < length ps → nat_le 1 (length (map strip_carriage_return ps)) ≡ true
    some-mapped [] lt = absurd (omega arith)
    some-mapped (p ∷ ps) lt = le-leb 1 (length (map strip_carriage_return (p ∷ ps))) (omega arith)

-- ---- runs

pub record IsReadBack (settings : Settings) (rows : List Row) : Type 0 where
  pub drawn : draw settings rows ≡ rows_text settings.indent_amount (text_rows rows)
  pub proper : AreTextRows (text_rows rows)

all-read_back : (settings : Settings) → settings.indent_lines ≡ true → (rows : List Row) → list_all (is_readable_row settings) rows ≡ true → IsReadBack settings rows
all-read_back settings lined [] h = record { drawn = refl; proper = refl }
all-read_back settings lined (row ∷ rows) h =
    let both = and_parts (is_readable_row settings row) (list_all (is_readable_row settings) rows) h in
    let here = plain-row settings row both.0 in
    let rest = all-read_back settings lined rows both.1 in
    record {
      drawn = ap (λ t. t ++ draw settings rows) (row-drawn settings row lined here) ∙ ap (λ t. row_text settings.indent_amount (text_row row) ++ t) rest.drawn;
      proper = and_from (is_text_row (text_row row)) (list_all is_text_row (text_rows rows)) (row-proper settings row here) rest.proper;
    }

-- readable rows draw the text of the rows that are read back from it, and these are valid rows
pub readable-read_back : (settings : Settings) (rows : List Row) → IsReadable settings rows → IsReadBack settings rows
readable-read_back settings rows h =
    let first = and_parts (settings.indent_lines && nat_le 2 settings.indent_amount) (list_all (is_readable_row settings) rows) h in
    all-read_back settings (and_parts settings.indent_lines (nat_le 2 settings.indent_amount) first.0).0 rows first.1

-- the drawing of readable rows has one reading
pub readable-read : (settings : Settings) (rows : List Row) → IsReadable settings rows → IsOnlyReading settings.indent_amount (draw settings rows) (text_rows rows)
readable-read settings rows h =
    let first = and_parts (settings.indent_lines && nat_le 2 settings.indent_amount) (list_all (is_readable_row settings) rows) h in
    let two : 2 ≤ settings.indent_amount = leb-true 2 settings.indent_amount (and_parts settings.indent_lines (nat_le 2 settings.indent_amount) first.0).1 in
    let back : IsReadBack settings rows = readable-read_back settings rows h in
    subst (λ t. IsOnlyReading settings.indent_amount t (text_rows rows)) (sym (back.drawn ∙ rows_text-lines settings.indent_amount (text_rows rows)))
    (read-only settings.indent_amount two (all_lines settings.indent_amount (text_rows rows)) (text_rows rows)
    (all-unbroken settings.indent_amount (text_rows rows) back.proper) (lines-read settings.indent_amount two (text_rows rows) back.proper))
