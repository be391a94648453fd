-- Frames hold no line end.
use Rattle.std.proofs.Common.{◌≡◌, ℕ, zero, suc, ◌+◌, ◌-◌, ◌*◌, ◌/◌, ◌==◌, Bool, true, false, not, max, List, [], ◌∷◌, ◌++◌, map, nat_le, if◌then◌else◌, refl, ap, ◌∙◌}
use Rattle.std.specs.Char.{encode_utf8}
use Rattle.std.specs.List.{list_all}
use Rattle.std.proofs.lemmas.Bool.{and_parts, and_from, or_from}
use Rattle.std.proofs.lemmas.List.Folds.{list_any-append, list_all-append}
use Rattle.tracing_tree_drawing.specs.Format.Picture.{has_line_end, columns, lined_frame, edge_frame, first_frame, later_frame, corners, span_corners, continuation_shift, shift_of}
use Rattle.tracing_tree_drawing.proofs.Characters.{space, horizontal, vertical, branch, corner_down_left, corner_up_left, corner_up_right, corner_down_right}
use Rattle.tracing_tree_drawing.specs.declared.format.SpanMode.{SpanMode}
use Rattle.tracing_tree_drawing.specs.declared.format.SpanMode.TheVariants.{PreOpen, Open, Close, Retrace, PostClose, Event}
use Rattle.tracing_tree_drawing.specs.Rows.RowText.{is_unbroken, TextRow, mode_of, is_text_row}
use Rattle.tracing_tree_drawing.specs.declared.rows.row.Shape.{Shape}
use Rattle.tracing_tree_drawing.proofs.RowsRead.RowLines.{first_line, later_line, framed_lines, all_lines, proper-parts}

-- ---- characters

abbrev IsClean : List ℕ → Type 0
IsClean text = has_line_end text ≡ false

-- the characters of frames
marks-clean : (IsClean (encode_utf8 space)) × (IsClean (encode_utf8 horizontal)) × (IsClean (encode_utf8 vertical)) × (IsClean (encode_utf8 branch))
    × (IsClean (encode_utf8 corner_down_left)) × (IsClean (encode_utf8 corner_up_left)) × (IsClean (encode_utf8 corner_up_right)) × (IsClean (encode_utf8 corner_down_right))
unfolding encode_utf8
marks-clean = (refl, refl, refl, refl, refl, refl, refl, refl)

both-clean : (first second : List ℕ) → IsClean first → IsClean second → IsClean (first ++ second)
both-clean first second h k = list_any-append (λ byte. byte == 10) first second ∙ or_from (has_line_end first) (has_line_end second) h k

if-clean : (b : Bool) (x y : List ℕ) → IsClean x → IsClean y → IsClean (if b then x else y)
if-clean true x y h k = h
if-clean false x y h k = k

columns-clean : (many character : ℕ) → IsClean (encode_utf8 character) → IsClean (columns many character)
columns-clean zero character h = refl
columns-clean (suc many) character h = both-clean (encode_utf8 character) (columns many character) h (columns-clean many character h)

-- ---- frames

three-clean : (first second third : List ℕ) → IsClean first → IsClean second → IsClean third → IsClean (first ++ second ++ third)
three-clean first second third h k l = both-clean (first ++ second) third (both-clean first second h k) l

blank-clean : (many : ℕ) → IsClean (columns many space)
blank-clean many = columns-clean many space marks-clean.0

corners-clean : (left right from to : ℕ) → IsClean (encode_utf8 left) → IsClean (encode_utf8 right) → IsClean (corners left right from to)
corners-clean left right from to l r =
    both-clean (columns from space ++ encode_utf8 left ++ columns (to - from - 1) horizontal) (encode_utf8 right)
    (three-clean (columns from space) (encode_utf8 left) (columns (to - from - 1) horizontal) (blank-clean from) l (columns-clean (to - from - 1) horizontal marks-clean.1)) r

span-clean : (left right : ℕ) (verbose : Bool) (amount before : ℕ) → IsClean (encode_utf8 left) → IsClean (encode_utf8 right) → IsClean (span_corners left right verbose amount before)
span-clean left right false amount before l r = corners-clean left right before (before + amount) l r
span-clean left right true amount before l r =
    if-clean (nat_le 2 amount) (corners left right (before + amount / 2) (before + amount)) (columns (before + amount + 1) space)
    (corners-clean left right (before + amount / 2) (before + amount) l r) (blank-clean (before + amount + 1))

edge-clean : (mode : SpanMode) → IsClean (edge_frame mode)
edge-clean PreOpen = refl
edge-clean (Open verbose) = marks-clean.4
edge-clean (Retrace verbose) = marks-clean.4
edge-clean (Close verbose) = marks-clean.5
edge-clean PostClose = refl
edge-clean Event = refl

first-clean : (mode : SpanMode) (amount before : ℕ) → IsClean (first_frame mode amount before)
first-clean PreOpen amount before = corners-clean corner_up_right corner_down_left before (before + max (amount / 2) 1) marks-clean.6 marks-clean.4
first-clean (Open verbose) amount before = span-clean corner_up_right corner_down_left verbose amount before marks-clean.6 marks-clean.4
first-clean (Retrace verbose) amount before = span-clean corner_up_right corner_down_left verbose amount before marks-clean.6 marks-clean.4
first-clean (Close verbose) amount before = span-clean corner_down_right corner_up_left verbose amount before marks-clean.7 marks-clean.5
first-clean PostClose amount before = corners-clean corner_down_right corner_up_left before (before + max (amount / 2) 1) marks-clean.7 marks-clean.5
first-clean Event amount before =
    three-clean (columns before space) (encode_utf8 branch) (columns (amount - 1) horizontal) (blank-clean before) marks-clean.3 (columns-clean (amount - 1) horizontal marks-clean.1)

later-clean : (mode : SpanMode) (amount before : ℕ) → IsClean (later_frame mode amount before)
later-clean mode amount before =
    let from : ℕ = before + continuation_shift mode in
    three-clean (columns from space) (encode_utf8 vertical) (columns amount space) (blank-clean from) marks-clean.2 (blank-clean amount)

lined-clean : (mode : SpanMode) (amount level place : ℕ) → IsClean (lined_frame mode amount level place)
lined-clean mode amount level place =
    let used : ℕ = level + shift_of mode in
    let before : ℕ = used * amount - amount in
    let here : List ℕ = if place == 0 then first_frame mode amount before else later_frame mode amount before in
    if-clean (used == 0) (edge_frame mode) (if amount == 0 then [] else here) (edge-clean mode)
    (if-clean (amount == 0) [] here refl
    (if-clean (place == 0) (first_frame mode amount before) (later_frame mode amount before) (first-clean mode amount before) (later-clean mode amount before)))

-- ---- lines of rows

framed-unbroken : (frame text : List ℕ) → IsClean frame → is_unbroken text ≡ true → is_unbroken (frame ++ text) ≡ true
framed-unbroken frame text h e = ap not (both-clean frame text h (not-true (has_line_end text) e))
  where
    not-true : (b : Bool) → not b ≡ true → b ≡ false
    not-true true e = absurd (cc)
    not-true false e = refl

row-unbroken : (amount : ℕ) (shape : Shape) (level : ℕ) (texts : List (List ℕ)) → list_all is_unbroken texts ≡ true → list_all is_unbroken (framed_lines amount shape level texts) ≡ true
row-unbroken amount shape level [] e = refl
row-unbroken amount shape level (text ∷ texts) e =
    let both = and_parts (is_unbroken text) (list_all is_unbroken texts) e in
    and_from (is_unbroken (first_line amount shape level text)) (list_all is_unbroken (map (later_line amount shape level) texts))
    (framed-unbroken (lined_frame (mode_of shape) amount level 0) text (lined-clean (mode_of shape) amount level 0) both.0) (others texts both.1)
  where
    others : (texts : List (List ℕ)) → list_all is_unbroken texts ≡ true → list_all is_unbroken (map (later_line amount shape level) texts) ≡ true
    others [] e = refl
    others (text ∷ texts) e =
        let both = and_parts (is_unbroken text) (list_all is_unbroken texts) e in
        and_from (is_unbroken (later_line amount shape level text)) (list_all is_unbroken (map (later_line amount shape level) texts))
        (framed-unbroken (lined_frame (mode_of shape) amount level 1) text (lined-clean (mode_of shape) amount level 1) both.0) (others texts both.1)

pub all-unbroken : (amount : ℕ) (rows : List TextRow) → list_all is_text_row rows ≡ true → list_all is_unbroken (all_lines amount rows) ≡ true
all-unbroken amount [] h = refl
all-unbroken amount (row ∷ rows) h =
    let both = and_parts (is_text_row row) (list_all is_text_row rows) h in
    list_all-append is_unbroken (framed_lines amount row.shape row.level row.lines) (all_lines amount rows)
    ∙ and_from (list_all is_unbroken (framed_lines amount row.shape row.level row.lines)) (list_all is_unbroken (all_lines amount rows))
    (row-unbroken amount row.shape row.level row.lines ((proper-parts row both.0).unbroken)) (all-unbroken amount rows both.1)
