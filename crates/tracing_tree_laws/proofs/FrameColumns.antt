-- A frame is the string of its columns.
use Rattle.std.proofs.Common.{◌≡◌, ◌==◌, ℕ, zero, suc, ◌+◌, ◌-◌, ◌*◌, ◌/◌, ◌<◌, ◌≤◌, max, Bool, true, false, List, [], ◌++◌, map, refl, sym, ap, ◌∙◌, arith, append_assoc}
use Rattle.std.specs.Prelude.{nat_le, encode_utf8_all, if◌then◌else◌}
use Rattle.std.specs.List.{range_with_len}
use Rattle.std.specs.Char.{encode_utf8}
use Rattle.std.proofs.Math.Nat.{zero-add, add-zero, suc-add}
use Rattle.std.proofs.lemmas.Bool.Decides.{nat_tests}
use Rattle.std.proofs.lemmas.List.{append-nil}
use Rattle.tracing_tree_drawing.specs.Format.Picture.{columns, corners, span_corners, edge_frame, first_frame, later_frame, lined_frame, shift_of, continuation_shift}
use Rattle.tracing_tree_drawing.proofs.Characters.{corner_up_right, corner_up_left, corner_down_right, corner_down_left, space, horizontal, vertical, branch}
use Rattle.tracing_tree_laws.specs.Columns.{columns_text, blank_columns, corner_columns, span_columns, branch_columns, bar_columns, edge_columns, first_columns, later_columns, lined_columns}
use Rattle.tracing_tree_drawing.specs.declared.format.SpanMode.{SpanMode}
use Rattle.tracing_tree_drawing.specs.declared.format.SpanMode.TheVariants.{PreOpen, Open, Close, Retrace, PostClose, Event}

-- the characters of `many` columns, from the column `from` on, as bytes
abbrev glyphs_text : (ℕ → ℕ) → ℕ → ℕ → List ℕ
glyphs_text glyph from many = encode_utf8_all (map glyph (range_with_len from many))

-- some columns and those after them
glyphs_text-split : (glyph : ℕ → ℕ) (from many more : ℕ) →
    glyphs_text glyph from (many + more) ≡ glyphs_text glyph from many ++ glyphs_text glyph (from + many) more
glyphs_text-split glyph from zero more =
    ap (λ n. glyphs_text glyph from n) (zero-add more) ∙ ap (λ start. glyphs_text glyph start more) (sym (add-zero from))
glyphs_text-split glyph from (suc many) more =
    let here = encode_utf8 (glyph from) in
    let move : from + 1 + many ≡ from + suc many = omega arith in
    ap (λ n. glyphs_text glyph from n) (suc-add many more)
    ∙ ap (λ rest. here ++ rest) (glyphs_text-split glyph (from + 1) many more
    ∙ ap (λ start. glyphs_text glyph (from + 1) many ++ glyphs_text glyph start more) move)
    ∙ sym (append_assoc here (glyphs_text glyph (from + 1) many) (glyphs_text glyph (from + suc many) more))

-- columns of one character
glyphs_text-same : (glyph : ℕ → ℕ) (character from many : ℕ) → ((k : ℕ) → from ≤ k → k < from + many → glyph k ≡ character) →
    glyphs_text glyph from many ≡ columns many character
glyphs_text-same glyph character from zero h = refl
glyphs_text-same glyph character from (suc many) h =
    let here = h from (omega arith) (omega arith) in
    let after = glyphs_text-same glyph character (from + 1) many (λ k low high. h k (omega arith) (omega arith)) in
    ap (λ c. encode_utf8 c ++ glyphs_text glyph (from + 1) many) here ∙ ap (λ rest. encode_utf8 character ++ rest) after

-- one column
glyphs_text-one : (glyph : ℕ → ℕ) (from character : ℕ) → glyph from ≡ character → glyphs_text glyph from 1 ≡ encode_utf8 character
glyphs_text-one glyph from character here = append-nil (encode_utf8 (glyph from)) ∙ ap encode_utf8 here

-- spaces, a character and a filler
glyphs_text-parts : (glyph : ℕ → ℕ) (from character filled filler : ℕ) →
    ((k : ℕ) → k < from → glyph k ≡ space) → glyph from ≡ character → ((k : ℕ) → from < k → k < from + 1 + filled → glyph k ≡ filler) →
    glyphs_text glyph 0 (from + 1 + filled) ≡ columns from space ++ encode_utf8 character ++ columns filled filler
glyphs_text-parts glyph from character filled filler spaces here after =
    let before : glyphs_text glyph 0 from ≡ columns from space =
    glyphs_text-same glyph space 0 from (λ k low high. spaces k (omega arith)) in
    let rest : glyphs_text glyph (from + 1) filled ≡ columns filled filler =
    glyphs_text-same glyph filler (from + 1) filled (λ k low high. after k (omega arith) (omega arith)) in
    glyphs_text-split glyph 0 (from + 1) filled
    ∙ ap (λ text. text ++ glyphs_text glyph (0 + (from + 1)) filled) (glyphs_text-split glyph 0 from 1)
    ∙ ap (λ start. glyphs_text glyph 0 from ++ glyphs_text glyph start 1 ++ glyphs_text glyph (0 + (from + 1)) filled) (zero-add from)
    ∙ ap (λ start. glyphs_text glyph 0 from ++ glyphs_text glyph from 1 ++ glyphs_text glyph start filled) (zero-add (from + 1))
    ∙ ap (λ text. text ++ glyphs_text glyph from 1 ++ glyphs_text glyph (from + 1) filled) before
    ∙ ap (λ text. columns from space ++ text ++ glyphs_text glyph (from + 1) filled) (glyphs_text-one glyph from character here)
    ∙ ap (λ text. columns from space ++ encode_utf8 character ++ text) rest

-- before two corners are spaces
corner_columns-spaces : (left right from to k : ℕ) → k < from → from < to → (corner_columns left right from to).glyph k ≡ space
corner_columns-spaces left right from to k h e = grind (arith, nat_tests)

-- in the column `from` is the first corner
corner_columns-left : (left right from to : ℕ) → (corner_columns left right from to).glyph from ≡ left
corner_columns-left left right from to = grind (arith, nat_tests)

-- between the corners is the line
corner_columns-line : (left right from to k : ℕ) → from < k → k < to → (corner_columns left right from to).glyph k ≡ horizontal
corner_columns-line left right from to k h e = grind (arith, nat_tests)

-- in the last column is the second corner
corner_columns-right : (left right from to : ℕ) → from < to → (corner_columns left right from to).glyph to ≡ right
corner_columns-right left right from to e = grind (arith, nat_tests)

-- two corners with `filled` columns between them
filled-text : (left right from filled : ℕ) →
    columns_text (corner_columns left right from (from + 1 + filled))
    ≡ columns from space ++ encode_utf8 left ++ columns filled horizontal ++ encode_utf8 right
filled-text left right from filled =
    let to = from + 1 + filled in
    let glyph = (corner_columns left right from to).glyph in
    let line = glyphs_text-parts glyph from left filled horizontal
    (λ k h. corner_columns-spaces left right from to k h (omega arith))
    (corner_columns-left left right from to)
    (λ k low high. corner_columns-line left right from to k low high) in
    let last = glyphs_text-one glyph to right (corner_columns-right left right from to (omega arith)) in
    glyphs_text-split glyph 0 to 1
    ∙ ap (λ start. glyphs_text glyph 0 to ++ glyphs_text glyph start 1) (zero-add to)
    ∙ ap (λ text. text ++ glyphs_text glyph to 1) line
    ∙ ap (λ text. columns from space ++ encode_utf8 left ++ columns filled horizontal ++ text) last

-- the same, from the columns of both corners
corners-columns : (left right from to : ℕ) → from < to → corners left right from to ≡ columns_text (corner_columns left right from to)
corners-columns left right from to h =
    let e : from + 1 + (to - from - 1) ≡ to = omega arith in
    sym (filled-text left right from (to - from - 1)) ∙ ap (λ last. columns_text (corner_columns left right from last)) e

-- only spaces
blank-columns : (width : ℕ) → columns width space ≡ columns_text (blank_columns width)
blank-columns width = sym (glyphs_text-same (blank_columns width).glyph space 0 width (λ k low high. refl))

-- the corners of a verbose row, if its amount leaves space for them
verbose-columns : (left right amount before : ℕ) (room : Bool) → nat_le 2 amount ≡ room →
    (if room then corners left right (before + amount / 2) (before + amount) else columns (before + amount + 1) space)
    ≡ columns_text (if room then corner_columns left right (before + amount / 2) (before + amount) else blank_columns (before + amount + 1))
verbose-columns left right amount before true e =
    let two : 2 ≤ amount = grind (arith, nat_tests) in
    corners-columns left right (before + amount / 2) (before + amount) (omega arith)
verbose-columns left right amount before false e = blank-columns (before + amount + 1)

-- the corners of a span's row
span-columns : (left right : ℕ) (verbose : Bool) (amount before : ℕ) → 0 < amount →
    span_corners left right verbose amount before ≡ columns_text (span_columns left right verbose amount before)
span-columns left right false amount before some = corners-columns left right before (before + amount) (omega arith)
span-columns left right true amount before some = verbose-columns left right amount before (nat_le 2 amount) refl

-- the corners of a parent's row
parent-columns : (left right before apart : ℕ) →
    corners left right before (before + max apart 1) ≡ columns_text (corner_columns left right before (before + max apart 1))
parent-columns left right before apart = corners-columns left right before (before + max apart 1) (omega arith)

-- before a branch are spaces
branch_columns-spaces : (from width k : ℕ) → k < from → (branch_columns from width).glyph k ≡ space
branch_columns-spaces from width k h = grind (arith, nat_tests)

-- in its column is the branch
branch_columns-branch : (from width : ℕ) → (branch_columns from width).glyph from ≡ branch
branch_columns-branch from width = grind (arith, nat_tests)

-- after a branch is the line
branch_columns-line : (from width k : ℕ) → from < k → (branch_columns from width).glyph k ≡ horizontal
branch_columns-line from width k h = grind (arith, nat_tests)

-- the frame of an event
branch-columns : (from amount : ℕ) → 0 < amount →
    columns from space ++ encode_utf8 branch ++ columns (amount - 1) horizontal ≡ columns_text (branch_columns from (from + amount))
branch-columns from amount some =
    let filled = amount - 1 in
    let width : from + 1 + filled ≡ from + amount = omega arith in
    let glyph = (branch_columns from (from + amount)).glyph in
    let parts = glyphs_text-parts glyph from branch filled horizontal
    (λ k h. branch_columns-spaces from (from + amount) k h)
    (branch_columns-branch from (from + amount))
    (λ k low high. branch_columns-line from (from + amount) k low) in
    sym parts ∙ ap (λ many. glyphs_text glyph 0 many) width

-- before a bar are spaces
bar_columns-spaces : (from amount k : ℕ) → k < from → (bar_columns from amount).glyph k ≡ space
bar_columns-spaces from amount k h = grind (arith, nat_tests)

-- in its column is the bar
bar_columns-bar : (from amount : ℕ) → (bar_columns from amount).glyph from ≡ vertical
bar_columns-bar from amount = grind (arith, nat_tests)

-- after a bar are spaces too
bar_columns-after : (from amount k : ℕ) → from < k → (bar_columns from amount).glyph k ≡ space
bar_columns-after from amount k h = grind (arith, nat_tests)

-- a bar between spaces
bar-columns : (from amount : ℕ) →
    columns from space ++ encode_utf8 vertical ++ columns amount space ≡ columns_text (bar_columns from amount)
bar-columns from amount =
    let glyph = (bar_columns from amount).glyph in
    sym (glyphs_text-parts glyph from vertical amount space
    (λ k h. bar_columns-spaces from amount k h)
    (bar_columns-bar from amount)
    (λ k low high. bar_columns-after from amount k low))

-- at the left edge
edge-columns : (mode : SpanMode) → edge_frame mode ≡ columns_text (edge_columns mode)
edge-columns PreOpen = refl
edge-columns (Open verbose) = sym (append-nil (encode_utf8 corner_down_left))
edge-columns (Close verbose) = sym (append-nil (encode_utf8 corner_up_left))
edge-columns (Retrace verbose) = sym (append-nil (encode_utf8 corner_down_left))
edge-columns PostClose = refl
edge-columns Event = refl

-- a first line
first-columns : (mode : SpanMode) (amount before : ℕ) → 0 < amount →
    first_frame mode amount before ≡ columns_text (first_columns mode amount before)
first-columns PreOpen amount before some = parent-columns corner_up_right corner_down_left before (amount / 2)
first-columns (Open verbose) amount before some = span-columns corner_up_right corner_down_left verbose amount before some
first-columns (Close verbose) amount before some = span-columns corner_down_right corner_up_left verbose amount before some
first-columns (Retrace verbose) amount before some = span-columns corner_up_right corner_down_left verbose amount before some
first-columns PostClose amount before some = parent-columns corner_down_right corner_up_left before (amount / 2)
first-columns Event amount before some = branch-columns before amount some

-- whichever of these a line has
chosen-columns : (mode : SpanMode) (amount before : ℕ) (edge none start : Bool) → (amount == 0) ≡ none →
    (if edge then edge_frame mode
    else (if none then [] else (if start then first_frame mode amount before else later_frame mode amount before)))
    ≡ columns_text (if edge then edge_columns mode
    else (if none then blank_columns 0 else (if start then first_columns mode amount before else later_columns mode amount before)))
chosen-columns mode amount before true none start e = edge-columns mode
chosen-columns mode amount before false true start e = refl
chosen-columns mode amount before false false true e = first-columns mode amount before (grind (arith, nat_tests))
chosen-columns mode amount before false false false e = bar-columns (before + continuation_shift mode) amount

-- a frame has the characters of its columns
pub lined-columns : (mode : SpanMode) (amount wrapped place : ℕ) →
    lined_frame mode amount wrapped place ≡ columns_text (lined_columns mode amount wrapped place)
lined-columns mode amount wrapped place =
    let used = wrapped + shift_of mode in
    chosen-columns mode amount (used * amount - amount) (used == 0) (amount == 0) (place == 0) refl
