-- The columns of a frame: their count, and the character in each.
use Rattle.std.specs.Prelude.{ℕ, ◌+◌, ◌-◌, ◌*◌, ◌/◌, max, nat_lt, nat_le, ◌==◌, ◌&&◌, Bool, true, false, if◌then◌else◌, List, map, encode_utf8_all}
use Rattle.std.specs.List.{range_with_len}
use Rattle.tracing_tree_drawing.specs.Format.Picture.{continuation_shift, shift_of}
use Prim.Native.Char.{code}
use Rattle.tracing_tree_drawing.specs.declared.format.SpanMode.{SpanMode}
use Rattle.tracing_tree_drawing.specs.declared.format.SpanMode.TheVariants.{PreOpen, Open, Close, Retrace, PostClose, Event}

-- how many columns there are, and the character in each, counted from 0
pub record FrameColumns : Type 0 where
  pub width : ℕ
  pub glyph : ℕ → ℕ

-- the characters of the columns from left to right, as bytes
abbrev pub columns_text : FrameColumns → List ℕ
columns_text frame = encode_utf8_all (map frame.glyph (range_with_len 0 frame.width))

-- a space in each column
abbrev pub blank_columns : ℕ → FrameColumns
blank_columns width = record { width = width; glyph = λ column. code " " }

-- one column with this character
abbrev pub single_column : ℕ → FrameColumns
single_column character = record { width = 1; glyph = λ column. character }

-- a corner in the column `from`, one in the last column `to`, `─` between them and spaces before
abbrev pub corner_columns : ℕ → ℕ → ℕ → ℕ → FrameColumns
corner_columns left right from to = record {
  width = to + 1;
  glyph = λ column. if column == from then left
      else (if column == to then right
      else (if nat_lt from column && nat_lt column to then code "─" else code " "));
}

-- a span's corners; in a verbose row with enough space the first is half an amount further right
abbrev pub span_columns : ℕ → ℕ → Bool → ℕ → ℕ → FrameColumns
span_columns left right false amount before = corner_columns left right before (before + amount)
span_columns left right true amount before =
    if nat_le 2 amount then corner_columns left right (before + amount / 2) (before + amount)
    else blank_columns (before + amount + 1)

-- `├` in the column `from`, `─` in each after it and spaces before it
abbrev pub branch_columns : ℕ → ℕ → FrameColumns
branch_columns from width = record {
  width = width;
  glyph = λ column. if column == from then code "├"
      else (if nat_lt from column then code "─" else code " ");
}

-- `│` in the column `from`, spaces before it and in `amount` columns after it
abbrev pub bar_columns : ℕ → ℕ → FrameColumns
bar_columns from amount = record {
  width = from + 1 + amount;
  glyph = λ column. if column == from then code "│" else code " ";
}

-- at the left edge
abbrev pub edge_columns : SpanMode → FrameColumns
edge_columns (Open verbose) = single_column (code "┐")
edge_columns (Retrace verbose) = single_column (code "┐")
edge_columns (Close verbose) = single_column (code "┘")
edge_columns mode = blank_columns 0

-- the first line of a row, further right, after `before` columns
abbrev pub first_columns : SpanMode → ℕ → ℕ → FrameColumns
first_columns PreOpen amount before =
    corner_columns (code "└") (code "┐") before (before + max (amount / 2) 1)
first_columns (Open verbose) amount before =
    span_columns (code "└") (code "┐") verbose amount before
first_columns (Retrace verbose) amount before =
    span_columns (code "└") (code "┐") verbose amount before
first_columns (Close verbose) amount before =
    span_columns (code "┌") (code "┘") verbose amount before
first_columns PostClose amount before =
    corner_columns (code "┌") (code "┘") before (before + max (amount / 2) 1)
first_columns Event amount before = branch_columns before (before + amount)

-- a later line of a row, further right
abbrev pub later_columns : SpanMode → ℕ → ℕ → FrameColumns
later_columns mode amount before = bar_columns (before + continuation_shift mode) amount

-- with lines, at a wrapped level, in line `place` of the row; an amount of 0 leaves no columns
abbrev pub lined_columns : SpanMode → ℕ → ℕ → ℕ → FrameColumns
lined_columns mode amount wrapped place =
    let used = wrapped + shift_of mode in
    if used == 0 then edge_columns mode
    else (if amount == 0 then blank_columns 0
    else (if place == 0 then first_columns mode amount (used * amount - amount)
    else later_columns mode amount (used * amount - amount)))
