-- What the code's frames append, which row a drawing draws, and how it changes a string.
use Rattle.std.specs.Prelude.{◌≡◌, ℕ, ◌+◌, ◌-◌, ◌*◌, ◌/◌, ◌<◌, nat_le, Bool, true, false, if◌then◌else◌, List, [], take, drop, ◌++◌, encode_utf8, ◌^◌}
use Rattle.std.specs.List.{repeat}
use Rattle.std.specs.String.Boundary.{IsSplitPoint}
use Rattle.tracing_tree_drawing.specs.Format.Picture.{Row, columns, drawn_row, is_too_wide, level_used, row_start, unnamed_row}
use Prim.Native.Char.{code}
use Rattle.tracing_tree_drawing.specs.Format.Texts.{prefix_text}
use Rattle.tracing_tree_drawing.specs.declared.format.draw.RowDrawing.{RowDrawing}
use Rattle.tracing_tree_drawing.specs.declared.format.draw.RowPlace.{RowPlace}
use Rattle.tracing_tree_drawing.specs.declared.format.draw.FramePieces.{FramePieces}

-- columns of spaces
abbrev pub blanks : ℕ → List ℕ
blanks count = columns count (code " ")

-- one column of `─`
abbrev pub line_piece : List ℕ
line_piece = encode_utf8 (code "─")

-- spaces, a branch, `filled` fillers, and a corner
abbrev pub frame_pieces : ℕ → List ℕ → List ℕ → ℕ → List ℕ → List ℕ
frame_pieces spaces branch filler filled corner =
    blanks spaces ++ branch ++ repeat filled filler ++ corner

abbrev pub pushed_text : FramePieces → List ℕ
pushed_text frame =
    frame_pieces frame.spaces frame.branch.now frame.filler.now frame.filled frame.corner.now

-- two corners in these columns, with a line between them
abbrev pub corner_pieces : List ℕ → List ℕ → ℕ → ℕ → List ℕ
corner_pieces left right from to =
    frame_pieces from left line_piece (to - from - 1) right

-- the corners of a span's row, as strings; `span_corners` has them as characters
abbrev pub span_pieces : List ℕ → List ℕ → Bool → ℕ → ℕ → List ℕ
span_pieces left right false amount before = corner_pieces left right before (before + amount)
span_pieces left right true amount before =
    if nat_le 2 amount then corner_pieces left right (before + amount / 2) (before + amount)
    else blanks (before + amount + 1)

-- the row that a drawing draws, with this block
abbrev pub row_of : RowDrawing → List ℕ → Row
row_of drawing block =
    unnamed_row drawing.mode drawing.level block
    (prefix_text drawing.config.now drawing.context.now)

-- the columns of its level fit `usize`
abbrev pub HasRoom : RowDrawing → Type 0
HasRoom drawing =
    level_used drawing.config.now drawing.mode
    drawing.level * drawing.config.now.indent_amount < 2 ^ 64

-- A row was begun at this place of a string: what precedes its block is there, and the block after
-- it.
pub record IsBegun (drawing : RowDrawing) (place : RowPlace) (text : List ℕ) : Type 0 where
  pub fits : is_too_wide drawing.config.now (row_of drawing []) ≡ false
  pub start : IsSplitPoint text place.start
  pub block : IsSplitPoint text place.block
  pub begun : take place.block text
      ≡ take place.start text ++ row_start drawing.config.now (row_of drawing [])

-- the string with the picture of that row
abbrev pub with_row : RowDrawing → RowPlace → List ℕ → List ℕ
with_row drawing place text =
    take place.start text
    ++ drawn_row drawing.config.now (row_of drawing (drop place.block text))
