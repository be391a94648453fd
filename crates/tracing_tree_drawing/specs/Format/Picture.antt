-- The drawing of rows.
use Rattle.std.specs.Prelude.{◌≡◌, ℕ, ◌+◌, ◌-◌, ◌*◌, ◌/◌, ◌%◌, ◌<◌, max, nat_lt, nat_le, ◌==◌, ◌&&◌, Bool, true, false, not, if◌then◌else◌, List, [], ◌∷◌, ◌++◌, flat_map, length, Option, Some, None, IsTrue, encode_utf8, ◌^◌}
use Rattle.std.specs.List.{enumerate_from, repeat, list_any, list_all, join_with_byte, slice_split}
use Rattle.std.specs.Str.Lines.{lines}
use Prim.Native.Char.{code}
use Rattle.tracing_tree_drawing.specs.Format.Settings.{Settings}
use Rattle.tracing_tree_base.specs.declared.context.Id.{Id}
use Rattle.tracing_tree_drawing.specs.declared.format.SpanMode.{SpanMode}
use Rattle.tracing_tree_drawing.specs.declared.format.SpanMode.TheVariants.{PreOpen, Open, Close, Retrace, PostClose, Event}

-- a row: its mode, the span that it shows, its level, its block of text, and what each line begins
-- with
pub record Row : Type 0 where
  pub mode : SpanMode
  pub span : Option Id
  pub level : ℕ
  pub block : List ℕ
  pub prefix : List ℕ

-- a row about no span
abbrev pub unnamed_row : SpanMode → ℕ → List ℕ → List ℕ → Row
unnamed_row mode level block prefix =
    record { mode = mode; span = None; level = level; block = block; prefix = prefix }

-- ---- lines

abbrev pub has_line_end : List ℕ → Bool
has_line_end text = list_any (λ byte. byte == 10) text

-- the strings between line ends; `PartsLaws` proves that this is the one list that satisfies
-- `AreParts`
abbrev pub parts_of : List ℕ → List (List ℕ)
parts_of block = slice_split (λ byte. byte == 10) block

-- a nonempty list of strings without line ends, whose joining by line ends is the block
pub record AreParts (block : List ℕ) (parts : List (List ℕ)) : Type 0 where
  pub joined : join_with_byte 10 parts ≡ block
  pub some : 0 < length parts
  pub without_line_ends : IsTrue (list_all (λ part. not (has_line_end part)) parts)

-- The lines of a row: those of its block, which gets a line end first if rows are drawn with lines.
-- `lines` splits the block at its line ends, drops one carriage return from the end of each part
-- but the last, and leaves out the last part if it is empty.
abbrev pub row_lines : Bool → List ℕ → List (List ℕ)
row_lines indent_lines block = lines (if indent_lines then block ++ 10 ∷ [] else block)

-- ---- frames

-- `many` columns of one character
abbrev pub columns : ℕ → ℕ → List ℕ
columns many character = repeat many (encode_utf8 character)

-- two corners in these columns, with spaces before them and `─` between them
abbrev pub corners : ℕ → ℕ → ℕ → ℕ → List ℕ
corners left right from to =
    columns from (code " ") ++ encode_utf8 left ++ columns (to - from - 1) (code "─")
    ++ encode_utf8 right

-- The corners of a span's row. In a verbose row the first is half an amount further right; an
-- amount of 1 has no space for them, so spaces are drawn.
abbrev pub span_corners : ℕ → ℕ → Bool → ℕ → ℕ → List ℕ
span_corners left right false amount from = corners left right from (from + amount)
span_corners left right true amount from =
    if nat_le 2 amount then corners left right (from + amount / 2) (from + amount)
    else columns (from + amount + 1) (code " ")

-- A frame is drawn between the prefix and the text of a line. This is that of each line of a row at
-- the left edge.
abbrev pub edge_frame : SpanMode → List ℕ
edge_frame (Open verbose) = encode_utf8 (code "┐")
edge_frame (Retrace verbose) = encode_utf8 (code "┐")
edge_frame (Close verbose) = encode_utf8 (code "┘")
edge_frame mode = []

-- the first line of a row, further right: the branch of a plain row is in the column `from`
abbrev pub first_frame : SpanMode → ℕ → ℕ → List ℕ
first_frame PreOpen amount from = corners (code "└") (code "┐") from (from + max (amount / 2) 1)
first_frame (Open verbose) amount from = span_corners (code "└") (code "┐") verbose amount from
first_frame (Retrace verbose) amount from = span_corners (code "└") (code "┐") verbose amount from
first_frame (Close verbose) amount from = span_corners (code "┌") (code "┘") verbose amount from
first_frame PostClose amount from = corners (code "┌") (code "┘") from (from + max (amount / 2) 1)
first_frame Event amount from =
    columns from (code " ") ++ encode_utf8 (code "├") ++ columns (amount - 1) (code "─")

-- how far `│` is to the right of a plain row's branch
abbrev pub continuation_shift : SpanMode → ℕ
continuation_shift (Open verbose) = 2
continuation_shift (Retrace verbose) = 2
continuation_shift (Close verbose) = 1
continuation_shift mode = 0

-- a later line
abbrev pub later_frame : SpanMode → ℕ → ℕ → List ℕ
later_frame mode amount from =
    columns (from + continuation_shift mode) (code " ") ++ encode_utf8 (code "│")
    ++ columns amount (code " ")

-- if rows are drawn with lines, a parent's rows around its child are one level further right
abbrev pub shift_of : SpanMode → ℕ
shift_of PreOpen = 1
shift_of PostClose = 1
shift_of mode = 0

-- with lines, at a wrapped level, in line `place` of the row
abbrev pub lined_frame : SpanMode → ℕ → ℕ → ℕ → List ℕ
lined_frame mode amount wrapped place =
    let used = wrapped + shift_of mode in
    let from = used * amount - amount in
    if used == 0 then edge_frame mode else (if amount == 0 then []
    else (if place == 0 then first_frame mode amount from else later_frame mode amount from))

-- one line: prefix, frame, text and line end
abbrev pub drawn_line : List ℕ → List ℕ → List ℕ → List ℕ
drawn_line prefix frame text = prefix ++ frame ++ text ++ 10 ∷ []

-- a row that closes has its mark before it
abbrev pub mark_before_corner : SpanMode → Option ℕ
mark_before_corner (Close verbose) = Some (code "┐")
mark_before_corner PostClose = Some (code "┐")
mark_before_corner mode = None

-- a row that opens has its mark after it; a retraced row and an event have no mark
abbrev pub mark_after_corner : SpanMode → Option ℕ
mark_after_corner PreOpen = Some (code "┘")
mark_after_corner (Open verbose) = Some (code "┘")
mark_after_corner mode = None

module _ (settings : Settings) where
  abbrev pub wrapped_level : ℕ → ℕ
  wrapped_level level = level % settings.wraparound

  -- the frame of line `place` of a row
  abbrev pub row_frame : SpanMode → ℕ → ℕ → List ℕ
  row_frame mode level place =
      let wrapped = wrapped_level level in
      if settings.indent_lines then lined_frame mode settings.indent_amount wrapped place
      else columns (wrapped * settings.indent_amount + (if place == 0 then 1 else 3)) (code " ")

  -- ---- pictures

  -- the lines of a row, in order
  abbrev pub picture : Row → List ℕ
  picture row =
      flat_map (λ line. drawn_line row.prefix (row_frame row.mode row.level line.0) line.1)
      (enumerate_from 0 (row_lines settings.indent_lines row.block))

  -- ---- wrap marks

  -- rows are drawn with lines, and the levels wrap round after this one, which isn't 0
  abbrev pub is_last_before_wrap : ℕ → Bool
  is_last_before_wrap level =
      settings.indent_lines && nat_lt 0 level && ((level + 1) % settings.wraparound == 0)

  -- the wrap mark of a row that has a corner for it: if the levels wrap round after the row's own,
  -- a line of `─` up to the wrapped level, and the corner
  abbrev pub mark_line : Row → Option ℕ → List ℕ
  mark_line row None = []
  mark_line row (Some corner) =
      let line = columns (wrapped_level row.level * settings.indent_amount) (code "─") in
      if is_last_before_wrap row.level then drawn_line row.prefix line (encode_utf8 corner) else []

  -- what precedes the block of a row of one line: its mark, if it has one there, its prefix and its
  -- frame
  abbrev pub row_start : Row → List ℕ
  row_start row =
      mark_line row (mark_before_corner row.mode) ++ row.prefix ++ row_frame row.mode row.level 0

  abbrev pub drawn_row : Row → List ℕ
  drawn_row row =
      mark_line row (mark_before_corner row.mode) ++ picture row
      ++ mark_line row (mark_after_corner row.mode)

  -- the text of the rows
  abbrev pub draw : List Row → List ℕ
  draw rows = flat_map drawn_row rows

  -- ---- widths

  -- the level that counts for the width
  abbrev pub level_used : SpanMode → ℕ → ℕ
  level_used mode level = wrapped_level level + (if settings.indent_lines then shift_of mode else 0)

  -- the width is above the largest `usize`, 2^64 - 1
  abbrev pub is_too_wide : Row → Bool
  is_too_wide row = nat_le (2 ^ 64) (level_used row.mode row.level * settings.indent_amount)
