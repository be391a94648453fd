-- Drawings that can be read back.
use Rattle.std.specs.Prelude.{◌≡◌, ℕ, ◌+◌, nat_le, nat_lt, ◌==◌, ◌&&◌, ◌||◌, Bool, true, IsTrue, List, length, map}
use Rattle.std.specs.List.{list_all}
use Rattle.tracing_tree_drawing.specs.Format.Settings.{Settings}
use Rattle.tracing_tree_drawing.specs.Format.Picture.{Row, draw, row_lines}
use Rattle.tracing_tree_drawing.specs.declared.format.SpanMode.{SpanMode}
use Rattle.tracing_tree_drawing.specs.declared.format.SpanMode.TheVariants.{PreOpen, Open, Close, Retrace, PostClose, Event}
use Rattle.tracing_tree_drawing.specs.declared.rows.read.ReadFault.{ReadFault}
use Rattle.tracing_tree_drawing.specs.declared.rows.read.ReadFault.TheVariants.{Memory}
use Rattle.tracing_tree_drawing.specs.Rows.RowText.{TextRow, shape_of, is_bare_text, is_one_line}

-- at level 0 a drawing doesn't show where an open, close or event row of several lines ends, or
-- that a string is an event's
abbrev pub is_plain_at_edge : SpanMode → List (List ℕ) → Bool
is_plain_at_edge PreOpen lines = true
is_plain_at_edge (Open verbose) lines = is_one_line lines
is_plain_at_edge (Close verbose) lines = is_one_line lines
is_plain_at_edge (Retrace verbose) lines = is_one_line lines
is_plain_at_edge PostClose lines = true
is_plain_at_edge Event lines = is_one_line lines && list_all is_bare_text lines

-- no prefix, a level below the last before the wrap, where a wrap mark may be drawn, and what is
-- drawn at the left edge is plain
abbrev pub is_readable_row : Settings → Row → Bool
is_readable_row settings row =
    (length row.prefix == 0) && nat_lt (row.level + 1) settings.wraparound
    && (nat_le 1 row.level || is_plain_at_edge row.mode (row_lines true row.block))

-- with lines and an amount of 2 or more
abbrev pub IsReadable : Settings → List Row → Type 0
IsReadable settings rows =
    IsTrue (settings.indent_lines && nat_le 2 settings.indent_amount
    && list_all (is_readable_row settings) rows)

-- a row as it is read back
abbrev pub text_row : Row → TextRow
text_row row = record {
  shape = shape_of row.mode row.level;
  level = row.level;
  lines = row_lines true row.block;
}

abbrev pub text_rows : List Row → List TextRow
text_rows rows = map text_row rows

-- ---- what is read of a drawing

-- the text is the drawing of these rows, and they are readable
pub record IsDrawing (amount : ℕ) (text : List ℕ) (settings : Settings)
    (rows : List Row) : Type 0 where
  pub measured : settings.indent_amount ≡ amount
  pub readable : IsReadable settings rows
  pub drawn : text ≡ draw settings rows

-- if the text is the drawing of readable rows, what is read is these rows, as `text_row` shows them
abbrev pub ReadsDrawing : ℕ → List ℕ → List TextRow → Type 0
ReadsDrawing amount text read =
    (settings : Settings) (rows : List Row) → IsDrawing amount text settings rows →
    read ≡ text_rows rows

-- if the text is the drawing of readable rows, the fault is `Memory`
abbrev pub ReadsNoDrawing : ℕ → List ℕ → ReadFault → Type 0
ReadsNoDrawing amount text fault =
    (settings : Settings) (rows : List Row) → IsDrawing amount text settings rows → fault ≡ Memory
