-- A drawing that is read back, line by line.
use Rattle.std.specs.Prelude.{true, false, ℕ, ◌+◌, ◌-◌, ◌*◌, ◌/◌, ◌%◌, ◌==◌, true, false, not, ◌&&◌, if◌then◌else◌, List, [], ◌∷◌, ◌++◌, Option, Some, None, option_map, option_and_then, encode_utf8}
use Rattle.std.specs.Option.{option_map_or}
use Rattle.std.specs.List.{prefix_len}
use Rattle.tracing_tree_drawing.specs.Format.Picture.{columns, shift_of, continuation_shift}
use Prim.Native.Char.{code}
use Rattle.tracing_tree_drawing.specs.Rows.RowText.{TextRow, mode_of, is_bare_text, without_start_spaces}
use Rattle.tracing_tree_drawing.specs.declared.rows.row.Shape.{Shape}
use Rattle.tracing_tree_drawing.specs.declared.rows.row.Shape.TheVariants.{PreOpen, OpenRoot, Open, CloseRoot, Close, PostClose, Event}

-- ---- parts of a line

-- what follows this prefix, if the string has it
abbrev pub after_front : List ℕ → List ℕ → Option (List ℕ)
after_front [] text = Some text
after_front (byte ∷ front) [] = None
after_front (byte ∷ front) (first ∷ text) = if byte == first then after_front front text else None

-- the spaces before the first other character
abbrev pub start_spaces : List ℕ → ℕ
start_spaces line = prefix_len (λ byte. byte == code " ") line

-- what follows `count` `─` and the character
abbrev pub after_run : ℕ → ℕ → List ℕ → Option (List ℕ)
after_run count character text =
    after_front (columns count (code "─") ++ encode_utf8 character) text

-- ---- first lines

abbrev pub one_line_row : Shape → ℕ → List ℕ → TextRow
one_line_row shape level text = record { shape = shape; level = level; lines = text ∷ [] }

-- after a corner at the left edge
abbrev pub read_root : Shape → ℕ → List ℕ → Option TextRow
read_root shape spaces text = if spaces == 0 then Some (one_line_row shape 0 text) else None

-- After the first of two corners: the count of `─` up to the second distinguishes a row of a span
-- from one of a parent, and half an amount more of spaces marks a verbose one.
abbrev pub read_corners : ℕ → Shape → Shape → Shape → ℕ → ℕ → List ℕ → Option TextRow
read_corners corner plain parent verbose amount spaces text =
    if spaces % amount == 0
    then option_map_or (λ rest. Some (one_line_row plain (spaces / amount + 1) rest))
    (after_run (amount - 1) corner text)
    (option_map (one_line_row parent (spaces / amount)) (after_run (amount / 2 - 1) corner text))
    else (if spaces % amount == amount / 2
    then option_map (one_line_row verbose (spaces / amount + 1))
    (after_run (amount - 1 - amount / 2) corner text)
    else None)

-- after a branch
abbrev pub read_event : ℕ → ℕ → List ℕ → Option TextRow
read_event amount spaces text =
    if spaces % amount == 0
    then option_map (one_line_row Event (spaces / amount + 1))
    (after_front (columns (amount - 1) (code "─")) text)
    else None

-- a line, the number of spaces at its start, and what follows these
abbrev pub read_first_at : ℕ → List ℕ → ℕ → List ℕ → Option TextRow
read_first_at amount line spaces rest =
    option_map_or (read_root OpenRoot spaces) (after_front (encode_utf8 (code "┐")) rest)
    (option_map_or (read_root CloseRoot spaces) (after_front (encode_utf8 (code "┘")) rest)
    (option_map_or (read_corners (code "┐") (Open false) PreOpen (Open true) amount spaces)
    (after_front (encode_utf8 (code "└")) rest)
    (option_map_or (read_corners (code "┘") (Close false) PostClose (Close true) amount spaces)
    (after_front (encode_utf8 (code "┌")) rest)
    (option_map_or (read_event amount spaces) (after_front (encode_utf8 (code "├")) rest)
    (if is_bare_text line then Some (one_line_row Event 0 line) else None)))))

-- the row that begins with this line
abbrev pub read_first : ℕ → List ℕ → Option TextRow
read_first amount line = read_first_at amount line (start_spaces line) (without_start_spaces line)

-- ---- later lines

-- after the bar of a later line
abbrev pub read_later_at : ℕ → Shape → ℕ → ℕ → List ℕ → Option (List ℕ)
read_later_at amount shape used spaces text =
    if not (used == 0) && (spaces == used * amount - amount + continuation_shift (mode_of shape))
    then after_front (columns amount (code " ")) text
    else None

-- the text of a later line of a row of this shape and level
abbrev pub read_later : ℕ → Shape → ℕ → List ℕ → Option (List ℕ)
read_later amount shape level line =
    option_and_then (read_later_at amount shape (level + shift_of (mode_of shape))
    (start_spaces line))
    (after_front (encode_utf8 (code "│")) (without_start_spaces line))

-- ---- one line

-- what a line is after this row
pub data LineRead : Type 0 where
  FirstLine : TextRow → LineRead
  LaterLine : List ℕ → LineRead

abbrev pub read_below : ℕ → Option TextRow → List ℕ → Option (List ℕ)
read_below amount None line = None
read_below amount (Some row) line = read_later amount row.shape row.level line

abbrev pub read_line : ℕ → Option TextRow → List ℕ → Option LineRead
read_line amount before line =
    option_map_or (λ text. Some (LaterLine text)) (read_below amount before line)
    (option_map FirstLine (read_first amount line))

-- ---- text

abbrev pub with_line : TextRow → List ℕ → TextRow
with_line row text = record row { lines = row.lines ++ text ∷ [] }

-- the rows, and then the last one if there is one
abbrev pub with_last : List TextRow → Option TextRow → List TextRow
with_last rows None = rows
with_last rows (Some row) = rows ++ row ∷ []

abbrev pub rows_after : List TextRow → Option TextRow → LineRead → List TextRow
rows_after rows last (FirstLine row) = with_last rows last
rows_after rows last (LaterLine text) = rows

abbrev pub last_after : Option TextRow → LineRead → Option TextRow
last_after last (FirstLine row) = Some row
last_after last (LaterLine text) = option_map (λ row. with_line row text) last

-- the rows so far, without the last and the last, and then those of these lines
abbrev pub read_from : ℕ → List TextRow → Option TextRow → List (List ℕ) → Option (List TextRow)
read_from amount rows last [] = Some (with_last rows last)
read_from amount rows last (line ∷ lines) =
    option_and_then
    (λ read. read_from amount (rows_after rows last read) (last_after last read) lines)
    (read_line amount last line)

-- the rows of lines
abbrev pub read_lines : ℕ → List (List ℕ) → Option (List TextRow)
read_lines amount lines = read_from amount [] None lines
