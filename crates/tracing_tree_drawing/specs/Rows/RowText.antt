-- The text of rows as they are read back.
use Rattle.std.specs.Prelude.{◌≡◌, ℕ, ◌+◌, ◌-◌, ◌*◌, ◌≤◌, nat_le, nat_lt, ◌==◌, ◌&&◌, ◌||◌, Bool, true, false, not, IsTrue, if◌then◌else◌, List, [], ◌∷◌, ◌++◌, length, map, drop, take, flat_map, filter, filter_map, Option, Some, None, option_map, encode_utf8_all, ◌^◌}
use Rattle.std.specs.List.{enumerate_from, range_with_len, last_or, list_all, list_any, starts_with, prefix_len}
use Rattle.tracing_tree_drawing.specs.Format.Picture.{parts_of, has_line_end, drawn_line, lined_frame, shift_of}
use Prim.Native.Char.{code}
use Rattle.tracing_tree_drawing.specs.declared.format.SpanMode.{SpanMode}
use Rattle.tracing_tree_drawing.specs.declared.format.SpanMode.TheVariants as Mode
use Rattle.tracing_tree_drawing.specs.declared.rows.paths.EventPath.{EventPath}
use Rattle.tracing_tree_drawing.specs.declared.rows.row.Shape.{Shape}
use Rattle.tracing_tree_drawing.specs.declared.rows.row.Shape.TheVariants.{PreOpen, OpenRoot, Open, CloseRoot, Close, PostClose, Event}

-- A row as it is read back: its shape, its level and its lines. Contracts see the code's `Row` this
-- way. A parent's row has the level of the parent, one less than where it is drawn.
pub record TextRow : Type 0 where
  pub shape : Shape
  pub level : ℕ
  pub lines : List (List ℕ)

-- ---- shapes

-- the mode of a row that has this shape; an open row also represents a retraced one
abbrev pub mode_of : Shape → SpanMode
mode_of PreOpen = Mode.PreOpen
mode_of OpenRoot = Mode.Open false
mode_of (Open verbose) = Mode.Open verbose
mode_of CloseRoot = Mode.Close false
mode_of (Close verbose) = Mode.Close verbose
mode_of PostClose = Mode.PostClose
mode_of Event = Mode.Event

-- at level 0 a drawing doesn't show whether a row is verbose
abbrev pub open_shape : Bool → ℕ → Shape
open_shape verbose level = if level == 0 then OpenRoot else Open verbose

abbrev pub close_shape : Bool → ℕ → Shape
close_shape verbose level = if level == 0 then CloseRoot else Close verbose

-- the shape of a row of a mode at a level
abbrev pub shape_of : SpanMode → ℕ → Shape
shape_of Mode.PreOpen level = PreOpen
shape_of (Mode.Open verbose) level = open_shape verbose level
shape_of (Mode.Retrace verbose) level = open_shape verbose level
shape_of (Mode.Close verbose) level = close_shape verbose level
shape_of Mode.PostClose level = PostClose
shape_of Mode.Event level = Event

abbrev pub is_opening : Shape → Bool
is_opening PreOpen = false
is_opening OpenRoot = true
is_opening (Open verbose) = true
is_opening CloseRoot = false
is_opening (Close verbose) = false
is_opening PostClose = false
is_opening Event = false

abbrev pub is_event : Shape → Bool
is_event PreOpen = false
is_event OpenRoot = false
is_event (Open verbose) = false
is_event CloseRoot = false
is_event (Close verbose) = false
is_event PostClose = false
is_event Event = true

-- ---- what may be a row

-- the characters with which a frame can begin, which are all but the horizontal one
abbrev pub drawing_marks : List ℕ
drawing_marks =
    code "┐" ∷ code "┘" ∷ code "└" ∷ code "┌" ∷ code "├" ∷ code "│" ∷ []

-- the string without the spaces at its start
abbrev pub without_start_spaces : List ℕ → List ℕ
without_start_spaces text = drop (prefix_len (λ byte. byte == 32) text) text

-- the string begins with one of these characters
abbrev pub begins_with_any : List ℕ → List ℕ → Bool
begins_with_any characters text =
    list_any (λ character. starts_with (λ x y. x == y) text (encode_utf8_all (character ∷ [])))
    characters

-- a string that isn't only spaces, and whose first character after its spaces isn't one of these
-- marks
abbrev pub is_bare_text : List ℕ → Bool
is_bare_text text =
    not (length (without_start_spaces text) == 0)
    && not (begins_with_any drawing_marks (without_start_spaces text))

abbrev pub is_one_line : List (List ℕ) → Bool
is_one_line lines = length lines == 1

-- what an event at level 0 has: one line, which is a bare string
abbrev pub is_bare_line : List (List ℕ) → Bool
is_bare_line lines = is_one_line lines && list_all is_bare_text lines

-- a shape may have this level and these lines
abbrev pub fits_shape : Shape → ℕ → List (List ℕ) → Bool
fits_shape PreOpen level lines = true
fits_shape OpenRoot level lines = (level == 0) && is_one_line lines
fits_shape (Open verbose) level lines = nat_le 1 level
fits_shape CloseRoot level lines = (level == 0) && is_one_line lines
fits_shape (Close verbose) level lines = nat_le 1 level
fits_shape PostClose level lines = true
fits_shape Event level lines = nat_le 1 level || is_bare_line lines

abbrev pub is_unbroken : List ℕ → Bool
is_unbroken text = not (has_line_end text)

-- what each `Row` of the code is: at least one line, no line end in a line, and a shape that may
-- have this level and these lines
abbrev pub is_text_row : TextRow → Bool
is_text_row row =
    nat_le 1 (length row.lines) && list_all is_unbroken row.lines
    && fits_shape row.shape row.level row.lines

-- the row, if it may be one
abbrev pub made_row : TextRow → Option TextRow
made_row row = if is_text_row row then Some row else None

abbrev pub AreTextRows : List TextRow → Type 0
AreTextRows rows = IsTrue (list_all is_text_row rows)

-- ---- text

-- the lines of a row after their frames; no level wraps, and nothing precedes the frames
abbrev pub row_text : ℕ → TextRow → List ℕ
row_text amount row =
    flat_map
    (λ line. drawn_line [] (lined_frame (mode_of row.shape) amount row.level line.0) line.1)
    (enumerate_from 0 row.lines)

-- the text of rows
abbrev pub rows_text : ℕ → List TextRow → List ℕ
rows_text amount rows = flat_map (row_text amount) rows

-- a row's width, or the level that counts for it, is above the largest number
abbrev pub is_row_too_wide : ℕ → TextRow → Bool
is_row_too_wide amount row =
    nat_le (2 ^ 64) (row.level + shift_of (mode_of row.shape))
    || nat_le (2 ^ 64) ((row.level + shift_of (mode_of row.shape)) * amount)

-- ---- readings

-- the text is that of these rows
pub record IsReading (amount : ℕ) (text : List ℕ) (rows : List TextRow) : Type 0 where
  pub proper : AreTextRows rows
  pub drawn : rows_text amount rows ≡ text

-- the text is that of these rows and of no others
pub record IsOnlyReading (amount : ℕ) (text : List ℕ) (rows : List TextRow) : Type 0 where
  pub reading : IsReading amount text rows
  pub only : (others : List TextRow) → IsReading amount text others → others ≡ rows

-- no rows have this text
abbrev pub IsUnreadable : ℕ → List ℕ → Type 0
IsUnreadable amount text = (rows : List TextRow) → ¬ (IsReading amount text rows)

-- each line with its line end
abbrev pub ended : List (List ℕ) → List ℕ
ended lines = flat_map (λ line. line ++ 10 ∷ []) lines

-- the first lines of a text, each with its line end; the whole text if it has no more than these,
-- though its last line may lack its end
abbrev pub first_lines : ℕ → List ℕ → List ℕ
first_lines n text =
    if nat_lt n (length (parts_of text)) then ended (take n (parts_of text)) else text

-- the line of this number, from 1, is the first that isn't a line of a row
abbrev pub IsFirstBadLine : ℕ → List ℕ → ℕ → Type 0
IsFirstBadLine amount text n =
    (1 ≤ n) × ((rows : List TextRow) × IsReading amount (first_lines (n - 1) text) rows)
    × IsUnreadable amount (first_lines n text)

-- ---- ancestors

-- whether a row opens a span of this level
abbrev pub opens_level : ℕ → TextRow → Bool
opens_level level row = is_opening row.shape && (row.level == level)

-- the last place at which the test passes, if there is one
abbrev pub last_place : {X : Type 0} → (X → Bool) → List X → Option ℕ
last_place test xs =
    option_map (λ entry. entry.0)
    (last_or None (filter (λ entry. test entry.1) (enumerate_from 0 xs)))

-- the place of the last row before this one that opens a span of the level
abbrev pub ancestor_at : List TextRow → ℕ → ℕ → Option ℕ
ancestor_at rows place level = last_place (opens_level level) (take place rows)

-- the event at a place, with the places of the rows that open its ancestors, the root's first
abbrev pub event_path : List TextRow → ℕ → ℕ → EventPath
event_path rows place level =
    record { event = place; ancestors = map (ancestor_at rows place) (range_with_len 0 level) }

-- the same of a row, if it is an event's
abbrev pub event_path_at : List TextRow → ℕ → TextRow → Option EventPath
event_path_at rows place row =
    if is_event row.shape then Some (event_path rows place row.level) else None

abbrev pub event_paths : List TextRow → List EventPath
event_paths rows = filter_map (λ entry. event_path_at rows entry.0 entry.1) (enumerate_from 0 rows)
