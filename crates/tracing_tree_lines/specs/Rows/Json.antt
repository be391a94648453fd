-- Rows as lines of JSON.
use Rattle.std.specs.Prelude.{◌≡◌, ◌⊎◌, ℕ, ◌-◌, ◌<◌, ◌≤◌, Bool, List, [], ◌∷◌, ◌++◌, length, take, flat_map, slice_get, Option, Some, None, Result, Ok, Err, IsSomeAnd, IsUtf8, codes, ⊤}
use Rattle.std.specs.List.{enumerate_from}
use Rattle.std.specs.Io.KnownBytes.{Appends}
use Rattle.serde_json.specs.Data.{Data, null, unsigned, boolean, number, string, array, object, Items, no_items, item, Members, no_members, member}
use Rattle.serde_json.specs.Written.{compact_text}
use Rattle.tracing_tree_drawing.specs.Format.Picture.{Row, parts_of}
use Rattle.tracing_tree_drawing.specs.Format.Settings.{Settings}
use Rattle.tracing_tree_drawing.specs.Rows.Readable.{IsDrawing, text_rows}
use Rattle.tracing_tree_drawing.specs.Rows.RowText.{TextRow, IsOnlyReading, IsFirstBadLine, event_path_at, first_lines}
use Rattle.tracing_tree_lines.specs.declared.rows.json_text.RowCause.{RowCause}
use Rattle.tracing_tree_lines.specs.declared.rows.json_text.RowCause.TheVariants.{NotARow, Read, Memory, Writer}
use Rattle.tracing_tree_lines.specs.declared.rows.json_text.RowFault.{RowFault}
use Rattle.tracing_tree_drawing.specs.declared.rows.paths.EventPath.{EventPath}
use Rattle.tracing_tree_drawing.specs.declared.rows.row.Shape.{Shape}
use Rattle.tracing_tree_drawing.specs.declared.rows.row.Shape.TheVariants.{PreOpen, OpenRoot, Open, CloseRoot, Close, PostClose, Event}

-- ---- one row

-- the name of a shape
abbrev pub shape_name : Shape → List ℕ
shape_name PreOpen = codes "PreOpen"
shape_name OpenRoot = codes "OpenRoot"
shape_name (Open verbose) = codes "Open"
shape_name CloseRoot = codes "CloseRoot"
shape_name (Close verbose) = codes "Close"
shape_name PostClose = codes "PostClose"
shape_name Event = codes "Event"

-- whether a row is verbose, if its shape says it
abbrev pub verbose_of : Shape → Option Bool
verbose_of PreOpen = None
verbose_of OpenRoot = None
verbose_of (Open verbose) = Some verbose
verbose_of CloseRoot = None
verbose_of (Close verbose) = Some verbose
verbose_of PostClose = None
verbose_of Event = None

abbrev pub text_items : List (List ℕ) → Items
text_items [] = no_items
text_items (text ∷ texts) = item (string text) (text_items texts)

abbrev pub place_value : Option ℕ → Data
place_value None = null
place_value (Some place) = number (unsigned place)

abbrev pub place_items : List (Option ℕ) → Items
place_items [] = no_items
place_items (place ∷ places) = item (place_value place) (place_items places)

-- the member of a row that is verbose or not, before others
abbrev pub verbose_member : Option Bool → Members → Members
verbose_member None others = others
verbose_member (Some verbose) others = member (codes "verbose") (boolean verbose) others

-- the member of an event's row
abbrev pub ancestors_member : Option EventPath → Members
ancestors_member None = no_members
ancestors_member (Some path) =
    member (codes "ancestors") (array (place_items path.ancestors)) no_members

-- the object of a row, with its keys in this order, and with the path of its event if it is one's
abbrev pub row_object : TextRow → Option EventPath → Data
row_object row path =
    object (member (codes "shape") (string (shape_name row.shape))
    (verbose_member (verbose_of row.shape)
    (member (codes "level") (number (unsigned row.level))
    (member (codes "lines") (array (text_items row.lines))
    (ancestors_member path)))))

-- the JSON of a row, without spaces
abbrev pub row_json : TextRow → Option EventPath → List ℕ
row_json row path = compact_text (row_object row path)

-- ---- rows

-- the line of the row at this place of the rows
abbrev pub json_line : List TextRow → ℕ → TextRow → List ℕ
json_line rows place row = row_json row (event_path_at rows place row) ++ 10 ∷ []

-- a line of JSON for each row
abbrev pub json_lines : List TextRow → List ℕ
json_lines rows = flat_map (λ entry. json_line rows entry.0 entry.1) (enumerate_from 0 rows)

abbrev pub all_but_last : List TextRow → List TextRow
all_but_last rows = take (length rows - 1) rows

-- ---- an input

-- at least `count` lines of the input have a line end, and they are the drawing of these rows and
-- of no others
pub record BeginsWithRows (amount : ℕ) (input : List ℕ) (count : ℕ)
    (rows : List TextRow) : Type 0 where
  pub ended : count < length (parts_of input)
  pub reading : IsOnlyReading amount (first_lines count input) rows

-- the line of this number, from 1, isn't UTF-8
abbrev pub IsNoText : List ℕ → ℕ → Type 0
IsNoText input line = IsSomeAnd (slice_get (parts_of input) (line - 1)) (λ bytes. ¬ (IsUtf8 bytes))

-- the line of this number, from 1, is the first that isn't a line of a row, or it isn't UTF-8
abbrev pub IsNotARow : ℕ → List ℕ → ℕ → Type 0
IsNotARow amount input line = IsFirstBadLine amount input line ⊎ IsNoText input line

-- a first part of the rows' JSON was written, with the lines of all rows but the last, and maybe a
-- part of the last row's line
pub record WritesBeginning (rows : List TextRow) (old new : Option (List ℕ)) : Type 0 where
  pub some : 0 < length rows
  pub count : ℕ
  pub others : length (json_lines (all_but_last rows)) ≤ count
  pub appends : Appends old new (take count (json_lines rows))

-- What was written for the rows of the lines before the one at which the reading ended: all lines
-- of JSON, all but the last row's if memory ran out, and a first part if a write failed.
abbrev pub LeavesWritten : RowCause → List TextRow → Option (List ℕ) → Option (List ℕ) → Type 0
LeavesWritten NotARow rows old new = Appends old new (json_lines rows)
LeavesWritten Read rows old new = Appends old new (json_lines rows)
LeavesWritten Memory rows old new = Appends old new (json_lines (all_but_last rows))
LeavesWritten Writer rows old new = WritesBeginning rows old new

-- what a cause says of the line at which the reading ended; nothing, if the cause comes from
-- outside
abbrev pub ReportsLine : ℕ → List ℕ → ℕ → RowCause → Type 0
ReportsLine amount input line NotARow = IsNotARow amount input line
ReportsLine amount input line Read = ⊤
ReportsLine amount input line Memory = ⊤
ReportsLine amount input line Writer = ⊤

-- the reading ended at a line: those before it are the drawing of rows, of which this much was
-- written
pub record EndsAtLine (amount : ℕ) (input : List ℕ) (fault : RowFault)
    (old new : Option (List ℕ)) : Type 0 where
  pub rows : List TextRow
  pub numbered : 1 ≤ fault.line
  pub before : BeginsWithRows amount input (fault.line - 1) rows
  pub emits : ReportsLine amount input fault.line fault.cause
  pub written : LeavesWritten fault.cause rows old new

-- the input is the drawing of rows and of no others, and a line of JSON was written for each row
pub record WritesAll (amount : ℕ) (input : List ℕ) (old new : Option (List ℕ)) : Type 0 where
  pub rows : List TextRow
  pub reading : IsOnlyReading amount input rows
  pub written : Appends old new (json_lines rows)

-- what reading a drawing and writing its rows leaves
abbrev pub WritesRows : ℕ → List ℕ → Result (Unit {0}) RowFault → Option (List ℕ)
    → Option (List ℕ) → Type 0
WritesRows amount input (Ok done) old new = WritesAll amount input old new
WritesRows amount input (Err fault) old new = EndsAtLine amount input fault old new

-- the same of the drawing of readable rows: what is written are the lines of these rows, and each
-- UTF-8 line of it is a row's line
abbrev pub WritesDrawing : ℕ → List ℕ → Result (Unit {0}) RowFault → Option (List ℕ)
    → Option (List ℕ) → Type 0
WritesDrawing amount input (Ok done) old new =
    (settings : Settings) (rows : List Row) → IsDrawing amount input settings rows →
    Appends old new (json_lines (text_rows rows))
WritesDrawing amount input (Err fault) old new =
    (settings : Settings) (rows : List Row) → IsDrawing amount input settings rows →
    fault.cause ≡ NotARow → IsNoText input fault.line
