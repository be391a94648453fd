-- What the parts of `rows_to_json` do, one row and one line at a time.
use Rattle.std.specs.Prelude.{◌≡◌, ℕ, ◌+◌, ◌≤◌, Bool, true, false, List, [], ◌∷◌, ◌++◌, length, take, Option, Some, None, Result, Ok, Err, codes, decimal}
use Rattle.std.specs.Io.KnownBytes.{Appends}
use Rattle.serde_json.specs.Data.{boolean}
use Rattle.serde_json.specs.Written.{compact_text, items_text}
use Rattle.tracing_tree_drawing.specs.Rows.Paths.{AreLastPlaces}
use Rattle.tracing_tree_lines.specs.Rows.Json.{EndsAtLine, IsNotARow, json_line, json_lines, place_items, shape_name, verbose_of}
use Rattle.tracing_tree_drawing.specs.Rows.RowText.{TextRow}
use Rattle.tracing_tree_drawing.specs.Rows.Texts.{IsReadTo}
use Rattle.tracing_tree_lines.specs.declared.rows.json_text.Ended.{Ended}
use Rattle.tracing_tree_lines.specs.declared.rows.json_text.JsonRows.{JsonRows}
use Rattle.tracing_tree_lines.specs.declared.rows.json_text.RowCause.{RowCause}
use Rattle.tracing_tree_lines.specs.declared.rows.json_text.RowCause.TheVariants.{NotARow, Read, Memory, Writer}
use Rattle.tracing_tree_lines.specs.declared.rows.json_text.RowFault.{RowFault}
use Rattle.tracing_tree_lines.specs.declared.rows.json_text.RowsRead.{RowsRead}
use Rattle.tracing_tree_drawing.specs.declared.rows.paths.EventPath.{EventPath}
use Rattle.tracing_tree_drawing.specs.declared.rows.row.Shape.{Shape}

-- a whole string is written, or a prefix of it
abbrev pub WritesText : List ℕ → Result (Unit {0}) RowCause → Option (List ℕ) → Option (List ℕ)
    → Type 0
WritesText text (Ok done) old new = Appends old new text
WritesText text (Err cause) old new =
    (cause ≡ Writer) × ((count : ℕ) × Appends old new (take count text))

-- these rows' lines were written after what the writer held at first
pub record HasWritten (start : Option (List ℕ)) (rows : List TextRow) (json : JsonRows)
    (now : Option (List ℕ)) : Type 0 where
  pub last : AreLastPlaces rows json.ancestry
  pub counted : json.place ≡ length rows
  pub appended : Appends start now (json_lines rows)

-- what writing one more row leaves
abbrev pub WritesNext : Option (List ℕ) → List TextRow → TextRow → Result (Unit {0}) RowCause
    → JsonRows → Option (List ℕ) → Type 0
WritesNext start rows row (Ok done) json now = HasWritten start (rows ++ row ∷ []) json now
WritesNext start rows row (Err NotARow) json now = ⊥
WritesNext start rows row (Err Read) json now = ⊥
WritesNext start rows row (Err Memory) json now = Appends start now (json_lines rows)
WritesNext start rows row (Err Writer) json now =
    (count : ℕ)
    × Appends start now (json_lines rows ++ take count (json_line rows (length rows) row))

-- `count` lines of the input were read, and this is left. The lines of all rows but the last were
-- written.
pub record SoFar (amount : ℕ) (input : List ℕ) (start : Option (List ℕ)) (count : ℕ)
    (rest : List ℕ) (read : RowsRead) (now : Option (List ℕ)) : Type 0 where
  pub two : 2 ≤ amount
  pub rows : List TextRow
  pub measured : read.reader.amount ≡ amount
  pub upto : IsReadTo input rows (record { reader = read.reader; rest = rest; lines = count })
  pub fewer : length rows ≤ count
  pub fresh : read.reader.last ≡ None → rows ≡ []
  pub written : HasWritten start rows read.json now

-- The reading ended after this count of lines: at the input's end, or at the next line for a cause.
abbrev pub HasEnded : ℕ → List ℕ → Option (List ℕ) → ℕ → Option RowCause → RowsRead
    → Option (List ℕ) → Type 0
HasEnded amount input start count None read now = SoFar amount input start count [] read now
HasEnded amount input start count (Some NotARow) read now =
    ((rest : List ℕ) × SoFar amount input start count rest read now)
    × IsNotARow amount input (count + 1)
HasEnded amount input start count (Some Read) read now =
    (rest : List ℕ) × SoFar amount input start count rest read now
HasEnded amount input start count (Some Memory) read now =
    EndsAtLine amount input (record { line = count + 1; cause = Memory }) start now
HasEnded amount input start count (Some Writer) read now =
    EndsAtLine amount input (record { line = count + 1; cause = Writer }) start now

-- what taking the next line leaves, if this follows its line end
abbrev pub TakesRowLine : ℕ → List ℕ → Option (List ℕ) → ℕ → List ℕ
    → Result (Unit {0}) RowCause → RowsRead → Option (List ℕ) → Type 0
TakesRowLine amount input start count after (Ok done) read now =
    SoFar amount input start (count + 1) after read now
TakesRowLine amount input start count after (Err cause) read now =
    HasEnded amount input start count (Some cause) read now

-- what reading a line leaves
abbrev pub ReadsRowLine : ℕ → List ℕ → Option (List ℕ) → ℕ → Option (List ℕ)
    → Result Bool RowCause → RowsRead → Option (List ℕ) → Type 0
ReadsRowLine amount input start count left (Ok true) read now =
    (rest : List ℕ) × (left ≡ Some rest) × SoFar amount input start (count + 1) rest read now
ReadsRowLine amount input start count left (Ok false) read now =
    HasEnded amount input start count None read now
ReadsRowLine amount input start count left (Err cause) read now =
    HasEnded amount input start count (Some cause) read now

-- what reading all lines leaves
pub record ReadsRowLines (amount : ℕ) (input : List ℕ) (start : Option (List ℕ)) (ended : Ended)
    (read : RowsRead) (now : Option (List ℕ)) : Type 0 where
  pub count : ℕ
  pub numbered : ended.line ≡ count + 1
  pub left : HasEnded amount input start count ended.cause read now

-- if memory ran out or the writer failed, the last row isn't written
abbrev pub drops_last : Option RowCause → Bool
drops_last None = false
drops_last (Some NotARow) = false
drops_last (Some Read) = false
drops_last (Some Memory) = true
drops_last (Some Writer) = true

-- the fault of a cause at a line, if there is a cause
abbrev pub fault_at : ℕ → Option RowCause → Result (Unit {0}) RowFault
fault_at line None = Ok tt
fault_at line (Some cause) = Err (record { line = line; cause = cause })

-- ---- the JSON of a row's members

abbrev pub verbose_text : Option Bool → List ℕ
verbose_text None = []
verbose_text (Some verbose) = codes ",\"verbose\":" ++ compact_text (boolean verbose)

abbrev pub shape_text : Shape → List ℕ
shape_text shape =
    codes "{\"shape\":\"" ++ (shape_name shape ++ (codes "\"" ++ verbose_text (verbose_of shape)))

-- the level, and the start of the lines
abbrev pub level_json : ℕ → List ℕ
level_json level = codes ",\"level\":" ++ (decimal level ++ codes ",\"lines\":[")

abbrev pub ancestors_text : Option EventPath → List ℕ
ancestors_text None = []
ancestors_text (Some path) =
    codes ",\"ancestors\":[" ++ items_text false (place_items path.ancestors)
