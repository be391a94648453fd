-- Input that is read back, a line at a time.
use Rattle.std.specs.Prelude.{◌≡◌, ℕ, ◌<◌, ◌++◌, List, [], length, Option, Some, None, Result, Ok, Err, ⊤, IsTrue, Bool, true, false}
use Rattle.std.specs.declared.alloc.AllocError.{AllocError}
use Rattle.std.specs.List.{list_all}
use Rattle.tracing_tree_drawing.specs.Rows.RowText.{TextRow, IsFirstBadLine, ended, is_unbroken}
use Rattle.tracing_tree_drawing.specs.Rows.Line.{LineRead.FirstLine, LineRead.LaterLine, last_after, read_below, read_from, read_line, read_lines, with_last}
use Rattle.tracing_tree_drawing.specs.declared.rows.read.ReadFault.{ReadFault}
use Rattle.tracing_tree_drawing.specs.declared.rows.read.ReadFault.TheVariants.{Line, Memory}
use Rattle.tracing_tree_drawing.specs.declared.rows.read.Taken.{Taken}
use Rattle.tracing_tree_drawing.specs.declared.rows.read.Taken.TheVariants.{First, Later, Neither}

-- what a reader keeps: the amount, and the last row, which may continue
pub record ReaderView : Type 0 where
  pub amount : ℕ
  pub last : Option TextRow

-- the line is a first line, and the row before it is complete
pub record TakesFirst (old : ReaderView) (line : List ℕ) (done : Option TextRow)
    (new : ReaderView) : Type 0 where
  pub row : TextRow
  pub read : read_line old.amount old.last line ≡ Some (FirstLine row)
  pub complete : done ≡ old.last
  pub after : new ≡ record old { last = Some row }

-- the line is the next line of the last row
pub record TakesLater (old : ReaderView) (line : List ℕ) (new : ReaderView) : Type 0 where
  pub text : List ℕ
  pub read : read_line old.amount old.last line ≡ Some (LaterLine text)
  pub after : new ≡ record old { last = last_after old.last (LaterLine text) }

-- the line continues the last row, or it doesn't
abbrev pub TriesLater : ReaderView → List ℕ → Result Bool AllocError → ReaderView → Type 0
TriesLater old line (Ok true) new = TakesLater old line new
TriesLater old line (Ok false) new = (read_below old.amount old.last line ≡ None) × (new ≡ old)
TriesLater old line (Err error) new = new ≡ old

-- what a line does to a reader
abbrev pub TakesTextLine : ReaderView → List ℕ → Result Taken AllocError → ReaderView → Type 0
TakesTextLine old line (Ok (First done)) new = TakesFirst old line done new
TakesTextLine old line (Ok Later) new = TakesLater old line new
TakesTextLine old line (Ok Neither) new = (read_line old.amount old.last line ≡ None) × (new ≡ old)
TakesTextLine old line (Err error) new = new ≡ old

-- ---- inputs

-- what is left of an input: the reader of its lines, the rest, and how many lines were read
pub record TextLeft : Type 0 where
  pub reader : ReaderView
  pub rest : List ℕ
  pub lines : ℕ

-- a whole input
abbrev pub all_left : ℕ → List ℕ → TextLeft
all_left amount text = record {
  reader = record { amount = amount; last = None };
  rest = text;
  lines = 0;
}

-- these lines were read as the rows before the last, and the last
pub record IsReadUpTo (amount : ℕ) (before : List (List ℕ)) (rows : List TextRow)
    (last : Option TextRow) : Type 0 where
  pub rest_is : (rest : List (List ℕ)) →
      read_lines amount (before ++ rest) ≡ read_from amount rows last rest

-- the first lines of the input were read, as these rows and the last
pub record IsReadTo (text : List ℕ) (rows : List TextRow) (left : TextLeft) : Type 0 where
  pub before : List (List ℕ)
  pub upto : IsReadUpTo left.reader.amount before rows left.reader.last
  pub whole : text ≡ ended before ++ left.rest
  pub unbroken : IsTrue (list_all is_unbroken before)
  pub counted : left.lines ≡ length before

-- what a fault of the reader says of the input
abbrev pub ReportsFault : ℕ → List ℕ → ReadFault → Type 0
ReportsFault amount text (Line number) = IsFirstBadLine amount text number
ReportsFault amount text Memory = ⊤

-- what the next line of an input does: it is read, or it is the first bad one; or no line is left
abbrev pub TakesNext : List ℕ → List TextRow → TextLeft → Result (Option Taken) ReadFault →
    TextLeft → Type 0
TakesNext text rows old (Ok None) new = (new.rest ≡ []) × IsReadTo text rows new
TakesNext text rows old (Ok (Some (First done))) new = IsReadTo text (with_last rows done) new
TakesNext text rows old (Ok (Some Later)) new = IsReadTo text rows new
TakesNext text rows old (Ok (Some Neither)) new = ⊥
TakesNext text rows old (Err fault) new = ReportsFault old.reader.amount text fault

-- the amount stays, and less is left if a line was taken
abbrev pub LeavesLess : TextLeft → Result (Option Taken) ReadFault → TextLeft → Type 0
LeavesLess old (Ok None) new = new.reader.amount ≡ old.reader.amount
LeavesLess old (Ok (Some taken)) new =
    (length new.rest < length old.rest) × (new.reader.amount ≡ old.reader.amount)
LeavesLess old (Err fault) new = ⊤
