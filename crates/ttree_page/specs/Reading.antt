-- That the lines of a page say which steps were taken.
use Rattle.std.specs.Prelude.{◌≡◌, ℕ, suc, ◌^◌, ◌<◌, ◌==◌, not, Bool, IsTrue, ℤ, pos, negsuc, List, [], ◌++◌, map, take, All, Some, ⊤}
use Rattle.std.specs.Int.{int_div_euclid}
use Rattle.std.specs.List.{list_all}
use Rattle.ttree_page.specs.declared.form.LineForm.TheVariants.{Arrays}
use Rattle.ttree_page.specs.Lines.{step_line}
use Rattle.ttree_page.specs.Parsing.{read_line, read_lines}
use Rattle.ttree_page.specs.Steps.{Stamp, Step, About, New, Record, Event, Close, End}
use Rattle.ttree_page.specs.Writing.{lines_of}

-- a number of 64 bits, with or without a sign before it
abbrev pub FitsSigned : ℤ → Type 0
FitsSigned (pos n) = n < 2 ^ 64
FitsSigned (negsuc n) = suc n < 2 ^ 64

-- the clocks are those of a program: nanoseconds in 64 bits, and as many seconds between them
pub record FitsStamp (stamp : Stamp) : Type 0 where
  pub mono : stamp.mono < 2 ^ 64
  pub ahead : FitsSigned (int_div_euclid stamp.ahead (pos 1_000_000_000))

-- the ids and the clocks of a step are those of a program
abbrev pub FitsStep : Step → Type 0
FitsStep (About title) = ⊤
FitsStep (New stamp id parent name target fields) =
    FitsStamp stamp × (id < 2 ^ 64) × (parent < 2 ^ 64)
FitsStep (Record id fields) = id < 2 ^ 64
FitsStep (Event stamp parent current level target fields) =
    FitsStamp stamp × (parent < 2 ^ 64) × (current < 2 ^ 64)
FitsStep (Close stamp id) = FitsStamp stamp × (id < 2 ^ 64)
FitsStep End = ⊤

-- ---- by a reader

-- A reader of a step's line reads that step.
abbrev pub IsEachLineRead : Type 0
IsEachLineRead = (step : Step) → FitsStep step → read_line (step_line Arrays step) ≡ Some step

-- A reader of the lines of steps reads these steps, and nothing is left.
abbrev pub AreLinesRead : Type 0
AreLinesRead =
    (steps : List Step) → All FitsStep steps
    → read_lines (lines_of Arrays steps) ≡ (map Some steps, [])

-- a byte inside of a line
abbrev pub is_inside : ℕ → Bool
is_inside byte = not (byte == 10)

-- The whole lines of these bytes are read as the first steps of these. What is left is less than a
-- line.
pub record AreFirstRead (steps : List Step) (bytes : List ℕ) : Type 0 where
  pub count : ℕ
  pub left : List ℕ
  pub whole : bytes ≡ lines_of Arrays (take count steps) ++ left
  pub read : read_lines bytes ≡ (map Some (take count steps), left)
  pub inside : IsTrue (list_all is_inside left)

-- A file that is cut off anywhere is read up to its last whole line.
abbrev pub AreCutLinesRead : Type 0
AreCutLinesRead =
    (steps : List Step) (front cut : List ℕ) → All FitsStep steps
    → lines_of Arrays steps ≡ front ++ cut → AreFirstRead steps front

-- ---- by any reader

-- Two steps with the same line are the same step, whatever lines follow. So a line ends where its
-- step does, and says which step it is.
abbrev pub IsEachLineReadBack : Type 0
IsEachLineReadBack =
    (a b : Step) (rest more : List ℕ) → FitsStep a → FitsStep b
    → step_line Arrays a ++ rest ≡ step_line Arrays b ++ more → (a ≡ b) × (rest ≡ more)

-- The same lines are those of the same steps: what is in a page is what was called.
abbrev pub AreLinesReadBack : Type 0
AreLinesReadBack =
    (steps others : List Step) → All FitsStep steps → All FitsStep others
    → lines_of Arrays steps ≡ lines_of Arrays others → steps ≡ others
