-- What a writer that shapes lines has written.
use Rattle.std.specs.Prelude.{◌≡◌, ℕ, suc, ◌<◌, ◌≤◌, ◌==◌, true, false, List, ◌++◌, length, slice_index, Option, None, Some, Result, Ok, Err}
use Rattle.std.specs.Io.KnownBytes.{Appends}
use Rattle.ttree_terminal.specs.declared.shaping.Shaping.{Shaping}

-- A writer that shapes lines: the writer below it, what is done to a line, and what it holds of a
-- line without a line end.
pub record ShapedView (W : Type 0) : Type 0 where
  pub writer : W
  pub shaping : Shaping
  pub held : List ℕ

-- there is no line end (10) before this place of bytes
abbrev pub HasNoEnd : List ℕ → ℕ → Type 0
HasNoEnd bytes n = (k : ℕ) → k < n → (slice_index bytes k == 10) ≡ false

-- the length of the first line of bytes, if they have a line end
abbrev pub EndsFirstLine : List ℕ → Option ℕ → Type 0
EndsFirstLine bytes None = HasNoEnd bytes (length bytes)
EndsFirstLine bytes (Some n) =
    (i : ℕ) × (n ≡ suc i) × (n ≤ length bytes) × HasNoEnd bytes i
    × ((slice_index bytes i == 10) ≡ true)

-- a first part of some bytes was appended to known bytes
abbrev pub AppendsPart : Option (List ℕ) → Option (List ℕ) → List ℕ → Type 0
AppendsPart old new bytes =
    (part : List ℕ) × (rest : List ℕ) × (bytes ≡ part ++ rest) × Appends old new part

-- bytes were written: all, or a first part of them before an error
abbrev pub WritesOrPart : {A E : Type 0} → List ℕ → Result A E → Option (List ℕ) → Option (List ℕ)
    → Type 0
WritesOrPart bytes (Ok done) old new = Appends old new bytes
WritesOrPart bytes (Err error) old new = AppendsPart old new bytes
