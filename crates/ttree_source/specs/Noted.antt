-- What is noted of lines that are skipped.
use Rattle.std.specs.Prelude.{◌≡◌, ℕ, List, [], ◌∷◌, ◌++◌, Option, Some, None, Result, Ok, Err, ⊤}
use Rattle.ttree_source.specs.declared.notes.Problem.{Problem}

-- a note: the number of a skipped line, and what the line lacks
abbrev pub Note : Type 0
Note = ℕ × Problem

-- these notes were added to those that are known
abbrev pub AddsNotes : List Note → Option (List Note) → Option (List Note) → Type 0
AddsNotes notes None new = ⊤
AddsNotes notes (Some old) new = new ≡ Some (old ++ notes)

-- the note of a skipped line, if there was memory to say what it lacks
abbrev pub note_if : {E : Type 0} → ℕ → Result Problem E → List Note
note_if number (Ok problem) = (number, problem) ∷ []
note_if number (Err error) = []
