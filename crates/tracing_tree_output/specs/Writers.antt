-- What is seen of a writer, and what it has after a write.
use Rattle.std.specs.Prelude.{◌≡◌, ◌≢◌, ℕ, ◌+◌, Bool, IsTrue, List, [], ◌++◌, Option, Result, Ok, Err}
use Rattle.std.specs.Io.KnownBytes.{Appends}
use Rattle.tracing_tree_output.specs.declared.output.Output.{Ghosts as Output}
use Rattle.tracing_tree_output.specs.declared.output.OutputFault.{OutputFault}

-- a writer: the bytes that it has taken, if they are known, how many writes it has refused, and
-- whether it takes strings whole
pub record SeenWriter : Type 0 where
  pub bytes : Option (List ℕ)
  pub faults : ℕ
  pub whole : Bool

-- what `Output` says of a writer
abbrev pub seen_writer : {W : Type 0} → Output W → W → SeenWriter
seen_writer output it =
    record { bytes = output.contents it; faults = output.fault_count it; whole = output.WHOLE }

-- an output has flushed all that it has taken, unless it has refused a flush
abbrev pub IsShown : {W : Type 0} → Output W → W → Type 0
IsShown output it = IsTrue (output.holds_back it) → IsTrue (output.stuck it)

-- a proper prefix of a string
pub record IsCutShort (text front : List ℕ) : Type 0 where
  pub rest : List ℕ
  pub whole : text ≡ front ++ rest
  pub cut : rest ≢ []

-- a fault of the writer: its count rose by one, and what was written is a proper prefix, or nothing
-- if writes are whole
pub record LeavesCut (text : List ℕ) (old new : SeenWriter) : Type 0 where
  pub rose : new.faults ≡ old.faults + 1
  pub front : List ℕ
  pub cut : IsCutShort text front
  pub appends : Appends old.bytes new.bytes front
  pub nothing : IsTrue old.whole → front ≡ []

-- The whole string is written, or a proper prefix of it. If writes are whole, a failed write writes
-- nothing.
abbrev pub WritesWhole : List ℕ → Result (Unit {0}) OutputFault → SeenWriter → SeenWriter → Type 0
WritesWhole text (Ok done) old new = Appends old.bytes new.bytes text × (new.faults ≡ old.faults)
WritesWhole text (Err fault) old new = LeavesCut text old new

-- a string that was written is removed; after a fault it is kept
abbrev pub emptied_when_ok : {E : Type 0} → Result (Unit {0}) E → List ℕ → List ℕ
emptied_when_ok (Ok done) text = []
emptied_when_ok (Err fault) text = text
