-- What outputs do with strings.
use Rattle.std.specs.Prelude.{◌≡◌, ℕ, ◌+◌, ◌<◌, ◌≤◌, Bool, true, false, IsTrue, List, [], length, Option, Result, MatchResult}
use Rattle.std.specs.Io.KnownBytes.{Appends}
use Rattle.tracing_tree_output.specs.declared.output.OutputFault.{OutputFault}

-- a write takes some of the piece, or all of it if writes are whole
pub record TakesSome (whole : Bool) (piece : List ℕ) (taken : ℕ) : Type 0 where
  pub within : taken ≤ length piece
  pub some : 0 < length piece → 0 < taken
  pub all : IsTrue whole → taken ≡ length piece

-- a write leaves the count of faults, and a refused one raises it by one
abbrev pub CountsFault : ℕ → ℕ → Result ℕ OutputFault → Type 0
CountsFault old new result = MatchResult result (λ taken. new ≡ old) (λ fault. new ≡ old + 1)

-- an output keeps a string, and its old buffer is then empty; or nothing has changed
abbrev pub KeepsText : Bool → List ℕ → List ℕ → Option (List ℕ) → Option (List ℕ) → Type 0
KeepsText true text left old new = Appends old new text × (left ≡ [])
KeepsText false text left old new = (new ≡ old) × (left ≡ text)

-- an output in memory: what it holds, and how many writes were refused
pub record TapeView : Type 0 where
  pub bytes : List ℕ
  pub faults : ℕ

-- an output over a writer: how many writes were refused, whether the writer has taken bytes since
-- its last flush, and whether a flush was refused
pub record WrapView (W : Type 0) : Type 0 where
  pub writer : W
  pub faults : ℕ
  pub holds_back : Bool
  pub stuck : Bool
