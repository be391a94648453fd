-- What readers of lines take of the bytes that a reader has left, if those are known.
use Rattle.std.specs.Prelude.{◌≡◌, ℕ, ◌==◌, ◌++◌, Bool, true, false, List, [], ◌∷◌, Option, Some, None, Result, Ok, Err, ⊤, All}
use Rattle.std.specs.Io.KnownBytes.{Consumes, Keeps, IsAtEnd}
use Rattle.tracing_tree_drawing.specs.Format.Settings.{Settings}
use Rattle.tracing_tree_lines.specs.Lines.Spelled.{SpellsSettings, input_lines}
use Rattle.tracing_tree_lines.specs.Lines.Values.{asked_timer}
use Rattle.tracing_tree_lines.specs.declared.lines.settings.timer.Timer.{Timer as AskedTimer}
use Rattle.tracing_tree_lines.specs.declared.lines.LineCause.{LineCause}
use Rattle.tracing_tree_lines.specs.declared.lines.LineCause.TheVariants.{Read, Memory, Refused}
use Rattle.tracing_tree_lines.specs.declared.lines.read.Part.{Part}
use Rattle.tracing_tree_lines.specs.declared.lines.read.Part.TheVariants.{Line, Input, Inside, Interrupted}

-- bytes within one line
abbrev pub HasNoLineEnd : List ℕ → Type 0
HasNoLineEnd bytes = All (λ byte. (byte == 10) ≡ false) bytes

-- a part of a line, and then this end of the part, were taken, and the part was appended to what
-- was read before
pub record TakesPart (end : List ℕ) (known left : Option (List ℕ)) (old new : List ℕ) : Type 0 where
  pub part : List ℕ
  pub within : HasNoLineEnd part
  pub added : new ≡ old ++ part
  pub taken : Consumes known left (part ++ end)

-- nothing was taken
pub record TakesNothing (known left : Option (List ℕ)) (old new : List ℕ) : Type 0 where
  pub same : new ≡ old
  pub kept : Keeps known left

-- a cause that comes from outside: it may be of a line that was not read whole
abbrev pub is_from_outside : LineCause → Bool
is_from_outside Read = true
is_from_outside Memory = true
is_from_outside cause = false

-- these are the whole lines that the bytes begin with
pub record BeginsWithLines (held lines : List ℕ) : Type 0 where
  pub rest : List ℕ
  pub front : held ≡ lines ++ rest
  pub within : HasNoLineEnd rest

-- what one look at the reader took
abbrev pub ReadsPart : Option (List ℕ) → Option (List ℕ) → List ℕ → List ℕ → Result Part LineCause
    → Type 0
ReadsPart known left old new (Ok Line) = TakesPart (10 ∷ []) known left old new
ReadsPart known left old new (Ok Input) = TakesNothing known left old new × IsAtEnd known
ReadsPart known left old new (Ok Inside) = TakesPart [] known left old new
ReadsPart known left old new (Ok Interrupted) = TakesNothing known left old new
ReadsPart known left old new (Err cause) = is_from_outside cause ≡ true

-- the first line was taken
abbrev pub TakesLine : Option (List ℕ) → Option (List ℕ) → List ℕ → Type 0
TakesLine None left line = ⊤
TakesLine (Some input) None line = ⊥
TakesLine (Some input) (Some rest) line = input_lines input ≡ line ∷ input_lines rest

-- no line is left
abbrev pub HasNoLine : Option (List ℕ) → Type 0
HasNoLine None = ⊤
HasNoLine (Some input) = input_lines input ≡ []

-- what reading a line took: the first line, or nothing if no line is left; it fails only for a
-- cause from outside
abbrev pub ReadsNext : Option (List ℕ) → Option (List ℕ) → List ℕ → Result Bool LineCause → Type 0
ReadsNext known left line (Ok true) = TakesLine known left line
ReadsNext known left line (Ok false) = HasNoLine known
ReadsNext known left line (Err cause) = is_from_outside cause ≡ true

-- what reading a line took if the buffer held it: the first line, or nothing
abbrev pub ReadsHeld : Option (List ℕ) → Option (List ℕ) → List ℕ → Result Bool LineCause → Type 0
ReadsHeld known left line (Ok true) = TakesLine known left line
ReadsHeld known left line (Ok false) = left ≡ known
ReadsHeld known left line (Err cause) = (cause ≡ Memory) × (left ≡ known)

-- a line was taken with its line end
pub record TakesEnded (known left : Option (List ℕ)) (line : List ℕ) : Type 0 where
  pub within : HasNoLineEnd line
  pub taken : Consumes known left (line ++ 10 ∷ [])

-- what is left of the input was taken, and it has no line end
abbrev pub TakesRest : Option (List ℕ) → Option (List ℕ) → List ℕ → Type 0
TakesRest None left line = ⊤
TakesRest (Some input) left line = HasNoLineEnd line × (input ≡ line) × (left ≡ Some [])

-- what reading up to a line end took: a line with its line end, or without one what is left; it
-- fails only for a cause from outside
abbrev pub ReadsEnded : Option (List ℕ) → Option (List ℕ) → List ℕ → Result Bool LineCause → Type 0
ReadsEnded known left line (Ok true) = TakesEnded known left line
ReadsEnded known left line (Ok false) = TakesRest known left line
ReadsEnded known left line (Err cause) = is_from_outside cause ≡ true

-- a cause that occurs before any call is made
abbrev pub IsBeforeCalls : LineCause → Type 0
IsBeforeCalls (Refused refusal) = ⊥
IsBeforeCalls cause = ⊤

-- the first line encodes these settings and this timer
pub record OpensWith (known left : Option (List ℕ)) (setup : Settings × AskedTimer) : Type 0 where
  pub line : List ℕ
  pub first : TakesLine known left line
  pub spelled : SpellsSettings line setup.0 (asked_timer setup.1)
