-- How a string between quotes is parsed.
use Rattle.std.specs.Prelude.{ℕ, ◌+◌, ◌*◌, ◌-◌, nat_lt, ◌==◌, if◌then◌else◌, List, [], ◌∷◌, Option, Some, None}

-- the state of the parser: between characters, after a backslash, or in a code with this many
-- digits left, and the value of its digits so far
pub data Mode : Type 0 where
  Plain : Mode
  Slash : Mode
  Code : (left value : ℕ) → Mode

-- what a byte does: it ends the string, is a byte of it, or changes the mode
pub data Step : Type 0 where
  Ends : Step
  Gives : (byte : ℕ) → Step
  Leads : (mode : Mode) → Step

-- the value of a hexadecimal digit
abbrev pub digit_of : ℕ → ℕ
digit_of glyph = if nat_lt glyph 58 then glyph - 48 else glyph - 87

abbrev pub next : Mode → ℕ → Step
next Plain byte = if byte == 34 then Ends else (if byte == 92 then Leads Slash else Gives byte)
next Slash byte = if byte == 117 then Leads (Code 4 0) else Gives byte
next (Code left value) byte =
    if left == 1 then Gives (value * 16 + digit_of byte)
    else Leads (Code (left - 1) (value * 16 + digit_of byte))

-- a string and what comes after it
abbrev pub Read : Type 0
Read = Option (List ℕ × List ℕ)

-- a byte before the string
abbrev pub put : ℕ → Read → Read
put byte None = None
put byte (Some read) = Some (byte ∷ read.0, read.1)

abbrev pub follow : Step → List ℕ → (Mode → Read) → Read
follow Ends rest read_on = Some ([], rest)
follow (Gives byte) rest read_on = put byte (read_on Plain)
follow (Leads mode) rest read_on = read_on mode

-- the string up to the first closing quote
abbrev pub read_text : Mode → List ℕ → Read
read_text mode [] = None
read_text mode (byte ∷ rest) = follow (next mode byte) rest (λ mode. read_text mode rest)
