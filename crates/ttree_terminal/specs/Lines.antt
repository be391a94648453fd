-- Lines as they are written.
use Rattle.std.specs.Prelude.{ℕ, ◌==◌, if◌then◌else◌, List, [], ◌∷◌, ◌++◌, Option, Some, None, Bool, ◌||◌, is_some}
use Rattle.std.specs.Str.Lossy.{utf8_lossy}
use Rattle.ttree_source.specs.Calls.{shown_text}
use Rattle.ttree_terminal.specs.declared.shaping.Shaping.{Shaping}
use Rattle.ttree_terminal.specs.Plain.{plain_after}
use Rattle.ttree_terminal.specs.Columns.{cut_at}

-- A line with escapes for its controls. A plain line is unchanged, if it is plain whatever byte
-- comes before it. Otherwise U+FFFD replaces what isn't UTF-8.
abbrev pub escaped_line : List ℕ → List ℕ
escaped_line line = if plain_after 194 line then line else shown_text (utf8_lossy line)

-- A line cut at this many columns, if there is a number and it isn't 0.
abbrev pub cut_to : Option ℕ → List ℕ → List ℕ
cut_to None line = line
cut_to (Some width) line = if width == 0 then line else cut_at width line

-- what a line becomes
abbrev pub shaped : Shaping → List ℕ → List ℕ
shaped shaping line = cut_to shaping.width (if shaping.is_escaped then escaped_line line else line)

-- whether a line may be changed
abbrev pub is_shaping : Shaping → Bool
is_shaping shaping = shaping.is_escaped || is_some shaping.width

-- what is held of a line after a byte
abbrev pub held_after : List ℕ → ℕ → List ℕ
held_after held byte = if byte == 10 then [] else held ++ byte ∷ []

-- the line that a byte ends, if it is a line end
abbrev pub ended_by : Shaping → List ℕ → ℕ → List ℕ
ended_by shaping held byte = if byte == 10 then shaped shaping (held ++ byte ∷ []) else []

-- the lines that bytes end, if the first of them is held so far
abbrev pub lines_ended : Shaping → List ℕ → List ℕ → List ℕ
lines_ended shaping held [] = []
lines_ended shaping held (byte ∷ bytes) =
    ended_by shaping held byte ++ lines_ended shaping (held_after held byte) bytes

-- what is held after these bytes
abbrev pub held_after_bytes : List ℕ → List ℕ → List ℕ
held_after_bytes held [] = held
held_after_bytes held (byte ∷ bytes) = held_after_bytes (held_after held byte) bytes
