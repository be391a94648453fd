-- Blanks before and between JSON values.
use Rattle.std.specs.Prelude.{ℕ, ◌==◌, ◌||◌, Bool, if◌then◌else◌, List, [], ◌∷◌, Option, Some, None}

abbrev pub is_blank : ℕ → Bool
is_blank byte = (byte == 32) || (byte == 9) || (byte == 13) || (byte == 10)

-- the bytes from the first one on that isn't a blank
abbrev pub after_blanks : List ℕ → List ℕ
after_blanks [] = []
after_blanks (byte ∷ others) = if is_blank byte then after_blanks others else byte ∷ others

-- the first byte that isn't a blank
abbrev pub first_byte : List ℕ → Option ℕ
first_byte [] = None
first_byte (byte ∷ others) = if is_blank byte then first_byte others else Some byte
