-- Marks at the front of a line, and strings without a byte.
use Rattle.std.specs.Prelude.{ℕ, ◌==◌, Bool, if◌then◌else◌, List, length, drop, Option, Some, None}
use Rattle.std.specs.List.{starts_with}

abbrev pub begins : List ℕ → List ℕ → Bool
begins mark text = starts_with (λ a b. a == b) text mark

-- what follows this mark at the front of a line
abbrev pub after_mark : List ℕ → List ℕ → Option (List ℕ)
after_mark mark line = if begins mark line then Some (drop (length mark) line) else None

abbrev pub is_empty : List ℕ → Bool
is_empty text = length text == 0
