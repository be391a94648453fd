-- Numbers in columns.
use Rattle.std.specs.Prelude.{ℕ, ◌-◌, List, ◌++◌, length, replicate, decimal}

-- a string right-aligned in `places` places
abbrev pub right_in : ℕ → List ℕ → List ℕ
right_in places text = replicate (places - length text) 32 ++ text

-- a number in at least `places` digits
abbrev pub digits_in : ℕ → ℕ → List ℕ
digits_in places n = replicate (places - length (decimal n)) 48 ++ decimal n
