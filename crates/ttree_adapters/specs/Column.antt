-- The parts of a column of a fixed width.
use Rattle.std.specs.Prelude.{ℕ, ◌-◌, ◌/◌, ◌%◌, List, [], ◌∷◌, ◌++◌, decimal}

-- a number below 100 in two digits
abbrev pub pair : ℕ → List ℕ
pair number = decimal (number / 10) ++ decimal (number % 10)

-- a number below 1000 in three digits
abbrev pub three : ℕ → List ℕ
three number = decimal (number / 100) ++ decimal (number / 10 % 10) ++ decimal (number % 10)

-- how many columns these characters leave
abbrev pub columns_left : ℕ → List ℕ → ℕ
columns_left columns [] = columns
columns_left columns (c ∷ cs) = columns_left (columns - 1) cs
