-- Strings that grow.
use Rattle.std.specs.Prelude.{◌≡◌, ℕ, List, ◌++◌}

-- a string was appended, or nothing
pub record IsExtended (old new : List ℕ) : Type 0 where
  pub front : List ℕ
  pub appended : new ≡ old ++ front
