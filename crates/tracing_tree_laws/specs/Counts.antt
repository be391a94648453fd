-- Nearest counts, by their property.
use Rattle.std.specs.Prelude.{◌≡◌, ◌≢◌, ◌≤◌, ◌*◌, ℕ, true}
use Rattle.tracing_tree_time.specs.Clock.{distance, is_even}

-- no other count of the unit is nearer to n, and if another is as near, `count` is even
pub record IsNearest (unit n count : ℕ) : Type 0 where
  pub near : (other : ℕ) → distance n (count * unit) ≤ distance n (other * unit)
  pub even : (other : ℕ) → other ≢ count → distance n (other * unit) ≡ distance n (count * unit) →
      is_even count ≡ true
