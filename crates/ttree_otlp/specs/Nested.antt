-- Rows in drawing order, and what is nested in them. The rows in a row are those
-- that follow it, up to the first that isn't deeper.
use Rattle.std.specs.Prelude.{ℕ, nat_lt, min, Bool, false, ◌&&◌, ◌||◌, if◌then◌else◌, List, [], ◌∷◌}
use Rattle.ttree_otlp.specs.declared.walk.Row.{Row}

-- the first row is deeper than this
abbrev pub begins_deeper : ℕ → List Row → Bool
begins_deeper depth [] = false
begins_deeper depth (row ∷ others) = nat_lt depth row.depth

-- the rows after those that are nested in a row at this depth
abbrev pub without_nested : ℕ → List Row → List Row
without_nested depth [] = []
without_nested depth (row ∷ others) =
    if nat_lt depth row.depth then without_nested depth others else row ∷ others

module _ (picks : Row → Bool) where
  -- a row at this depth, which comes before these rows, has one in it that is picked
  abbrev pub contains : ℕ → List Row → Bool
  contains depth [] = false
  contains depth (row ∷ others) =
      nat_lt depth row.depth && (picks row || contains depth others)

-- ---- how far up rows contain a picked one

abbrev pub reach_with : Bool → ℕ → ℕ → ℕ
reach_with is_picked depth reach = if is_picked then depth else min depth reach

module _ (picks : Row → Bool) where
  -- Exactly the rows of a lower depth than this have one of these rows in them that is picked.
  abbrev pub reach_of : List Row → ℕ
  reach_of [] = 0
  reach_of (row ∷ others) = reach_with (picks row) row.depth (reach_of others)
