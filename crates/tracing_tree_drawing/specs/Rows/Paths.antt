-- Where a drawing shows the ancestors of its events.
use Rattle.std.specs.Prelude.{◌≡◌, ℕ, ◌++◌, ◌∷◌, List, [], length, slice_get, Option, option_and_then, Result, Ok, Err}
use Rattle.std.specs.declared.alloc.AllocError.{AllocError}
use Rattle.tracing_tree_drawing.specs.Rows.RowText.{TextRow, IsOnlyReading, ancestor_at, event_path_at, event_paths}
use Rattle.tracing_tree_drawing.specs.declared.rows.paths.EventPath.{EventPath}

-- the place that is kept for a level, if one is
abbrev pub place_at : List (Option ℕ) → ℕ → Option ℕ
place_at places level = option_and_then (λ place. place) (slice_get places level)

-- for each level, the place of the last of these rows that opens a span of exactly that level
abbrev pub AreLastPlaces : List TextRow → List (Option ℕ) → Type 0
AreLastPlaces rows places = (level : ℕ) → place_at places level ≡ ancestor_at rows (length rows) level

-- what the row after these does: its path is returned if it is an event's
pub record FollowsRows (rows : List TextRow) (row : TextRow) (path : Option EventPath)
    (new : List (Option ℕ)) : Type 0 where
  pub last : AreLastPlaces (rows ++ row ∷ []) new
  pub found : path ≡ event_path_at rows (length rows) row

-- what a row at a place does, whatever rows come before it
abbrev pub TakesRow : List (Option ℕ) → ℕ → TextRow → Result (Option EventPath) AllocError →
    List (Option ℕ) → Type 0
TakesRow old place row (Ok path) new =
    (rows : List TextRow) → place ≡ length rows → AreLastPlaces rows old →
    FollowsRows rows row path new
TakesRow old place row (Err error) new =
    (rows : List TextRow) → AreLastPlaces rows old → AreLastPlaces rows new

-- after these rows, `count` of them, the places and the paths of their events are these
pub record ArePathsOf (rows : List TextRow) (places : List (Option ℕ)) (count : ℕ)
    (paths : List EventPath) : Type 0 where
  pub last : AreLastPlaces rows places
  pub counted : count ≡ length rows
  pub found : paths ≡ event_paths rows

-- the paths of the events of a string that is read
pub record AreEventPaths (amount : ℕ) (text : List ℕ) (paths : List EventPath) : Type 0 where
  pub rows : List TextRow
  pub reading : IsOnlyReading amount text rows
  pub paths_are : paths ≡ event_paths rows
