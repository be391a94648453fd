-- What two lists share from the front on, and the position at which they differ.
use Rattle.std.specs.Prelude.{◌≡◌, ℕ, Bool, false, if◌then◌else◌, List, slice_get, Option, Some, None, filter_map}
use Rattle.std.specs.Option.{option_map_or}
use Rattle.std.specs.List.{enumerate_from}
use Rattle.tracing_tree_spans.specs.Registry.Ids.{same_id}
use Rattle.tracing_tree_spans.specs.Registry.Forest.{Forest, path_of, path_of_any, fresh_ids}
use Rattle.tracing_tree_base.specs.declared.context.Id.{Id}

-- whether the left list has an equal item at the place
abbrev pub has_equal_at : {L R : Type 0} → (L → R → Bool) → List L → ℕ → R → Bool
has_equal_at equal left place item =
    option_map_or (λ other. equal other item) (slice_get left place) false

-- the right items whose place in the left list is missing or holds an unequal item
abbrev pub differing : {L R : Type 0} → (L → R → Bool) → List L → List R → List R
differing equal left right =
    filter_map (λ entry. if has_equal_at equal left entry.0 entry.1 then None else Some entry.1)
    (enumerate_from 0 right)

-- The items of a span's path that differ from the path of another span, which may be missing, are
-- the fresh ones. `PathPairs` proves it of each well-formed forest.
abbrev pub PathsDifferFreshly : Forest → Type 0
PathsDifferFreshly forest =
    (last : Option Id) (i : Id) → differing same_id (path_of_any forest last) (path_of forest i)
    ≡ fresh_ids forest last i
