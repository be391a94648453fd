-- What two paths share.
use Rattle.std.specs.Prelude.{ℕ, ◌+◌, ◌-◌, ◌≤◌, ◌==◌, Bool, false, if◌then◌else◌, IsTrue, List, length, slice_get, min}
use Rattle.std.specs.Option.{option_map_or}
use Rattle.tracing_tree_spans.specs.Registry.Ids.{same_id}
use Rattle.tracing_tree_base.specs.declared.context.Id.{Id}

-- both lists have this place, and the same id there
abbrev pub agree_at : List Id → List Id → ℕ → Bool
agree_at old new k =
    option_map_or (λ i. option_map_or (same_id i) (slice_get new k) false) (slice_get old k) false

-- if two places agree, all places before them agree
abbrev pub PartOnce : List Id → List Id → Type 0
PartOnce old new =
    (k : ℕ) → IsTrue (agree_at old new k) → (j : ℕ) → j ≤ k → IsTrue (agree_at old new j)

-- the places of both lists after the common prefix of this length, and its last place, if it has
-- one
abbrev pub looks_back : List Id → List Id → ℕ → ℕ
looks_back old new shared = min (length old) (length new) - shared + (if shared == 0 then 0 else 1)
