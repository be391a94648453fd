-- The paths that a registry stores. Those of deeply nested spans share lists of ids.
use Rattle.std.specs.Prelude.{◌≡◌, ℕ, nat_le, if◌then◌else◌, List, take, length, slice_get, Option, Some, None, option_and_then}
use Rattle.tracing_tree_base.specs.declared.context.Id.{Id}
use Rattle.tracing_tree_spans.specs.declared.registry.branches.Branch.{Branch}
use Rattle.tracing_tree_spans.specs.declared.registry.path.SpanPath.{SpanPath}
use Rattle.tracing_tree_spans.specs.declared.registry.path.SpanPath.TheVariants.{Short, Long}

-- the first ids of a branch, if they can be the path of a span
abbrev pub part_of : Branch → ℕ → Option (List Id)
part_of branch count =
    if nat_le count branch.shared
    then None
    else (if nat_le count (length branch.ids.items) then Some (take count branch.ids.items) else None)

-- the path that is stored here, if there is one
abbrev pub path_at : List Branch → SpanPath → Option (List Id)
path_at branches (Short path) = Some path
path_at branches (Long place) =
    option_and_then (λ branch. part_of branch place.length) (slice_get branches place.branch)

-- each path that can be stored in the branch is unchanged
abbrev pub KeepsParts : Branch → Branch → Type 0
KeepsParts old new =
    (count : ℕ) (ids : List Id) → part_of old count ≡ Some ids → part_of new count ≡ Some ids

-- each except the longest
abbrev pub KeepsShorterParts : Branch → Branch → Type 0
KeepsShorterParts old new =
    (count : ℕ) (ids : List Id) → part_of old count ≡ Some ids →
    (count ≡ length old.ids.items → ⊥) → part_of new count ≡ Some ids

-- each stored path is unchanged
abbrev pub KeepsPaths : List Branch → List Branch → Type 0
KeepsPaths old new =
    (path : SpanPath) (ids : List Id) → path_at old path ≡ Some ids → path_at new path ≡ Some ids

-- each stored path that differs from this one is unchanged
abbrev pub KeepsOthers : SpanPath → List Branch → List Branch → Type 0
KeepsOthers removed old new =
    (path : SpanPath) (ids : List Id) → path_at old path ≡ Some ids →
    (path_at old removed ≡ Some ids → ⊥) → path_at new path ≡ Some ids

-- the branch at this index is free
abbrev pub IsFreeAt : List Branch → ℕ → Type 0
IsFreeAt branches at =
    (branch : Branch) × (slice_get branches at ≡ Some branch) × (length branch.ids.items ≡ 0)
