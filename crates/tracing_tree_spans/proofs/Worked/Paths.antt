-- What paths share, and how many places are compared for it, computed.
use Rattle.std.proofs.Common.{◌≡◌, [], ◌∷◌, refl}
use Rattle.std.specs.List.{common_prefix_len}
use Rattle.tracing_tree_spans.specs.Registry.Ids.{id_of, same_id}
use Rattle.tracing_tree_spans.specs.Registry.Paths.{looks_back}

-- two paths that part after two spans
parted : common_prefix_len same_id (id_of 1 ∷ id_of 2 ∷ id_of 3 ∷ []) (id_of 1 ∷ id_of 2 ∷ id_of 4 ∷ id_of 5 ∷ []) ≡ 2
parted = refl

parted-looks : looks_back (id_of 1 ∷ id_of 2 ∷ id_of 3 ∷ []) (id_of 1 ∷ id_of 2 ∷ id_of 4 ∷ id_of 5 ∷ []) 2 ≡ 2
parted-looks = refl

-- a path and its root's
root : common_prefix_len same_id (id_of 1 ∷ id_of 2 ∷ id_of 3 ∷ []) (id_of 1 ∷ []) ≡ 1
root = refl

root-looks : looks_back (id_of 1 ∷ id_of 2 ∷ id_of 3 ∷ []) (id_of 1 ∷ []) 1 ≡ 1
root-looks = refl

-- paths of two trees
strangers : common_prefix_len same_id (id_of 1 ∷ id_of 2 ∷ []) (id_of 3 ∷ id_of 4 ∷ []) ≡ 0
strangers = refl

strangers-looks : looks_back (id_of 1 ∷ id_of 2 ∷ []) (id_of 3 ∷ id_of 4 ∷ []) 0 ≡ 2
strangers-looks = refl

-- an empty path and another
nothing : common_prefix_len same_id [] (id_of 1 ∷ []) ≡ 0
nothing = refl

nothing-looks : looks_back [] (id_of 1 ∷ []) 0 ≡ 0
nothing-looks = refl
