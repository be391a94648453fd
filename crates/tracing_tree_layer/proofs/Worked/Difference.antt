-- Worked examples of what differs between two lists.
use Rattle.std.specs.Prelude.{◌≡◌, ◌==◌, [], ◌∷◌, refl}
use Rattle.tracing_tree_layer.specs.Difference.Steps.{differing}

-- one item is unequal, and one is missing
pub unequal_and_missing : differing (λ x y. x == y) (1 ∷ 2 ∷ 3 ∷ []) (1 ∷ 5 ∷ 3 ∷ 4 ∷ []) ≡ 5 ∷ 4 ∷ []
unequal_and_missing = refl

-- there is no left item
pub left_empty : differing (λ x y. x == y) [] (1 ∷ 2 ∷ []) ≡ 1 ∷ 2 ∷ []
left_empty = refl
