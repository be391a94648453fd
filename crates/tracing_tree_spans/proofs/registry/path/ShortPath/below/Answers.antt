use Rattle.std.proofs.Common.{◌≡◌, ◌+◌, ◌<◌, List, [], ◌∷◌, ◌++◌, length, take, drop, refl, arith}
use Rattle.tracing_tree_base.specs.declared.context.Id.{Id}
use Rattle.tracing_tree_spans.proofs.registry.path.ShortPath.below.Goals as goal

-- the places after the path above hold the span, and the first of them is kept
filled : (id : Id) (parent : List Id) → length parent < 5 →
    take (length parent + 1) (parent ++ drop (length parent) (id ∷ id ∷ id ∷ id ∷ id ∷ [])) ≡ parent ++ id ∷ []
filled id [] few = refl
filled id (a ∷ []) few = refl
filled id (a ∷ b ∷ []) few = refl
filled id (a ∷ b ∷ c ∷ []) few = refl
filled id (a ∷ b ∷ c ∷ d ∷ []) few = refl
filled id (a ∷ b ∷ c ∷ d ∷ e ∷ parent) few = absurd (omega (arith, few))

pub returns : goal.returns
returns c =
    let few : length c.args.parent.now < 5 = omega (arith, c.if-parent-ge-SHORT.false) in
    rw c.copy_from_slice.ensures.after
    (filled c.args.id c.args.parent.now few)
