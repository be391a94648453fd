-- An object with a member.
use Rattle.std.proofs.Common.{◌≡◌, ◌≤◌, ℕ, List, [], ◌∷◌, length, true, refl, arith}
use Rattle.std.specs.Borrow.{Bor}
use Rattle.json.specs.Value.{members_view}
use Rattle.json.specs.declared.value.Value.{Value}
use Rattle.std.specs.Global.{Global}
use Rattle.ttree_otlp.specs.Item.{has_members}

pub with_members : (members : List (Bor (List ℕ) × Value Global)) → 1 ≤ length members → true ≡ has_members (members_view members)
with_members [] one =
    let no : ⊥ = omega (arith, one) in absurd no
with_members (m ∷ ms) one = refl
