-- An object with a member.
use Rattle.std.proofs.Common.{◌≡◌, ◌≤◌, ℕ, List, [], ◌∷◌, length, refl, arith}
use Rattle.std.specs.Borrow.{Bor}
use Rattle.json.specs.Value.{members_view}
use Rattle.json.specs.declared.value.Value.{Value}
use Rattle.std.specs.Global.{Global}
use Rattle.ttree_logs.specs.LogFields.{empty_fields}

pub has_members : (name : List ℕ) (members : List (Bor (List ℕ) × Value Global)) → 1 ≤ length members → empty_fields name (members_view members) ≡ []
has_members name [] one =
    let no : ⊥ = omega (arith, one) in absurd no
has_members name (m ∷ ms) one = refl
