-- A line that begins with another byte than the marks of frames has none of them.
use Rattle.std.proofs.Common.{◌≡◌, ℕ, ◌==◌, ◌||◌, Bool, true, false, List, ◌∷◌, refl, arith}
use Rattle.std.proofs.lemmas.Bool.Decides.{nat_tests}
use Rattle.ttree_go_test.specs.Texts.{is_end_frame, is_step_frame}

or_false : (b : Bool) → b || false ≡ b
or_false true = refl
or_false false = refl

pub step_marked : (test rest : List ℕ) → is_step_frame test (61 ∷ rest) || is_end_frame test (61 ∷ rest) ≡ is_step_frame test (61 ∷ rest)
step_marked test rest = or_false (is_step_frame test (61 ∷ rest))

pub end_marked : (test rest : List ℕ) → is_step_frame test (45 ∷ rest) || is_end_frame test (45 ∷ rest) ≡ is_end_frame test (45 ∷ rest)
end_marked test rest = refl

pub unmarked : (test : List ℕ) (b : ℕ) (rest : List ℕ) → b == 61 ≡ false → b == 45 ≡ false → is_step_frame test (b ∷ rest) || is_end_frame test (b ∷ rest) ≡ false
unmarked test b rest step end = grind (arith, nat_tests)
