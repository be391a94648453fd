-- A string that isn't one of several.
use Rattle.std.specs.Prelude.{◌≡◌, ℕ, Bool, true, false, List, [], ◌∷◌, Some, None, cond, bytes_eq, refl}
use Rattle.std.proofs.Common.{sym, ◌∙◌}
use Rattle.std.proofs.lemmas.Slice.Eq.{bytes_eq-Decides}
use Rattle.tracing_tree_lines.specs.Lines.Spelled.{chosen}

not_equal : (b : Bool) (P : Type 0) → (b ≡ true → P) → (P → ⊥) → b ≡ false
not_equal true P holds never = absurd (never (holds refl))
not_equal false P holds never = refl

-- two strings that differ
pub apart : (text key : List ℕ) → (text ≡ key → ⊥) → bytes_eq text key ≡ false
apart text key never = not_equal (bytes_eq text key) (text ≡ key) (bytes_eq-Decides text key).0 never

-- the choice passes a string that isn't meant
pub passes : {A : Type 0} (text key : List ℕ) (meant other : A) → (text ≡ key → ⊥) → cond (bytes_eq text key) meant other ≡ other
passes text key meant other never = rw (apart text key never)

-- the string isn't one of the choices
abbrev pub IsNoneOf : {A : Type 0} → List (List ℕ × A) → List ℕ → Type 0
IsNoneOf [] text = Unit {0}
IsNoneOf (choice ∷ others) text = (text ≡ choice.0 → ⊥) × IsNoneOf others text

pub chosen_none : {A : Type 0} (choices : List (List ℕ × A)) (text : List ℕ) → IsNoneOf choices text → chosen choices text ≡ None
chosen_none [] text none = refl
chosen_none (choice ∷ others) text none =
    passes choice.0 text (Some choice.1) (chosen others text) (λ e. none.0 (sym e)) ∙ chosen_none others text none.1
