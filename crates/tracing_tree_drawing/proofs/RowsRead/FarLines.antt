-- A bar further right than any line is long.
use Rattle.std.proofs.Common.{◌≡◌, ℕ, zero, suc, ◌+◌, ◌-◌, ◌*◌, ◌<◌, ◌≤◌, ◌==◌, ◌&&◌, Bool, true, false, not, List, length, Option, Some, None, option_and_then, refl, sym, ap, ◌∙◌, arith, ne_eqb}
use Rattle.std.specs.Char.{encode_utf8}
use Rattle.std.proofs.Math.Nat.{suc-mul}
use Rattle.tracing_tree_drawing.specs.Format.Picture.{shift_of, continuation_shift}
use Rattle.tracing_tree_drawing.proofs.Characters.{vertical}
use Rattle.tracing_tree_drawing.specs.Rows.RowText.{mode_of, without_start_spaces}
use Rattle.tracing_tree_drawing.specs.declared.rows.row.Shape.{Shape}
use Rattle.tracing_tree_drawing.specs.Rows.Line.{after_front, read_later, read_later_at, start_spaces}

columns : (used amount : ℕ) → used * amount - amount ≡ (used - 1) * amount
columns zero amount = omega arith
columns (suc k) amount =
    let e : suc k * amount ≡ k * amount + amount = suc-mul k amount in
    let n : suc k - 1 ≡ k = omega arith in
    let m : suc k * amount - amount ≡ k * amount = omega arith in
    m ∙ ap (λ j. j * amount) (sym n)

pub far-later : (amount : ℕ) (shape : Shape) (level : ℕ) (line : List ℕ) → start_spaces line < (level + shift_of (mode_of shape) - 1) * amount → read_later amount shape level line ≡ None
far-later amount shape level line far = by (after_front (encode_utf8 vertical) (without_start_spaces line))
  where
    used : ℕ
    used = level + shift_of (mode_of shape)

    other : (start_spaces line == used * amount - amount + continuation_shift (mode_of shape)) ≡ false
    other = ne_eqb (start_spaces line) (used * amount - amount + continuation_shift (mode_of shape)) (λ e. let c = columns used amount in omega arith)

    none : (b : Bool) → (b && false) ≡ false
    none true = refl
    none false = refl

    by : (o : Option (List ℕ)) → option_and_then (read_later_at amount shape used (start_spaces line)) o ≡ None
    by None = refl
    by (Some text) = rw (ap (λ b. not (used == 0) && b) other ∙ none (not (used == 0))) refl

-- by the checks of the code
pub far-by : (amount : ℕ) (shape : Shape) (level : ℕ) (line : List ℕ) (rest shift used below : ℕ) → length line < 18_446_744_073_709_551_616 → length line ≡ start_spaces line + rest →
    shift ≡ shift_of (mode_of shape) → used ≡ level + shift → below ≡ used - 1 → (below * amount < 18_446_744_073_709_551_616 → ⊥) → read_later amount shape level line ≡ None
far-by amount shape level line rest shift used below fits count s u b wide =
    let same : below ≡ level + shift_of (mode_of shape) - 1 = omega arith in
    let m : below * amount ≡ (level + shift_of (mode_of shape) - 1) * amount = ap (λ n. n * amount) same in
    let far : 18_446_744_073_709_551_616 ≤ below * amount = not-below (below * amount) wide in
    far-later amount shape level line (omega arith)
  where
    not-below : (n : ℕ) → (n < 18_446_744_073_709_551_616 → ⊥) → 18_446_744_073_709_551_616 ≤ n
    not-below n h = omega arith
