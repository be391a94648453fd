-- If a unit is above 0, `is_nearest_count` holds of `nearest_count` and of no other count.
use Rattle.std.proofs.Common.{◌≡◌, ℕ, ◌+◌, ◌*◌, ◌/◌, ◌%◌, ◌<◌, ◌≤◌, Bool, true, false, arith, refl, add-one, nat_lt, ◌==◌, ◌||◌, ◌&&◌, rules, if◌then◌else◌, subst}
use Rattle.std.proofs.Math.Nat.{suc-mul, div-mul-le_self, mod-lt, mul-le-mul_right}
use Rattle.std.proofs.lemmas.Nat.{div-add-mod'}
use Rattle.tracing_tree_time.specs.Clock.{distance, nearest_count, is_nearest_count, is_even}

near-yes : (d unit : ℕ) (e : Bool) → (nat_lt d unit || ((d == unit) && e)) ≡ true → d ≤ unit
near-yes d unit e h = grind (arith, rules)

near-no : (d unit : ℕ) (e : Bool) → (nat_lt d unit || ((d == unit) && e)) ≡ false → unit ≤ d
near-no d unit e h = grind (arith, rules)

-- a tie is rounded to an even count
near-tie : (d unit : ℕ) (e : Bool) → (nat_lt d unit || ((d == unit) && e)) ≡ true → unit ≤ d → e ≡ true
near-tie d unit e h far = grind (arith, rules)

-- and not to an odd one
near-odd : (d unit : ℕ) (e : Bool) → (nat_lt d unit || ((d == unit) && e)) ≡ false → d ≤ unit → e ≡ false
near-odd d unit e h near = grind (arith, rules)

near-from : (d unit : ℕ) (e : Bool) → d ≤ unit → (unit ≤ d → e ≡ true) → (nat_lt d unit || ((d == unit) && e)) ≡ true
near-from d unit e near tie = grind (arith, rules)

-- ---- even counts

even-next : (n : ℕ) → is_even n ≡ false → is_even (n + 1) ≡ true
even-next n h =
    let here = div-add-mod' n 2 in
    let next = div-add-mod' (n + 1) 2 in
    let small : n % 2 < 2 = mod-lt n (omega arith) in
    let smaller : (n + 1) % 2 < 2 = mod-lt (n + 1) (omega arith) in
    grind (arith, rules)

even-not_next : (n : ℕ) → is_even n ≡ true → is_even (n + 1) ≡ true → ⊥
even-not_next n h k =
    let here = div-add-mod' n 2 in
    let next = div-add-mod' (n + 1) 2 in
    grind (arith, rules)

-- ---- the nearest count is nearest

next-mul : (q unit : ℕ) → (q + 1) * unit ≡ q * unit + unit
next-mul q unit = rw add-one (suc-mul q unit)

near-pick : (unit n q : ℕ) (b : Bool) → is_nearest_count unit n q ≡ b → q * unit ≤ n → n < q * unit + unit →
    is_nearest_count unit n (if b then q else q + 1) ≡ true
near-pick unit n q true e low high = e
near-pick unit n q false e low high =
    let far : unit ≤ 2 * distance n (q * unit) = near-no (2 * distance n (q * unit)) unit (is_even q) e in
    let next : (q + 1) * unit ≡ q * unit + unit = next-mul q unit in
    near-from (2 * distance n ((q + 1) * unit)) unit (is_even (q + 1)) (omega arith)
    (λ tie. even-next q (near-odd (2 * distance n (q * unit)) unit (is_even q) e (omega arith)))

pub nearest_count-is : (unit n : ℕ) → 0 < unit → is_nearest_count unit n (nearest_count unit n) ≡ true
nearest_count-is unit n positive =
    let rest = div-add-mod' n unit in
    let small = mod-lt n positive in
    near-pick unit n (n / unit) (is_nearest_count unit n (n / unit)) refl (div-mul-le_self n unit) (omega arith)

-- twice the distance of n from its nearest count of a unit is at most the unit
pub nearest_count-near : (unit n : ℕ) → 0 < unit → 2 * distance n (nearest_count unit n * unit) ≤ unit
nearest_count-near unit n positive =
    near-yes (2 * distance n (nearest_count unit n * unit)) unit (is_even (nearest_count unit n)) (nearest_count-is unit n positive)

-- ---- no other count is

-- of two nearest counts neither is below the other
near-not_below : (unit n q r : ℕ) → 0 < unit → is_nearest_count unit n q ≡ true → is_nearest_count unit n r ≡ true → q < r → ⊥
near-not_below unit n q r positive h k below =
    let one : (q + 1) * unit ≡ q * unit + unit = next-mul q unit in
    let two : (q + 1 + 1) * unit ≡ (q + 1) * unit + unit = next-mul (q + 1) unit in
    let step : (q + 1) * unit ≤ r * unit = mul-le-mul_right unit (omega arith) in
    let near : 2 * distance n (q * unit) ≤ unit = near-yes (2 * distance n (q * unit)) unit (is_even q) h in
    let close : 2 * distance n (r * unit) ≤ unit = near-yes (2 * distance n (r * unit)) unit (is_even r) k in
    let even : is_even q ≡ true = near-tie (2 * distance n (q * unit)) unit (is_even q) h (omega arith) in
    let next : is_even r ≡ true = near-tie (2 * distance n (r * unit)) unit (is_even r) k (omega arith) in
    let only : r ≤ q + 1 = by (q + 1 + 1) one two near close in
    even-not_next q even (subst (λ m. is_even m ≡ true) (omega arith) next)
  where
    by : (s : ℕ) → (q + 1) * unit ≡ q * unit + unit → (q + 1 + 1) * unit ≡ (q + 1) * unit + unit →
        2 * distance n (q * unit) ≤ unit → 2 * distance n (r * unit) ≤ unit → r ≤ q + 1
    by s one two near close = elim (nat_lt (q + 1) r) as (λ b. nat_lt (q + 1) r ≡ b → r ≤ q + 1) [
      | true ↦ (λ e. let more : (q + 1 + 1) * unit ≤ r * unit = mul-le-mul_right unit (grind (arith, rules)) in absurd (omega arith))
      | false ↦ (λ e. grind (arith, rules))
    ] refl

-- if the unit is above 0, there is at most one nearest count
pub is_nearest_count-one : (unit n q r : ℕ) → 0 < unit → is_nearest_count unit n q ≡ true → is_nearest_count unit n r ≡ true → q ≡ r
is_nearest_count-one unit n q r positive h k =
    elim (nat_lt q r) as (λ b. nat_lt q r ≡ b → q ≡ r) [
      | true ↦ (λ e. absurd (near-not_below unit n q r positive h k (grind (arith, rules))))
      | false ↦ (λ e. elim (nat_lt r q) as (λ b. nat_lt r q ≡ b → q ≡ r) [
        | true ↦ (λ f. absurd (near-not_below unit n r q positive k h (grind (arith, rules))))
        | false ↦ (λ f. grind (arith, rules))
      ] refl)
    ] refl
