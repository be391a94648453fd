-- A nearest count is nearest, and no other count is.
use Rattle.std.proofs.Common.{◌≡◌, ◌≢◌, ℕ, ◌+◌, ◌*◌, ◌<◌, ◌≤◌, Bool, true, false, arith, refl, add-one, nat_lt, ◌==◌, ◌||◌, ◌&&◌, rules, subst, inl, inr}
use Rattle.std.proofs.Math.Nat.{suc-mul, mul-le-mul_right}
use Rattle.std.proofs.lemmas.Bool.Decides.{eqb_tells}
use Rattle.tracing_tree_time.specs.Clock.{distance, nearest_count, is_nearest_count, is_even}
use Rattle.tracing_tree_time.proofs.CountLaws.{nearest_count-is, is_nearest_count-one}
use Rattle.tracing_tree_laws.specs.Counts.{IsNearest}

near-yes : (d unit : ℕ) (e : Bool) → (nat_lt d unit || ((d == unit) && e)) ≡ true → d ≤ unit
near-yes d unit e h = grind (arith, rules)

near-tie : (d unit : ℕ) (e : Bool) → (nat_lt d unit || ((d == unit) && e)) ≡ true → unit ≤ d → e ≡ true
near-tie d unit e h far = grind (arith, rules)

near-from : (d unit : ℕ) (e : Bool) → d ≤ unit → (unit ≤ d → e ≡ true) → (nat_lt d unit || ((d == unit) && e)) ≡ true
near-from d unit e near tie = grind (arith, rules)

-- a greater count is greater by a unit
unit-more : (unit q r : ℕ) → q < r → q * unit + unit ≤ r * unit
unit-more unit q r below =
    let one : (q + 1) * unit ≡ q * unit + unit = rw add-one (suc-mul q unit) in
    let step : (q + 1) * unit ≤ r * unit = mul-le-mul_right unit (omega arith) in
    omega arith

-- two counts are one, or multiples a unit apart
apart : (unit q r : ℕ) → (q ≢ r) → (q * unit + unit ≤ r * unit → ⊥) → (r * unit + unit ≤ q * unit → ⊥) → ⊥
apart unit q r differ below above = elim (nat_lt q r) as (λ b. nat_lt q r ≡ b → ⊥) [
  | true ↦ (λ e. below (unit-more unit q r (grind (arith, rules))))
  | false ↦ (λ e. above (unit-more unit r q (let more : q ≢ r = differ in grind (arith, rules))))
] refl

near-other : (unit n q other : ℕ) → 2 * distance n (q * unit) ≤ unit → distance n (q * unit) ≤ distance n (other * unit)
near-other unit n q other near = elim (eqb_tells q other) [
  | inl same ↦ subst (λ m. distance n (q * unit) ≤ distance n (m * unit)) same.1 (omega arith)
  | inr unlike ↦ elim (nat_lt q other) as (λ b. nat_lt q other ≡ b → distance n (q * unit) ≤ distance n (other * unit)) [
    | true ↦ (λ e. let more = unit-more unit q other (grind (arith, rules)) in omega arith)
    | false ↦ (λ e. let more = unit-more unit other q (let differ = unlike.1 in grind (arith, rules)) in omega arith)
  ] refl
]

even-other : (unit n q other : ℕ) → is_nearest_count unit n q ≡ true → other ≢ q →
    distance n (other * unit) ≡ distance n (q * unit) → is_even q ≡ true
even-other unit n q other h differ same =
    let near = near-yes (2 * distance n (q * unit)) unit (is_even q) h in
    near-tie (2 * distance n (q * unit)) unit (is_even q) h
    (elim (nat_lt q other) as (λ b. nat_lt q other ≡ b → unit ≤ 2 * distance n (q * unit)) [
      | true ↦ (λ e. let more = unit-more unit q other (grind (arith, rules)) in omega arith)
      | false ↦ (λ e. let more = unit-more unit other q (grind (arith, rules)) in omega arith)
    ] refl)

pub nearest-is : (unit n : ℕ) → 0 < unit → IsNearest unit n (nearest_count unit n)
nearest-is unit n positive =
    let q = nearest_count unit n in
    let h = nearest_count-is unit n positive in
    record {
      near = λ other. near-other unit n q other (near-yes (2 * distance n (q * unit)) unit (is_even q) h);
      even = λ other differ same. even-other unit n q other h differ same;
    }

-- a nearest count is at most half a unit away, and at half a unit it is even
nearest-test : (unit n q : ℕ) → 0 < unit → IsNearest unit n q → is_nearest_count unit n q ≡ true
nearest-test unit n q positive h =
    let r = nearest_count unit n in
    let k = nearest_count-is unit n positive in
    let close : 2 * distance n (r * unit) ≤ unit = near-yes (2 * distance n (r * unit)) unit (is_even r) k in
    let nearer : distance n (q * unit) ≤ distance n (r * unit) = h.near r in
    let back : distance n (r * unit) ≤ distance n (q * unit) = near-other unit n r q close in
    near-from (2 * distance n (q * unit)) unit (is_even q) (omega arith)
    (λ far. elim (eqb_tells r q) [
      | inl same ↦ subst (λ m. is_even m ≡ true) same.1 (near-tie (2 * distance n (r * unit)) unit (is_even r) k (omega arith))
      | inr unlike ↦ h.even r unlike.1 (omega arith)
    ])

pub nearest-only : (unit n q : ℕ) → 0 < unit → IsNearest unit n q → q ≡ nearest_count unit n
nearest-only unit n q positive h =
    is_nearest_count-one unit n q (nearest_count unit n) positive (nearest-test unit n q positive h) (nearest_count-is unit n positive)
