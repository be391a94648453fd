-- Numbers by their digits, and whether a u64 holds them.
use Rattle.std.proofs.Common.{rules, ◌≡◌, ℕ, ◌+◌, ◌-◌, ◌*◌, ◌^◌, ◌<◌, ◌≤◌, nat_lt, Bool, true, false, List, [], ◌∷◌, ◌++◌, length, get_or, take, Option, Some, None, refl, sym, ap, ◌∙◌, arith, lt-ltb}
use Rattle.std.specs.Prelude.{if◌then◌else◌}
use Rattle.std.proofs.lemmas.Grind.{pow_more}
use Rattle.std.proofs.Math.Nat.{mul_assoc, mul-le-mul_left, pow-le-pow_right}
use Rattle.std.proofs.lemmas.Bool.Decides.{nat_tests}
use Rattle.ttree_chrome.specs.Number.{digit_in, digits_after, if_fits, moved_right}

pub grows : (n : ℕ) (ds : List ℕ) → n ≤ digits_after n ds
grows n [] = omega arith
grows n (d ∷ ds) = omega (arith, grows (n * 10 + digit_in d) ds)

pub step : (n : ℕ) (ds : List ℕ) → 0 < length ds → n * 10 + digit_in (get_or ds 0 0) ≤ digits_after n ds
step n [] h = absurd (omega arith)
step n (d ∷ ds) h = grows (n * 10 + digit_in d) ds

pub none_left : (n : ℕ) (ds : List ℕ) → length ds < 1 → n ≡ digits_after n ds
none_left n [] h = refl
none_left n (d ∷ ds) h = absurd (omega arith)

pub joined : (n : ℕ) (first second : List ℕ) → digits_after n (first ++ second) ≡ digits_after (digits_after n first) second
joined n [] second = refl
joined n (d ∷ ds) second = joined (n * 10 + digit_in d) ds second

-- more zeros make no number smaller
pub more_zeros : (n i k : ℕ) → i ≤ k → n * 10 ^ i ≤ n * 10 ^ k
more_zeros n i k h =
    let some : 0 < 10 = omega arith in
    mul-le-mul_left n (pow-le-pow_right some h)

pub zeros_grow : (n k : ℕ) → n ≤ n * 10 ^ k
zeros_grow n k =
    let one : n * 10 ^ 0 ≡ n = omega arith in
    omega (arith, more_zeros n 0 k (omega arith))

pub one_zero_more : (m n k : ℕ) → m ≡ n * 10 ^ k → m * 10 ≡ n * 10 ^ (k + 1)
one_zero_more m n k h = ap (λ p. p * 10) h ∙ mul_assoc n (10 ^ k) 10 ∙ ap (λ p. n * p) (sym (pow_more 10 k))

fits_if : (n : ℕ) (b : Bool) → b ≡ true → Some n ≡ (if b then Some n else None)
fits_if n true h = refl
fits_if n false h = cc

none_if : (n : ℕ) (b : Bool) → b ≡ false → None ≡ (if b then Some n else None)
none_if n true h = cc
none_if n false h = refl

pub fits : (n : ℕ) → n < 2 ^ 64 → Some n ≡ if_fits n
fits n h = fits_if n (nat_lt n (2 ^ 64)) (lt-ltb n (2 ^ 64) h)

pub too_large : (m n : ℕ) → 2 ^ 64 ≤ m → m ≤ n → None ≡ if_fits n
too_large m n h k = none_if n (nat_lt n (2 ^ 64)) (grind (arith, nat_tests))

none_large : (n : ℕ) (b : Bool) → None ≡ (if b then Some n else None) → b ≡ false
none_large n true h = cc
none_large n false h = refl

pub if_none : (n : ℕ) → None ≡ if_fits n → 2 ^ 64 ≤ n
if_none n h =
    let large : nat_lt n (2 ^ 64) ≡ false = none_large n (nat_lt n (2 ^ 64)) h in
    grind (arith, nat_tests)

some_is : (m n : ℕ) (b : Bool) → Some m ≡ (if b then Some n else None) → m ≡ n
some_is m n true h = cc
some_is m n false h = cc

pub if_some : (m n : ℕ) → Some m ≡ if_fits n → m ≡ n
if_some m n h = some_is m n (nat_lt n (2 ^ 64)) h

-- the number of the digits before a point, and that with digits after it, are at most the whole number
pub whole_within : (count : ℕ) (before after : List ℕ) → digits_after (digits_after 0 before) (take count after) ≤ moved_right count before after
whole_within count before after =
    let all : ℕ = digits_after 0 (before ++ take count after) in
    omega (arith, joined 0 before (take count after), zeros_grow all (count - length after))

pub front_within : (count : ℕ) (before after : List ℕ) → digits_after 0 before ≤ moved_right count before after
front_within count before after =
    omega (arith, grows (digits_after 0 before) (take count after), whole_within count before after)
