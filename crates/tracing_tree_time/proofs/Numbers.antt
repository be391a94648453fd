-- Numbers in a fixed count of places, and the digits of a fraction.
use Rattle.std.proofs.Common.{◌≡◌, ℕ, zero, suc, ◌+◌, ◌-◌, ◌*◌, ◌/◌, ◌%◌, ◌^◌, ◌<◌, ◌≤◌, ◌==◌, Bool, true, false, List, [], ◌∷◌, ◌++◌, length, replicate, reverse, drop, arith, rules, refl, sym, ap, ◌∙◌, subst, decimal, cond, nat_lt}
use Rattle.std.specs.List.{prefix_len}
use Rattle.std.proofs.lemmas.List.{append_assoc, length-append, reverse-append, reverse-reverse, replicate_more}
use Rattle.std.proofs.lemmas.Fmt.{decimal_digit, decimal_step, decimal_nonempty}
use Rattle.std.proofs.Math.Nat.{div-eq_of_lt, div-lt_iff_lt-mul, pow-suc}
use Rattle.tracing_tree_time.specs.Clock.{significant_digits, without_end_zeros}
use Rattle.tracing_tree_time.specs.Pieces.{filled_in}
use Rattle.tracing_tree_time.specs.Numbers.{digits_in}

-- ---- numbers

-- a number of one digit
pub filled-digit : (fill places n : ℕ) → n < 10 →
    filled_in fill places (decimal n) ≡ replicate (places - 1) fill ++ (48 + n % 10) ∷ []
filled-digit fill places n h =
    let digit : n ≡ n % 10 = omega arith in
    ap (filled_in fill places) (decimal_digit n h)
    ∙ ap (λ d. replicate (places - 1) fill ++ (48 + d) ∷ []) digit

-- a number of more digits: those before the last one take one place less
pub filled-step : (fill places n : ℕ) → 10 ≤ n → n < 2 ^ 64 →
    filled_in fill places (decimal n) ≡ filled_in fill (places - 1) (decimal (n / 10)) ++ (48 + n % 10) ∷ []
filled-step fill places n h k =
    let front = decimal (n / 10) in
    let last = (48 + n % 10) ∷ [] in
    let longer : length (front ++ last) ≡ length front + 1 = length-append front last in
    let count : places - length (front ++ last) ≡ places - 1 - length front = omega arith in
    ap (filled_in fill places) (decimal_step n h k)
    ∙ ap (λ m. replicate m fill ++ (front ++ last)) count
    ∙ sym (append_assoc (replicate (places - 1 - length front) fill) front last)

-- a number in one place is its digits
pub digits_in_one : (n : ℕ) → n < 2 ^ 64 → digits_in 1 n ≡ decimal n
digits_in_one n h =
    let some = decimal_nonempty n h in
    let none : 1 - length (decimal n) ≡ 0 = omega arith in
    ap (λ m. replicate m 48 ++ decimal n) none

-- ---- digits

zeros-step : (places : ℕ) → 2 ≤ places → replicate (places - 1) 48 ≡ digits_in (places - 1) 0
zeros-step places more =
    let count : places - 1 ≡ places - 1 - 1 + 1 = omega arith in
    let zero_digits : digits_in (places - 1) 0 ≡ replicate (places - 1 - 1) 48 ++ 48 ∷ [] =
    filled-digit 48 (places - 1) 0 (omega arith) in
    ap (λ m. replicate m 48) count ∙ sym (replicate_more (places - 1 - 1) 48) ∙ sym zero_digits

digits_in-small : (places n : ℕ) → 2 ≤ places → n < 10 →
    digits_in places n ≡ digits_in (places - 1) (n / 10) ++ (48 + n % 10) ∷ []
digits_in-small places n more h =
    let none : n / 10 ≡ 0 = div-eq_of_lt h in
    filled-digit 48 places n h
    ∙ ap (λ front. front ++ (48 + n % 10) ∷ []) (zeros-step places more ∙ ap (digits_in (places - 1)) (sym none))

digits_in-at : (places n : ℕ) → 2 ≤ places → n < 2 ^ 64 → (small : Bool) → nat_lt n 10 ≡ small →
    digits_in places n ≡ digits_in (places - 1) (n / 10) ++ (48 + n % 10) ∷ []
digits_in-at places n more h true e = digits_in-small places n more (grind (arith, rules))
digits_in-at places n more h false e = filled-step 48 places n (grind (arith, rules)) h

-- the last of the digits, and those before it
pub digits_in-step : (places n : ℕ) → 2 ≤ places → n < 2 ^ 64 →
    digits_in places n ≡ digits_in (places - 1) (n / 10) ++ (48 + n % 10) ∷ []
digits_in-step places n more h = digits_in-at places n more h (nat_lt n 10) refl

-- a number below 100 in two digits
pub digits_pair : (n : ℕ) → n < 100 → digits_in 2 n ≡ (48 + n / 10) ∷ (48 + n % 10) ∷ []
digits_pair n h =
    let digit : n / 10 % 10 ≡ n / 10 = omega arith in
    digits_in-step 2 n (omega arith) (omega arith)
    ∙ ap (λ front. front ++ (48 + n % 10) ∷ []) (filled-digit 48 1 (n / 10) (omega arith))
    ∙ ap (λ d. (48 + d) ∷ (48 + n % 10) ∷ []) digit

-- the last two of the digits, and those before them
pub digits_in-pair : (places n : ℕ) → 3 ≤ places → n < 2 ^ 64 →
    digits_in places n ≡ digits_in (places - 2) (n / 100) ++ digits_in 2 (n % 100)
digits_in-pair places n more h =
    let two : 2 ≤ places = omega arith in
    let still : 2 ≤ places - 1 = omega arith in
    let under : n / 10 < 2 ^ 64 = omega arith in
    let fewer : places - 1 - 1 ≡ places - 2 = omega arith in
    let front : n / 10 / 10 ≡ n / 100 = omega arith in
    let tens : n / 10 % 10 ≡ n % 100 / 10 = omega arith in
    let ones : n % 10 ≡ n % 100 % 10 = omega arith in
    let below : n % 100 < 100 = omega arith in
    digits_in-step places n two h
    ∙ ap (λ front. front ++ (48 + n % 10) ∷ []) (digits_in-step (places - 1) (n / 10) still under)
    ∙ append_assoc (digits_in (places - 1 - 1) (n / 10 / 10)) ((48 + n / 10 % 10) ∷ []) ((48 + n % 10) ∷ [])
    ∙ ap (λ m. digits_in m (n / 10 / 10) ++ (48 + n / 10 % 10) ∷ (48 + n % 10) ∷ []) fewer
    ∙ ap (λ m. digits_in (places - 2) m ++ (48 + n / 10 % 10) ∷ (48 + n % 10) ∷ []) front
    ∙ ap (λ d. digits_in (places - 2) (n / 100) ++ (48 + d) ∷ (48 + n % 10) ∷ []) tens
    ∙ ap (λ d. digits_in (places - 2) (n / 100) ++ (48 + n % 100 / 10) ∷ (48 + d) ∷ []) ones
    ∙ ap (λ pair. digits_in (places - 2) (n / 100) ++ pair) (sym (digits_pair (n % 100) below))

-- a number of two digits has no zero at its front
pub digits_in_two : (n : ℕ) → 10 ≤ n → n < 100 → digits_in 2 n ≡ decimal n
digits_in_two n low high =
    let some = decimal_nonempty (n / 10) (omega arith) in
    let longer = length-append (decimal (n / 10)) ((48 + n % 10) ∷ []) in
    let none : 2 - length (decimal n) ≡ 0 = let whole = ap length (decimal_step n low (omega arith)) in omega arith in
    ap (λ m. replicate m 48 ++ decimal n) none

-- there is a digit at least
pub digits_in-some : (places n : ℕ) → n < 2 ^ 64 → 0 < length (digits_in places n)
digits_in-some places n h =
    let some = decimal_nonempty n h in
    let longer = length-append (replicate (places - length (decimal n)) 48) (decimal n) in
    omega arith

-- ---- the zeros at the end

-- the test that `without_end_zeros` drops digits by, on the digits from the last to the first
abbrev dropped : List ℕ → List ℕ
dropped digits = drop (prefix_len (λ digit. digit == 48) digits) digits

dropped-zero : (digits : List ℕ) → dropped (48 ∷ digits) ≡ dropped digits
dropped-zero digits =
    let count : 1 + prefix_len (λ digit. digit == 48) digits ≡ suc (prefix_len (λ digit. digit == 48) digits) = omega arith in
    ap (λ m. drop m (48 ∷ digits)) count

dropped-other : (digit : ℕ) (digits : List ℕ) → (digit == 48) ≡ false → dropped (digit ∷ digits) ≡ digit ∷ digits
dropped-other digit digits e =
    ap (λ b. drop (cond b (1 + prefix_len (λ digit. digit == 48) digits) 0) (digit ∷ digits)) e

-- a zero at the end is dropped
without_zero : (digits : List ℕ) → without_end_zeros (digits ++ 48 ∷ []) ≡ without_end_zeros digits
without_zero digits =
    ap (λ back. reverse (dropped back)) (reverse-append digits (48 ∷ [])) ∙ ap reverse (dropped-zero (reverse digits))

-- another digit at the end keeps all digits
without_none : (digits : List ℕ) (digit : ℕ) → (digit == 48) ≡ false →
    without_end_zeros (digits ++ digit ∷ []) ≡ digits ++ digit ∷ []
without_none digits digit e =
    ap (λ back. reverse (dropped back)) (reverse-append digits (digit ∷ []))
    ∙ ap reverse (dropped-other digit (reverse digits) e)
    ∙ reverse-append (digit ∷ []) (reverse digits)
    ∙ ap (λ front. front ++ digit ∷ []) (reverse-reverse digits)

significant-zero : (digits : List ℕ) → 0 < length digits →
    significant_digits (digits ++ 48 ∷ []) ≡ significant_digits digits
significant-zero [] h = absurd (omega arith)
significant-zero (first ∷ rest) h = ap (λ ds. first ∷ ds) (without_zero rest)

significant-other : (digits : List ℕ) (digit : ℕ) → (digit == 48) ≡ false →
    significant_digits (digits ++ digit ∷ []) ≡ digits ++ digit ∷ []
significant-other [] digit e = refl
significant-other (first ∷ rest) digit e = ap (λ ds. first ∷ ds) (without_none rest digit e)

-- ---- the digits of a fraction

-- a zero at the end of several digits isn't significant
pub fraction-step : (places n : ℕ) → 2 ≤ places → n < 2 ^ 64 → n % 10 ≡ 0 →
    significant_digits (digits_in (places - 1) (n / 10)) ≡ significant_digits (digits_in places n)
fraction-step places n more h e =
    let under : n / 10 < 2 ^ 64 = omega arith in
    sym (significant-zero (digits_in (places - 1) (n / 10)) (digits_in-some (places - 1) (n / 10) under))
    ∙ ap (λ d. significant_digits (digits_in (places - 1) (n / 10) ++ (48 + d) ∷ [])) (sym e)
    ∙ ap significant_digits (sym (digits_in-step places n more h))

-- the number without its last digit has one place less
pub fraction-under : (places n : ℕ) → 2 ≤ places → n < 10 ^ places → n / 10 < 10 ^ (places - 1)
fraction-under (suc places) n more h =
    let same : 10 ^ (suc places - 1) ≡ 10 ^ places = ap (λ m. 10 ^ m) (omega arith) in
    let bound : n < 10 ^ places * 10 = subst (λ m. n < m) (pow-suc 10 places) h in
    subst (λ m. n / 10 < m) (sym same) ((div-lt_iff_lt-mul (omega arith)).1 bound)
fraction-under zero n more h = absurd (omega arith)

one-significant : (n : ℕ) → n < 10 → significant_digits (digits_in 1 n) ≡ digits_in 1 n
one-significant n h = ap significant_digits (filled-digit 48 1 n h) ∙ sym (filled-digit 48 1 n h)

-- one digit is significant
pub fraction-one : (places n : ℕ) → places ≡ 1 → n < 10 ^ places → significant_digits (digits_in places n) ≡ digits_in places n
fraction-one places n e h =
    subst (λ m. significant_digits (digits_in m n) ≡ digits_in m n) (sym e)
    (one-significant n (subst (λ m. n < 10 ^ m) e h))

-- digits that don't end in a zero are significant
pub fraction-whole : (places n : ℕ) → 2 ≤ places → n < 2 ^ 64 → (n % 10 == 0) ≡ false →
    significant_digits (digits_in places n) ≡ digits_in places n
fraction-whole places n more h e =
    let other : (48 + n % 10 == 48) ≡ false = grind (arith, rules) in
    ap significant_digits (digits_in-step places n more h)
    ∙ significant-other (digits_in (places - 1) (n / 10)) (48 + n % 10) other
    ∙ sym (digits_in-step places n more h)

-- the numbers before the last two digits
pub digits-under : (places n : ℕ) → 3 ≤ places → n < 10 ^ places → n / 100 < 10 ^ (places - 2)
digits-under places n more h =
    let fewer : places - 1 - 1 ≡ places - 2 = omega arith in
    let front : n / 10 / 10 ≡ n / 100 = omega arith in
    let once : n / 10 < 10 ^ (places - 1) = fraction-under places n (omega arith) h in
    let twice : n / 10 / 10 < 10 ^ (places - 1 - 1) = fraction-under (places - 1) (n / 10) (omega arith) once in
    subst (λ m. m < 10 ^ (places - 2)) front (subst (λ p. n / 10 / 10 < 10 ^ p) fewer twice)

-- a number in one place
pub digits-alone : (places n : ℕ) → places ≡ 1 → n < 10 ^ places → digits_in places n ≡ (48 + n % 10) ∷ []
digits-alone places n e h =
    ap (λ m. digits_in m n) e ∙ filled-digit 48 1 n (subst (λ m. n < 10 ^ m) e h)

-- a number in two places
pub digits-two : (places n : ℕ) → places ≡ 2 → n < 10 ^ places → digits_in places n ≡ digits_in 2 (n % 100)
digits-two places n e h =
    let below : n < 100 = subst (λ m. n < 10 ^ m) e h in
    let same : n ≡ n % 100 = omega arith in
    ap (λ m. digits_in m n) e ∙ ap (digits_in 2) same
