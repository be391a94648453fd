-- What `parse` reads of the numbers of an element.
use Rattle.std.proofs.Common.{◌≡◌, ℕ, ◌<◌, ◌^◌, ℤ, pos, negsuc, Bool, true, false, not, List, [], ◌∷◌, length, Some, None, Result, Ok, Err, refl, sym, ap, ◌∙◌, arith}
use Rattle.std.proofs.lemmas.Bool.{and_from, and_parts, lt-ltb, ltb-true, ne_eqb}
use Rattle.std.proofs.lemmas.Str.Parse.{IsNumeralModel, numerals_by_value, tells_all_ascii_digits}
use Rattle.std.specs.Prelude.{if◌then◌else◌}
use Rattle.std.specs.Int.RustNames.{FitsSigned}
use Rattle.std.specs.Result.{OkIff, result_ok}
use Rattle.std.specs.Str.{all_ascii_digits}
use Rattle.std.specs.Str.Parse.{IsNumeral, digits_value, signed_digits_value, without_leading_sign, ParsesSigned}
use mir.Syntax.{Width, w32, w128}
use Rattle.ttree_source.specs.Marks.{is_empty}
use Rattle.ttree_chrome.specs.Number.{exponent_of, integer_of, is_below, is_digits, signed_of}

digits : IsNumeralModel (λ ds. all_ascii_digits ds ≡ true) (digits_value 10)
digits = numerals_by_value _ tells_all_ascii_digits

some_bytes : (ds : List ℕ) → 0 < length ds → not (is_empty ds) ≡ true
some_bytes ds h = ap not (ne_eqb (length ds) 0 (omega arith))

length_some : (ds : List ℕ) → not (is_empty ds) ≡ true → 0 < length ds
length_some [] h = cc
length_some (b ∷ bs) h = omega arith

is_digits_true : (ds : List ℕ) → IsNumeral 10 ds → is_digits ds ≡ true
is_digits_true ds h = and_from _ _ (some_bytes ds h.0) (digits.from ds h.1)

numeral_from : (ds : List ℕ) → is_digits ds ≡ true → IsNumeral 10 ds
numeral_from ds h =
    let parts = and_parts (not (is_empty ds)) (all_ascii_digits ds) h in
    (length_some ds parts.0, digits.to ds parts.1)

picked : {X E : Type 0} (r : Result X E) (P : Type 0) (v : X) (b : Bool) → OkIff r P v → (P → b ≡ true) → (b ≡ true → P) →
    result_ok r ≡ (if b then Some v else None)
picked (Ok x) P v b h to from = ap Some h.1 ∙ sym (ap (λ (c : Bool). if c then Some v else None) (to h.0))
picked (Err e) P v false h to from = refl
picked (Err e) P v true h to from = absurd (h (from refl))

signed_parsed : {E : Type 0} (w : Width) (bound : ℕ) (bs : List ℕ) (r : Result ℤ E) →
    ((z : ℤ) → FitsSigned w z → is_below bound z ≡ true) →
    ((z : ℤ) → is_below bound z ≡ true → FitsSigned w z) →
    ParsesSigned w 10 bs r → result_ok r ≡ signed_of bound bs
signed_parsed w bound bs r to from h =
    let ds = without_leading_sign bs in
    let z = signed_digits_value 10 bs in
    picked r (IsNumeral 10 ds × FitsSigned w z) z _ h
    (λ p. and_from _ _ (is_digits_true ds p.0) (to z p.1))
    (λ q. (numeral_from ds (and_parts (is_digits ds) (is_below bound z) q).0, from z (and_parts (is_digits ds) (is_below bound z) q).1))

below_127 : (z : ℤ) → FitsSigned w128 z → is_below (2 ^ 127) z ≡ true
below_127 (pos n) h = lt-ltb n (2 ^ 127) h.sfits
below_127 (negsuc n) h = lt-ltb n (2 ^ 127) h.sfits

from_127 : (z : ℤ) → is_below (2 ^ 127) z ≡ true → FitsSigned w128 z
from_127 (pos n) h = record { sfits = ltb-true n (2 ^ 127) h }
from_127 (negsuc n) h = record { sfits = ltb-true n (2 ^ 127) h }

below_31 : (z : ℤ) → FitsSigned w32 z → is_below (2 ^ 31) z ≡ true
below_31 (pos n) h = lt-ltb n (2 ^ 31) h.sfits
below_31 (negsuc n) h = lt-ltb n (2 ^ 31) h.sfits

from_31 : (z : ℤ) → is_below (2 ^ 31) z ≡ true → FitsSigned w32 z
from_31 (pos n) h = record { sfits = ltb-true n (2 ^ 31) h }
from_31 (negsuc n) h = record { sfits = ltb-true n (2 ^ 31) h }

pub integer_parsed : {E : Type 0} (bs : List ℕ) (r : Result ℤ E) → ParsesSigned w128 10 bs r → result_ok r ≡ integer_of bs
integer_parsed bs r h = signed_parsed w128 (2 ^ 127) bs r below_127 from_127 h

pub exponent_parsed : {E : Type 0} (bs : List ℕ) (r : Result ℤ E) → ParsesSigned w32 10 bs r → result_ok r ≡ exponent_of bs
exponent_parsed bs r h = signed_parsed w32 (2 ^ 31) bs r below_31 from_31 h
