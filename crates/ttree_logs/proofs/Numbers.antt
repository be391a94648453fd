-- What `parse` reads of the digits of a time, and the moment of a number of nanoseconds.
use Rattle.std.proofs.Common.{◌≡◌, ℕ, ◌<◌, ◌^◌, Bool, true, false, not, List, [], ◌∷◌, length, Some, None, Result, Ok, Err, refl, sym, ap, ◌∙◌, arith}
use Rattle.std.proofs.lemmas.Bool.{and_from, and_parts, lt-ltb, ltb-true}
use Rattle.std.proofs.lemmas.Str.Parse.{IsNumeralModel, numerals_by_value, tells_all_ascii_digits, parse_digits}
use Rattle.std.specs.Prelude.{if◌then◌else◌}
use Rattle.std.specs.Result.{OkIff, result_ok}
use Rattle.std.specs.Str.{all_ascii_digits}
use Rattle.std.specs.Str.Parse.{digits_value, ParsesUnsigned}
use Rattle.ttree_source.specs.Marks.{is_empty}
use Rattle.ttree_logs.specs.LogTime.{is_digits, whole_of}

digits : IsNumeralModel (λ ds. all_ascii_digits ds ≡ true) (digits_value 10)
digits = numerals_by_value _ tells_all_ascii_digits

length_some : (ds : List ℕ) → not (is_empty ds) ≡ true → 0 < length ds
length_some [] h = cc
length_some (b ∷ bs) h = omega arith

picked : {X E : Type 0} (r : Result X E) (P : Type 0) (v : X) (b : Bool) → OkIff r P v → (P → b ≡ true) → (b ≡ true → P) →
    result_ok r ≡ (if b then Some v else None)
picked (Ok x) P v b h to from = ap Some h.1 ∙ sym (ap (λ (c : Bool). if c then Some v else None) (to h.0))
picked (Err e) P v false h to from = refl
picked (Err e) P v true h to from = absurd (h (from refl))

pub whole_parsed : {E : Type 0} (bs : List ℕ) (r : Result ℕ E) → ParsesUnsigned 64 10 bs r → is_digits bs ≡ true → result_ok r ≡ whole_of bs
whole_parsed bs r h is =
    let v = digits_value 10 bs in
    let parts = and_parts (not (is_empty bs)) (all_ascii_digits bs) is in
    picked r ((0 < length bs) × (v < 2 ^ 64)) v _ (parse_digits digits 64 bs r h parts.1)
    (λ p. and_from _ _ is (lt-ltb v (2 ^ 64) p.1))
    (λ q. (length_some bs parts.0, ltb-true v (2 ^ 64) (and_parts (is_digits bs) _ q).1))
