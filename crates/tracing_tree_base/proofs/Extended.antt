-- A string that grew, and is truncated to its earlier length.
use Rattle.std.proofs.Common.{◌≡◌, ℕ, ◌≤◌, zero, suc, List, [], ◌∷◌, ◌++◌, length, take, arith, refl, sym, ap, ◌∙◌, subst, lit<}
use Rattle.std.proofs.lemmas.List.{append-nil, append_assoc, length-append, length-take}
use Rattle.std.proofs.lemmas.Str.{IsUtf8-append, IsUtf8-past_char, IsUtf8-take, IsUtf8-string_bytes, lead_after_ascii}
use Rattle.std.proofs.Math.Seq.{get_or-append_seam}
use Rattle.std.specs.Str.{IsUtf8}
use Rattle.std.specs.Prelude.{Result, Ok, Err, String, string_bytes, is_ok, if◌then◌else◌}
use Rattle.std.specs.String.{string_len}
use Rattle.std.specs.String.Boundary.{IsSplitPoint}
use Rattle.tracing_tree_base.specs.Extended.{IsExtended}
use lib.Utf8.{encode, encodes}

-- a string was appended, and then another
pub extended_twice : (old mid new : List ℕ) → IsExtended old mid → IsExtended mid new → IsExtended old new
extended_twice old mid new h k = record {
  front = h.front ++ k.front;
  appended = k.appended ∙ ap (λ text. text ++ k.front) h.appended ∙ append_assoc old h.front k.front;
}

-- a push that may fail
pub extended_push : {T E : Type 0} (r : Result T E) (old new text : List ℕ) → new ≡ (if is_ok r then old ++ text else old) → IsExtended old new
extended_push (Ok done) old new text e = record { front = text; appended = e }
extended_push (Err fault) old new text e = record { front = []; appended = e ∙ sym (append-nil old) }

-- ---- the place where it ends is between characters

-- what follows characters is characters
utf8-rest : (cs front : List ℕ) → IsUtf8 (encodes cs ++ front) → IsUtf8 front
utf8-rest [] front h = h
utf8-rest (c ∷ cs) front h =
    utf8-rest cs front
    (IsUtf8-past_char ((encode c ++ encodes cs) ++ front) (encodes cs ++ front) c h (append_assoc (encode c) (encodes cs) front))

-- the first byte of characters begins one
utf8-starts : (byte : ℕ) (bytes : List ℕ) → IsUtf8 (byte ∷ bytes) → 128 ≤ byte → 192 ≤ byte
unfolding encode
utf8-starts byte bytes h far =
    let one : IsUtf8 (65 ∷ []) = (65 ∷ [], (refl, refl)) in
    lead_after_ascii (65 ∷ byte ∷ bytes) 0 (IsUtf8-append (65 ∷ []) (byte ∷ bytes) one h) (lit< tt) (omega arith) far

split_at_front : (old front : List ℕ) → IsUtf8 front → IsSplitPoint (old ++ front) (length old)
split_at_front old [] h =
    let same = length-append old [] in
    (omega arith, λ positive under. absurd (omega arith))
split_at_front old (byte ∷ bytes) h =
    let longer = length-append old (byte ∷ bytes) in (
      omega arith,
      λ positive under far.
          subst (λ b. 192 ≤ b) (sym (get_or-append_seam old byte bytes 0))
          (utf8-starts byte bytes h (subst (λ b. 128 ≤ b) (get_or-append_seam old byte bytes 0) far)),
    )

extended_rest : (old front : List ℕ) → IsUtf8 old → IsUtf8 (old ++ front) → IsUtf8 front
extended_rest old front (cs, h) k = utf8-rest cs front (subst (λ text. IsUtf8 (text ++ front)) (sym h.1) k)

extended_splits : (old new : List ℕ) → IsUtf8 old → IsUtf8 new → IsExtended old new → IsSplitPoint new (length old)
extended_splits old new u v h =
    let whole : IsUtf8 (old ++ h.front) = subst IsUtf8 h.appended v in
    subst (λ text. IsSplitPoint text (length old)) (sym h.appended) (split_at_front old h.front (extended_rest old h.front u whole))

-- a string that grew can be truncated to its earlier length
pub cuts_back : {Z : Type 0} (old new : String Z) (at : ℕ) → at ≡ string_len old → IsExtended (string_bytes old) (string_bytes new) →
    IsSplitPoint (string_bytes new) at
cuts_back old new at here h =
    subst (IsSplitPoint (string_bytes new)) (sym old.bytes.ok.0 ∙ sym here)
    (extended_splits (string_bytes old) (string_bytes new) (IsUtf8-string_bytes old) (IsUtf8-string_bytes new) h)

-- a string that grew from an earlier prefix can be truncated to that
pub cuts_back_to : {Z : Type 0} (old new : String Z) (at : ℕ) → IsSplitPoint (string_bytes old) at →
    IsExtended (take at (string_bytes old)) (string_bytes new) → IsSplitPoint (string_bytes new) at
cuts_back_to old new zero split h = (omega arith, λ positive. absurd (omega arith))
cuts_back_to old new (suc n) split h =
    let text = string_bytes old in
    let front = take (suc n) text in
    let long : length front ≡ suc n = omega (arith, length-take (suc n) text, split.0) in
    let whole : IsUtf8 front = IsUtf8-take text (suc n) (IsUtf8-string_bytes old) (split.0, split.1 (omega arith)) in
    subst (IsSplitPoint (string_bytes new)) long (extended_splits front (string_bytes new) whole (IsUtf8-string_bytes new) h)
