-- The part that the digits of a number encode.
use Rattle.std.specs.Prelude.{◌≡◌, ℕ, ℤ, Bool, true, false, List, Option, Some, None, option_and_then, if◌then◌else◌, Float, refl}
use Rattle.std.specs.Float.{binary64, float_is_finite}
use Rattle.std.proofs.Common.{sym, ap, ◌∙◌}
use Rattle.std.proofs.lemmas.Option.{same_Some, none-some}
use Rattle.fast_float.specs.Text.{Parts, nearest}
use Rattle.serde_json.specs.Data.{Num, unsigned, negative, float, boolean}
use Rattle.serde_json.specs.Find.{as_u64, as_i64}
use Rattle.serde_json.specs.Read.{number_of, number_from, float_of}
use Rattle.tracing_tree_lines.proofs.BorrowedTrees.{float_u64, float_i64}
use Rattle.tracing_tree_lines.specs.Lines.Borrowed.{number_data, is_whole_number}
use Rattle.tracing_tree_lines.specs.Lines.Parts.{readable_word, IsNumberPart}
use Rattle.tracing_tree_lines.specs.declared.lines.part.Part.TheVariants.{Whole, Negative}

below_zero : (b : Bool) (z y : ℤ) (o : Option Num) → option_and_then as_i64 o ≡ None → option_and_then as_i64 (if b then Some (negative z) else o) ≡ Some y
    → (if b then Some (negative z) else o) ≡ Some (negative y)
below_zero true z y o none is = ap (λ x. Some (negative x)) (same_Some z y is)
below_zero false z y o none is = absurd (none-some y (sym none ∙ is))

-- a number after a minus with 64 bits is that number
pub negative_read : (p : Parts) (y : ℤ) → option_and_then as_i64 (number_from true p) ≡ Some y → number_from true p ≡ Some (negative y)
negative_read p y is = below_zero _ _ y (float_of true p) (float_i64 true p) is

not_below : (b : Bool) (n m : ℕ) (o : Option Num) → option_and_then as_u64 o ≡ None → option_and_then as_u64 (if b then Some (unsigned n) else o) ≡ Some m
    → (if b then Some (unsigned n) else o) ≡ Some (unsigned m)
not_below true n m o none is = ap (λ x. Some (unsigned x)) (same_Some n m is)
not_below false n m o none is = absurd (none-some m (sym none ∙ is))

-- a number without a minus with 64 bits is that number
pub whole_read : (p : Parts) (m : ℕ) → option_and_then as_u64 (number_from false p) ≡ Some m → number_from false p ≡ Some (unsigned m)
whole_read p m is = not_below _ _ m (float_of false p) (float_u64 false p) is

-- a number that isn't whole, from which no call is read
abbrev IsUnread : Option Num → Type 0
IsUnread o = (is_whole_number o ≡ false) × (boolean false ≡ readable_word (number_data o))

finite_unread : (b : Bool) (x : Float) → IsUnread (if b then Some (float x) else None)
finite_unread true x = (refl, refl)
finite_unread false x = (refl, refl)

float_unread : (sign : Bool) (p : Parts) → IsUnread (float_of sign p)
float_unread sign p = finite_unread (float_is_finite (nearest binary64 sign p)) (nearest binary64 sign p)

negative_or : (b : Bool) (z : ℤ) (o : Option Num) → IsUnread o → option_and_then as_i64 (if b then Some (negative z) else o) ≡ None → IsUnread (if b then Some (negative z) else o)
negative_or true z o other none = absurd (none-some z (sym none))
negative_or false z o other none = other

-- another number after a minus
pub negative_unread : (p : Parts) → option_and_then as_i64 (number_from true p) ≡ None → IsUnread (number_from true p)
negative_unread p none = negative_or _ _ (float_of true p) (float_unread true p) none

unsigned_or : (b : Bool) (n : ℕ) (o : Option Num) → IsUnread o → option_and_then as_u64 (if b then Some (unsigned n) else o) ≡ None → IsUnread (if b then Some (unsigned n) else o)
unsigned_or true n o other none = absurd (none-some n (sym none))
unsigned_or false n o other none = other

-- another number without a minus
pub whole_unread : (p : Parts) → option_and_then as_u64 (number_from false p) ≡ None → IsUnread (number_from false p)
whole_unread p none = unsigned_or _ _ (float_of false p) (float_unread false p) none

pub negative_part : (s : List ℕ) (z : ℤ) → number_of s ≡ Some (negative z) → IsNumberPart s (Some (Negative z))
negative_part s z is = (ap is_whole_number is, sym (ap (λ o. readable_word (number_data o)) is))

pub whole_part : (s : List ℕ) (n : ℕ) → number_of s ≡ Some (unsigned n) → IsNumberPart s (Some (Whole n))
whole_part s n is = (ap is_whole_number is, sym (ap (λ o. readable_word (number_data o)) is))

pub no_part : (s : List ℕ) (o : Option Num) → number_of s ≡ o → IsUnread o → IsNumberPart s None
no_part s o is unread = (ap is_whole_number is ∙ unread.0, unread.1 ∙ sym (ap (λ o. readable_word (number_data o)) is))
