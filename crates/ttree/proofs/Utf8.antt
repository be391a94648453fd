-- Bytes that are UTF-8, and bytes that aren't.
use Rattle.std.proofs.Common.{◌≡◌, ℕ, List, true, false, refl}
use Rattle.std.specs.Prelude.{IsUtf8}
use Rattle.std.specs.Str.{is_utf8}
use Rattle.std.proofs.lemmas.Str.{is_utf8-from_IsUtf8, IsUtf8-from_is_utf8}

pub is_text : (bytes : List ℕ) → IsUtf8 bytes → is_utf8 bytes ≡ true
is_text bytes h = is_utf8-from_IsUtf8 bytes h

pub is_no_text : (bytes : List ℕ) → ¬ (IsUtf8 bytes) → is_utf8 bytes ≡ false
is_no_text bytes bad = elim (is_utf8 bytes) as (λ b. is_utf8 bytes ≡ b → b ≡ false) [
  | true ↦ (λ e. absurd (bad (IsUtf8-from_is_utf8 bytes e)))
  | false ↦ (λ e. refl)
] refl
