-- A document may be cut at the end of a piece, and after blanks.
use Rattle.std.proofs.Common.{◌≡◌, ℕ, zero, suc, ◌+◌, ◌<◌, ◌≤◌, true, false, List, length, get_or, refl, sym, ap, ◌∙◌, subst, arith}
use Rattle.std.specs.Prelude.{not, IsUtf8, IsCharBoundary}
use Rattle.std.specs.List.{position_or_len}
use Rattle.std.proofs.lemmas.List.Sums.{prefix_len-le-length, passes_at_first, fails_before_first}
use Rattle.std.proofs.lemmas.Bool.Decides.{nat_tests}
use Rattle.std.proofs.lemmas.Str.{IsCharBoundary-start, IsCharBoundary-after_ascii}
use Rattle.xml.specs.Cut.{blank_count, ends_at, is_blank}
use Rattle.xml.specs.declared.cut.Until.{Until}
use Rattle.xml.specs.declared.cut.Until.TheVariants.{Markup, Greater, Name, AttributeName, DoubleQuote, SingleQuote, Doctype, Subset, Reference, Verbatim, Content, Value}

-- a piece ends at a byte of ASCII
ends_small : (until : Until) (b : ℕ) → ends_at until b ≡ true → b < 128
ends_small Markup b e = grind (arith, nat_tests)
ends_small Greater b e = grind (arith, nat_tests)
ends_small Name b e = grind (arith, nat_tests)
ends_small AttributeName b e = grind (arith, nat_tests)
ends_small DoubleQuote b e = grind (arith, nat_tests)
ends_small SingleQuote b e = grind (arith, nat_tests)
ends_small Doctype b e = grind (arith, nat_tests)
ends_small Subset b e = grind (arith, nat_tests)
ends_small Reference b e = grind (arith, nat_tests)
ends_small Verbatim b e = grind (arith, nat_tests)
ends_small Content b e = grind (arith, nat_tests)
ends_small Value b e = grind (arith, nat_tests)

pub piece_ends : (until : Until) (bs : List ℕ) → IsCharBoundary bs (position_or_len (ends_at until) bs)
piece_ends until bs = (
  prefix_len-le-length (λ b. not (ends_at until b)) bs,
  λ lt high. absurd (apart (ends_small until (get_or bs (position_or_len (ends_at until) bs) 0) (passes_at_first (ends_at until) bs 0 lt)) high),
) where
  apart : {b : ℕ} → b < 128 → 128 ≤ b → ⊥
  apart small high = omega arith

blank_small : (b : ℕ) → not (is_blank b) ≡ false → b < 128
blank_small b e = grind (arith, nat_tests)

blank_edge : (bs : List ℕ) → IsUtf8 bs → (n : ℕ) → n ≡ blank_count bs → IsCharBoundary bs n
blank_edge bs u zero e = IsCharBoundary-start bs u
blank_edge bs u (suc k) e =
    let most : blank_count bs ≤ length bs = prefix_len-le-length (λ b. not (not (is_blank b))) bs in
    let lt : k < length bs = omega (arith, e, most) in
    let before : k < blank_count bs = omega (arith, e) in
    let next : k + 1 ≡ suc k = omega arith in
    subst (IsCharBoundary bs) next
    (IsCharBoundary-after_ascii bs k u lt (blank_small (get_or bs k 0) (fails_before_first (λ b. not (is_blank b)) bs k 0 before)))

pub blanks_end : (bs : List ℕ) → IsUtf8 bs → IsCharBoundary bs (blank_count bs)
blanks_end bs u = blank_edge bs u (blank_count bs) refl
