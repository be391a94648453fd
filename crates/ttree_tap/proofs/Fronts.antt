-- What is left of a string without its prefix.
use Rattle.std.proofs.Common.{◌≡◌, ◌≢◌, ◌<◌, ◌≤◌, ◌+◌, ℕ, Bool, true, false, List, [], ◌∷◌, IsUtf8, refl, ap, subst, ◌∙◌, arith}
use Rattle.std.specs.Prelude.{◌==◌, ◌&&◌, nat_lt, if◌then◌else◌}
use Rattle.std.proofs.lemmas.Bool.{eq-eqb, eqb-true, lt-ltb, le-ltb}
use Rattle.std.proofs.lemmas.Str.{IsCharBoundary-after_ascii, IsUtf8-drop}
use Rattle.ttree_tap.specs.Strings.{without_leading, without_margin_from}

pub leading_more : (mark : ℕ) (text rest : List ℕ) → text ≡ mark ∷ rest → without_leading mark text ≡ without_leading mark rest
leading_more mark text rest h =
    ap (without_leading mark) h ∙ ap (λ (is : Bool). if is then without_leading mark rest else mark ∷ rest) (eq-eqb mark mark refl)

pub leading_none : (mark : ℕ) (text : List ℕ) → ((rest : List ℕ) → text ≢ mark ∷ rest) → without_leading mark text ≡ text
leading_none mark [] h = refl
leading_none mark (byte ∷ rest) h = by (byte == mark) refl where
  by : (is : Bool) → (byte == mark) ≡ is → (if is then without_leading mark rest else byte ∷ rest) ≡ byte ∷ rest
  by true e = absurd (h rest (ap (λ b. b ∷ rest) (eqb-true byte mark e)))
  by false e = refl

pub margin_more : (place limit : ℕ) (text rest : List ℕ) → place < limit → text ≡ 32 ∷ rest →
    without_margin_from place limit text ≡ without_margin_from (place + 1) limit rest
margin_more place limit text rest below h =
    ap (without_margin_from place limit) h
    ∙ ap (λ (is : Bool). if is && (32 == 32) then without_margin_from (place + 1) limit rest else 32 ∷ rest) (lt-ltb place limit below)

pub margin_none : (place limit : ℕ) (text : List ℕ) → ((rest : List ℕ) → text ≢ 32 ∷ rest) → without_margin_from place limit text ≡ text
margin_none place limit [] h = refl
margin_none place limit (byte ∷ rest) h = by (nat_lt place limit) (byte == 32) refl where
  by : (below is : Bool) → (byte == 32) ≡ is → (if below && is then without_margin_from (place + 1) limit rest else byte ∷ rest) ≡ byte ∷ rest
  by false is e = refl
  by true true e = absurd (h rest (ap (λ b. b ∷ rest) (eqb-true byte 32 e)))
  by true false e = refl

pub margin_full : (place limit : ℕ) (text : List ℕ) → limit ≤ place → without_margin_from place limit text ≡ text
margin_full place limit [] h = refl
margin_full place limit (byte ∷ rest) h =
    ap (λ (is : Bool). if is && (byte == 32) then without_margin_from (place + 1) limit rest else byte ∷ rest) (le-ltb place limit h)

-- what comes after an ASCII character is UTF-8
pub rest_utf8 : (mark : ℕ) (text rest : List ℕ) → mark < 128 → text ≡ mark ∷ rest → IsUtf8 text → IsUtf8 rest
rest_utf8 mark text rest small h utf8 =
    let whole : IsUtf8 (mark ∷ rest) = subst IsUtf8 h utf8 in
    IsUtf8-drop (mark ∷ rest) 1 whole (IsCharBoundary-after_ascii (mark ∷ rest) 0 whole (omega arith) small)
