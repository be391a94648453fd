-- A string without a backslash has no escape.
use Rattle.std.proofs.Common.{◌≡◌, ℕ, List, [], ◌∷◌, ◌++◌, Bool, true, false, refl, ap, sym, ◌∙◌, IsUtf8, if◌then◌else◌, ◌||◌, eqb-true}
use Rattle.std.specs.Prelude.{◌==◌}
use Rattle.std.specs.Char.{encode_utf8}
use Rattle.std.specs.List.{list_any}
use Rattle.std.specs.Str.{chars}
use Rattle.std.proofs.Math.Utf8.{encodes}
use Rattle.std.proofs.lemmas.Bool.{true≢false}
use Rattle.std.proofs.lemmas.List.Folds.{list_any-append}
use Rattle.std.proofs.lemmas.Str.{encodes-chars}
use Rattle.ttree_tap.specs.Strings.{has_backslash, unescaped, unescaped_char, unescaped_from}

none_of : (a b : Bool) → a || b ≡ false → (a ≡ false) × (b ≡ false)
none_of true b h = absurd (true≢false h)
none_of false b h = (refl, h)

backslash : has_backslash (encode_utf8 92) ≡ true
unfolding encode_utf8
backslash = refl

no_backslash : (c : ℕ) → has_backslash (encode_utf8 c) ≡ false → (c == 92) ≡ false
no_backslash c none = by (c == 92) refl where
  by : (here : Bool) → (c == 92) ≡ here → here ≡ false
  by true is = absurd (true≢false (sym (ap (λ d. has_backslash (encode_utf8 d)) (eqb-true c 92 is) ∙ backslash) ∙ none))
  by false is = refl

each_same : (cs : List ℕ) → has_backslash (encodes cs) ≡ false → unescaped_from false cs ≡ encodes cs
each_same [] none = refl
each_same (c ∷ cs) none =
    let both = none_of (has_backslash (encode_utf8 c)) (has_backslash (encodes cs)) (sym (list_any-append (λ b. b == 92) (encode_utf8 c) (encodes cs)) ∙ none) in
    rw (no_backslash c both.0) (ap (λ rest. encode_utf8 c ++ rest) (each_same cs both.1))

pub without_backslash : (text : List ℕ) → IsUtf8 text → has_backslash text ≡ false → unescaped text ≡ text
without_backslash text utf8 none = each_same (chars text) (ap has_backslash (encodes-chars text utf8) ∙ none) ∙ encodes-chars text utf8
