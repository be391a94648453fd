-- A string without a control character is shown unchanged.
use Rattle.std.proofs.Common.{◌≡◌, ℕ, ◌+◌, ◌/◌, ◌≤◌, nat_lt, List, [], ◌∷◌, ◌++◌, Bool, true, false, refl, ap, sym, ◌∙◌, IsUtf8, flat_map, if◌then◌else◌, ◌||◌, codes, arith}
use Rattle.std.specs.Fmt.{digits}
use Rattle.std.specs.Char.{encode_utf8}
use Rattle.std.specs.List.{list_any}
use Rattle.std.specs.Str.{chars}
use Rattle.std.proofs.Math.Utf8.{encodes}
use Rattle.std.proofs.lemmas.Bool.{true≢false}
use Rattle.std.proofs.lemmas.List.Folds.{list_any-append}
use Rattle.std.proofs.lemmas.Str.{encodes-chars}
use Rattle.ttree_source.specs.Calls.{is_escaped, is_unprintable, shown_char, shown_text}

each_as_it_is : (cs : List ℕ) → list_any is_escaped cs ≡ false → flat_map shown_char cs ≡ encodes cs
each_as_it_is [] none = refl
each_as_it_is (c ∷ cs) none = by (is_escaped c) refl none (each_as_it_is cs) where
  by : (here : Bool) → is_escaped c ≡ here → here || list_any is_escaped cs ≡ false → (list_any is_escaped cs ≡ false → flat_map shown_char cs ≡ encodes cs)
      → flat_map shown_char (c ∷ cs) ≡ encodes (c ∷ cs)
  by true is none others = absurd (true≢false none)
  by false is none others =
      ap (λ (here : Bool). (if here then codes "\\u{" ++ digits 16 false c ++ codes "}" else encode_utf8 c) ++ flat_map shown_char cs) is
      ∙ ap (λ rest. encode_utf8 c ++ rest) (others none)

pub without_escapes : (text : List ℕ) → IsUtf8 text → list_any is_escaped (chars text) ≡ false → shown_text text ≡ text
without_escapes text utf8 none = each_as_it_is (chars text) none ∙ encodes-chars text utf8

-- ---- printable ASCII

none_of : (a b : Bool) → a || b ≡ false → (a ≡ false) × (b ≡ false)
none_of true b h = absurd (true≢false h)
none_of false b h = (refl, h)

-- a character of several bytes has one that isn't ASCII
beyond : (byte c : ℕ) (rest : List ℕ) → 127 ≤ byte → list_any is_unprintable (byte ∷ rest) ≡ false → is_escaped c ≡ false
beyond byte c rest high none =
    let first = (none_of (is_unprintable byte) (list_any is_unprintable rest) none).0 in
    let over : is_unprintable byte ≡ true = grind arith in
    absurd (true≢false (sym over ∙ first))

by_length : (c : ℕ) (one two three : Bool) (second third fourth : List ℕ) →
    list_any is_unprintable (if one then c ∷ [] else if two then (192 + c / 64) ∷ second else if three then (224 + c / 4096) ∷ third else (240 + c / 262144) ∷ fourth) ≡ false
    → is_escaped c ≡ false
by_length c true two three second third fourth none = grind arith
by_length c false true three second third fourth none = beyond (192 + c / 64) c second (omega arith) none
by_length c false false true second third fourth none = beyond (224 + c / 4096) c third (omega arith) none
by_length c false false false second third fourth none = beyond (240 + c / 262144) c fourth (omega arith) none

one_printable : (c : ℕ) → list_any is_unprintable (encode_utf8 c) ≡ false → is_escaped c ≡ false
unfolding encode_utf8
one_printable c none = by_length c (nat_lt c 128) (nat_lt c 2048) (nat_lt c 65536) _ _ _ none

each_printable : (cs : List ℕ) → list_any is_unprintable (encodes cs) ≡ false → list_any is_escaped cs ≡ false
each_printable [] none = refl
each_printable (c ∷ cs) none =
    let both = none_of (list_any is_unprintable (encode_utf8 c)) (list_any is_unprintable (encodes cs)) (sym (list_any-append is_unprintable (encode_utf8 c) (encodes cs)) ∙ none) in
    rw (one_printable c both.0) (each_printable cs both.1)

-- printable ASCII has no character that is shown as an escape
pub printable : (text : List ℕ) → IsUtf8 text → list_any is_unprintable text ≡ false → list_any is_escaped (chars text) ≡ false
printable text utf8 none = each_printable (chars text) (ap (list_any is_unprintable) (encodes-chars text utf8) ∙ none)
