-- The place of a note in a description: a character begins there.
use Rattle.std.proofs.Common.{◌≡◌, ◌≤◌, ◌<◌, ◌+◌, ℕ, Bool, true, false, List, [], ◌∷◌, length, get_or, refl, sym, ap, subst, ◌∙◌, IsUtf8, arith, add-one}
use Rattle.std.specs.Prelude.{◌==◌, codes, if◌then◌else◌}
use Rattle.std.specs.Str.{IsCharBoundary}
use Rattle.std.proofs.lemmas.Bool.{and_parts, eqb-true, true≢false}
use Rattle.std.specs.Prelude.{◌&&◌, ◌||◌}
use Rattle.std.proofs.lemmas.Str.{IsCharBoundary-start}
use Rattle.ttree_source.specs.Marks.{begins}
use Rattle.ttree_tap.specs.declared.line.Directive.TheVariants.{Absent}
use Rattle.ttree_tap.specs.Strings.{same_word}
use Rattle.ttree_tap.specs.Line.{directive_of, has_hash, is_note, is_said, is_spaced_note, note_place, space_note_place, tail_from}

begun_space : (byte : ℕ) (rest : List ℕ) → begins (codes " #") (byte ∷ rest) ≡ true → byte ≡ 32
begun_space byte rest h = sym (eqb-true 32 byte (and_parts (32 == byte) _ h).0)

pub noted_space : (byte : ℕ) (rest : List ℕ) → is_spaced_note (byte ∷ rest) ≡ true → byte ≡ 32
noted_space byte rest h =
    begun_space byte rest (and_parts (begins (codes " #") (byte ∷ rest)) (is_said (directive_of (tail_from (byte ∷ rest)))) h).0

-- a character begins at a space
pub space_at : (text : List ℕ) (place : ℕ) → place ≤ length text → get_or text place 0 ≡ 32 → IsCharBoundary text place
space_at text place within space = (within, λ inside high. absurd (omega (arith, high, space)))

within : (text : List ℕ) → space_note_place text ≤ length text
within [] = omega arith
within (byte ∷ rest) = by (is_spaced_note (byte ∷ rest)) (within rest) where
  by : (is : Bool) → space_note_place rest ≤ length rest → (if is then 0 else space_note_place rest + 1) ≤ length (byte ∷ rest)
  by true h = omega arith
  by false h = omega arith

at_space : (text : List ℕ) → space_note_place text < length text → get_or text (space_note_place text) 0 ≡ 32
at_space [] h = absurd (omega (arith, h))
at_space (byte ∷ rest) h = by (is_spaced_note (byte ∷ rest)) (noted_space byte rest) (at_space rest) h where
  by : (is : Bool) → (is ≡ true → byte ≡ 32) → (space_note_place rest < length rest → get_or rest (space_note_place rest) 0 ≡ 32)
      → (if is then 0 else space_note_place rest + 1) < length (byte ∷ rest) → get_or (byte ∷ rest) (if is then 0 else space_note_place rest + 1) 0 ≡ 32
  by true first later h = first refl
  by false first later h =
      let inside : space_note_place rest < length rest = omega (arith, h) in
      rw add-one (later inside)

space_boundary : (text : List ℕ) → IsCharBoundary text (space_note_place text)
space_boundary text = (
  within text,
  λ inside high.
      let space : get_or text (space_note_place text) 0 ≡ 32 = at_space text inside in
      absurd (omega (arith, high, space)),
)

pub note_boundary : (text : List ℕ) → IsUtf8 text → IsCharBoundary text (note_place text)
note_boundary text utf8 = by (is_note text) where
  by : (is : Bool) → IsCharBoundary text (if is then 0 else space_note_place text)
  by true = IsCharBoundary-start text utf8
  by false = space_boundary text

-- ---- descriptions without a `#`

none_of : (a b : Bool) → a || b ≡ false → (a ≡ false) × (b ≡ false)
none_of true b h = absurd (true≢false h)
none_of false b h = (refl, h)

other_byte : (byte : ℕ) → (byte == 35) ≡ false → (35 == byte) ≡ false
other_byte byte none = by (35 == byte) refl where
  by : (is : Bool) → (35 == byte) ≡ is → is ≡ false
  by true e = absurd (true≢false (sym (subst (λ b. (b == 35) ≡ true) (eqb-true 35 byte e) refl) ∙ none))
  by false e = refl

and_false : (a b : Bool) → b ≡ false → (a && b) ≡ false
and_false true b e = e
and_false false b e = refl

hashless : (text : List ℕ) → has_hash text ≡ false → begins (codes "#") text ≡ false
hashless [] none = refl
hashless (byte ∷ rest) none = rw (other_byte byte (none_of (byte == 35) (has_hash rest) none).0) refl

spaceless : (byte : ℕ) (rest : List ℕ) → has_hash rest ≡ false → begins (codes " #") (byte ∷ rest) ≡ false
spaceless byte rest none = and_false (32 == byte) (begins (codes "#") rest) (hashless rest none)

no_space_note : (text : List ℕ) → has_hash text ≡ false → space_note_place text ≡ length text
no_space_note [] none = refl
no_space_note (byte ∷ rest) none =
    let later = (none_of (byte == 35) (has_hash rest) none).1 in
    let same = no_space_note rest later in
    rw (spaceless byte rest later) (omega (arith, same))

pub no_note : (text : List ℕ) → has_hash text ≡ false → note_place text ≡ length text
no_note text none = rw (hashless text none) (no_space_note text none)

nothing_in : (tail : List ℕ) → (length tail == 0) ≡ true → tail ≡ []
nothing_in [] e = refl
nothing_in (byte ∷ rest) e =
    let none : length (byte ∷ rest) ≡ 0 = eqb-true (length (byte ∷ rest)) 0 e in
    absurd (omega (arith, none))

nothing_said : directive_of [] ≡ Absent
unfolding directive_of same_word
nothing_said = refl

pub no_directive : (tail : List ℕ) → (length tail == 0) ≡ true → directive_of tail ≡ Absent
no_directive tail e = ap directive_of (nothing_in tail e) ∙ nothing_said
