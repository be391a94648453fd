-- Bytes that are unchanged in a string.
use Rattle.std.proofs.Common.{◌≡◌, ◌≢◌, ℕ, zero, suc, ◌+◌, ◌/◌, ◌%◌, ◌<◌, ◌≤◌, eqb, Bool, true, false, cond, List, [], ◌∷◌, ◌++◌, arith, refl, sym, ap, ◌∙◌, flat_map}
use Rattle.std.proofs.lemmas.List.Concat.{flat_map-append}
use Rattle.std.proofs.lemmas.Str.{encodes-append}
use Rattle.std.proofs.lemmas.List.{append-nil, append_assoc}
use Rattle.std.specs.Fmt.{digit_glyph, digits, digits_onto, decimal}
use Rattle.std.specs.List.{list_any}
use Rattle.std.specs.Prelude.{nat_lt, ◌==◌, ◌||◌, if◌then◌else◌, codes}
use Rattle.std.proofs.lemmas.Bool.{true≢false}
use Rattle.ttree_page.specs.Lines.{escaped_byte, hex_pair, is_escaped}
use lib.Utf8.{encode, encodes, next}

-- no byte of them is escaped
pub record AreKept (bytes : List ℕ) : Type 0 where
  pub same : flat_map escaped_byte bytes ≡ bytes

byte_kept : (byte : ℕ) → 32 ≤ byte → byte ≢ 34 → byte ≢ 92 → byte ≢ 60
    → escaped_byte byte ≡ byte ∷ []
byte_kept byte low quote slash less = grind arith

none : AreKept []
none = record { same = refl }

one_more : (byte : ℕ) (bytes : List ℕ) → escaped_byte byte ≡ byte ∷ [] → AreKept bytes → AreKept (byte ∷ bytes)
one_more byte bytes e h = record { same = ap (λ text. text ++ flat_map escaped_byte bytes) e ∙ ap (λ text. byte ∷ text) h.same }

either : (test : Bool) (xs ys : List ℕ) → AreKept xs → AreKept ys → AreKept (cond test xs ys)
either true xs ys h k = h
either false xs ys h k = k

-- ---- characters

high : (byte : ℕ) (bytes : List ℕ) → 128 ≤ byte → AreKept bytes → AreKept (byte ∷ bytes)
high byte bytes h k = one_more byte bytes (byte_kept byte (omega arith) (λ e. omega arith) (λ e. omega arith) (λ e. omega arith)) k

after : (bits : ℕ) (bytes : List ℕ) → AreKept bytes → AreKept (next bits ∷ bytes)
after bits bytes k = high (next bits) bytes (omega arith) k

char_kept : (c : ℕ) → escaped_byte c ≡ c ∷ [] → AreKept (encode c)
unfolding encode
char_kept c e =
    either _ _ _ (one_more c [] e none)
    (either _ _ _ (high (192 + c / 64) _ (omega arith) (after c [] none))
    (either _ _ _ (high (224 + c / 4096) _ (omega arith) (after (c / 64) _ (after c [] none)))
    (high (240 + c / 262144) _ (omega arith) (after (c / 4096) _ (after (c / 64) _ (after c [] none))))))

pub char-kept : (c : ℕ) → 32 ≤ c → c ≢ 34 → c ≢ 92 → c ≢ 60
    → flat_map escaped_byte (encode c) ≡ encode c
char-kept c low quote slash less = (char_kept c (byte_kept c low quote slash less)).same

-- ---- numbers

glyph_kept : (digit : ℕ) → digit < 10 → escaped_byte (digit_glyph false digit) ≡ digit_glyph false digit ∷ []
glyph_kept digit h = grind arith

onto_kept : (k n : ℕ) (more : List ℕ) → AreKept more → AreKept (digits_onto k 10 false n more)
onto_kept zero n more h = h
onto_kept (suc k) n more h =
    let digit = digit_glyph false (n % 10) in
    let longer = one_more digit more (glyph_kept (n % 10) (omega arith)) h in
    either (eqb (n / 10) 0) (digit ∷ more) (digits_onto k 10 false (n / 10) (digit ∷ more)) longer (onto_kept k (n / 10) (digit ∷ more) longer)

pub decimal-kept : (n : ℕ) → flat_map escaped_byte (decimal n) ≡ decimal n
unfolding digits
decimal-kept n = (onto_kept 64 n [] none).same

-- a number before a string
pub number-kept : (n : ℕ) (text : List ℕ) → decimal n ++ flat_map escaped_byte text ≡ flat_map escaped_byte (decimal n ++ text)
number-kept n text = sym (flat_map-append escaped_byte (decimal n) text ∙ ap (λ front. front ++ flat_map escaped_byte text) (decimal-kept n))

-- ---- a string so far

-- one more character
pub one-more-char : (start mid new cs : List ℕ) (c : ℕ) → mid ≡ start ++ flat_map escaped_byte (encodes cs) → new ≡ mid ++ flat_map escaped_byte (encode c) →
    new ≡ start ++ flat_map escaped_byte (encodes (cs ++ c ∷ []))
one-more-char start mid new cs c h k =
    let grown : flat_map escaped_byte (encodes (cs ++ c ∷ [])) ≡ flat_map escaped_byte (encodes cs) ++ flat_map escaped_byte (encode c) =
    ap (flat_map escaped_byte) (encodes-append cs (c ∷ []) ∙ ap (λ text. encodes cs ++ text) (append-nil (encode c))) ∙ flat_map-append escaped_byte (encodes cs) (encode c) in
    k ∙ ap (λ text. text ++ flat_map escaped_byte (encode c)) h ∙ append_assoc start (flat_map escaped_byte (encodes cs)) (flat_map escaped_byte (encode c))
    ∙ ap (λ text. start ++ text) (sym grown)

-- ---- strings without a byte that is escaped

plain_kept : (text : List ℕ) → list_any is_escaped text ≡ false → AreKept text
plain_kept [] none = record { same = refl }
plain_kept (byte ∷ text) none = by (byte == 34) refl (byte == 92) refl (byte == 60) refl (nat_lt byte 32) refl none (plain_kept text) where
  by : (a : Bool) → (byte == 34) ≡ a → (b : Bool) → (byte == 92) ≡ b → (c : Bool) → (byte == 60) ≡ c → (d : Bool) → nat_lt byte 32 ≡ d
      → ((a || (b || (c || d))) || list_any is_escaped text) ≡ false → (list_any is_escaped text ≡ false → AreKept text) → AreKept (byte ∷ text)
  by true _ b _ c _ d _ none others = absurd (true≢false none)
  by false _ true _ c _ d _ none others = absurd (true≢false none)
  by false _ false _ true _ d _ none others = absurd (true≢false none)
  by false _ false _ false _ true _ none others = absurd (true≢false none)
  by false is_a false is_b false is_c false is_d none others =
      one_more byte text
      (ap (λ (here : Bool). if here || (byte == 92) then 92 ∷ byte ∷ [] else (if nat_lt byte 32 || (byte == 60) then codes "\\u00" ++ hex_pair byte else byte ∷ [])) is_a
      ∙ ap (λ (here : Bool). if here then 92 ∷ byte ∷ [] else (if nat_lt byte 32 || (byte == 60) then codes "\\u00" ++ hex_pair byte else byte ∷ [])) is_b
      ∙ ap (λ (here : Bool). if here || (byte == 60) then codes "\\u00" ++ hex_pair byte else byte ∷ []) is_d
      ∙ ap (λ (here : Bool). if here then codes "\\u00" ++ hex_pair byte else byte ∷ []) is_c)
      (others none)

pub unescaped : (text : List ℕ) → list_any is_escaped text ≡ false
    → flat_map escaped_byte text ≡ text
unescaped text none = (plain_kept text none).same
