-- A string is parsed back from its line.
use Rattle.std.proofs.Common.{◌≡◌, ◌≢◌, ◌⊎◌, inl, inr, ℕ, ◌+◌, ◌*◌, ◌/◌, ◌%◌, ◌<◌, eqb, ltb, ◌||◌, true, false, cond, List, [], ◌∷◌, ◌++◌, Some, arith, refl, sym, ap, ◌∙◌, subst, flat_map, codes}
use Rattle.std.proofs.lemmas.List.{append_assoc}
use Rattle.std.proofs.lemmas.Bool.{cases_Bool, eqb-true, or_cases, ne_eqb}
use Rattle.std.specs.Fmt.{digit_glyph}
use Rattle.ttree_page.specs.Lines.{escaped_byte, hex_pair}
use Rattle.ttree_page.specs.Strings.{Plain, Gives, digit_of, follow, next, put, read_text}

glyph : (digit : ℕ) → digit < 16 → digit_of (digit_glyph false digit) ≡ digit
glyph digit h = grind arith

-- ---- one byte

plain : (byte : ℕ) → byte ≢ 34 → byte ≢ 92 → next Plain byte ≡ Gives byte
plain byte quote slash = rw (ne_eqb byte 34 quote, ne_eqb byte 92 slash) refl

code : (byte : ℕ) (more : List ℕ) → byte < 256 → read_text Plain ((codes "\\u00" ++ hex_pair byte) ++ more) ≡ put byte (read_text Plain more)
code byte more h =
    let value : (0 + digit_of (digit_glyph false (byte / 16))) * 16 + digit_of (digit_glyph false (byte % 16)) ≡ byte =
    ap (λ n. (0 + n) * 16 + digit_of (digit_glyph false (byte % 16))) (glyph (byte / 16) (omega arith))
    ∙ ap (λ n. (0 + byte / 16) * 16 + n) (glyph (byte % 16) (omega arith)) ∙ omega arith in
    ap (λ n. put n (read_text Plain more)) value

-- a backslash and the byte
pair : (byte : ℕ) (more : List ℕ) → (eqb byte 34 ≡ true) ⊎ (eqb byte 92 ≡ true) → read_text Plain (92 ∷ byte ∷ more) ≡ put byte (read_text Plain more)
pair byte more (inl e) = subst (λ b. read_text Plain (92 ∷ b ∷ more) ≡ put b (read_text Plain more)) (sym (eqb-true byte 34 e)) refl
pair byte more (inr e) = subst (λ b. read_text Plain (92 ∷ b ∷ more) ≡ put b (read_text Plain more)) (sym (eqb-true byte 92 e)) refl

small : (byte : ℕ) → (ltb byte 32 || eqb byte 60) ≡ true → byte < 256
small byte e = grind arith

no_quote : (byte : ℕ) → (eqb byte 34 || eqb byte 92) ≡ false → byte ≢ 34
no_quote byte e same = grind arith

no_slash : (byte : ℕ) → (eqb byte 34 || eqb byte 92) ≡ false → byte ≢ 92
no_slash byte e same = grind arith

other : (byte : ℕ) (more : List ℕ) → (eqb byte 34 || eqb byte 92) ≡ false →
    ((ltb byte 32 || eqb byte 60) ≡ true) ⊎ ((ltb byte 32 || eqb byte 60) ≡ false) →
    read_text Plain (cond (ltb byte 32 || eqb byte 60) (codes "\\u00" ++ hex_pair byte) (byte ∷ []) ++ more) ≡ put byte (read_text Plain more)
other byte more h (inl e) =
    ap (λ test. read_text Plain (cond test (codes "\\u00" ++ hex_pair byte) (byte ∷ []) ++ more)) e ∙ code byte more (small byte e)
other byte more h (inr e) =
    ap (λ test. read_text Plain (cond test (codes "\\u00" ++ hex_pair byte) (byte ∷ []) ++ more)) e
    ∙ ap (λ step. follow step more (λ mode. read_text mode more)) (plain byte (no_quote byte h) (no_slash byte h))

any : (byte : ℕ) (more : List ℕ) → ((eqb byte 34 || eqb byte 92) ≡ true) ⊎ ((eqb byte 34 || eqb byte 92) ≡ false) →
    read_text Plain (escaped_byte byte ++ more) ≡ put byte (read_text Plain more)
any byte more (inl e) =
    ap (λ test. read_text Plain (cond test (92 ∷ byte ∷ []) (cond (ltb byte 32 || eqb byte 60) (codes "\\u00" ++ hex_pair byte) (byte ∷ [])) ++ more)) e
    ∙ pair byte more (or_cases (eqb byte 34) (eqb byte 92) e)
any byte more (inr e) =
    ap (λ test. read_text Plain (cond test (92 ∷ byte ∷ []) (cond (ltb byte 32 || eqb byte 60) (codes "\\u00" ++ hex_pair byte) (byte ∷ [])) ++ more)) e
    ∙ other byte more e (cases_Bool (ltb byte 32 || eqb byte 60))

read-escaped : (byte : ℕ) (more : List ℕ) → read_text Plain (escaped_byte byte ++ more) ≡ put byte (read_text Plain more)
read-escaped byte more = any byte more (cases_Bool (eqb byte 34 || eqb byte 92))

-- ---- a string

pub read-text : (text rest : List ℕ) → read_text Plain (flat_map escaped_byte text ++ 34 ∷ rest) ≡ Some (text, rest)
read-text [] rest = refl
read-text (byte ∷ text) rest =
    ap (read_text Plain) (append_assoc (escaped_byte byte) (flat_map escaped_byte text) (34 ∷ rest)) ∙ read-escaped byte (flat_map escaped_byte text ++ 34 ∷ rest)
    ∙ ap (put byte) (read-text text rest)
