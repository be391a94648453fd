-- Escaped lines are plain, however they are cut.
use Rattle.std.proofs.Common.{◌≡◌, ◌≢◌, ◌⊎◌, inl, inr, ap, IsUtf8, ℕ, zero, suc, ◌+◌, ◌/◌, ◌%◌, ◌<◌, ◌≤◌, ◌==◌, ◌&&◌, not, nat_lt, nat_le, Bool, true, false, if◌then◌else◌, List, [], ◌∷◌, ◌++◌, Option, Some, None, Result, Ok, Err, IsTrue, arith, refl, sym, subst, ◌∙◌, flat_map, codes}
use Rattle.std.proofs.lemmas.Bool.{and_parts, cases_lt, false≢true, ltb-false, ltb-true, ne_eqb}
use Rattle.std.proofs.lemmas.Str.{encodes-append, encodes-chars, IsUtf8-from_is_utf8}
use Rattle.std.specs.Char.{encode_utf8}
use Rattle.std.specs.Fmt.{digit_glyph, digits, digits_onto}
use Rattle.std.proofs.KnownBytes.{Appends-kept}
use Rattle.std.specs.Io.KnownBytes.{Keeps}
use Rattle.std.specs.Str.{chars, encode_utf8_all, is_utf8}
use Rattle.std.specs.Str.Lossy.{utf8_lossy}
use Rattle.ttree_source.specs.Calls.{is_escaped, shown_char, shown_text}
use Rattle.ttree_columns.proofs.Fitted.{fitting_part}
use Rattle.ttree_columns.specs.Columns.{fitting, is_wider, start}
use Rattle.ttree_terminal.specs.declared.shaping.Shaping.{Shaping}
use Rattle.ttree_terminal.specs.Plain.{is_c1, is_control, plain_after, GrowsPlain}
use Rattle.ttree_terminal.specs.Columns.{cut_at, cut_mark, has_byte, kept_columns, kept_line_end, reset}
use Rattle.ttree_terminal.specs.Lines.{cut_to, ended_by, escaped_line, held_after, lines_ended, shaped}
use Rattle.ttree_terminal.specs.Writing.{WritesOrPart}

-- ---- bytes

weaker : (c x r s p : Bool) → (c && not (true && r && s) && p) ≡ true → (c && not (x && r && s) && p) ≡ true
weaker c true r s p h = h
weaker true false true true p h = grind arith
weaker true false true false p h = h
weaker true false false s p h = h
weaker false false r s p h = h

-- what is plain after a byte 194 is plain after each byte
anywhere : (before : ℕ) (bytes : List ℕ) → plain_after 194 bytes ≡ true → plain_after before bytes ≡ true
anywhere before [] h = refl
anywhere before (byte ∷ bytes) h =
    weaker (not (is_control byte)) (before == 194) (nat_le 128 byte) (nat_le byte 159) (plain_after byte bytes) h

on_to : (c d p q : Bool) → (c && d && p) ≡ true → (p ≡ true → q ≡ true) → (c && d && q) ≡ true
on_to true true p q h k = k h
on_to true false p q h k = grind arith
on_to false d p q h k = grind arith

joined : (before : ℕ) (xs ys : List ℕ) → plain_after before xs ≡ true → plain_after 194 ys ≡ true → plain_after before (xs ++ ys) ≡ true
joined before [] ys h k = anywhere before ys k
joined before (x ∷ xs) ys h k =
    on_to (not (is_control x)) (not (is_c1 before x)) (plain_after x xs) (plain_after x (xs ++ ys)) h (λ p. joined x xs ys p k)

first_part : (before : ℕ) (xs ys : List ℕ) → plain_after before (xs ++ ys) ≡ true → plain_after before xs ≡ true
first_part before [] ys h = refl
first_part before (x ∷ xs) ys h =
    on_to (not (is_control x)) (not (is_c1 before x)) (plain_after x (xs ++ ys)) (plain_after x xs) h (first_part x xs ys)

either : (test : Bool) (xs ys : List ℕ) → (test ≡ true → plain_after 194 xs ≡ true) → (test ≡ false → plain_after 194 ys ≡ true) → plain_after 194 (if test then xs else ys) ≡ true
either true xs ys h k = h refl
either false xs ys h k = k refl

one_more : (before byte : ℕ) (bytes : List ℕ) → is_control byte ≡ false → is_c1 before byte ≡ false → plain_after byte bytes ≡ true → plain_after before (byte ∷ bytes) ≡ true
one_more before byte bytes h k more = rw h (rw k more)

-- plain bytes have no ESC
no_escape : (before : ℕ) (bytes : List ℕ) → plain_after before bytes ≡ true → has_byte 27 bytes ≡ false
no_escape before [] h = refl
no_escape before (byte ∷ bytes) h =
    let parts = and_parts (not (is_control byte) && not (is_c1 before byte)) (plain_after byte bytes) (grind arith) in
    let this : (byte == 27) ≡ false = grind arith in
    rw this (no_escape byte bytes parts.1)

-- ---- characters

ascii_one : (before byte : ℕ) (bytes : List ℕ) → 32 ≤ byte → byte < 127 → plain_after byte bytes ≡ true → plain_after before (byte ∷ bytes) ≡ true
ascii_one before byte bytes low high more = one_more before byte bytes (grind arith) (grind arith) more

glyph : (digit : ℕ) (bytes : List ℕ) → digit < 16 → plain_after 194 bytes ≡ true → plain_after 194 (digit_glyph false digit ∷ bytes) ≡ true
glyph digit bytes small more =
    let made = digit_glyph false digit in
    let low : 32 ≤ made = grind arith in
    let high : made < 127 = grind arith in
    ascii_one 194 made bytes low high (anywhere made bytes more)

onto : (k n : ℕ) (after : List ℕ) → plain_after 194 after ≡ true → plain_after 194 (digits_onto k 16 false n after) ≡ true
onto zero n after h = h
onto (suc k) n after h =
    let digit = digit_glyph false (n % 16) in
    let more = glyph (n % 16) after (omega arith) h in
    either (n / 16 == 0) (digit ∷ after) (digits_onto k 16 false (n / 16) (digit ∷ after)) (λ _. more) (λ _. onto k (n / 16) (digit ∷ after) more)

digits_plain : (n : ℕ) → plain_after 194 (digits 16 false n) ≡ true
unfolding digits
digits_plain n = onto 64 n [] refl

code_plain : (c : ℕ) → plain_after 194 (codes "\\u{" ++ digits 16 false c ++ codes "}") ≡ true
code_plain c =
    joined 194 (codes "\\u{") (digits 16 false c ++ codes "}") refl
    (joined 194 (digits 16 false c) (codes "}") (digits_plain c) refl)

high : (byte : ℕ) → 128 ≤ byte → is_control byte ≡ false
high byte h = grind arith

no_c1_high : (before byte : ℕ) → 160 ≤ byte → is_c1 before byte ≡ false
no_c1_high before byte h = grind arith

no_c1_after : (before byte : ℕ) → before ≢ 194 → is_c1 before byte ≡ false
no_c1_after before byte h = rw (ne_eqb before 194 h) refl

-- a byte from 128 on
high_one : (before byte : ℕ) (bytes : List ℕ) → 128 ≤ byte → is_c1 before byte ≡ false → plain_after byte bytes ≡ true → plain_after before (byte ∷ bytes) ≡ true
high_one before byte bytes h k more = one_more before byte bytes (high byte h) k more

one_byte : (c : ℕ) → c < 128 → is_escaped c ≡ false → plain_after 194 (c ∷ []) ≡ true
one_byte c low free =
    let control : is_control c ≡ false = grind arith in
    let c1 : is_c1 194 c ≡ false = grind arith in
    one_more 194 c [] control c1 refl

free_high : (c : ℕ) → 128 ≤ c → is_escaped c ≡ false → 160 ≤ c
free_high c low free = grind arith

two_c1 : (c : ℕ) → 160 ≤ c → c < 192 ⊎ 192 ≤ c → is_c1 (192 + c / 64) (128 + c % 64) ≡ false
two_c1 c low (inl h) = no_c1_high (192 + c / 64) (128 + c % 64) (omega arith)
two_c1 c low (inr h) = no_c1_after (192 + c / 64) (128 + c % 64) (λ e. absurd (omega (arith, e)))

two_bytes : (c : ℕ) → 128 ≤ c → c < 2048 → is_escaped c ≡ false → plain_after 194 ((192 + c / 64) ∷ (128 + c % 64) ∷ []) ≡ true
two_bytes c low small free =
    high_one 194 (192 + c / 64) ((128 + c % 64) ∷ []) (omega arith) (no_c1_high 194 (192 + c / 64) (omega arith))
    (high_one (192 + c / 64) (128 + c % 64) [] (omega arith) (two_c1 c (free_high c low free) (cases_lt c 192)) refl)

-- a byte after the first of a character, whose byte before isn't 194
next_one : (before n : ℕ) (bytes : List ℕ) → before ≢ 194 → plain_after (128 + n % 64) bytes ≡ true → plain_after before ((128 + n % 64) ∷ bytes) ≡ true
next_one before n bytes h more = high_one before (128 + n % 64) bytes (omega arith) (no_c1_after before (128 + n % 64) h) more

next_is_less : (n : ℕ) → 128 + n % 64 ≢ 194
next_is_less n e = absurd (omega (arith, e))

-- the first byte of three or four
first_one : (byte : ℕ) (bytes : List ℕ) → 224 ≤ byte → plain_after byte bytes ≡ true → plain_after 194 (byte ∷ bytes) ≡ true
first_one byte bytes h more = high_one 194 byte bytes (omega (arith, h)) (no_c1_high 194 byte (omega (arith, h))) more

three_bytes : (c : ℕ) → plain_after 194 ((224 + c / 4096) ∷ (128 + (c / 64) % 64) ∷ (128 + c % 64) ∷ []) ≡ true
three_bytes c =
    first_one (224 + c / 4096) ((128 + (c / 64) % 64) ∷ (128 + c % 64) ∷ []) (omega arith)
    (next_one (224 + c / 4096) (c / 64) ((128 + c % 64) ∷ []) (λ e. absurd (omega (arith, e)))
    (next_one (128 + (c / 64) % 64) c [] (next_is_less (c / 64)) refl))

four_bytes : (c : ℕ) → plain_after 194 ((240 + c / 262144) ∷ (128 + (c / 4096) % 64) ∷ (128 + (c / 64) % 64) ∷ (128 + c % 64) ∷ []) ≡ true
four_bytes c =
    first_one (240 + c / 262144) ((128 + (c / 4096) % 64) ∷ (128 + (c / 64) % 64) ∷ (128 + c % 64) ∷ []) (omega arith)
    (next_one (240 + c / 262144) (c / 4096) ((128 + (c / 64) % 64) ∷ (128 + c % 64) ∷ []) (λ e. absurd (omega (arith, e)))
    (next_one (128 + (c / 4096) % 64) (c / 64) ((128 + c % 64) ∷ []) (next_is_less (c / 4096))
    (next_one (128 + (c / 64) % 64) c [] (next_is_less (c / 64)) refl)))

encoded : (c : ℕ) → is_escaped c ≡ false → plain_after 194 (encode_utf8 c) ≡ true
unfolding encode_utf8
encoded c free =
    either (nat_lt c 128) _ _ (λ e. one_byte c (ltb-true c 128 e) free)
    (λ e. either (nat_lt c 2048) _ _ (λ f. two_bytes c (ltb-false c 128 e) (ltb-true c 2048 f) free)
    (λ f. either (nat_lt c 65536) _ _ (λ _. three_bytes c) (λ _. four_bytes c)))

one_shown : (c : ℕ) → plain_after 194 (shown_char c) ≡ true
one_shown c = either (is_escaped c) _ _ (λ _. code_plain c) (encoded c)

all_shown : (cs : List ℕ) → plain_after 194 (flat_map shown_char cs) ≡ true
all_shown [] = refl
all_shown (c ∷ cs) = joined 194 (shown_char c) (flat_map shown_char cs) (one_shown c) (all_shown cs)

-- ---- lines

kept_plain : (width : ℕ) (line : List ℕ) → IsUtf8 line → plain_after 194 line ≡ true → plain_after 194 (kept_columns width line) ≡ true
kept_plain width line text h =
    let (rest, e) = fitting_part width start (chars line) in
    let first = fitting width start (chars line) in
    let whole : line ≡ kept_columns width line ++ encode_utf8_all rest =
    sym (encodes-chars line text) ∙ ap encode_utf8_all e ∙ encodes-append first rest in
    first_part 194 (kept_columns width line) (encode_utf8_all rest) (subst (λ l. plain_after 194 l ≡ true) whole h)

reset_plain : (bytes : List ℕ) → plain_after 194 bytes ≡ true → plain_after 194 (reset bytes) ≡ true
reset_plain bytes h = either (has_byte 27 bytes) _ _ (λ e. absurd (false≢true (sym (no_escape 194 bytes h) ∙ e))) (λ _. refl)

line_end_plain : (line : List ℕ) → plain_after 194 (kept_line_end line) ≡ true
line_end_plain line = either (has_byte 10 line) _ _ (λ _. refl) (λ _. refl)

cut_plain : (width : ℕ) (line : List ℕ) → plain_after 194 line ≡ true → plain_after 194 (cut_at width line) ≡ true
cut_plain width line h =
    either (is_utf8 line && is_wider width start (chars line)) (kept_columns width line ++ cut_mark ++ reset (kept_columns width line) ++ kept_line_end line) line
    (λ e.
    let text = IsUtf8-from_is_utf8 line (and_parts (is_utf8 line) (is_wider width start (chars line)) e).0 in
    let first = kept_plain width line text h in
    joined 194 (kept_columns width line ++ cut_mark ++ reset (kept_columns width line))
    (kept_line_end line)
    (joined 194 (kept_columns width line ++ cut_mark) (reset (kept_columns width line)) (joined 194 (kept_columns width line) cut_mark first refl) (reset_plain (kept_columns width line) first))
    (line_end_plain line))
    (λ _. h)

cut_to_plain : (width : Option ℕ) (line : List ℕ) → plain_after 194 line ≡ true → plain_after 194 (cut_to width line) ≡ true
cut_to_plain None line h = h
cut_to_plain (Some width) line h = either (width == 0) line (cut_at width line) (λ _. h) (λ _. cut_plain width line h)

escaped_plain : (line : List ℕ) → plain_after 194 (escaped_line line) ≡ true
escaped_plain line = either (plain_after 194 line) line (shown_text (utf8_lossy line)) (λ e. e) (λ _. all_shown (chars (utf8_lossy line)))

shaped_plain : (shaping : Shaping) (line : List ℕ) → IsTrue shaping.is_escaped → plain_after 194 (shaped shaping line) ≡ true
shaped_plain shaping line on =
    cut_to_plain shaping.width (if shaping.is_escaped then escaped_line line else line)
    (either shaping.is_escaped (escaped_line line) line (λ _. escaped_plain line) (λ e. absurd (false≢true (sym e ∙ on))))

ended_plain : (shaping : Shaping) (held bytes : List ℕ) → IsTrue shaping.is_escaped → plain_after 194 (lines_ended shaping held bytes) ≡ true
ended_plain shaping held [] on = refl
ended_plain shaping held (byte ∷ bytes) on =
    joined 194 (ended_by shaping held byte) (lines_ended shaping (held_after held byte) bytes)
    (either (byte == 10) (shaped shaping (held ++ byte ∷ [])) [] (λ _. shaped_plain shaping (held ++ byte ∷ []) on) (λ _. refl))
    (ended_plain shaping (held_after held byte) bytes on)

-- ---- what is written

grows : {A E : Type 0} (bytes : List ℕ) (result : Result A E) (old new : Option (List ℕ)) → plain_after 194 bytes ≡ true → WritesOrPart bytes result old new → GrowsPlain old new
grows bytes (Ok done) old new h written = (bytes, written, λ before k. joined 0 before bytes k h)
grows bytes (Err error) old new h (part, rest, e, written) =
    (part, written, λ before k. joined 0 before part k (first_part 194 part rest (subst (λ l. plain_after 194 l ≡ true) e h)))

-- a flush changes nothing that is known
pub grows_and_stays : (old middle new : Option (List ℕ)) → GrowsPlain old middle → Keeps middle new → GrowsPlain old new
grows_and_stays old middle new (bytes, written, plain) kept = (bytes, Appends-kept old middle new bytes written kept, plain)

pub ended_grows : {A E : Type 0} (shaping : Shaping) (held bytes : List ℕ) (result : Result A E) (old new : Option (List ℕ)) → IsTrue shaping.is_escaped → WritesOrPart (lines_ended shaping held bytes) result old new → GrowsPlain old new
ended_grows shaping held bytes result old new on written = grows (lines_ended shaping held bytes) result old new (ended_plain shaping held bytes on) written

pub shaped_grows : {A E : Type 0} (shaping : Shaping) (line : List ℕ) (result : Result A E) (old new : Option (List ℕ)) → IsTrue shaping.is_escaped → WritesOrPart (shaped shaping line) result old new → GrowsPlain old new
shaped_grows shaping line result old new on written = grows (shaped shaping line) result old new (shaped_plain shaping line on) written
