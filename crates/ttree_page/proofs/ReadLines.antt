-- A line is read as its step.
use Rattle.std.proofs.Common.{◌≡◌, ◌≢◌, ℕ, zero, suc, ◌+◌, ◌*◌, ◌-◌, ◌/◌, ◌%◌, ◌^◌, ◌<◌, ◌≤◌, lit<, lit≤, eqb, Bool, true, false, cond, ℤ, pos, negsuc, ◌+ℤ◌, ◌*ℤ◌, List, [], ◌∷◌, ◌++◌, length, map, Some, None, arith, refl, sym, ap, ◌∙◌, flat_map, append_assoc}
use Rattle.std.specs.Prelude.{if◌then◌else◌, option_map, option_and_then, ⊤}
use Rattle.std.proofs.Math.Nat.{pow-suc}
use borrow.Author.Differences.{up, down}
use Rattle.std.specs.Fmt.{digit_glyph, digits, digits_onto, decimal, signed_decimal}
use Rattle.std.specs.Int.{int_div_euclid, int_rem_euclid}
use Rattle.std.proofs.lemmas.Bool.{eqb-true, ne_eqb}
use Rattle.std.proofs.lemmas.List.{append-nil, length-append}
use Rattle.std.proofs.lemmas.List.Elements.{All-head, All-tail}
use Rattle.jiff_core.proofs.SignedLemmas.{int_rem_euclid-parts, signed_arith}
use Rattle.tracing_tree_base.specs.declared.field.Field.{Field}
use Rattle.tracing_tree_base.specs.declared.style.Level.{Level}
use Rattle.tracing_tree_base.specs.declared.style.Level.TheVariants as Levels
use Rattle.ttree_page.specs.declared.form.LineForm.TheVariants.{Arrays}
use Rattle.ttree_page.specs.Steps.{Stamp, Step, About, New, Record, Event, Close, End}
use Rattle.ttree_page.specs.Strings.{Plain, read_text}
use Rattle.ttree_page.specs.Lines.{after_comma, escaped_byte, in_quotes, level_text, name_and_value, start_text, step_kind, step_line, step_parts}
use Rattle.ttree_page.specs.Parsing.{Part, Number, Text, Parsed, after_part, as_negative, as_number, as_text, parts_if_ended, fields_in, is_digit, level_from_number, put_part, read_digits, read_line, read_number, read_part, read_parts, stamp_from, step_in}
use Rattle.ttree_page.specs.Reading.{AreLinesReadBack, FitsSigned, FitsStamp, FitsStep, IsEachLineRead, IsEachLineReadBack}
use Rattle.ttree_page.specs.Writing.{lines_of}
use Rattle.ttree_page.proofs.ReadStrings.{read-text}

-- ---- numbers

glyph_is_digit : (d : ℕ) → d < 10 → is_digit (digit_glyph false d) ≡ true
glyph_is_digit d h = grind arith

glyph_value : (value d : ℕ) → d < 10 → value * 10 + (digit_glyph false d - 48) ≡ value * 10 + d
glyph_value value d h = grind arith

read_digit : (value d : ℕ) (rest : List ℕ) → d < 10 → read_digits value (digit_glyph false d ∷ rest) ≡ read_digits (value * 10 + d) rest
read_digit value d rest h = rw (glyph_is_digit d h) (ap (λ n. read_digits n rest) (glyph_value value d h))

read_last : (n : ℕ) (rest : List ℕ) → n / 10 ≡ 0 → read_digits 0 (digit_glyph false (n % 10) ∷ rest) ≡ read_digits n rest
read_last n rest h =
    let small : n % 10 < 10 = omega arith in
    let same : 0 * 10 + n % 10 ≡ n = omega arith in
    read_digit 0 (n % 10) rest small ∙ ap (λ m. read_digits m rest) same

read_next : (n : ℕ) (rest : List ℕ) → read_digits (n / 10) (digit_glyph false (n % 10) ∷ rest) ≡ read_digits n rest
read_next n rest =
    let small : n % 10 < 10 = omega arith in
    let same : (n / 10) * 10 + n % 10 ≡ n = omega arith in
    read_digit (n / 10) (n % 10) rest small ∙ ap (λ m. read_digits m rest) same

fewer : (k n : ℕ) → n < 10 ^ suc k → n / 10 < 10 ^ k
fewer k n h = let e = pow-suc 10 k in omega (arith, e)

-- the digits before the last one were read, if there are any
read_by : (test : Bool) (k n : ℕ) (front rest : List ℕ) → eqb (n / 10) 0 ≡ test →
    read_digits 0 (digits_onto k 10 false (n / 10) (digit_glyph false (n % 10) ∷ front) ++ rest) ≡ read_digits (n / 10) ((digit_glyph false (n % 10) ∷ front) ++ rest) →
    read_digits 0 (cond test (digit_glyph false (n % 10) ∷ front) (digits_onto k 10 false (n / 10) (digit_glyph false (n % 10) ∷ front)) ++ rest) ≡ read_digits n (front ++ rest)
read_by true k n front rest e earlier = read_last n (front ++ rest) (eqb-true (n / 10) 0 e)
read_by false k n front rest e earlier = earlier ∙ read_next n (front ++ rest)

read_onto : (k n : ℕ) (front rest : List ℕ) → n < 10 ^ k → read_digits 0 (digits_onto k 10 false n front ++ rest) ≡ read_digits n (front ++ rest)
read_onto zero n front rest h =
    let none : 0 ≡ n = omega arith in
    ap (λ m. read_digits m (front ++ rest)) none
read_onto (suc k) n front rest h =
    read_by (eqb (n / 10) 0) k n front rest refl (read_onto k (n / 10) (digit_glyph false (n % 10) ∷ front) rest (fewer k n h))

-- a comma or a bracket
record IsEnd (byte : ℕ) : Type 0 where
  no_digit : is_digit byte ≡ false

comma : IsEnd 44
comma = record { no_digit = refl }

bracket_end : IsEnd 93
bracket_end = record { no_digit = refl }

wide : (n : ℕ) → n < 2 ^ 64 → n < 10 ^ 64
wide n h = let more : 2 ^ 64 ≤ 10 ^ 64 = lit≤ tt in omega (arith, more)

digits_read : (n byte : ℕ) (rest : List ℕ) → n < 2 ^ 64 → IsEnd byte → read_digits 0 (decimal n ++ byte ∷ rest) ≡ (n, byte ∷ rest)
unfolding digits
digits_read n byte rest h end =
    read_onto 64 n [] (byte ∷ rest) (wide n h) ∙ rw end.no_digit refl

-- the first byte is a digit
StartsWithDigit : List ℕ → Type 0
StartsWithDigit [] = ⊥
StartsWithDigit (byte ∷ rest) = is_digit byte ≡ true

either : (test : Bool) (xs ys : List ℕ) → StartsWithDigit xs → StartsWithDigit ys → StartsWithDigit (cond test xs ys)
either true xs ys h k = h
either false xs ys h k = k

glyph_starts : (n : ℕ) (rest : List ℕ) → StartsWithDigit (digit_glyph false (n % 10) ∷ rest)
unfolding StartsWithDigit
glyph_starts n rest = glyph_is_digit (n % 10) (omega arith)

onto_starts : (k n : ℕ) (front : List ℕ) → StartsWithDigit front → StartsWithDigit (digits_onto k 10 false n front)
onto_starts zero n front h = h
onto_starts (suc k) n front h =
    let glyph = digit_glyph false (n % 10) ∷ front in
    either (eqb (n / 10) 0) glyph (digits_onto k 10 false (n / 10) glyph) (glyph_starts n front) (onto_starts k (n / 10) glyph (glyph_starts n front))

decimal_starts : (n : ℕ) → StartsWithDigit (decimal n)
unfolding digits
decimal_starts n =
    let glyph = digit_glyph false (n % 10) ∷ [] in
    either (eqb (n / 10) 0) glyph (digits_onto 63 10 false (n / 10) glyph) (glyph_starts n []) (onto_starts 63 (n / 10) glyph (glyph_starts n []))

no_quote : (byte : ℕ) → is_digit byte ≡ true → byte ≢ 34
no_quote byte h e = grind arith

no_sign : (byte : ℕ) → is_digit byte ≡ true → byte ≢ 45
no_sign byte h e = grind arith

number_starts : (text rest : List ℕ) → StartsWithDigit text → read_number (text ++ rest) ≡ Some (read_digits 0 (text ++ rest))
unfolding StartsWithDigit
number_starts [] rest h = absurd h
number_starts (byte ∷ text) rest h = ap (λ test. if test then Some (read_digits 0 (byte ∷ (text ++ rest))) else None) h

part_starts : (text rest : List ℕ) → StartsWithDigit text → read_part (text ++ rest) ≡ option_map as_number (read_number (text ++ rest))
unfolding StartsWithDigit
part_starts [] rest h = absurd h
part_starts (byte ∷ text) rest h = rw (ne_eqb byte 34 (no_quote byte h), ne_eqb byte 45 (no_sign byte h)) refl

number_read : (n byte : ℕ) (rest : List ℕ) → n < 2 ^ 64 → IsEnd byte → read_number (decimal n ++ byte ∷ rest) ≡ Some (n, byte ∷ rest)
number_read n byte rest h end = number_starts (decimal n) (byte ∷ rest) (decimal_starts n) ∙ ap Some (digits_read n byte rest h end)

-- ---- parts

abbrev FitsPart : Part → Type 0
FitsPart (Number value) = FitsSigned value
FitsPart (Text text) = ⊤

abbrev AreFit : List Part → Type 0
AreFit [] = ⊤
AreFit (part ∷ parts) = FitsPart part × AreFit parts

abbrev part_text : Part → List ℕ
part_text (Number value) = signed_decimal value
part_text (Text text) = in_quotes text

part_read : (part : Part) (byte : ℕ) (rest : List ℕ) → FitsPart part → IsEnd byte → read_part (part_text part ++ byte ∷ rest) ≡ Some (part, byte ∷ rest)
part_read (Number (pos n)) byte rest fits end =
    part_starts (decimal n) (byte ∷ rest) (decimal_starts n) ∙ ap (option_map as_number) (number_read n byte rest fits end)
part_read (Number (negsuc n)) byte rest fits end = ap (option_map as_negative) (number_read (suc n) byte rest fits end)
part_read (Text text) byte rest fits end =
    ap (λ bytes. option_map as_text (read_text Plain bytes)) (append_assoc (flat_map escaped_byte text) (34 ∷ []) (byte ∷ rest))
    ∙ ap (option_map as_text) (read-text text (byte ∷ rest))

-- these parts, each after a comma, and then this
abbrev written : List (List ℕ) → List ℕ → List ℕ
written [] after = after
written (part ∷ parts) after = 44 ∷ (part ++ written parts after)

written_is : (parts : List (List ℕ)) (after : List ℕ) → flat_map after_comma parts ++ after ≡ written parts after
written_is [] after = refl
written_is (part ∷ parts) after =
    ap (λ l. 44 ∷ l) (append_assoc part (flat_map after_comma parts) after ∙ ap (λ l. part ++ l) (written_is parts after))

-- a part, and then these
abbrev shown : Part → List Part → List ℕ → List ℕ
shown part parts after = part_text part ++ written (map part_text parts) (93 ∷ after)

parts_read : (most : ℕ) (part : Part) (parts : List Part) (after : List ℕ) → length parts < most → AreFit (part ∷ parts) →
    read_parts most (shown part parts after) ≡ Some (part ∷ parts, after)
parts_read zero part parts after h fits = absurd (omega (arith, h))
parts_read (suc most) part [] after h fits = ap (after_part (λ rest. read_parts most rest)) (part_read part 93 after fits.0 bracket_end)
parts_read (suc most) part (next ∷ parts) after h fits =
    ap (after_part (λ rest. read_parts most rest)) (part_read part 44 (shown next parts after) fits.0 comma)
    ∙ ap (option_map (put_part part)) (parts_read most next parts after (omega (arith, h)) fits.1)

-- there are fewer parts than bytes
fewer_parts : (parts : List Part) (after : List ℕ) → length parts < length (written (map part_text parts) (93 ∷ after))
fewer_parts [] after = omega arith
fewer_parts (part ∷ parts) after =
    let e = length-append (part_text part) (written (map part_text parts) (93 ∷ after)) in
    let h = fewer_parts parts after in
    omega (arith, e, h)

enough : (part : Part) (parts : List Part) (after : List ℕ) → length parts < length (shown part parts after)
enough part parts after =
    let e = length-append (part_text part) (written (map part_text parts) (93 ∷ after)) in
    let h = fewer_parts parts after in
    omega (arith, e, h)

-- ---- fields

field_values : List Field → List Part
field_values [] = []
field_values (field ∷ fields) = Text field.name ∷ Text field.value ∷ field_values fields

field_texts : (fields : List Field) → flat_map name_and_value fields ≡ map part_text (field_values fields)
unfolding field_values
field_texts [] = refl
field_texts (field ∷ fields) = ap (λ l. in_quotes field.name ∷ in_quotes field.value ∷ l) (field_texts fields)

fields_fit : (fields : List Field) → AreFit (field_values fields)
unfolding field_values
fields_fit [] = tt
fields_fit (field ∷ fields) = (tt, (tt, fields_fit fields))

fields_back : (fields : List Field) → fields_in (field_values fields) ≡ Some fields
unfolding field_values
fields_back [] = refl
fields_back (field ∷ fields) = ap (option_map (λ others. record { name = field.name; value = field.value } ∷ others)) (fields_back fields)

-- ---- levels and clocks

level_number : Level → ℕ
level_number Levels.Trace = 0
level_number Levels.Debug = 1
level_number Levels.Info = 2
level_number Levels.Warn = 3
level_number Levels.Error = 4

level_texts : (level : Level) → level_text Arrays level ≡ decimal (level_number level)
unfolding level_number digits
level_texts Levels.Trace = refl
level_texts Levels.Debug = refl
level_texts Levels.Info = refl
level_texts Levels.Warn = refl
level_texts Levels.Error = refl

level_fits : (level : Level) → level_number level < 2 ^ 64
unfolding level_number
level_fits Levels.Trace = lit< tt
level_fits Levels.Debug = lit< tt
level_fits Levels.Info = lit< tt
level_fits Levels.Warn = lit< tt
level_fits Levels.Error = lit< tt

level_back : (level : Level) → level_from_number (level_number level) ≡ Some level
unfolding level_number
level_back Levels.Trace = refl
level_back Levels.Debug = refl
level_back Levels.Info = refl
level_back Levels.Warn = refl
level_back Levels.Error = refl

abbrev stamp_values : Stamp → List Part → List Part
stamp_values stamp parts =
    Number (pos (stamp.mono / 1_000_000_000)) ∷ Number (pos (stamp.mono % 1_000_000_000))
    ∷ Number (int_div_euclid stamp.ahead (pos 1_000_000_000)) ∷ Number (int_rem_euclid stamp.ahead (pos 1_000_000_000)) ∷ Text stamp.thread ∷ parts

fits_of : (z : ℤ) → down z ≡ 0 → up z < 1_000_000_000 → FitsSigned z
fits_of (pos n) none small = omega arith
fits_of (negsuc n) none small = absurd (omega arith)

rest_fits : (z : ℤ) → FitsSigned (int_rem_euclid z (pos 1_000_000_000))
rest_fits z =
    let parts = int_rem_euclid-parts z 1_000_000_000 (lit< tt) in
    fits_of (int_rem_euclid z (pos 1_000_000_000)) parts.1 parts.2

stamp_fits : (stamp : Stamp) (parts : List Part) → FitsStamp stamp → AreFit parts → AreFit (stamp_values stamp parts)
stamp_fits stamp parts small fits = (omega (arith, small.mono), (omega arith, (small.ahead, (rest_fits stamp.ahead, (tt, fits)))))

ahead_back : (z : ℤ) → int_div_euclid z (pos 1_000_000_000) *ℤ pos 1_000_000_000 +ℤ int_rem_euclid z (pos 1_000_000_000) ≡ z
ahead_back z = omega (arith, signed_arith)

stamp_back : (stamp : Stamp) →
    stamp_from (stamp.mono / 1_000_000_000) (stamp.mono % 1_000_000_000) (int_div_euclid stamp.ahead (pos 1_000_000_000)) (int_rem_euclid stamp.ahead (pos 1_000_000_000)) stamp.thread ≡ stamp
stamp_back stamp =
    let mono : stamp.mono / 1_000_000_000 * 1_000_000_000 + stamp.mono % 1_000_000_000 ≡ stamp.mono = omega arith in
    let ahead = ahead_back stamp.ahead in
    λ i. record { mono = mono i; ahead = ahead i; thread = stamp.thread }

-- ---- steps

abbrev kind_part : Step → Part
kind_part (About title) = Number (pos 0)
kind_part (New stamp id parent name target fields) = Number (pos 1)
kind_part (Record id fields) = Number (pos 2)
kind_part (Event stamp parent current level target fields) = Number (pos 3)
kind_part (Close stamp id) = Number (pos 4)
kind_part End = Number (pos 5)

-- the parts after the kind
abbrev values : Step → List Part
values (About title) = Number (pos 2) ∷ Text title ∷ []
values (New stamp id parent name target fields) =
    stamp_values stamp (Number (pos id) ∷ Number (pos parent) ∷ Text name ∷ Text target ∷ field_values fields)
values (Record id fields) = Number (pos id) ∷ field_values fields
values (Event stamp parent current level target fields) =
    stamp_values stamp (Number (pos parent) ∷ Number (pos current) ∷ Number (pos (level_number level)) ∷ Text target ∷ field_values fields)
values (Close stamp id) = stamp_values stamp (Number (pos id) ∷ [])
values End = []

values_fit : (step : Step) → FitsStep step → AreFit (kind_part step ∷ values step)
values_fit (About title) small = (lit< tt, (lit< tt, (tt, tt)))
values_fit (New stamp id parent name target fields) small =
    (lit< tt, stamp_fits stamp (Number (pos id) ∷ Number (pos parent) ∷ Text name ∷ Text target ∷ field_values fields) small.0 (small.1, (small.2, (tt, (tt, fields_fit fields)))))
values_fit (Record id fields) small = (lit< tt, (small, fields_fit fields))
values_fit (Event stamp parent current level target fields) small = (
  lit< tt,
  stamp_fits stamp (Number (pos parent) ∷ Number (pos current) ∷ Number (pos (level_number level)) ∷ Text target ∷ field_values fields) small.0
      (small.1, (small.2, (level_fits level, (tt, fields_fit fields)))),
)
values_fit (Close stamp id) small = (lit< tt, stamp_fits stamp (Number (pos id) ∷ []) small.0 (small.1, tt))
values_fit End small = (lit< tt, tt)

-- the first five parts of a line with a stamp, and others
abbrev stamped : Stamp → List (List ℕ) → List ℕ → List ℕ
stamped stamp parts after =
    written (decimal (stamp.mono / 1_000_000_000) ∷ decimal (stamp.mono % 1_000_000_000)
    ∷ signed_decimal (int_div_euclid stamp.ahead (pos 1_000_000_000)) ∷ signed_decimal (int_rem_euclid stamp.ahead (pos 1_000_000_000)) ∷ in_quotes stamp.thread ∷ parts) after

values_written : (step : Step) (after : List ℕ) →
    start_text Arrays (step_kind step) ++ written (step_parts Arrays step) after ≡ 91 ∷ (part_text (kind_part step) ++ written (map part_text (values step)) after)
unfolding digits
values_written (About title) after = refl
values_written (New stamp id parent name target fields) after =
    ap (λ l. 91 ∷ 49 ∷ stamped stamp (decimal id ∷ decimal parent ∷ in_quotes name ∷ in_quotes target ∷ l) after) (field_texts fields)
values_written (Record id fields) after = ap (λ l. 91 ∷ 50 ∷ written (decimal id ∷ l) after) (field_texts fields)
values_written (Event stamp parent current level target fields) after =
    ap (λ text. 91 ∷ 51 ∷ stamped stamp (decimal parent ∷ decimal current ∷ text ∷ in_quotes target ∷ flat_map name_and_value fields) after) (level_texts level)
    ∙ ap (λ l. 91 ∷ 51 ∷ stamped stamp (decimal parent ∷ decimal current ∷ decimal (level_number level) ∷ in_quotes target ∷ l) after) (field_texts fields)
values_written (Close stamp id) after = refl
values_written End after = refl

line_is : (step : Step) (rest : List ℕ) → step_line Arrays step ++ rest ≡ 91 ∷ shown (kind_part step) (values step) (10 ∷ rest)
line_is step rest =
    simp append_assoc (ap (λ l. start_text Arrays (step_kind step) ++ l) (written_is (step_parts Arrays step) (93 ∷ 10 ∷ rest))) ∙ values_written step (93 ∷ 10 ∷ rest)

step_back : (step : Step) → step_in (kind_part step ∷ values step) ≡ Some step
step_back (About title) = refl
step_back (New stamp id parent name target fields) =
    ap (λ at. option_map (New at id parent name target) (fields_in (field_values fields))) (stamp_back stamp) ∙ ap (option_map (New stamp id parent name target)) (fields_back fields)
step_back (Record id fields) = ap (option_map (Record id)) (fields_back fields)
step_back (Event stamp parent current level target fields) =
    ap (λ at. option_and_then (λ level. option_map (Event at parent current level target) (fields_in (field_values fields))) (level_from_number (level_number level))) (stamp_back stamp)
    ∙ ap (option_and_then (λ level. option_map (Event stamp parent current level target) (fields_in (field_values fields)))) (level_back level)
    ∙ ap (option_map (Event stamp parent current level target)) (fields_back fields)
step_back (Close stamp id) = ap (λ at. Some (Close at id)) (stamp_back stamp)
step_back End = refl

-- ---- lines

-- the parts of the first line, and what comes after its bracket
abbrev first_parts : List ℕ → Parsed (List Part)
first_parts [] = None
first_parts (byte ∷ rest) = read_parts (length rest) rest

first_read : (step : Step) (rest : List ℕ) → FitsStep step → first_parts (step_line Arrays step ++ rest) ≡ Some (kind_part step ∷ values step, 10 ∷ rest)
first_read step rest small =
    ap first_parts (line_is step rest)
    ∙ parts_read (length (shown (kind_part step) (values step) (10 ∷ rest))) (kind_part step) (values step) (10 ∷ rest) (enough (kind_part step) (values step) (10 ∷ rest)) (values_fit step small)

pub step_read : IsEachLineRead
step_read step small =
    let bytes = shown (kind_part step) (values step) (10 ∷ []) in
    let line : step_line Arrays step ≡ 91 ∷ bytes = sym (append-nil (step_line Arrays step)) ∙ line_is step [] in
    ap read_line line
    ∙ ap (λ read. option_and_then step_in (option_and_then parts_if_ended read))
    (parts_read (length bytes) (kind_part step) (values step) (10 ∷ []) (enough (kind_part step) (values step) (10 ∷ [])) (values_fit step small))
    ∙ step_back step

pub line_read : IsEachLineReadBack
line_read a b rest more small fits e =
    let same : ◌≡◌ {A = Parsed (List Part)} (Some (kind_part a ∷ values a, 10 ∷ rest)) (Some (kind_part b ∷ values b, 10 ∷ more)) =
    sym (first_read a rest small) ∙ ap first_parts e ∙ first_read b more fits in
    let both : ◌≡◌ {A = List Part × List ℕ} (kind_part a ∷ values a, 10 ∷ rest) (kind_part b ∷ values b, 10 ∷ more) = cc in
    let steps : Some a ≡ Some b = sym (step_back a) ∙ ap (λ (read : List Part × List ℕ). step_in read.0) both ∙ step_back b in
    let after : 10 ∷ rest ≡ 10 ∷ more = ap (λ (read : List Part × List ℕ). read.1) both in
    ((cc, cc))

-- a line isn't empty
some_line : (step : Step) (rest : List ℕ) → [] ≡ step_line Arrays step ++ rest → ⊥
some_line (About title) rest e = cc
some_line (New stamp id parent name target fields) rest e = cc
some_line (Record id fields) rest e = cc
some_line (Event stamp parent current level target fields) rest e = cc
some_line (Close stamp id) rest e = cc
some_line End rest e = cc

pub lines_read : AreLinesReadBack
lines_read [] [] small fits e = refl
lines_read [] (b ∷ others) small fits e = absurd (some_line b (lines_of Arrays others) e)
lines_read (a ∷ steps) [] small fits e = absurd (some_line a (lines_of Arrays steps) (sym e))
lines_read (a ∷ steps) (b ∷ others) small fits e =
    let first = line_read a b (lines_of Arrays steps) (lines_of Arrays others) (All-head FitsStep a steps small) (All-head FitsStep b others fits) e in
    let later = lines_read steps others (All-tail FitsStep a steps small) (All-tail FitsStep b others fits) first.1 in
    λ i. first.0 i ∷ later i
