-- How long a case or a suite took.
use Rattle.std.specs.Prelude.{ℕ, zero, suc, ◌+◌, ◌-◌, ◌*◌, ◌/◌, ◌^◌, min, ◌==◌, ◌&&◌, nat_lt, nat_le, Bool, true, false, if◌then◌else◌, List, [], ◌∷◌, length, Option, Some, None, option_map, option_and_then, codes}
use Rattle.std.specs.List.{position_or_len, before_first, after_first}
use Rattle.ttree_source.specs.Marks.{after_mark}

abbrev pub is_digit : ℕ → Bool
is_digit byte = nat_le 48 byte && nat_le byte 57

-- the value of a digit
abbrev pub digit_in : ℕ → ℕ
digit_in byte = byte - 48

abbrev pub all_digits : List ℕ → Bool
all_digits [] = true
all_digits (byte ∷ others) = if is_digit byte then all_digits others else false

-- the thousandths that the first three digits after a point write
abbrev pub thousandths : List ℕ → ℕ
thousandths [] = 0
thousandths (a ∷ []) = digit_in a * 100
thousandths (a ∷ b ∷ []) = digit_in a * 100 + digit_in b * 10
thousandths (a ∷ b ∷ c ∷ rest) = digit_in a * 100 + digit_in b * 10 + digit_in c

-- the digits after the first three
abbrev pub after_three : List ℕ → List ℕ
after_three (a ∷ b ∷ c ∷ rest) = rest
after_three _ = []

-- the billionths that the digits after a point write; digits after the ninth are ignored
abbrev pub billionths : List ℕ → ℕ
billionths digits =
    thousandths digits * 1_000_000 + thousandths (after_three digits) * 1000
    + thousandths (after_three (after_three digits))

abbrev pub if_fits : ℕ → Option ℕ
if_fits count = if nat_lt count (2 ^ 64) then Some count else None

-- one more digit after this number, if a u64 holds it
abbrev pub with_digit : ℕ → ℕ → Option ℕ
with_digit number digit = option_and_then (λ tens. if_fits (tens + digit)) (if_fits (number * 10))

-- the number that digits write after this one, with commas between them
abbrev pub whole_from : ℕ → List ℕ → Option ℕ
whole_from number [] = Some number
whole_from number (byte ∷ others) =
    if is_digit byte
    then option_and_then (λ more. whole_from more others) (with_digit number (digit_in byte))
    else if byte == 44 then whole_from number others else None

abbrev pub whole_of : List ℕ → Option ℕ
whole_of digits = whole_from 0 digits

-- the nanoseconds of these digits before and after the point, if a u64 holds them
abbrev pub decimal : List ℕ → List ℕ → Option ℕ
decimal whole part =
    if all_digits part
    then option_and_then (λ billions. if_fits (billions + billionths part))
    (option_and_then (λ seconds. if_fits (seconds * 1_000_000_000)) (whole_of whole))
    else None

abbrev pub is_seconds_point : ℕ → Bool
is_seconds_point byte = byte == 46

abbrev pub has_point : List ℕ → Bool
has_point text = nat_lt (position_or_len is_seconds_point text) (length text)

abbrev pub plain : List ℕ → Option ℕ
plain text =
    if length text == 0 then None
    else if has_point text then decimal (before_first is_seconds_point text)
    (after_first is_seconds_point text)
    else decimal text []

-- a number over this power of ten
abbrev pub over_ten : ℕ → ℕ → ℕ
over_ten zero number = number
over_ten (suc power) number = over_ten power (number / 10)

abbrev pub scaled_by : List ℕ → Option (List ℕ) → Option ℕ
scaled_by number (Some digits) =
    option_and_then (λ n. option_map (λ power. over_ten (min power 20) n) (whole_of digits)) (plain
    number)
scaled_by number None = None

-- the nanoseconds of a number over a power of ten, as `6.2e-05`
abbrev pub scaled : List ℕ → List ℕ → Option ℕ
scaled number power = scaled_by number (after_mark (codes "-") power)

abbrev pub is_exponent_mark : ℕ → Bool
is_exponent_mark byte = byte == 101

abbrev pub has_power : List ℕ → Bool
has_power text = nat_lt (position_or_len is_exponent_mark text) (length text)

abbrev pub unsigned_of : List ℕ → Option ℕ
unsigned_of text =
    if has_power text
    then scaled (before_first is_exponent_mark text) (after_first is_exponent_mark text)
    else plain text

abbrev pub zero_or : List ℕ → Option (List ℕ) → Option ℕ
zero_or text (Some rest) = Some 0
zero_or text None = unsigned_of text

-- the nanoseconds of a number of seconds; a negative number counts as zero
abbrev pub seconds_as_nanoseconds : List ℕ → Option ℕ
seconds_as_nanoseconds text = zero_or text (after_mark (codes "-") text)
