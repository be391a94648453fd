-- The numbers of an element: whole numbers, and times in microseconds.
use Rattle.std.specs.Prelude.{ℕ, ◌+◌, ◌-◌, ◌*◌, ◌^◌, ◌==◌, ◌++◌, ◌&&◌, nat_lt, ℤ, ◌+ℤ◌, pos, negsuc, Bool, not, if◌then◌else◌, List, [], ◌∷◌, length, take, Option, Some, None, option_map, option_and_then, codes}
use Rattle.std.specs.List.{position_or_len, before_first, after_first}
use Rattle.std.specs.Str.{all_ascii_digits}
use Rattle.std.specs.Str.Parse.{signed_digits_value, without_leading_sign}
use Rattle.ttree_source.specs.Marks.{after_mark, is_empty}

-- ---- numbers

-- one digit or more, and only digits
abbrev pub is_digits : List ℕ → Bool
is_digits text = not (is_empty text) && all_ascii_digits text

abbrev pub is_below : ℕ → ℤ → Bool
is_below bound (pos n) = nat_lt n bound
is_below bound (negsuc n) = nat_lt n bound

-- the number that digits write, with or without a sign before them, if it is from -`bound` on and
-- below `bound`
abbrev pub signed_of : ℕ → List ℕ → Option ℤ
signed_of bound text =
    if is_digits (without_leading_sign text) && is_below bound (signed_digits_value 10 text)
    then Some (signed_digits_value 10 text) else None

-- the same, if an i128 holds it
abbrev pub integer_of : List ℕ → Option ℤ
integer_of text = signed_of (2 ^ 127) text

-- the same, if an i32 holds it
abbrev pub exponent_of : List ℕ → Option ℤ
exponent_of text = signed_of (2 ^ 31) text

-- the value of a digit
abbrev pub digit_in : ℕ → ℕ
digit_in byte = byte - 48

-- the number that digits write after those of this number
abbrev pub digits_after : ℕ → List ℕ → ℕ
digits_after number [] = number
digits_after number (digit ∷ others) = digits_after (number * 10 + digit_in digit) others

-- the number that digits write without the last `count`
abbrev pub moved_left : ℕ → List ℕ → ℕ
moved_left count digits = digits_after 0 (take (length digits - count) digits)

-- The number that digits write with `count` of those after the point. Zeros take the place of those
-- that are missing.
abbrev pub moved_right : ℕ → List ℕ → List ℕ → ℕ
moved_right count before after =
    digits_after 0 (before ++ take count after) * 10 ^ (count - length after)

-- The number that digits before and after a point write, if the point is moved this many places to
-- the right. Digits after it are cut off.
abbrev pub moved : ℤ → List ℕ → List ℕ → ℕ
moved (pos places) before after = moved_right places before after
moved (negsuc places) before after = moved_left (places + 1) before

abbrev pub if_fits : ℕ → Option ℕ
if_fits number = if nat_lt number (2 ^ 64) then Some number else None

-- the same of digits, if a u64 holds it
abbrev pub scaled_decimal : ℤ → List ℕ → List ℕ → Option ℕ
scaled_decimal places before after =
    if is_digits before && is_digits after then if_fits (moved places before after) else None

-- a string has such a byte
abbrev pub has : (ℕ → Bool) → List ℕ → Bool
has is_mark text = nat_lt (position_or_len is_mark text) (length text)

abbrev pub is_decimal_point : ℕ → Bool
is_decimal_point byte = byte == 46

-- the nanoseconds of a number of microseconds times a power of ten
abbrev pub scaled_of : List ℕ → ℤ → Option ℕ
scaled_of text exponent =
    if has is_decimal_point text
    then scaled_decimal (exponent +ℤ pos 3) (before_first is_decimal_point text)
    (after_first is_decimal_point text)
    else scaled_decimal (exponent +ℤ pos 3) text (codes "0")

abbrev pub scaled_by : List ℕ → Option ℤ → Option ℕ
scaled_by text None = None
scaled_by text (Some exponent) = scaled_of text exponent

abbrev pub is_small_e : ℕ → Bool
is_small_e byte = byte == 101

abbrev pub is_large_e : ℕ → Bool
is_large_e byte = byte == 69

-- the nanoseconds of a number of microseconds without a sign; digits below a nanosecond are cut off
abbrev pub unsigned_of : List ℕ → Option ℕ
unsigned_of text =
    if has is_small_e text
    then scaled_by (before_first is_small_e text) (exponent_of (after_first is_small_e text))
    else if has is_large_e text
    then scaled_by (before_first is_large_e text) (exponent_of (after_first is_large_e text))
    else scaled_of text (pos 0)

-- ---- times

-- the zero of the trace's clock: times count from 2^63 nanoseconds before it
abbrev pub zero_time : ℕ
zero_time = 2 ^ 63

abbrev pub if_small : ℕ → Option ℕ
if_small nanoseconds = if nat_lt nanoseconds zero_time then Some nanoseconds else None

-- the same, if 63 bits hold it
abbrev pub small_nanoseconds : List ℕ → Option ℕ
small_nanoseconds text = option_and_then if_small (unsigned_of text)

abbrev pub before_zero : ℕ → ℕ
before_zero nanoseconds = zero_time - nanoseconds

abbrev pub after_zero : ℕ → ℕ
after_zero nanoseconds = zero_time + nanoseconds

abbrev pub time_as : Option (List ℕ) → List ℕ → Option ℕ
time_as (Some size) text = option_map before_zero (small_nanoseconds size)
time_as None text = option_map after_zero (small_nanoseconds text)

-- the time of a number of microseconds
abbrev pub microseconds_time : List ℕ → Option ℕ
microseconds_time text = time_as (after_mark (codes "-") text) text

abbrev pub none_of : ℕ → ℕ
none_of nanoseconds = 0

abbrev pub length_as : Option (List ℕ) → List ℕ → Option ℕ
length_as (Some size) text = option_map none_of (small_nanoseconds size)
length_as None text = small_nanoseconds text

-- the length of a number of microseconds, in nanoseconds; a negative number has the length 0
abbrev pub length_of : List ℕ → Option ℕ
length_of text = length_as (after_mark (codes "-") text) text
