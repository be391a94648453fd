-- Lengths of time.
use Rattle.std.specs.Prelude.{ℕ, ◌+◌, ◌-◌, ◌*◌, ◌^◌, ◌==◌, nat_lt, Bool, if◌then◌else◌, List, [], ◌∷◌, length, Option, Some, None, option_and_then}
use Rattle.std.specs.List.{position_or_len, before_first, after_first}
use Rattle.ttree_tap.specs.Strings.{is_digits, whole_of}

-- the value of a digit
abbrev pub digit_in : ℕ → ℕ
digit_in byte = byte - 48

-- the thousandths that the first three digits after a point write
abbrev pub thousandths : List ℕ → ℕ
thousandths [] = 0
thousandths (a ∷ []) = digit_in a * 100
thousandths (a ∷ b ∷ []) = digit_in a * 100 + digit_in b * 10
thousandths (a ∷ b ∷ c ∷ rest) = digit_in a * 100 + digit_in b * 10 + digit_in c

-- the digits after the first three
abbrev pub after_three : List ℕ → List ℕ
after_three (a ∷ b ∷ c ∷ rest) = rest
after_three _ = []

-- the millionths that the digits after a point write; digits after the sixth are ignored
abbrev pub millionths : List ℕ → ℕ
millionths digits = thousandths digits * 1000 + thousandths (after_three digits)

abbrev pub if_fits : ℕ → Option ℕ
if_fits count = if nat_lt count (2 ^ 64) then Some count else None

-- the nanoseconds of milliseconds and of millionths of one
abbrev pub nanoseconds : ℕ → ℕ → Option ℕ
nanoseconds whole part = if_fits (whole * 1_000_000 + part)

abbrev pub is_length_point : ℕ → Bool
is_length_point byte = byte == 46

abbrev pub has_point : List ℕ → Bool
has_point text = nat_lt (position_or_len is_length_point text) (length text)

abbrev pub decimal_milliseconds : List ℕ → List ℕ → Option ℕ
decimal_milliseconds whole part =
    if is_digits part
    then option_and_then (λ n. nanoseconds n (millionths part)) (whole_of whole) else None

-- the nanoseconds of a number of milliseconds, without a sign or an exponent
abbrev pub milliseconds : List ℕ → Option ℕ
milliseconds text =
    if has_point text
    then decimal_milliseconds (before_first is_length_point text) (after_first is_length_point text)
    else option_and_then (λ n. nanoseconds n 0) (whole_of text)
