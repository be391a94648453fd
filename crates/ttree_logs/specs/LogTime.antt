-- When an object of a service's log happened.
use Rattle.std.specs.Prelude.{ℕ, ◌+◌, ◌-◌, ◌*◌, ◌/◌, ◌^◌, ◌==◌, ◌&&◌, ◌||◌, nat_lt, pos, Bool, not, if◌then◌else◌, List, [], ◌∷◌, length, Option, Some, None, is_some, option_map, option_and_then}
use Rattle.std.specs.List.{position_or_len, before_first, after_first}
use Rattle.std.specs.Str.{all_ascii_digits}
use Rattle.std.specs.Str.Parse.{digits_value}
use Rattle.tracing_tree_base.specs.declared.context.Moment.{Moment}
use Rattle.ttree_source.specs.Marks.{is_empty}
use Rattle.ttree_source.specs.Moments.{moment_after, moment_at, moment_of}

-- one digit or more, and only digits
abbrev pub is_digits : List ℕ → Bool
is_digits text = not (is_empty text) && all_ascii_digits text

-- the number that digits write, if a u64 holds it
abbrev pub whole_of : List ℕ → Option ℕ
whole_of text =
    if is_digits text && nat_lt (digits_value 10 text) (2 ^ 64)
    then Some (digits_value 10 text) else None

-- the value of a digit
abbrev pub digit_in : ℕ → ℕ
digit_in byte = byte - 48

-- the thousandths that the first three digits after a point write
abbrev pub thousandths : List ℕ → ℕ
thousandths [] = 0
thousandths (a ∷ []) = digit_in a * 100
thousandths (a ∷ b ∷ []) = digit_in a * 100 + digit_in b * 10
thousandths (a ∷ b ∷ c ∷ rest) = digit_in a * 100 + digit_in b * 10 + digit_in c

-- the digits after the first three
abbrev pub after_three : List ℕ → List ℕ
after_three (a ∷ b ∷ c ∷ rest) = rest
after_three _ = []

-- the billionths that the digits after a point write; digits after the ninth are ignored
abbrev pub billionths : List ℕ → ℕ
billionths digits =
    thousandths digits * 1_000_000 + thousandths (after_three digits) * 1000
    + thousandths (after_three (after_three digits))

abbrev pub if_fits : ℕ → Option ℕ
if_fits count = if nat_lt count (2 ^ 64) then Some count else None

-- The nanoseconds of a number and this many billionths. Below 10^11 it counts seconds since 1970,
-- below 10^14 milliseconds, below 10^17 microseconds, and otherwise nanoseconds.
abbrev pub nanoseconds : ℕ → ℕ → Option ℕ
nanoseconds whole part =
    if nat_lt whole 100_000_000_000 then if_fits (whole * 1_000_000_000 + part)
    else if nat_lt whole 100_000_000_000_000 then if_fits (whole * 1_000_000 + part / 1000)
    else if nat_lt whole 100_000_000_000_000_000 then if_fits (whole * 1000 + part / 1_000_000)
    else Some whole

abbrev pub is_fraction_point : ℕ → Bool
is_fraction_point byte = byte == 46

abbrev pub has_point : List ℕ → Bool
has_point text = nat_lt (position_or_len is_fraction_point text) (length text)

abbrev pub decimal_nanoseconds : List ℕ → List ℕ → Option ℕ
decimal_nanoseconds before after =
    if is_digits after
    then option_and_then (λ whole. nanoseconds whole (billionths after)) (whole_of before)
    else None

-- the nanoseconds since 1970 of a number: only digits, or digits, a point and digits
abbrev pub epoch_nanoseconds : List ℕ → Option ℕ
epoch_nanoseconds text =
    if has_point text then decimal_nanoseconds (before_first is_fraction_point text)
    (after_first is_fraction_point text)
    else option_and_then (λ whole. nanoseconds whole 0) (whole_of text)

-- the moment that a number encodes
abbrev pub moment_of_number : List ℕ → Option Moment
moment_of_number text = option_map (λ n. moment_at (pos n)) (epoch_nanoseconds text)

abbrev pub moment_or_text : Option Moment → List ℕ → Moment → Moment
moment_or_text (Some moment) word before = moment
moment_or_text None word before = moment_after (Some word) before

-- a word encodes a moment
abbrev pub is_time : List ℕ → Bool
is_time word = is_some (epoch_nanoseconds word) || is_some (moment_of word)

-- The moment that a word encodes, as a number or in the format of RFC 3339; that of the line before
-- if it encodes no moment.
abbrev pub moment_of_word : Option (List ℕ) → Moment → Moment
moment_of_word (Some word) before = moment_or_text (moment_of_number word) word before
moment_of_word None before = before
