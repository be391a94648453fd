-- Computed examples.
use Rattle.std.proofs.Common.{◌≡◌, ℕ, true, false, List, ◌++◌, ◌∷◌, [], Some, None, codes, refl, replicate}
use Rattle.tracing_tree_time.specs.Clock.{micro_unit}
use Rattle.ttree_adapters.specs.Column.{pair, three}
use Rattle.ttree_adapters.specs.OneRow.{one_row_text}
use Rattle.ttree_adapters.specs.Short.{ellipsis, is_over, short_text}
use Rattle.ttree_adapters.specs.Threads.{column}
use Rattle.ttree_adapters.specs.Times.{clock_text, date_column, date_text, elapsed_column, uptime_column}
use Rattle.ttree_adapters.specs.declared.times.Precision.TheVariants.{Milliseconds, Microseconds, Nanoseconds}
use Rattle.std.specs.Fmt.{digits}
use Rattle.std.specs.Char.{encode_utf8}
use Rattle.std.specs.Prelude.{pos}
use Rattle.unicode_width.proofs.Computing.{unicode_width}
use Rattle.std.specs.Str.{chars}
use lib.Utf8.{encode}

pub two_digits : pair 7 ≡ codes "07"
unfolding digits
two_digits = refl

pub three_digits : three 50 ≡ codes "050"
unfolding digits
three_digits = refl

pub milliseconds : clock_text Milliseconds 2 31 19 388_660_123 ≡ codes "02:31:19.388"
unfolding digits
milliseconds = refl

pub nanoseconds : clock_text Nanoseconds 12 0 9 5 ≡ codes "12:00:09.000000005"
unfolding digits
nanoseconds = refl

pub date : date_text (pos 2000) 2 29 ≡ codes "2000-02-29"
unfolding digits
date = refl

-- a date is shown where it changes
pub first_date : date_column (codes "2000-02-29") [] ≡ codes "2000-02-29 "
first_date = refl

pub same_date : date_column (codes "2000-02-29") (codes "2000-02-29") ≡ codes "           "
same_date = refl

-- 104 microseconds in a span, right-aligned
pub elapsed : elapsed_column (Some 104_000) ≡ codes "  104.000" ++ micro_unit ++ codes " "
unfolding digits chars
elapsed = refl

pub a_day_and_more : elapsed_column (Some 104_000_000_000_000) ≡ codes " 104000.000s "
unfolding digits chars
a_day_and_more = refl

pub no_time : elapsed_column None ≡ codes "            "
no_time = refl

pub trace_time : uptime_column Microseconds 1_350_024_132_000 ≡ codes "  1350.024132"
unfolding digits
trace_time = refl

-- ---- columns of a terminal

-- 198 columns of ASCII before a character of Japanese, which takes two
abbrev before : List ℕ
before = 91 ∷ replicate 197 97

pub at_the_limit : is_over (before ++ encode_utf8 0x65E5) ≡ false
unfolding unicode_width
at_the_limit = refl

pub over_the_limit : is_over (before ++ encode_utf8 0x65E5 ++ codes "]") ≡ true
unfolding unicode_width
over_the_limit = refl

-- half of a wide character isn't shown
pub cut : short_text (before ++ encode_utf8 0x65E5 ++ codes "]") ≡ before ++ ellipsis
unfolding unicode_width
cut = refl

pub thread : column (codes "2:main") ≡ codes "2:main          "
unfolding unicode_width
thread = refl

pub long_thread : column (codes "a-thread-with-a-name") ≡ codes "a-thread-with-a "
unfolding unicode_width
long_thread = refl

-- two characters of Japanese take four columns
pub wide_thread : column (encode_utf8 0x65E5 ++ encode_utf8 0x672C) ≡ encode_utf8 0x65E5 ++ encode_utf8 0x672C ++ codes "            "
unfolding unicode_width
wide_thread = refl

-- an accent that combines takes no column
pub marked_thread : column (codes "e" ++ encode_utf8 0x301) ≡ codes "e" ++ encode_utf8 0x301 ++ codes "               "
unfolding unicode_width
marked_thread = refl

-- a line end in a span's name is an escape
pub one_row : one_row_text (97 ∷ 10 ∷ 98 ∷ []) ≡ codes "a\\nb"
unfolding chars encode
one_row = refl
