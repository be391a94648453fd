-- What timers write.
use Rattle.std.specs.Prelude.{◌≡◌, ℕ, ◌+◌, ◌-◌, ◌*◌, ◌/◌, ◌%◌, ◌<◌, nat_lt, nat_le, ◌==◌, ◌&&◌, ◌||◌, Bool, false, if◌then◌else◌, ℤ, pos, ◌+ℤ◌, ◌-ℤ◌, unsigned_abs, int_lt, List, [], ◌∷◌, ◌++◌, reverse, drop, count_by, Option, Some, decimal, codes}
use Rattle.std.specs.List.{range_with_len, prefix_len}
use Rattle.std.specs.Int.{int_div_euclid, int_rem_euclid}
use Rattle.jiff_core.specs.Calendar.{IsCivilDate, days_of_months, days_from_civil}
use Rattle.jiff_core.specs.Timestamp.{nanos_of_seconds}
use Rattle.jiff_tz.specs.Year.{year_of_day}
use Rattle.jiff_tz.specs.Zone.{offset_at}
use Rattle.jiff.specs.ZoneView.{plain_zone}
use Rattle.jiff.specs.declared.tz.timezone.TimeZone.{TimeZone}
use Rattle.tracing_tree_base.specs.Style.{styled}
use Rattle.tracing_tree_time.specs.Numbers.{right_in, digits_in}
use Rattle.tracing_tree_base.specs.declared.style.Style.TheVariants.{Dimmed}
use Rattle.tracing_tree_base.specs.declared.context.Moment.{Moment}
use Rattle.tracing_tree_time.specs.declared.utc.UtcDateTime.{UtcDateTime}
use Rattle.tracing_tree_time.specs.declared.local.LocalDateTime.{LocalDateTime}
use Rattle.tracing_tree_time.specs.declared.uptime.Uptime.{Uptime}
use Rattle.tracing_tree_time.specs.declared.clocks.Clock.{Clock}
use Rattle.tracing_tree_time.specs.declared.clocks.Clock.TheVariants as Which

-- a timer: what it writes at a moment, and after an elapsed time with colours or without; `None`
-- means a fault
pub record Timer : Type 0 where
  pub moment_text : Moment → Option (List ℕ)
  pub elapsed_text : Bool → ℕ → Option (List ℕ)

-- ---- elapsed time

-- the time from a start to now, and 0 if now is earlier
abbrev pub elapsed : ℕ → ℕ → ℕ
elapsed start now = now - start

-- the distance between two numbers
abbrev pub distance : ℕ → ℕ → ℕ
distance m n = (m - n) + (n - m)

abbrev pub is_even : ℕ → Bool
is_even n = n % 2 == 0

-- twice the distance of n and `count` units is below a unit, or is a unit and the count is even
abbrev pub is_nearest_count : ℕ → ℕ → ℕ → Bool
is_nearest_count unit n count =
    nat_lt (2 * distance n (count * unit)) unit
    || ((2 * distance n (count * unit) == unit) && is_even count)

-- the count of a unit that is nearest to n: what fits into n, or one more. `CountLaws` proves that
-- `is_nearest_count` holds of it, and of no other count, if the unit is above 0.
abbrev pub nearest_count : ℕ → ℕ → ℕ
nearest_count unit n = if is_nearest_count unit n (n / unit) then n / unit else n / unit + 1

-- a count of hundredths: a space, the whole part, and two decimals
abbrev pub hundredths_text : ℕ → List ℕ
hundredths_text count = 32 ∷ decimal (count / 100) ++ 46 ∷ digits_in 2 (count % 100)

-- number and unit, each dimmed by itself
abbrev pub dimmed_pair : Bool → List ℕ → List ℕ → List ℕ
dimmed_pair ansi number unit = styled ansi Dimmed number ++ styled ansi Dimmed unit

-- whole milliseconds, seconds or minutes
abbrev pub lower_elapsed_text : Bool → ℕ → List ℕ
lower_elapsed_text ansi nanos =
    if nat_lt (nanos / 1_000_000) 1000
    then dimmed_pair ansi (right_in 3 (decimal (nanos / 1_000_000))) (codes "ms")
    else (if nat_lt (nanos / 1_000_000_000) 60
    then dimmed_pair ansi (right_in 3 (decimal (nanos / 1_000_000_000))) (codes "s ")
    else dimmed_pair ansi (right_in 3 (decimal (nanos / 60_000_000_000))) (codes "m "))

-- the unit of microseconds, with the Greek letter in UTF-8
abbrev pub micro_unit : List ℕ
micro_unit = 206 ∷ 188 ∷ codes "s"

-- microseconds, milliseconds or seconds with two decimals
abbrev pub higher_elapsed_text : Bool → ℕ → List ℕ
higher_elapsed_text ansi nanos =
    if nat_lt nanos 1_000_000
    then dimmed_pair ansi (hundredths_text (nearest_count 10 nanos)) micro_unit
    else (if nat_lt nanos 1_000_000_000
    then dimmed_pair ansi (hundredths_text (nearest_count 10_000 nanos)) (codes "ms")
    else dimmed_pair ansi (hundredths_text (nearest_count 10_000_000 nanos)) (codes "s "))

abbrev pub elapsed_text : Bool → Bool → ℕ → List ℕ
elapsed_text higher ansi nanos =
    if higher then higher_elapsed_text ansi nanos else lower_elapsed_text ansi nanos

-- ---- the time since an epoch

abbrev pub uptime_text : ℕ → ℕ → List ℕ
uptime_text epoch now =
    right_in 4 (decimal (elapsed epoch now / 1_000_000_000))
    ++ 46 ∷ digits_in 6 (elapsed epoch now / 1000 % 1_000_000) ++ codes "s"

-- ---- dates and times

-- what a calendar and a clock show
pub record Civil : Type 0 where
  pub year : ℤ
  pub month : ℕ
  pub day : ℕ
  pub hour : ℕ
  pub minute : ℕ
  pub second : ℕ
  pub nanosecond : ℕ

-- the calendar's date with this day number, and the time `nanos` nanoseconds after its midnight
pub record IsCivilOn (day : ℤ) (nanos : ℕ) (civil : Civil) : Type 0 where
  pub date : IsCivilDate civil.year civil.month civil.day
  pub number : days_from_civil civil.year civil.month civil.day ≡ day
  pub time : nanos
      ≡ civil.hour * 3_600_000_000_000 + civil.minute * 60_000_000_000
      + civil.second * 1_000_000_000 + civil.nanosecond
  pub minute_in : civil.minute < 60
  pub second_in : civil.second < 60
  pub nanosecond_in : civil.nanosecond < 1_000_000_000

-- the month, from 1, of a day of the year, which is counted from 0: the count of months that have
-- begun by then
abbrev pub month_on : ℤ → ℕ → ℕ
month_on year day =
    count_by (λ months. nat_le (days_of_months year months) day) (range_with_len 0 12)

-- the days of the year before a day number
abbrev pub days_before : ℤ → ℤ → ℕ
days_before year day = unsigned_abs (day -ℤ days_from_civil year 1 1)

-- What is shown on a day of a year, at a count of nanoseconds after midnight. `CivilLaws` proves
-- `IsCivilOn` of it on each day that the calendar has, in that day's year, and of nothing else.
abbrev pub civil_in : ℤ → ℤ → ℕ → Civil
civil_in year day nanos = record {
  year = year;
  month = month_on year (days_before year day);
  day = days_before year day - days_of_months year (month_on year (days_before year day) - 1) + 1;
  hour = nanos / 3_600_000_000_000;
  minute = nanos / 60_000_000_000 % 60;
  second = nanos / 1_000_000_000 % 60;
  nanosecond = nanos % 1_000_000_000;
}

-- The number of the day at a count of nanoseconds after the start of 1970. `nanos_of_day` is the
-- count of those after that day's midnight.
abbrev pub day_at : ℤ → ℤ
day_at nanos = int_div_euclid nanos (pos 86_400_000_000_000)

abbrev pub nanos_of_day : ℤ → ℕ
nanos_of_day nanos = unsigned_abs (int_rem_euclid nanos (pos 86_400_000_000_000))

-- what is shown `nanos` nanoseconds after the start of 1970
abbrev pub civil_at : ℤ → Civil
civil_at nanos = civil_in (year_of_day (day_at nanos)) (day_at nanos) (nanos_of_day nanos)

-- digits without the zeros at their end
abbrev pub without_end_zeros : List ℕ → List ℕ
without_end_zeros digits =
    reverse (drop (prefix_len (λ digit. digit == 48) (reverse digits)) (reverse digits))

-- digits without the zeros at their end, but at least the first digit
abbrev pub significant_digits : List ℕ → List ℕ
significant_digits [] = []
significant_digits (first ∷ rest) = first ∷ without_end_zeros rest

-- the nine digits of a fraction, as far as they matter
abbrev pub fraction_text : ℕ → List ℕ
fraction_text nanosecond = significant_digits (digits_in 9 nanosecond)

-- the year, after `-` if it is negative, in at least four digits
abbrev pub year_text : ℤ → List ℕ
year_text year = (if int_lt year (pos 0) then codes "-" else []) ++ digits_in 4 (unsigned_abs year)

-- `2000-02-29`
abbrev pub date_text : ℤ → ℕ → ℕ → List ℕ
date_text year month day = year_text year ++ 45 ∷ digits_in 2 month ++ 45 ∷ digits_in 2 day

-- `12:34:56.05`
abbrev pub time_text : ℕ → ℕ → ℕ → ℕ → List ℕ
time_text hour minute second nanosecond =
    decimal hour ++ 58 ∷ digits_in 2 minute ++ 58 ∷ digits_in 2 second
    ++ 46 ∷ fraction_text nanosecond

-- `2000-02-29 12:34:56.05`
abbrev pub civil_text : Civil → List ℕ
civil_text civil =
    date_text civil.year civil.month civil.day
    ++ 32 ∷ time_text civil.hour civil.minute civil.second civil.nanosecond

-- `+05:30:00`
abbrev pub offset_text : ℤ → List ℕ
offset_text seconds =
    (if int_lt seconds (pos 0) then codes "-" else codes "+")
    ++ digits_in 2 (unsigned_abs seconds / 3600)
    ++ 58 ∷ digits_in 2 (unsigned_abs seconds / 60 % 60)
    ++ 58 ∷ digits_in 2 (unsigned_abs seconds % 60)

-- the date and time at an offset, and the offset
abbrev pub local_text : ℤ → ℤ → List ℕ
local_text nanos offset =
    civil_text (civil_at (nanos +ℤ nanos_of_seconds offset)) ++ 32 ∷ offset_text offset

-- ---- the timers. Each instant has a civil date and time at each offset, so these never fail.

-- the timer that writes nothing
abbrev pub no_timer : Timer
no_timer = record { moment_text = λ moment. Some []; elapsed_text = λ ansi nanos. Some [] }

-- a timer that writes this of a moment, and an elapsed time with lower or higher precision
abbrev pub timer_with : Bool → (Moment → List ℕ) → Timer
timer_with higher text = record {
  moment_text = λ moment. Some (text moment);
  elapsed_text = λ ansi nanos. Some (elapsed_text higher ansi nanos);
}

abbrev pub utc_timer : Bool → Timer
utc_timer higher = timer_with higher (λ moment. civil_text (civil_at moment.wall.nanosecond))

-- a timer of local date and time; the function returns the offset in seconds at an instant
abbrev pub local_timer : Bool → (ℤ → ℤ) → Timer
local_timer higher offset =
    timer_with higher (λ moment. local_text moment.wall.nanosecond (offset moment.wall.nanosecond))

abbrev pub uptime_timer : Bool → ℕ → Timer
uptime_timer higher epoch = timer_with higher (λ moment. uptime_text epoch moment.mono)

-- the timer of each clock
abbrev pub utc_clock_timer : UtcDateTime → Timer
utc_clock_timer clock = utc_timer clock.higher_precision

-- in a zone
abbrev pub local_in_zone : TimeZone → Bool → LocalDateTime
local_in_zone zone higher = record { higher_precision = higher; zone = zone }

abbrev pub local_clock_timer : LocalDateTime → Timer
local_clock_timer clock = local_timer clock.higher_precision (offset_at (plain_zone clock.zone))

-- the time since an epoch, with lower precision
abbrev pub uptime_from : ℕ → Uptime
uptime_from epoch = record { higher_precision = false; epoch = epoch }

abbrev pub uptime_clock_timer : Uptime → Timer
uptime_clock_timer clock = uptime_timer clock.higher_precision clock.epoch

-- the timer of a clock that is chosen at run time
abbrev pub clock_timer : Clock → Timer
clock_timer Which.None = no_timer
clock_timer (Which.Utc clock) = utc_clock_timer clock
clock_timer (Which.Local clock) = local_clock_timer clock
clock_timer (Which.Uptime clock) = uptime_clock_timer clock
