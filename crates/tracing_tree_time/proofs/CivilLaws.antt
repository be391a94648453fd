-- Timers show the calendar's date of a day number, and the time of day.
use Rattle.std.proofs.Common.{◌≡◌, ◌∷◌, ℕ, zero, suc, ◌+◌, ◌-◌, ◌*◌, ◌/◌, ◌%◌, ◌<◌, ◌≤◌, ℤ, pos, negsuc, ◌-ℤ◌, ◌≤ℤ◌, unsigned_abs, Bool, true, false, nat_le, arith, rules, refl, sym, ap, ◌∙◌, subst, if◌then◌else◌, count_by}
use Rattle.std.specs.List.{range_with_len}
use Rattle.std.proofs.lemmas.List.Sums.{sum_by-cons}
use Rattle.jiff_core.specs.Calendar.{IsCivilDate, days_of_months, days_from_civil, day_of_year}
use Rattle.jiff_core.specs.Date.{epoch_day, ordinal}
use Rattle.jiff_core.specs.DateTime.{civil_nanos}
use Rattle.jiff_core.specs.declared.civil.date.Date.{Date}
use Rattle.jiff_core.specs.declared.civil.datetime.DateTime.{DateTime}
use Rattle.jiff_core.proofs.CalendarLemmas.{days_of_months_mono, day_of_year_before}
use Rattle.jiff_core.proofs.DateLemmas.{civil, epoch_day-ordinal, epoch_day_injective}
use Rattle.jiff_core.proofs.SignedLemmas.{signed_arith}
use Rattle.jiff_tz.specs.Year.{year_of_day}
use Rattle.jiff_tz.proofs.YearLemmas.{year_of_day-date}
use Rattle.tracing_tree_time.specs.Clock.{Civil, IsCivilOn, civil_in, civil_at, day_at, nanos_of_day, month_on, days_before}

-- ---- the month

-- a test that passes below m and fails from there on passes m times
count-below : (p : ℕ → Bool) (m a n : ℕ) → ((k : ℕ) → k < m → p k ≡ true) → ((k : ℕ) → m ≤ k → p k ≡ false) → m ≤ a + n →
    count_by p (range_with_len a n) ≡ m - a
count-below p m a zero below above within = omega arith
count-below p m a (suc n) below above within =
    let rest = count-below p m (a + 1) n below above (omega arith) in
    let step : count_by p (a ∷ range_with_len (a + 1) n) ≡ (if p a then 1 else 0) + count_by p (range_with_len (a + 1) n) =
    sum_by-cons (λ k. if p k then 1 else 0) a (range_with_len (a + 1) n) in
    elim (nat_le m a) as (λ b. nat_le m a ≡ b → count_by p (range_with_len a (suc n)) ≡ m - a) [
      | true ↦ (λ e.
          let over : m ≤ a = grind (arith, rules) in
          let fails = above a over in
          step ∙ ap (λ b. (if b then 1 else 0) + count_by p (range_with_len (a + 1) n)) fails ∙ omega arith)
      | false ↦ (λ e.
          let under : a < m = grind (arith, rules) in
          let passes = below a under in
          step ∙ ap (λ b. (if b then 1 else 0) + count_by p (range_with_len (a + 1) n)) passes ∙ omega arith)
    ] refl

le-yes : (m n : ℕ) → m ≤ n → nat_le m n ≡ true
le-yes m n h = grind (arith, rules)

le-no : (m n : ℕ) → n < m → nat_le m n ≡ false
le-no m n h = grind (arith, rules)

-- in a month the months that have begun are those before it and itself
month_on-date : (y : ℤ) (m d : ℕ) → IsCivilDate y m d → month_on y (day_of_year y m d - 1) ≡ m
month_on-date y m d h =
    count-below (λ months. nat_le (days_of_months y months) (day_of_year y m d - 1)) m 0 12
    (λ k l. let begun = days_of_months_mono y k (m - 1) (omega arith) in
    le-yes (days_of_months y k) (day_of_year y m d - 1) (omega (arith, h.2.0)))
    (λ k l. let later = day_of_year_before y m d k h.1.0 h.2.1 l in
    le-no (days_of_months y k) (day_of_year y m d - 1) (omega (arith, h.2.0)))
    (omega (arith, h.1.1))
    ∙ omega arith

-- ---- the day

nonneg_abs : (z : ℤ) → pos 0 ≤ℤ z → pos (unsigned_abs z) ≡ z
nonneg_abs (pos n) h = refl
nonneg_abs (negsuc n) h = absurd (omega (arith, signed_arith))

days_before-date : (date : Date) → days_before date.year (epoch_day date) ≡ ordinal date - 1
days_before-date date =
    let place = epoch_day-ordinal date in
    let first = (civil date).2.0 in
    let from_start = nonneg_abs (epoch_day date -ℤ days_from_civil date.year 1 1) (omega (arith, signed_arith)) in
    omega (arith, signed_arith)

-- ---- the time

time-parts : (nanos : ℕ) → nanos ≡ nanos / 3_600_000_000_000 * 3_600_000_000_000 + nanos / 60_000_000_000 % 60 * 60_000_000_000
    + nanos / 1_000_000_000 % 60 * 1_000_000_000 + nanos % 1_000_000_000
time-parts nanos = omega arith

under-sixty : (n : ℕ) → n % 60 < 60
under-sixty n = omega arith

under-second : (n : ℕ) → n % 1_000_000_000 < 1_000_000_000
under-second n = omega arith

-- ---- what is shown

civil-at : (date : Date) (nanos month day : ℕ) → month ≡ date.month → day ≡ date.day → IsCivilOn (epoch_day date) nanos (record {
  year = date.year;
  month = month;
  day = day;
  hour = nanos / 3_600_000_000_000;
  minute = nanos / 60_000_000_000 % 60;
  second = nanos / 1_000_000_000 % 60;
  nanosecond = nanos % 1_000_000_000;
})
civil-at date nanos month day e f = record {
  date = subst (λ m. IsCivilDate date.year m day) (sym e) (subst (λ d. IsCivilDate date.year date.month d) (sym f) (civil date));
  number = λ k. days_from_civil date.year (e k) (f k);
  time = time-parts nanos;
  minute_in = under-sixty (nanos / 60_000_000_000);
  second_in = under-sixty (nanos / 1_000_000_000);
  nanosecond_in = under-second nanos;
}

civil_in-date : (date : Date) (nanos : ℕ) → IsCivilOn (epoch_day date) nanos (civil_in date.year (epoch_day date) nanos)
civil_in-date date nanos =
    let before = days_before-date date in
    let first = (civil date).2.0 in
    let month : month_on date.year (days_before date.year (epoch_day date)) ≡ date.month =
    ap (month_on date.year) before ∙ month_on-date date.year date.month date.day (civil date) in
    let day : days_before date.year (epoch_day date)
    - days_of_months date.year (month_on date.year (days_before date.year (epoch_day date)) - 1) + 1 ≡ date.day =
    ap (λ m. days_before date.year (epoch_day date) - days_of_months date.year (m - 1) + 1) month ∙ omega arith in
    civil-at date nanos (month_on date.year (days_before date.year (epoch_day date)))
    (days_before date.year (epoch_day date) - days_of_months date.year (month_on date.year (days_before date.year (epoch_day date)) - 1) + 1)
    month day

-- on each day that the calendar has, what is shown is its date and the time of day
pub civil_in-is : (date : Date) (nanos : ℕ) →
    IsCivilOn (epoch_day date) nanos (civil_in (year_of_day (epoch_day date)) (epoch_day date) nanos)
civil_in-is date nanos =
    subst (λ year. IsCivilOn (epoch_day date) nanos (civil_in year (epoch_day date) nanos)) (sym (year_of_day-date date)) (civil_in-date date nanos)

day_at-date : (moment : DateTime) → day_at (civil_nanos moment) ≡ epoch_day moment.date
unfolding civil_nanos
day_at-date moment = omega (arith, signed_arith)

-- at each moment on a civil clock, the date of its day and the time since that day's midnight are
-- shown
pub civil_at-is : (moment : DateTime) →
    IsCivilOn (epoch_day moment.date) (nanos_of_day (civil_nanos moment)) (civil_at (civil_nanos moment))
civil_at-is moment =
    subst (λ day. IsCivilOn (epoch_day moment.date) (nanos_of_day (civil_nanos moment))
    (civil_in (year_of_day day) day (nanos_of_day (civil_nanos moment)))) (sym (day_at-date moment))
    (civil_in-is moment.date (nanos_of_day (civil_nanos moment)))

-- ---- only these are

abbrev date_of : (civil : Civil) → IsCivilDate civil.year civil.month civil.day → Date
date_of civil h = record { year = civil.year; month = civil.month; day = civil.day; year_in = h.0; month_in = h.1; day_in = h.2 }

-- a day and a time of day have one date and one time
pub IsCivilOn-one : (day : ℤ) (nanos : ℕ) (a b : Civil) → IsCivilOn day nanos a → IsCivilOn day nanos b → a ≡ b
IsCivilOn-one day nanos a b h k =
    let same = epoch_day_injective (date_of a h.date) (date_of b k.date) (h.number ∙ sym k.number) in
    let time = sym h.time ∙ k.time in
    let hour : a.hour ≡ b.hour = omega (arith, h.minute_in, h.second_in, h.nanosecond_in, k.minute_in, k.second_in, k.nanosecond_in) in
    let minute : a.minute ≡ b.minute = omega (arith, h.minute_in, h.second_in, h.nanosecond_in, k.minute_in, k.second_in, k.nanosecond_in) in
    let second : a.second ≡ b.second = omega (arith, h.minute_in, h.second_in, h.nanosecond_in, k.minute_in, k.second_in, k.nanosecond_in) in
    let nanosecond : a.nanosecond ≡ b.nanosecond = omega arith in
    λ i. record {
      year = same.0 i;
      month = same.1 i;
      day = same.2 i;
      hour = hour i;
      minute = minute i;
      second = second i;
      nanosecond = nanosecond i;
    }
