-- Worked examples of dates and times.
use Rattle.std.proofs.Common.{◌≡◌, ℤ, pos, negsuc, ◌+ℤ◌, ◌∷◌, ◌++◌, refl, codes, ap, ◌∙◌, sym, lit≤}
use Rattle.std.specs.Int.{IsInRange}
use Rattle.std.specs.Fmt.{digits}
use Rattle.jiff_core.specs.Calendar.{IsYear, days_in_month, days_of_months, days_from_civil, days_of_years, day_count}
use Rattle.jiff_core.specs.Date.{epoch_day}
use Rattle.jiff_core.specs.Timestamp.{nanos_of_seconds}
use Rattle.jiff_core.specs.declared.civil.date.Date.{Date}
use Rattle.jiff_tz.specs.Year.{year_of_day}
use Rattle.jiff_tz.proofs.YearLemmas.{year_of_day-date}
use Rattle.tracing_tree_time.specs.Clock.{civil_in, day_at, nanos_of_day, civil_at, civil_text, offset_text, local_text}

-- ---- dates

is_leap_year_in : IsYear (pos 2000)
is_leap_year_in = (Prim.search, Prim.search)

is_february : IsInRange 1 12 2
is_february = (lit≤ tt, lit≤ tt)

is_leap_day : IsInRange 1 (days_in_month (pos 2000) 2) 29
is_leap_day = (lit≤ tt, lit≤ tt)

abbrev leap_day : Date
leap_day = record { year = pos 2000; month = 2; day = 29; year_in = is_leap_year_in; month_in = is_february; day_in = is_leap_day }

leap_day_number : epoch_day leap_day ≡ pos 11016
unfolding days_from_civil day_count days_of_years days_of_months
leap_day_number = refl

-- the year of that day number, which the date has: to compute it would take 20,000 years of steps
leap_year : year_of_day (pos 11016) ≡ pos 2000
leap_year = ap year_of_day (sym leap_day_number) ∙ year_of_day-date leap_day

abbrev leap_moment : ℤ
leap_moment = pos 951_827_696_050_000_000

-- what is shown at a count of nanoseconds after midnight
leap_day_text : civil_text (civil_in (pos 2000) (pos 11016) 45_296_050_000_000) ≡ codes "2000-02-29 12:34:56.05"
unfolding digits days_from_civil day_count days_of_years days_of_months
leap_day_text = refl

-- date and time at offset zero
pub utc_date : civil_text (civil_at leap_moment) ≡ codes "2000-02-29 12:34:56.05"
utc_date = ap (λ year. civil_text (civil_in year (day_at leap_moment) (nanos_of_day leap_moment))) leap_year ∙ leap_day_text

-- at other offsets, with the offset
leap_evening_text : civil_text (civil_in (pos 2000) (pos 11016) 65_096_050_000_000) ++ 32 ∷ offset_text (pos 19800)
    ≡ codes "2000-02-29 18:04:56.05 +05:30:00"
unfolding digits days_from_civil day_count days_of_years days_of_months
leap_evening_text = refl

pub date_in_india : local_text leap_moment (pos 19800) ≡ codes "2000-02-29 18:04:56.05 +05:30:00"
date_in_india = ap (λ year. civil_text (civil_in year (day_at (leap_moment +ℤ nanos_of_seconds (pos 19800)))
    (nanos_of_day (leap_moment +ℤ nanos_of_seconds (pos 19800)))) ++ 32 ∷ offset_text (pos 19800)) leap_year ∙ leap_evening_text

leap_second_text : civil_text (civil_in (pos 2000) (pos 11016) 45_266_050_000_000) ++ 32 ∷ offset_text (negsuc 29)
    ≡ codes "2000-02-29 12:34:26.05 -00:00:30"
unfolding digits days_from_civil day_count days_of_years days_of_months
leap_second_text = refl

pub date_before_greenwich : local_text leap_moment (negsuc 29) ≡ codes "2000-02-29 12:34:26.05 -00:00:30"
date_before_greenwich = ap (λ year. civil_text (civil_in year (day_at (leap_moment +ℤ nanos_of_seconds (negsuc 29)))
    (nanos_of_day (leap_moment +ℤ nanos_of_seconds (negsuc 29)))) ++ 32 ∷ offset_text (negsuc 29)) leap_year ∙ leap_second_text

-- a date before the year 0, at midnight
pub an_early_text : civil_text (record { year = negsuc 11; month = 2; day = 9; hour = 0; minute = 4; second = 6; nanosecond = 0 })
    ≡ codes "-0012-02-09 0:04:06.0"
unfolding digits
an_early_text = refl
