-- The date and the time of a moment are those of its calendar and its clock.
use Rattle.std.proofs.Common.{◌≡◌, arith, refl, sym, ap, ◌∙◌, ℤ}
use Rattle.jiff_core.specs.Date.{epoch_day}
use Rattle.jiff_core.specs.DateTime.{civil_nanos}
use Rattle.jiff_core.specs.Time.{time_nanos}
use Rattle.jiff_core.specs.declared.civil.date.Date.{Date}
use Rattle.jiff_core.specs.declared.civil.datetime.DateTime.{DateTime}
use Rattle.jiff_core.specs.declared.civil.time.Time.{Time}
use Rattle.jiff_core.proofs.DateLemmas.{civil}
use Rattle.jiff_core.proofs.SignedLemmas.{signed_arith}
use Rattle.tracing_tree_time.specs.Clock.{Civil, IsCivilOn, civil_at, nanos_of_day}
use Rattle.tracing_tree_time.proofs.CivilLaws.{civil_at-is, IsCivilOn-one}

abbrev pub civil_of : Date → Time → Civil
civil_of date time = record {
  year = date.year;
  month = date.month;
  day = date.day;
  hour = time.hour;
  minute = time.minute;
  second = time.second;
  nanosecond = time.subsec_nanosecond;
}

nanos_of_day-time : (moment : DateTime) → nanos_of_day (civil_nanos moment) ≡ time_nanos moment.time
unfolding civil_nanos
nanos_of_day-time moment =
    let hour = moment.time.hour_in in
    let minute = moment.time.minute_in in
    let second = moment.time.second_in in
    let subsec = moment.time.subsec_in in
    omega (arith, signed_arith)

civil_of-is : (moment : DateTime) →
    IsCivilOn (epoch_day moment.date) (nanos_of_day (civil_nanos moment)) (civil_of moment.date moment.time)
civil_of-is moment =
    let nanos = nanos_of_day-time moment in
    record {
      date = civil moment.date;
      number = refl;
      time = nanos ∙ omega arith;
      minute_in = moment.time.minute_in;
      second_in = moment.time.second_in;
      nanosecond_in = moment.time.subsec_in;
    }

pub civil_shown : (moment : DateTime) {instant : ℤ} → civil_nanos moment ≡ instant →
    civil_at instant ≡ civil_of moment.date moment.time
civil_shown moment same =
    ap civil_at (sym same)
    ∙ IsCivilOn-one (epoch_day moment.date) (nanos_of_day (civil_nanos moment)) (civil_at (civil_nanos moment))
    (civil_of moment.date moment.time) (civil_at-is moment) (civil_of-is moment)
