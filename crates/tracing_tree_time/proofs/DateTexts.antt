-- What a calendar and a clock show is what `jiff` has.
use Rattle.std.proofs.Common.{◌≡◌, ◌∷◌, ◌++◌, arith, refl, sym, ap, ◌∙◌, ℤ, pos, ◌+ℤ◌, ℕ, List, Bool, true, false, if◌then◌else◌}
use Rattle.jiff_core.specs.Date.{epoch_day}
use Rattle.jiff_core.specs.DateTime.{civil_nanos}
use Rattle.jiff_core.specs.Time.{time_nanos}
use Rattle.jiff_core.specs.Timestamp.{nanos_of_seconds}
use Rattle.jiff_core.specs.declared.offset.Offset.{Offset}
use Rattle.jiff_tz.specs.Zone.{offset_at}
use Rattle.jiff_tz.specs.declared.timezone.TimeZone.{TimeZone as PlainZone}
use Rattle.jiff_tz.specs.declared.timezone.TimeZone.TheVariants.{UTC, Fixed}
use Rattle.jiff.specs.Placed.{fixed_zone}
use Rattle.std.specs.Ordering.{int_eq}
use Rattle.std.proofs.lemmas.Bool.Decides.{Decides-int_eq}
use Rattle.jiff_core.specs.declared.civil.date.Date.{Date}
use Rattle.jiff_core.specs.declared.civil.datetime.DateTime.{DateTime}
use Rattle.jiff_core.specs.declared.civil.time.Time.{Time}
use Rattle.jiff_core.proofs.DateLemmas.{civil}
use Rattle.jiff_core.proofs.SignedLemmas.{signed_arith}
use Rattle.tracing_tree_time.specs.Clock.{Civil, IsCivilOn, civil_at, nanos_of_day, civil_text, date_text, time_text, offset_text, local_text, local_timer}
use Rattle.tracing_tree_time.proofs.CivilLaws.{civil_at-is, IsCivilOn-one}

-- the parts of a date and a time
abbrev civil_of : DateTime → Civil
civil_of moment = record {
  year = moment.date.year;
  month = moment.date.month;
  day = moment.date.day;
  hour = moment.time.hour;
  minute = moment.time.minute;
  second = moment.time.second;
  nanosecond = moment.time.subsec_nanosecond;
}

nanos_of_day-time : (moment : DateTime) → nanos_of_day (civil_nanos moment) ≡ time_nanos moment.time
unfolding civil_nanos
nanos_of_day-time moment =
    let hour = moment.time.hour_in in
    let minute = moment.time.minute_in in
    let second = moment.time.second_in in
    let subsec = moment.time.subsec_in in
    omega (arith, signed_arith)

civil_of-is : (moment : DateTime) → IsCivilOn (epoch_day moment.date) (nanos_of_day (civil_nanos moment)) (civil_of moment)
civil_of-is moment =
    let nanos = nanos_of_day-time moment in
    record {
      date = civil moment.date;
      number = refl;
      time = nanos ∙ omega arith;
      minute_in = moment.time.minute_in;
      second_in = moment.time.second_in;
      nanosecond_in = moment.time.subsec_in;
    }

-- a moment is shown as its date, a space, and its time
pub civil_text-moment : (moment : DateTime) →
    civil_text (civil_at (civil_nanos moment))
    ≡ date_text moment.date.year moment.date.month moment.date.day
    ++ 32 ∷ time_text moment.time.hour moment.time.minute moment.time.second moment.time.subsec_nanosecond
civil_text-moment moment =
    ap civil_text (IsCivilOn-one (epoch_day moment.date) (nanos_of_day (civil_nanos moment)) (civil_at (civil_nanos moment))
    (civil_of moment) (civil_at-is moment) (civil_of-is moment))

-- a date and a time that were appended are the string that is shown
pub date_and_time : (shown : DateTime) (date : Date) (time : Time) (dates both : List ℕ) → date ≡ shown.date → time ≡ shown.time →
    dates ≡ date_text date.year date.month date.day →
    both ≡ dates ++ 32 ∷ time_text time.hour time.minute time.second time.subsec_nanosecond →
    {instant : ℤ} → civil_nanos shown ≡ instant →
    both ≡ civil_text (civil_at instant)
date_and_time shown date time dates both d t e f i =
    f
    ∙ (λ k. e k ++ 32 ∷ time_text time.hour time.minute time.second time.subsec_nanosecond)
    ∙ (λ k. date_text (d k).year (d k).month (d k).day ++ 32 ∷ time_text (t k).hour (t k).minute (t k).second (t k).subsec_nanosecond)
    ∙ sym (civil_text-moment shown)
    ∙ ap (λ n. civil_text (civil_at n)) i

-- and with an offset
pub date_time_offset : (shown : DateTime) (date : Date) (time : Time) (dates both all : List ℕ) (instant offset : ℤ) →
    date ≡ shown.date → time ≡ shown.time →
    dates ≡ date_text date.year date.month date.day →
    both ≡ dates ++ 32 ∷ time_text time.hour time.minute time.second time.subsec_nanosecond →
    all ≡ both ++ 32 ∷ offset_text offset →
    civil_nanos shown ≡ instant +ℤ nanos_of_seconds offset →
    all ≡ local_text instant offset
date_time_offset shown date time dates both all instant offset d t e f g i =
    g ∙ ap (λ text. text ++ 32 ∷ offset_text offset) (date_and_time shown date time dates both d t e f i)

-- ---- zones

zero_or : (o : Offset) (b : Bool) → int_eq o.seconds (pos 0) ≡ b → (n : ℤ) →
    offset_at (if b then UTC else Fixed o) n ≡ o.seconds
unfolding offset_at
zero_or o true e n = sym ((Decides-int_eq o.seconds (pos 0)).0 e)
zero_or o false e n = refl

-- the zone of an offset has that offset at each instant
pub fixed_offset : (o : Offset) (n : ℤ) → offset_at (fixed_zone o) n ≡ o.seconds
fixed_offset o n = zero_or o (int_eq o.seconds (pos 0)) refl n

pub fixed_timer : (o : Offset) (zone : PlainZone) (higher : Bool) → zone ≡ fixed_zone o →
    local_timer higher (offset_at zone) ≡ local_timer higher (λ instant. o.seconds)
fixed_timer o zone higher e =
    ap (λ z. local_timer higher (offset_at z)) e ∙ (λ k. local_timer higher (λ n. fixed_offset o n k))

-- offset zero changes nothing
pub at_zero : (instant : ℤ) → instant +ℤ nanos_of_seconds (pos 0) ≡ instant
at_zero instant = omega (arith, signed_arith)
