-- Times as columns of a fixed width.
use Rattle.std.specs.Prelude.{ℕ, ◌+◌, ◌-◌, ◌/◌, ◌%◌, ℤ, pos, unsigned_abs, Bool, true, false, not, ◌&&◌, if◌then◌else◌, List, [], ◌∷◌, ◌++◌, length, replicate, Option, Some, None, is_some, option_map, bytes_eq, codes, decimal}
use Rattle.std.specs.BTreeMap.{insert_entry, is_at}
use Rattle.std.specs.Map.{lookup, remove_entry}
use Rattle.std.specs.Ordering.{int_eq, nat_cmp}
use Rattle.std.specs.Str.{chars}
use Rattle.json.specs.Json.{Json}
use Rattle.tracing_tree_base.specs.declared.context.Context.{Context}
use Rattle.tracing_tree_base.specs.declared.context.Id.{Id}
use Rattle.tracing_tree_base.specs.declared.context.Moment.{Moment}
use Rattle.tracing_tree_layer.specs.declared.call.Call.{Call}
use Rattle.tracing_tree_layer.specs.declared.call.Call.TheVariants.{New, Clone, Record, Event, Close}
use Rattle.ttree_source.specs.Counts.{one_more}
use Rattle.ttree_source.specs.Length.{length_text}
use Rattle.tracing_tree_time.specs.Clock.{Civil, civil_at}
use Rattle.ttree_adapters.specs.Column.{columns_left, pair, three}
use Rattle.ttree_adapters.specs.Mapping.{Made}
use Rattle.ttree_adapters.specs.declared.times.Precision.{Precision}
use Rattle.ttree_adapters.specs.declared.times.Precision.TheVariants.{Milliseconds, Microseconds, Nanoseconds}
use Rattle.ttree_adapters.specs.declared.times.TimeStyle.{TimeStyle}
use Rattle.ttree_adapters.specs.declared.times.RowClock.{RowClock}
use Rattle.ttree_adapters.specs.declared.times.RowClock.TheVariants.{Utc, Trace}

-- How times are shown; the date that was shown last; the id of the next span; and the first known
-- times of open spans, by their ids.
pub record TimesState : Type 0 where
  pub style : TimeStyle
  pub date : List ℕ
  pub next : ℕ
  pub starts : List (ℕ × ℕ)

abbrev pub no_times : TimeStyle → ℕ → TimesState
no_times style next = record {
  style = style;
  date = [];
  next = next;
  starts = [];
}

-- ---- texts

abbrev pub digit_count : Precision → ℕ
digit_count Milliseconds = 3
digit_count Microseconds = 6
digit_count Nanoseconds = 9

-- the first digits of a part of a second
abbrev pub fraction : Precision → ℕ → List ℕ
fraction Milliseconds nanosecond = three (nanosecond / 1_000_000)
fraction Microseconds nanosecond =
    three (nanosecond / 1_000_000) ++ three (nanosecond / 1000 % 1000)
fraction Nanoseconds nanosecond =
    three (nanosecond / 1_000_000) ++ three (nanosecond / 1000 % 1000) ++ three (nanosecond % 1000)

-- `12:34:`
abbrev pub minutes_text : ℕ → ℕ → List ℕ
minutes_text hour minute = pair hour ++ codes ":" ++ pair minute ++ codes ":"

-- `56.050`
abbrev pub seconds_text : Precision → ℕ → ℕ → List ℕ
seconds_text precision second nanosecond = pair second ++ codes "." ++ fraction precision nanosecond

-- `12:34:56.050`
abbrev pub clock_text : Precision → ℕ → ℕ → ℕ → ℕ → List ℕ
clock_text precision hour minute second nanosecond =
    minutes_text hour minute ++ seconds_text precision second nanosecond

-- `2000-02-29`
abbrev pub date_text : ℤ → ℕ → ℕ → List ℕ
date_text year month day =
    pair (unsigned_abs year / 100) ++ pair (unsigned_abs year % 100) ++ codes "-" ++ pair month
    ++ codes "-" ++ pair day

abbrev pub date_of : Civil → List ℕ
date_of civil = date_text civil.year civil.month civil.day

-- a date, or spaces if it was shown last
abbrev pub date_column : List ℕ → List ℕ → List ℕ
date_column date last = if bytes_eq date last then replicate 11 32 else date ++ codes " "

-- the seconds of a trace's clock, right-aligned
abbrev pub uptime_column : Precision → ℕ → List ℕ
uptime_column precision nanoseconds =
    let seconds = decimal (nanoseconds / 1_000_000_000) in
    replicate (6 - length seconds) 32 ++ seconds ++ codes "."
    ++ fraction precision (nanoseconds % 1_000_000_000)

-- a length of time, right-aligned, with a space before it and after it
abbrev pub elapsed_column : Option ℕ → List ℕ
elapsed_column (Some elapsed) =
    codes " " ++ replicate (columns_left 10 (chars (length_text elapsed))) 32
    ++ length_text elapsed ++ codes " "
elapsed_column None = replicate 12 32

-- ---- the time of a row

-- a call at the start of 1970 has no known time, except on a trace's clock
abbrev pub is_known : RowClock → Moment → Bool
is_known Utc moment = not (int_eq moment.wall.nanosecond (pos 0))
is_known Trace moment = true

-- what the clock of a moment shows
abbrev pub shown_at : Moment → Civil
shown_at moment = civil_at moment.wall.nanosecond

abbrev pub civil_time_text : Precision → Civil → List ℕ
civil_time_text precision civil =
    clock_text precision civil.hour civil.minute civil.second civil.nanosecond

abbrev pub utc_column : Moment → TimesState → List ℕ
utc_column moment s =
    date_column (date_of (shown_at moment)) s.date
    ++ civil_time_text s.style.precision (shown_at moment)

abbrev pub column_on : RowClock → Moment → TimesState → List ℕ
column_on Trace moment s = uptime_column s.style.precision moment.mono
column_on Utc moment s =
    if is_known Utc moment then utc_column moment s
    else replicate (20 + digit_count s.style.precision) 32

-- when a call happened
abbrev pub moment_column : Moment → TimesState → List ℕ
moment_column moment s = column_on s.style.clock moment s

abbrev pub date_on : RowClock → Moment → List ℕ → List ℕ
date_on Trace moment date = date
date_on Utc moment date = if is_known Utc moment then date_of (shown_at moment) else date

-- the date of this moment is that which was shown last
abbrev pub with_date : Moment → TimesState → TimesState
with_date moment s = record s { date = date_on s.style.clock moment s.date }

-- ---- spans

abbrev pub start_of : ℕ → TimesState → Option ℕ
start_of span s = lookup (is_at (nat_cmp span)) s.starts

-- a known moment is the first of its span, unless that has one
abbrev pub started : ℕ → Moment → TimesState → TimesState
started span moment s =
    if is_known s.style.clock moment && not (is_some (start_of span s))
    then record s { starts = insert_entry nat_cmp s.starts span moment.mono } else s

abbrev pub elapsed_from : Option ℕ → ℕ → Option ℕ
elapsed_from start now = option_map (λ first. now - first) start

-- the time since the first known moment of a span, at a known moment
abbrev pub since : ℕ → Moment → TimesState → Option ℕ
since span moment s =
    if is_known s.style.clock moment then elapsed_from (start_of span (started span moment s))
    moment.mono
    else None

-- ---- calls

-- a context with columns, and the state afterwards
pub record InColumn : Type 0 where
  pub context : Context
  pub state : TimesState

abbrev pub name_if : Bool → Option (List ℕ) → List ℕ
name_if has_threads (Some name) = if has_threads then name else []
name_if has_threads None = []

-- columns come before the name of the thread, if that is shown
abbrev pub in_column : Option ℕ → Context → TimesState → InColumn
in_column elapsed context s = record {
  context = record context {
    thread_name = Some (moment_column context.moment s ++ elapsed_column elapsed
        ++ name_if s.style.has_threads context.thread_name);
  };
  state = with_date context.moment s;
}

-- the date of an open or a close doesn't count as shown if spans are deferred
abbrev pub date_kept : Bool → List ℕ → TimesState → TimesState
date_kept true date s = record s { date = date }
date_kept false date s = s

abbrev pub in_span_column : Option ℕ → Context → TimesState → InColumn
in_span_column elapsed context s =
    let placed = in_column elapsed context s in
    record placed { state = date_kept s.style.is_deferred s.date placed.state }

abbrev pub opening_in_column : Context → TimesState → InColumn
opening_in_column context s =
    let begun = started s.next context.moment s in
    in_span_column None context (record begun { next = one_more s.next })

abbrev pub elapsed_in : Option Id → Moment → TimesState → Option ℕ
elapsed_in (Some span) moment s = since span.0 moment s
elapsed_in None moment s = None

abbrev pub started_in : Option Id → Moment → TimesState → TimesState
started_in (Some span) moment s = started span.0 moment s
started_in None moment s = s

abbrev pub happened : Context → TimesState → InColumn
happened context s =
    in_column (elapsed_in context.current context.moment s) context
    (started_in context.current context.moment s)

abbrev pub without_start : ℕ → TimesState → TimesState
without_start span s = record s { starts = remove_entry (is_at (nat_cmp span)) s.starts }

abbrev pub closing_in_column : Id → Context → TimesState → InColumn
closing_in_column id context s =
    in_span_column (since id.0 context.moment s) context
    (without_start id.0 (started id.0 context.moment s))

-- a call with columns, and the state afterwards
pub record Timed : Type 0 where
  pub call : Call
  pub state : TimesState

-- the columns of a call: when it happened, and how long after the first known time of its span
abbrev pub call_timed : Call → TimesState → Timed
call_timed (New attributes context) s =
    let placed = opening_in_column context s in
    record { call = New attributes placed.context; state = placed.state }
call_timed (Event event context) s =
    let placed = happened context s in
    record { call = Event event placed.context; state = placed.state }
call_timed (Close id context) s =
    let placed = closing_in_column id context s in
    record { call = Close id placed.context; state = placed.state }
call_timed (Clone id) s = record { call = Clone id; state = s }
call_timed (Record id record_of_it) s = record { call = Record id record_of_it; state = s }

abbrev pub all_timed : List Call → TimesState → Made TimesState
all_timed [] s = record { calls = []; mapping = s }
all_timed (call ∷ others) s =
    let first = call_timed call s in
    let rest = all_timed others first.state in
    record { calls = first.call ∷ rest.calls; mapping = rest.mapping }

abbrev pub makes_timed : TimesState → Option Json → List Call → Made TimesState
makes_timed s value calls = all_timed calls s
