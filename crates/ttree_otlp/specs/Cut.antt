-- What --min and --depth leave out of rows.
use Rattle.std.specs.Prelude.{ℕ, ◌+◌, ◌-◌, ◌^◌, ◌==◌, nat_le, nat_lt, min, Bool, true, false, ◌&&◌, ◌||◌, if◌then◌else◌, List, [], ◌∷◌, Option, Some, None, is_some}
use Rattle.ttree_source.specs.declared.cut.Cut.{Cut}
use Rattle.ttree_otlp.specs.Nested.{contains, without_nested}
use Rattle.ttree_otlp.specs.declared.item.Shape.{Shape}
use Rattle.ttree_otlp.specs.declared.item.Shape.TheVariants.{Trace, Span, Note, LeftOut}
use Rattle.ttree_otlp.specs.declared.walk.Row.{Row}

abbrev pub no_cut : Cut
no_cut = record { min_time = 0; depth = None }

abbrev pub leaves_out : Cut → Bool
leaves_out cut = nat_lt 0 cut.min_time || is_some cut.depth

-- ---- which rows are drawn

-- what is nested in this many spans isn't too deep
abbrev pub is_within : ℕ → Option ℕ → Bool
is_within levels (Some depth) = nat_lt levels depth
is_within levels None = true

-- a span that hasn't ended isn't known to be short
abbrev pub is_long_span : ℕ → ℕ → ℕ → Bool
is_long_span min_time start end = end == 0 || nat_le min_time (end - start)

abbrev pub lasts_as : Shape → ℕ → Row → Bool
lasts_as (Trace id) min_time row = false
lasts_as (Span span) min_time row = is_long_span min_time row.item.time span.end
lasts_as (Note note) min_time row = nat_lt row.depth 2
lasts_as (LeftOut count) min_time row = false

-- a span that is long enough, or an event or a log that is in no span of the input
abbrev pub lasts : ℕ → Row → Bool
lasts min_time row = lasts_as row.item.shape min_time row

abbrev pub is_note : Shape → Bool
is_note (Trace id) = false
is_note (Span span) = false
is_note (Note note) = true
is_note (LeftOut count) = false

-- A span or a trace is drawn if it isn't too deep, and if it lasts or something in it does. An
-- event or a log is drawn if its span is.
abbrev pub is_drawn : Cut → Row → List Row → Bool
is_drawn cut row others =
    (is_within row.depth cut.depth
    && (lasts cut.min_time row || contains (lasts cut.min_time) row.depth others))
    || is_note row.item.shape

-- the same by the reach of the rows after it
abbrev pub is_drawn_by : Cut → Row → Bool → ℕ → Bool
is_drawn_by cut row is_lasting reach =
    (is_within row.depth cut.depth && (is_lasting || nat_lt row.depth reach))
    || is_note row.item.shape

-- ---- counts of spans that are left out

-- up to the largest count
abbrev pub sum_of : ℕ → ℕ → ℕ
sum_of a b = min (a + b) (2 ^ 64 - 1)

-- how many spans are left out with a row
abbrev pub count_as : Shape → ℕ
count_as (Trace id) = 0
count_as (Span span) = 1
count_as (Note note) = 0
count_as (LeftOut count) = count

-- this many, and those that are left out with the rows that are nested in a row at this depth
abbrev pub count_with : ℕ → ℕ → List Row → ℕ
count_with depth count [] = count
count_with depth count (row ∷ others) =
    if nat_lt depth row.depth
    then count_with depth (sum_of count (count_as row.item.shape)) others else count

-- the place of a row whose spans are left out, and how many these are
abbrev pub left_out_row : ℕ → Row → Row
left_out_row count row = record row { item = record row.item { shape = LeftOut count } }

-- ---- the rows that are drawn

-- a row before those after it, or the count of the spans in it in place of it and of what is nested
-- in it
abbrev pub drawn_with : Bool → Row → List Row → List Row
drawn_with is_drawn row others =
    if is_drawn then row ∷ others
    else left_out_row (count_with row.depth (count_as row.item.shape) others) row
    ∷ without_nested row.depth others

abbrev pub drawn : Cut → List Row → List Row
drawn cut [] = []
drawn cut (row ∷ others) = drawn_with (is_drawn cut row others) row (drawn cut others)

-- what a cut leaves of rows in drawing order
abbrev pub cut_from : Cut → List Row → List Row
cut_from cut rows = if leaves_out cut then drawn cut rows else rows
