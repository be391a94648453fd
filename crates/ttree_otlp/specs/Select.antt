-- What is shown of an input.
use Rattle.std.specs.Prelude.{ℕ, nat_le, nat_lt, Bool, true, false, not, ◌&&◌, ◌||◌, if◌then◌else◌, List, [], ◌∷◌, Option, Some, None, is_some, bytes_eq}
use Rattle.tracing_tree_base.specs.declared.style.Level.{Level}
use Rattle.tracing_tree_base.specs.declared.style.Level.TheVariants.{Trace as OfTrace, Debug, Info, Warn, Error}
use Rattle.ttree_source.specs.Levels.{rank}
use Rattle.ttree_source.specs.Marks.{after_mark}
use Rattle.ttree_otlp.specs.Cut.{cut_from, no_cut}
use Rattle.ttree_otlp.specs.Nested.{contains, without_nested}
use Rattle.ttree_otlp.specs.declared.item.Note.{Note}
use Rattle.ttree_otlp.specs.declared.item.Shape.{Shape}
use Rattle.ttree_otlp.specs.declared.item.Shape.TheVariants.{Trace, Span, Note as OfNote, LeftOut}
use Rattle.ttree_otlp.specs.declared.select.Selection.{Selection}
use Rattle.ttree_otlp.specs.declared.walk.Row.{Row}

abbrev pub everything : Selection
everything = record { service = None; trace = []; min_level = None; is_failed = false; cut = no_cut }

-- ---- what is selected

abbrev pub is_of_service : Option (List ℕ) → List ℕ → Bool
is_of_service (Some wanted) service = bytes_eq wanted service
is_of_service None service = true

-- a trace's id begins with this
abbrev pub is_of_trace : List ℕ → List ℕ → Bool
is_of_trace front trace = is_some (after_mark front trace)

abbrev pub fits_selection : Selection → List ℕ → List ℕ → Bool
fits_selection selection trace service =
    is_of_trace selection.trace trace && is_of_service selection.service service

abbrev pub is_at_least : Option Level → Level → Bool
is_at_least (Some min_level) level = nat_le (rank min_level) (rank level)
is_at_least None level = true

abbrev pub is_error : Level → Bool
is_error Error = true
is_error OfTrace = false
is_error Debug = false
is_error Info = false
is_error Warn = false

abbrev pub note_fits : Selection → List ℕ → Note → Bool
note_fits selection trace note =
    fits_selection selection trace note.service && is_at_least selection.min_level note.level

-- under --failed only errors are selected
abbrev pub note_is_selected : Selection → List ℕ → Note → Bool
note_is_selected selection trace note =
    note_fits selection trace note && (not selection.is_failed || is_error note.level)

-- by a level, and under --failed, only events and logs are selected
abbrev pub selects_events : Selection → Bool
selects_events selection = selection.is_failed || is_some selection.min_level

abbrev pub is_selected_as : Shape → Selection → List ℕ → Bool
is_selected_as (Trace id) selection trace = false
is_selected_as (Span span) selection trace =
    not (selects_events selection) && fits_selection selection trace span.service
is_selected_as (OfNote note) selection trace = note_is_selected selection trace note
is_selected_as (LeftOut count) selection trace = false

-- a span, an event or a log is selected
abbrev pub is_selected : Selection → Row → Bool
is_selected selection row = is_selected_as row.item.shape selection row.item.trace

-- ---- what is shown

abbrev pub is_around_as : Shape → Selection → Row → Bool
is_around_as (Trace id) selection row = false
is_around_as (Span span) selection row = false
is_around_as (OfNote note) selection row =
    (selection.is_failed && nat_lt 0 row.depth) && note_fits selection row.item.trace note
is_around_as (LeftOut count) selection row = false

-- under --failed, an event or a log that is with the selected rows if its span is
abbrev pub is_around : Selection → Row → Bool
is_around selection row = is_around_as row.item.shape selection row

-- a row is selected, or a row that is nested in it is
abbrev pub is_with_selected : Selection → Row → List Row → Bool
is_with_selected selection row others =
    (is_selected selection row || contains (is_selected selection) row.depth others)
    || is_around selection row

-- a row before those after it, or what is left of these without what is nested in it
abbrev pub kept_with : Bool → Row → List Row → List Row
kept_with is_kept row others =
    if is_kept then row ∷ others else without_nested row.depth others

-- The selected rows, each with the rows that it is nested in. What is nested in a row that isn't
-- among them isn't either.
abbrev pub selected_of : Selection → List Row → List Row
selected_of selection [] = []
selected_of selection (row ∷ others) =
    kept_with (is_with_selected selection row others) row (selected_of selection others)

-- what is shown of rows in drawing order: of the selected rows, those that
-- --min and --depth don't leave out
abbrev pub selected_shown : Selection → List Row → List Row
selected_shown selection rows = cut_from selection.cut (selected_of selection rows)

-- whether a row is with the selected rows, by the reach of the rows after it
abbrev pub is_with_selected_by : Selection → Row → Bool → ℕ → Bool
is_with_selected_by selection row selected reach =
    (selected || nat_lt row.depth reach) || is_around selection row
