-- What a trace in Chrome's trace event format means.
use Rattle.std.specs.Prelude.{◌≡◌, ◌<◌, ℕ, Bool, false, List, Option, Some, None, Result, Ok, Err, MatchOption, IsPermutation, IsSorted, if◌then◌else◌, ⊤}
use Rattle.json.specs.Json.{Json, Items, no_items, item, document}
use Rattle.tracing_tree_base.specs.declared.context.Moment.{Moment}
use Rattle.tracing_tree_layer.specs.Layered.Seen.{Seen}
use Rattle.tracing_tree_layer.specs.declared.call.Call.{Call}
use Rattle.tracing_tree_base.specs.declared.context.Refusal.{Refusal}
use Rattle.tracing_tree_lines.specs.declared.lines.LineCause.{LineCause}
use Rattle.tracing_tree_lines.specs.declared.lines.LineCause.TheVariants.{Settings as NoSettings, NotACall, Read, Memory, Refused}
use Rattle.ttree_chrome.specs.Element.{element_of}
use Rattle.ttree_chrome.specs.Gather.{GatheredState, all_items, gathered_one, item_cmp, nothing_gathered}
use Rattle.ttree_chrome.specs.Later.{marked}
use Rattle.ttree_chrome.specs.Text.{elements_in, is_cut, mended}
use Rattle.ttree_chrome.specs.Tree.{begun_tree, clock_start, stepped_all, trace_finished}
use Rattle.ttree_source.specs.Counts.{one_more}
use Rattle.tracing_tree_layer.specs.Layered.Answered.{IsAnswered}
use Rattle.ttree_source.specs.Source.{Makes, StopsIn}
use Rattle.ttree_source.specs.declared.cut.Cut.{Cut}
use Rattle.ttree_chrome.specs.declared.trace.Interpreted.{Interpreted}
use Rattle.ttree_chrome.specs.declared.element.Element.{Element}
use Rattle.ttree_chrome.specs.declared.gather.Item.{Item}
use Rattle.ttree_source.specs.declared.notes.Problem.{Problem}
use Rattle.ttree_chrome.specs.declared.leaves.Leaves.{Leaves}
use Rattle.ttree_chrome.specs.declared.trace.TraceRun.{TraceRun}

-- nothing was read yet
abbrev pub nothing_interpreted_of : Interpreted
nothing_interpreted_of = record { gathered = nothing_gathered; unknown = 0 }

abbrev pub interpreted_unknown : Interpreted → Interpreted
interpreted_unknown h = record h { unknown = one_more h.unknown }

abbrev pub interpreted_as : Result Element Problem → Interpreted → Interpreted
interpreted_as (Ok element) h = record h { gathered = gathered_one element h.gathered }
interpreted_as (Err problem) h = interpreted_unknown h

abbrev pub interpreted_all : Items → Interpreted → Interpreted
interpreted_all no_items h = h
interpreted_all (item value others) h = interpreted_all others (interpreted_as (element_of value) h)

-- what elements said; a trace that is cut within an element lost that element
abbrev pub interpreted_cut : Bool → Interpreted → Interpreted
interpreted_cut is_cut h = if is_cut then interpreted_unknown h else h

abbrev pub interpreted_by : Bool → Option Items → Interpreted → Interpreted
interpreted_by is_cut None h = interpreted_unknown h
interpreted_by is_cut (Some elements) h = interpreted_cut is_cut (interpreted_all elements h)

-- what a value means as a trace; a value that isn't a trace is unknown
abbrev pub interpreted_value : Bool → Json → Interpreted → Interpreted
interpreted_value is_cut value h = interpreted_by is_cut (elements_in value) h

abbrev pub interpreted_value_or : Bool → Option Json → Interpreted → Interpreted
interpreted_value_or is_cut None h = interpreted_unknown h
interpreted_value_or is_cut (Some value) h = interpreted_value is_cut value h

-- what a truncated string means
abbrev pub interpreted_mended : List ℕ → Interpreted → Interpreted
interpreted_mended text h = interpreted_value_or (is_cut text) (document (mended text)) h

abbrev pub interpreted_as_it_is : Option Json → List ℕ → Interpreted → Interpreted
interpreted_as_it_is None text h = interpreted_mended text h
interpreted_as_it_is (Some value) text h = interpreted_value false value h

-- what was read, and what a string means as a trace
abbrev pub interpreted_from : List ℕ → Interpreted → Interpreted
interpreted_from text h = interpreted_as_it_is (document text) text h

-- what a string means as a trace
abbrev pub interpreted_in : List ℕ → Interpreted
interpreted_in text = interpreted_from text nothing_interpreted_of

-- Why reading stopped, and what the rest would have been: memory ran out, or the notes ended the
-- run after something unknown.
abbrev pub EndsInterpreting : LineCause → Interpreted → Interpreted → Type 0
EndsInterpreting NoSettings h all = ⊥
EndsInterpreting NotACall h all = (0 < h.unknown) × (0 < all.unknown)
EndsInterpreting Read h all = ⊥
EndsInterpreting Memory h all = ⊤
EndsInterpreting (Refused refusal) h all = ⊥

-- Why no calls were read, and how many elements were unknown by then: memory ran out, or the notes
-- ended the run after something unknown.
abbrev pub EndsReading : LineCause → ℕ → Interpreted → Type 0
EndsReading NoSettings unknown all = ⊥
EndsReading NotACall unknown all = (0 < unknown) × (0 < all.unknown)
EndsReading Read unknown all = ⊥
EndsReading Memory unknown all = ⊤
EndsReading (Refused refusal) unknown all = ⊥

-- these items in the only drawing order
abbrev pub IsInOrder : List Item → List Item → Type 0
IsInOrder items ordered = IsPermutation items ordered × IsSorted item_cmp ordered

-- the calls of items in their order
abbrev pub calls_in_order : ℕ → Moment → Cut → Leaves → GatheredState → List Item → List Call
calls_in_order next moment cut leaves gathered ordered =
    (trace_finished
    (stepped_all (marked cut.min_time ordered)
    (begun_tree next moment (clock_start ordered) cut leaves gathered.processes gathered.threads
    gathered.strings.texts))).calls

-- the calls that draw what was gathered
abbrev pub AreCallsOf : ℕ → Moment → Cut → Leaves → GatheredState → List Call → Type 0
AreCallsOf next moment cut leaves gathered calls =
    (ordered : List Item) × IsInOrder (all_items gathered) ordered
    × (calls ≡ calls_in_order next moment cut leaves gathered ordered)

-- The drawing is that of the calls of the trace, and each was accepted.
abbrev pub DrawsTrace : ℕ → Moment → Cut → Leaves → GatheredState → Seen → Seen → Type 0
DrawsTrace next moment cut leaves gathered old new =
    (calls : List Call) × AreCallsOf next moment cut leaves gathered calls × Makes calls old new

-- The drawing ends at a call that was refused: it is that of the calls before it.
abbrev pub DrawsUpTo : ℕ → Moment → Cut → Leaves → GatheredState → Refusal → Seen → Seen → Type 0
DrawsUpTo next moment cut leaves gathered refusal old new =
    (calls : List Call) × AreCallsOf next moment cut leaves gathered calls
    × StopsIn Makes IsAnswered calls (Refused refusal) old new

-- what was gathered is drawn, or the drawing ends at a call that was refused, or nothing is drawn
-- because memory ran out
abbrev pub DrawsOrEnds :
    ℕ → Moment → Cut → Leaves → GatheredState → Result ⊤ LineCause → Seen → Seen → Type 0
DrawsOrEnds next moment cut leaves gathered (Ok done) old new =
    DrawsTrace next moment cut leaves gathered old new
DrawsOrEnds next moment cut leaves gathered (Err NoSettings) old new = ⊥
DrawsOrEnds next moment cut leaves gathered (Err NotACall) old new = ⊥
DrawsOrEnds next moment cut leaves gathered (Err Read) old new = ⊥
DrawsOrEnds next moment cut leaves gathered (Err Memory) old new = new ≡ old
DrawsOrEnds next moment cut leaves gathered (Err (Refused refusal)) old new =
    DrawsUpTo next moment cut leaves gathered refusal old new

-- What ended a run, with the counts of unknown elements and of those without a row: nothing was
-- drawn because memory ran out or the notes ended the run after something unknown; or the drawing
-- ends at a refused call.
abbrev pub EndsTrace : ℕ → Moment → Cut → Leaves → Interpreted → ℕ → ℕ → LineCause → Seen → Seen → Type 0
EndsTrace next moment cut leaves interpreted unknown undrawn NoSettings old new = ⊥
EndsTrace next moment cut leaves interpreted unknown undrawn NotACall old new =
    (0 < unknown) × (0 < interpreted.unknown) × (undrawn ≡ 0) × (new ≡ old)
EndsTrace next moment cut leaves interpreted unknown undrawn Read old new = ⊥
EndsTrace next moment cut leaves interpreted unknown undrawn Memory old new =
    (undrawn ≡ 0) × (new ≡ old)
EndsTrace next moment cut leaves interpreted unknown undrawn (Refused refusal) old new =
    (unknown ≡ interpreted.unknown) × (undrawn ≡ interpreted.gathered.undrawn)
    × DrawsUpTo next moment cut leaves interpreted.gathered refusal old new

abbrev pub ended_run : ℕ → LineCause → ℕ → TraceRun
ended_run unknown cause undrawn = record {
  run = record { unknown = unknown; fault = Some (record { line = 1; cause = cause }) };
  undrawn = undrawn;
}

-- The drawing is that of a string as a trace. If something ended the run, it is a first part of
-- that.
abbrev pub RunsTrace : ℕ → Moment → Cut → Leaves → List ℕ → TraceRun → Seen → Seen → Type 0
RunsTrace next moment cut leaves text made old new =
    let interpreted = interpreted_in text in
    MatchOption made.run.fault
    (DrawsTrace next moment cut leaves interpreted.gathered old new
    × (made.run.unknown ≡ interpreted.unknown) × (made.undrawn ≡ interpreted.gathered.undrawn))
    (λ fault. (fault.line ≡ 1)
    × EndsTrace next moment cut leaves interpreted made.run.unknown made.undrawn fault.cause old new)
