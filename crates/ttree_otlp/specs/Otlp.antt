-- What an input of OTLP/JSON means.
use Rattle.std.specs.Prelude.{◌≡◌, ◌<◌, ℕ, List, length, map, Result, Ok, Err, MatchOption, IsPermutation, IsSorted, ⊤}
use Rattle.tracing_tree_base.specs.declared.context.Moment.{Moment}
use Rattle.tracing_tree_base.specs.declared.context.Refusal.{Refusal}
use Rattle.tracing_tree_layer.specs.Layered.Answered.{IsAnswered}
use Rattle.tracing_tree_layer.specs.Layered.Seen.{Seen}
use Rattle.tracing_tree_layer.specs.declared.call.Call.{Call}
use Rattle.tracing_tree_lines.specs.declared.lines.LineCause.{LineCause}
use Rattle.tracing_tree_lines.specs.declared.lines.LineCause.TheVariants.{Settings as NoSettings, NotACall, Read, Memory, Refused}
use Rattle.ttree_source.specs.Noted.{Note}
use Rattle.ttree_source.specs.Source.{Makes, StopsIn}
use Rattle.ttree_source.specs.declared.notes.Problem.TheVariants.{Object}
use Rattle.ttree_source.specs.declared.run.SourceRun.{SourceRun}
use Rattle.ttree_otlp.specs.Draw.{calls_of_rows}
use Rattle.ttree_otlp.specs.Gather.{GatheredState, gathered_in, item_cmp, resolved}
use Rattle.ttree_otlp.specs.Select.{selected_shown}
use Rattle.ttree_otlp.specs.Walk.{rows_in_order}
use Rattle.ttree_otlp.specs.declared.item.Item.{Item}
use Rattle.ttree_otlp.specs.declared.select.Selection.{Selection}
use Rattle.ttree_otlp.specs.declared.walk.Row.{Row}

-- rows in the only drawing order
abbrev pub IsInOrder : List Item → List Item → Type 0
IsInOrder rows ordered = IsPermutation rows ordered × IsSorted item_cmp ordered

-- the rows of an input, each with the span in which it is nested
abbrev pub rows_of : GatheredState → List Item
rows_of gathered = map (resolved gathered.known) gathered.items

-- The rows that are shown of what was gathered, in drawing order. They are the only ones.
abbrev pub AreRowsOf : Selection → GatheredState → List Row → Type 0
AreRowsOf selection gathered rows =
    (ordered : List Item) × IsInOrder (rows_of gathered) ordered
    × (rows ≡ selected_shown selection (rows_in_order ordered))

-- The calls that draw what is shown of what was gathered. They are the only ones.
abbrev pub AreCallsOf : ℕ → Moment → Selection → GatheredState → List Call → Type 0
AreCallsOf next moment selection gathered calls =
    (ordered : List Item) × IsInOrder (rows_of gathered) ordered
    × (calls ≡ calls_of_rows next moment (selected_shown selection (rows_in_order ordered)))

-- The drawing is that of the calls of the input, and each was accepted.
abbrev pub DrawsAll : ℕ → Moment → Selection → GatheredState → Seen → Seen → Type 0
DrawsAll next moment selection gathered old new =
    (calls : List Call) × AreCallsOf next moment selection gathered calls × Makes calls old new

-- The drawing ends at a call that was refused: it is that of the calls before it.
abbrev pub DrawsUpTo : ℕ → Moment → Selection → GatheredState → Refusal → Seen → Seen → Type 0
DrawsUpTo next moment selection gathered refusal old new =
    (calls : List Call) × AreCallsOf next moment selection gathered calls
    × StopsIn Makes IsAnswered calls (Refused refusal) old new

-- what was gathered is drawn, or the drawing ends at a call that was refused, or nothing is drawn
-- because memory ran out
abbrev pub DrawsOrEnds : ℕ → Moment → Selection → GatheredState → Result ⊤ LineCause → Seen → Seen
    → Type 0
DrawsOrEnds next moment selection gathered (Ok done) old new = DrawsAll next moment selection
    gathered old new
DrawsOrEnds next moment selection gathered (Err NoSettings) old new = ⊥
DrawsOrEnds next moment selection gathered (Err NotACall) old new = ⊥
DrawsOrEnds next moment selection gathered (Err Read) old new = ⊥
DrawsOrEnds next moment selection gathered (Err Memory) old new = new ≡ old
DrawsOrEnds next moment selection gathered (Err (Refused refusal)) old new =
    DrawsUpTo next moment selection gathered refusal old new

-- What ended a run: nothing was drawn because memory ran out, or because the notes ended the run
-- after a problem; or the drawing ends at a call that was refused.
abbrev pub EndsRun : ℕ → Moment → Selection → GatheredState → LineCause → Seen → Seen → Type 0
EndsRun next moment selection gathered NoSettings old new = ⊥
EndsRun next moment selection gathered NotACall old new = (0 < length gathered.problems) × (new ≡
    old)
EndsRun next moment selection gathered Read old new = ⊥
EndsRun next moment selection gathered Memory old new = new ≡ old
EndsRun next moment selection gathered (Refused refusal) old new =
    DrawsUpTo next moment selection gathered refusal old new

-- The drawing is that of an input. If something ended the run, it is that of a first part.
abbrev pub RunsOtlp : ℕ → Moment → Selection → List ℕ → SourceRun → Seen → Seen → Type 0
RunsOtlp next moment selection text run old new =
    let gathered = gathered_in text in
    MatchOption run.fault
    (DrawsAll next moment selection gathered old new × (run.unknown ≡ length gathered.problems))
    (λ fault. (fault.line ≡ 1) × EndsRun next moment selection gathered fault.cause old new)

-- Why no calls were read: memory ran out, or the notes ended the run after a problem.
abbrev pub EndsReading : LineCause → GatheredState → Type 0
EndsReading NoSettings gathered = ⊥
EndsReading NotACall gathered = 0 < length gathered.problems
EndsReading Read gathered = ⊥
EndsReading Memory gathered = ⊤
EndsReading (Refused refusal) gathered = ⊥

-- ---- notes

abbrev pub note_of : ℕ → Note
note_of line = (line, Object)

-- the notes of the lines of what was skipped
abbrev pub notes_of : List ℕ → List Note
notes_of problems = map note_of problems
