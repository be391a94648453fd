-- What lines of another tool's output mean: a source takes a line and its value, and returns calls
-- and its next state.
use Rattle.std.specs.Prelude.{◌≡◌, ◌⊎◌, ℕ, zero, suc, ◌+◌, Bool, true, false, if◌then◌else◌, List, [], ◌∷◌, ◌++◌, ◌-◌, ◌==◌, length, take, Option, Some, None, Result, Ok, Err, option_map, IfSome, MatchOption, ⊤, ◌<◌}
use Rattle.std.specs.Io.KnownBytes.{Appends}
use Rattle.std.specs.Option.{option_map_or}
use Rattle.std.specs.Str.{is_utf8}
use Rattle.json.specs.Json.{Json, document}
use Rattle.tracing_tree_drawing.specs.Format.Picture.{draw}
use Rattle.tracing_tree_base.specs.declared.context.Refusal.{Refusal}
use Rattle.tracing_tree_layer.specs.Layered.Seen.{Seen, seen_later}
use Rattle.tracing_tree_layer.specs.Layered.Headline.{run_from}
use Rattle.tracing_tree_layer.specs.declared.call.Call.{Call}
use Rattle.tracing_tree_layer.specs.declared.call.Reply.{Reply}
use Rattle.tracing_tree_lines.specs.Lines.Spelled.{input_lines}
use Rattle.tracing_tree_lines.specs.Lines.Reads.{TakesLine}
use Rattle.tracing_tree_lines.specs.declared.lines.LineCause.{LineCause}
use Rattle.tracing_tree_lines.specs.declared.lines.LineCause.TheVariants.{Settings as NoSettings, NotACall, Read, Memory, Refused}
use Rattle.tracing_tree_lines.specs.declared.lines.LineFault.{LineFault}
use Rattle.ttree_source.specs.Noted.{Note}
use Rattle.ttree_source.specs.declared.notes.Problem.{Problem}
use Rattle.ttree_source.specs.declared.notes.Problem.TheVariants.{Utf8}
use Rattle.ttree_source.specs.declared.run.SourceRun.{SourceRun}
use Rattle.ttree_source.specs.declared.run.Judged.{Judged}
use Rattle.ttree_source.specs.declared.run.Judged.TheVariants.{End, Known, Unknown}

-- the calls of a step, and the source afterwards
pub record Step (S : Type 0) : Type 0 where
  pub calls : List Call
  pub source : S

-- what lines mean: calls, the source after them, and how many lines are unknown
pub record Interpreted (S : Type 0) : Type 0 where
  pub calls : List Call
  pub source : S
  pub unknown : ℕ

module _ {S : Type 0} where
  abbrev pub interpreted_step : S → Option (Step S) → Interpreted S
  interpreted_step source None = record { calls = []; source = source; unknown = 1 }
  interpreted_step source (Some step) = record {
    calls = step.calls;
    source = step.source;
    unknown = 0;
  }

  abbrev pub nothing_interpreted : S → Interpreted S
  nothing_interpreted source = record { calls = []; source = source; unknown = 0 }

  abbrev pub then_interpreted : Interpreted S → Interpreted S → Interpreted S
  then_interpreted first next = record {
    calls = first.calls ++ next.calls;
    source = next.source;
    unknown = first.unknown + next.unknown;
  }

  module _ (takes : S → List ℕ → Option Json → Option (Step S)) where
    -- what a line means: one that isn't UTF-8 is unknown
    abbrev pub interpret_line : S → List ℕ → Interpreted S
    interpret_line source line =
        if is_utf8 line then interpreted_step source (takes source line (document line))
        else interpreted_step source None

    -- what lines mean, one after another
    abbrev pub interpret : S → List (List ℕ) → Interpreted S
    interpret source [] = nothing_interpreted source
    interpret source (line ∷ lines) =
        let interpreted = interpret_line source line in
        then_interpreted interpreted (interpret interpreted.source lines)

    -- all calls of an input: those of its lines, and those of its end
    abbrev pub calls_of : (S → List Call) → S → List (List ℕ) → List Call
    calls_of ends source lines =
        let interpreted = interpret source lines in
        interpreted.calls ++ ends interpreted.source

    -- the source after an input: it has taken each line, and then its end
    abbrev pub source_after : (S → S) → S → List (List ℕ) → S
    source_after ended source lines = ended (interpret source lines).source

module _ {C : Type 0} (flushes : C → C → Type 0) where
  -- the receiver was flushed `count` times
  abbrev pub FlushedTimes : ℕ → C → C → Type 0
  FlushedTimes zero old new = new ≡ old
  FlushedTimes (suc count) old new = (shown : C) × flushes old shown × FlushedTimes count shown new

-- The receiver accepted these calls, one after another. It may have been flushed before each call
-- and after the last one.
module _ {C : Type 0} (answers : Call → Result Reply Refusal → C → C → Type 0)
    (flushes : C → C → Type 0) where
  abbrev pub Accepts : List Call → C → C → Type 0
  Accepts [] old new = (count : ℕ) × FlushedTimes flushes count old new
  Accepts (call ∷ calls) old new =
      (count : ℕ) × (shown between : C) × (reply : Reply) × FlushedTimes flushes count old shown
      × answers call (Ok reply) shown between × Accepts calls between new

-- what a line and its value mean is returned, and the source continues from there
abbrev pub Emits : {S : Type 0} → Option (Step S) → S → S → Option (List Call) → Type 0
Emits None old new None = new ≡ old
Emits None old new (Some calls) = ⊥
Emits (Some step) old new None = ⊥
Emits (Some step) old new (Some calls) = (calls ≡ step.calls) × (new ≡ step.source)

module _ {S : Type 0} where
  -- a line means the same whatever its value is
  abbrev pub IgnoresValues : (S → List ℕ → Option Json → Option (Step S)) → S → Type 0
  IgnoresValues takes source =
      (line : List ℕ) (value : Option Json) → takes source line value ≡ takes source line None

-- A `Layered` accepted these calls: state and bytes are those of their run.
pub record Makes (calls : List Call) (old new : Seen) : Type 0 where
  pub left : new ≡ seen_later old (run_from old calls).state new.writer
  pub bytes : Appends old.writer.bytes new.writer.bytes
      (draw old.settings (run_from old calls).rows)
  pub all : length (run_from old calls).replies ≡ length calls
  pub calm : new.writer.faults ≡ old.writer.faults

-- of what ends a run early, only a refused call leaves anything; it is the first of the rest
module _ {C : Type 0} (answers : Call → Result Reply Refusal → C → C → Type 0) where
  abbrev pub Breaks : LineCause → List Call → C → C → Type 0
  Breaks (Refused refusal) [] old new = ⊥
  Breaks (Refused refusal) (call ∷ rest) old new = answers call (Err refusal) old new
  Breaks cause rest old new = new ≡ old

-- what ends a run with no call to blame
abbrev pub is_quiet : LineCause → Bool
is_quiet NoSettings = true
is_quiet NotACall = true
is_quiet Read = true
is_quiet Memory = true
is_quiet (Refused refusal) = false

-- what may end a run early after this count of unknown lines: the notes only after one
abbrev pub MayEnd : LineCause → ℕ → Type 0
MayEnd NoSettings unknown = ⊥
MayEnd NotACall unknown = 0 < unknown
MayEnd Read unknown = ⊤
MayEnd Memory unknown = ⊤
MayEnd (Refused refusal) unknown = ⊤

-- How many unknown lines were counted when a run ended at a line: those before it (`before`), and
-- the line itself if the notes ended the run. `here` is 1 if that line is unknown, otherwise 0.
-- Memory may run out before the line is known and after.
abbrev pub CountsUnknown : LineCause → ℕ → ℕ → ℕ → Type 0
CountsUnknown NoSettings before here unknown = unknown ≡ before
CountsUnknown NotACall before here unknown = (here ≡ 1) × (unknown ≡ before + 1)
CountsUnknown Read before here unknown = unknown ≡ before
CountsUnknown Memory before here unknown = (unknown ≡ before) ⊎ (unknown ≡ before + here)
CountsUnknown (Refused refusal) before here unknown = unknown ≡ before

module _ {C : Type 0} (accepts : List Call → C → C → Type 0)
    (answers : Call → Result Reply Refusal → C → C → Type 0) where
  -- a first part of these calls was accepted, and then this ended the run
  pub record StopsIn (calls : List Call) (cause : LineCause) (old new : C) : Type 0 where
    pub made : List Call
    pub rest : List Call
    pub split : made ++ rest ≡ calls
    pub between : C
    pub makes : accepts made old between
    pub breaks : Breaks answers cause rest between new

  -- all of these calls were accepted, or those before the first that was refused
  abbrev pub MakesEach : List Call → Result ⊤ Refusal → C → C → Type 0
  MakesEach calls (Ok done) old new = accepts calls old new
  MakesEach calls (Err refusal) old new = StopsIn calls (Refused refusal) old new

  -- all of these calls were accepted, or a first part
  abbrev pub MakesAll : List Call → Result ⊤ LineCause → C → C → Type 0
  MakesAll calls (Ok done) old new = accepts calls old new
  MakesAll calls (Err cause) old new = StopsIn calls cause old new

  -- some calls were accepted, and then this ended the run, if anything did
  abbrev pub MakesSome : Option LineCause → C → C → Type 0
  MakesSome None old new = (calls : List Call) × accepts calls old new
  MakesSome (Some cause) old new = (calls : List Call) × StopsIn calls cause old new

  -- what a line did that means this; if it is known, the source continues as it says
  abbrev pub InterpretsAs : {S : Type 0} → Interpreted S → S → Result Bool LineCause → C → C
      → Type 0
  InterpretsAs interpreted after (Ok known) old new =
      accepts interpreted.calls old new × (after ≡ interpreted.source)
      × (interpreted.unknown ≡ (if known then 0 else 1))
  InterpretsAs interpreted after (Err cause) old new =
      StopsIn interpreted.calls cause old new

-- what an unknown line lacks
abbrev pub problem_of : (Option Json → Problem) → List ℕ → Problem
problem_of value_problem line = if is_utf8 line then value_problem (document line) else Utf8

-- the note of a line, if it is unknown
abbrev pub note_of : (Option Json → Problem) → ℕ → List ℕ → ℕ → List Note
note_of value_problem number line unknown =
    if unknown == 0 then [] else (number, problem_of value_problem line) ∷ []

-- a line at which a run ended is noted if the notes ended it
abbrev pub noted_at : LineCause → ℕ
noted_at NoSettings = 0
noted_at NotACall = 1
noted_at Read = 0
noted_at Memory = 0
noted_at (Refused refusal) = 0

-- the lines whose unknown ones a run noted: all, or those up to the fault
abbrev pub noted_lines : SourceRun → List (List ℕ) → List (List ℕ)
noted_lines run lines =
    option_map_or (λ fault. take (fault.line - 1 + noted_at fault.cause) lines) run.fault lines

module _ {S : Type 0} (takes : S → List ℕ → Option Json → Option (Step S)) where
  -- the notes of these lines, numbered from `number` on: one for each unknown line
  abbrev pub notes_of : (Option Json → Problem) → ℕ → S → List (List ℕ) → List Note
  notes_of value_problem number source [] = []
  notes_of value_problem number source (line ∷ lines) =
      let interpreted = interpret_line takes source line in
      note_of value_problem number line interpreted.unknown ++ notes_of value_problem (number + 1) interpreted.source lines

  -- the calls of the next of these lines, or those of the end if no line is left
  abbrev pub next_calls : (S → List Call) → S → List (List ℕ) → List Call
  next_calls ends source [] = ends source
  next_calls ends source (line ∷ others) = (interpret_line takes source line).calls

  -- how many lines are unknown among the next line only
  abbrev pub next_unknown : S → List (List ℕ) → ℕ
  next_unknown source [] = 0
  next_unknown source (line ∷ others) = (interpret_line takes source line).unknown

module _ {C : Type 0} (accepts : List Call → C → C → Type 0)
    (answers : Call → Result Reply Refusal → C → C → Type 0) {S : Type 0}
    (takes : S → List ℕ → Option Json → Option (Step S)) where
  -- what one line did
  abbrev pub InterpretsLine : List ℕ → S → S → Result Bool LineCause → C → C → Type 0
  InterpretsLine line before after result old new =
      InterpretsAs accepts answers (interpret_line takes before line) after result old new

  -- What the next line did, or the end. If it ended the run, these were its calls.
  abbrev pub InterpretsNext : (S → List Call) → (S → S) → Option (List ℕ) → Option (List ℕ) → List ℕ → S
      → S → Result Judged LineCause → C → C → Type 0
  InterpretsNext ends ended known left line before after (Ok End) old new =
      IfSome known (λ input. input_lines input ≡ []) × accepts (ends before) old new
      × (after ≡ ended before)
  InterpretsNext ends ended known left line before after (Ok Known) old new =
      TakesLine known left line × InterpretsLine line before after (Ok true) old new
  InterpretsNext ends ended known left line before after (Ok Unknown) old new =
      TakesLine known left line × InterpretsLine line before after (Ok false) old new
  InterpretsNext ends ended known left line before after (Err cause) old new =
      MatchOption known (MakesSome accepts answers (Some cause) old new) (λ input.
      StopsIn accepts answers (next_calls takes ends before (input_lines input)) cause old new)

  -- A run ended at a line, or at the end of the input: the calls of all lines before it were made,
  -- and a first part of its own calls. The fault has its number.
  pub record EndsAt (ends : S → List Call) (lines : List (List ℕ)) (source : S) (run : SourceRun)
      (fault : LineFault) (old new : C) : Type 0 where
    pub before : List (List ℕ)
    pub others : List (List ℕ)
    pub split : before ++ others ≡ lines
    pub number : fault.line ≡ length before + 1
    pub between : C
    pub makes : accepts (interpret takes source before).calls old between
    pub stops : StopsIn accepts answers
        (next_calls takes ends (interpret takes source before).source others) fault.cause between new
    pub counts : CountsUnknown fault.cause (interpret takes source before).unknown
        (next_unknown takes (interpret takes source before).source others) run.unknown

  -- The calls of the known lines and of the end were accepted, and the source has taken these lines
  -- and the end. If something ended the run, a first part of these calls was accepted.
  abbrev pub RunsLines : (S → List Call) → (S → S) → List (List ℕ) → S → S → SourceRun → C → C
      → Type 0
  RunsLines ends ended lines source after run old new =
      MatchOption run.fault
      (accepts (calls_of takes ends source lines) old new
      × (run.unknown ≡ (interpret takes source lines).unknown)
      × (after ≡ source_after takes ended source lines))
      (λ fault. EndsAt ends lines source run fault old new)

  -- the same over what is left of the input; if that is unknown, some calls were accepted
  abbrev pub RunsSource : (S → List Call) → (S → S) → Option (List ℕ) → S → S → SourceRun → C → C
      → Type 0
  RunsSource ends ended known source after run old new =
      MatchOption known
      (MakesSome accepts answers (option_map (λ fault. fault.cause) run.fault) old new)
      (λ input. RunsLines ends ended (input_lines input) source after run old new)
