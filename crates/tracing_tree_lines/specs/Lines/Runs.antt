-- A run over the program's lines.
use Rattle.std.specs.Prelude.{◌≡◌, ℕ, ◌+◌, ◌<◌, ◌≤◌, ◌⊎◌, Bool, false, if◌then◌else◌, List, [], ◌∷◌, ◌++◌, length, map, take, slice_get, Option, Some, None, Result, Ok, Err, option_map, IfSome, IsSomeAnd, IsTrue, ⊤, ◌^◌, ◌-◌}
use Rattle.std.specs.Io.KnownBytes.{Appends, Keeps}
use Rattle.tracing_tree_drawing.specs.Format.Settings.{Settings}
use Rattle.tracing_tree_time.specs.Clock.{Timer}
use Rattle.tracing_tree_spans.specs.Registry.Ids.{id_of}
use Rattle.tracing_tree_spans.specs.Registry.Forest.{empty_forest}
use Rattle.tracing_tree_drawing.specs.Format.Picture.{draw}
use Rattle.tracing_tree_output.specs.Writers.{IsCutShort, SeenWriter}
use Rattle.tracing_tree_output.specs.declared.output.Output.{Ghosts as Output}
use Rattle.tracing_tree_base.specs.declared.context.Refusal.{Refusal}
use Rattle.tracing_tree_base.specs.declared.context.Refusal.TheVariants.{Writer}
use Rattle.tracing_tree_layer.specs.Layer.Layers.{LayeredView, Changes, Flushes, seen}
use Rattle.tracing_tree_layer.specs.Layered.Answered.{IsAnswered}
use Rattle.tracing_tree_layer.specs.Layered.State.{State}
use Rattle.tracing_tree_layer.specs.Layered.Run.{call_text, MayAnswer}
use Rattle.tracing_tree_layer.specs.Layered.Seen.{Seen}
use Rattle.tracing_tree_layer.specs.Layered.Headline.{run_from}
use Rattle.tracing_tree_lines.specs.Lines.Spelled.{input_lines, SpellsSettings, SpellsCall, SpellCalls, SpellsNothing}
use Rattle.tracing_tree_layer.specs.declared.call.Call.{Call}
use Rattle.tracing_tree_layer.specs.declared.call.Reply.{Reply}
use Rattle.tracing_tree_lines.specs.declared.lines.LineCause.{LineCause}
use Rattle.tracing_tree_lines.specs.declared.lines.LineCause.TheVariants.{Settings as NoSettings, NotACall, Read, Memory, Refused}
use Rattle.tracing_tree_lines.specs.declared.lines.LineFault.{LineFault}

-- the input has a first line, which encodes these settings, and then these others
abbrev pub BeginsWith : List ℕ → Settings → Timer → List (List ℕ) → Type 0
BeginsWith input settings timer others =
    (line : List ℕ) × (input_lines input ≡ line ∷ others) × SpellsSettings line settings timer

-- Line 1 may end the run for this cause: `NoSettings` only if the input doesn't begin with
-- settings. Line 1 has no call, so a call is never to blame.
abbrev pub EndsAtFirst : List ℕ → LineCause → Type 0
EndsAtFirst input NoSettings =
    (s : Settings) (timer : Timer) (others : List (List ℕ)) → ¬ BeginsWith input s timer others
EndsAtFirst input Read = ⊤
EndsAtFirst input Memory = ⊤
EndsAtFirst input cause = ⊥

-- Lines are counted up to this number. The line that has it isn't judged: a run that gets there
-- ends by `Read`, or without a fault.
abbrev pub last_number : ℕ
last_number = 2 ^ 64 - 1

module _ (settings : Settings) (timer : Timer) (state : State) where
  -- In this state a line may end the run for this cause. `Read` and `Memory` come from outside and
  -- need no reason here; no line may have been read whole.
  abbrev pub EndsRun : Option (List ℕ) → LineCause → Type 0
  EndsRun line NoSettings = ⊥
  EndsRun line NotACall = IsSomeAnd line SpellsNothing
  EndsRun line (Refused refusal) =
      IsSomeAnd line (λ line.
      (call : Call) × SpellsCall line call × MayAnswer settings timer state call (Err refusal))
  EndsRun line cause = ⊤

  -- What is written after the text of the accepted calls: nothing, except after a fault of the
  -- writer. Then it is a proper prefix of the text of the call that this line encodes, which is
  -- empty if writes are whole.
  abbrev pub IsLeft : Bool → Option LineCause → Option (List ℕ) → List ℕ → Type 0
  IsLeft whole (Some (Refused Writer)) (Some line) front =
      (call : Call) × SpellsCall line call × IsCutShort (call_text settings timer state call) front
      × (IsTrue whole → front ≡ [])
  IsLeft whole cause line front = front ≡ []

module _ {W FT : Type 0} (see : LayeredView W FT → Seen) where
  -- The calls are made one after another, and each gets its answer, as a call by itself does. The
  -- writer may be flushed before each, and after the last.
  abbrev pub AreMade : List Call → List (Result Reply Refusal) → LayeredView W FT
      → LayeredView W FT → Type 0
  AreMade [] [] old new = Changes see Flushes old new
  AreMade (call ∷ calls) (answer ∷ answers) old new =
      (shown : LayeredView W FT) × (between : LayeredView W FT) × Changes see Flushes old shown
      × Changes see (IsAnswered call answer) shown between × AreMade calls answers between new
  AreMade calls answers old new = ⊥

  -- these calls are made, and each is accepted
  abbrev pub AreAccepted : List Call → LayeredView W FT → LayeredView W FT → Type 0
  AreAccepted calls old new = (replies : List Reply) × AreMade calls (map Ok replies) old new

  -- Like `AreAccepted`; and then, if the cause is a refusal, the call that this line encodes is
  -- made and gets that refusal.
  abbrev pub MakesCalls : LayeredView W FT → LayeredView W FT → Option LineCause
      → Option (List ℕ) → List Call → Type 0
  MakesCalls old new (Some (Refused refusal)) (Some line) calls =
      (last : LayeredView W FT) × AreAccepted calls old last × (call : Call)
      × SpellsCall line call × AreMade (call ∷ []) (Err refusal ∷ []) last new
  MakesCalls old new cause line calls = AreAccepted calls old new

-- A run over the lines after the first. The first `judged` of them were judged: those that aren't
-- skipped encode these calls, and each was accepted. A cause blames the line after them, which is
-- `judged + 2` since line 1 has the settings; if the input has no such line, it is the line that
-- was awaited. The drawing of the calls is written, and then what the fault leaves. They are made
-- in this way.
pub record RunsOver (lines : List (List ℕ)) (accepted : ℕ) (fault : Option LineFault)
    (old : Seen) (new : SeenWriter)
    (Makes : Option LineCause → Option (List ℕ) → List Call → Type 0) : Type 0 where
  pub judged : ℕ
  pub within : judged ≤ length lines
  pub cause : Option LineCause
  pub blamed : fault ≡ option_map (λ cause. record { line = judged + 2; cause = cause }) cause
  pub counted : judged + 1 < last_number
  pub unjudged : judged + 2 ≡ last_number → IfSome cause (λ cause. cause ≡ Read)
  pub calls : List Call
  pub spelled : SpellCalls (take judged lines) calls
  pub count : accepted ≡ length calls
  pub taken : length (run_from old calls).replies ≡ length calls
  pub all : cause ≡ None → judged ≡ length lines
  pub ends : IfSome cause (EndsRun old.settings old.timer (run_from old calls).state
      (slice_get lines judged))
  pub front : List ℕ
  pub left : IsLeft old.settings old.timer (run_from old calls).state old.writer.whole cause
      (slice_get lines judged) front
  pub appends : Appends old.writer.bytes new.bytes
      (draw old.settings (run_from old calls).rows ++ front)
  pub made : Makes cause (slice_get lines judged) calls

-- what is seen of a layered with a writer, whose timer is what it states
abbrev pub seen_over : {W : Type 0} → Output W → LayeredView W Timer → Seen
seen_over output = seen (record { timer = λ timer. timer }) output

-- a layered that opens with these settings and this timer over a writer; the first span gets the id
-- 1
abbrev pub opened_with : {W : Type 0} → Settings → Timer → W → LayeredView W Timer
opened_with settings timer writer = record {
  forest = empty_forest (id_of 1);
  layer = record {
    settings = settings;
    writer = writer;
    timer = timer;
    last = None;
    failed = false;
    unwritten = [];
  };
}

-- What a run over lines leaves in its writer: it ended at line 1, accepted no call and wrote
-- nothing, or the first line encodes settings, and the run covers the others. Its calls are made on
-- a layered that opens over the old writer and ends with the new one.
abbrev pub LeavesRun : {W : Type 0} → Output W → List ℕ → ℕ → Option LineFault → W → W → Type 0
LeavesRun {W = W} output input accepted fault old new =
    ((cause : LineCause) × EndsAtFirst input cause
    × (fault ≡ Some (record { line = 1; cause = cause })) × (accepted ≡ 0)
    × Keeps (output.contents old) (output.contents new))
    ⊎ ((settings : Settings) × (timer : Timer) × (others : List (List ℕ))
    × BeginsWith input settings timer others
    × (ended : LayeredView W Timer) × (ended.layer.writer ≡ new)
    × (let see = seen_over output in
    let opened = opened_with settings timer old in
    RunsOver others accepted fault (see opened) (see ended).writer (MakesCalls see opened ended)))

-- the count of the writer's faults, by the cause that ended the run: one more if the writer is to
-- blame, otherwise unchanged
abbrev pub CountsEnd : Option LineCause → ℕ → ℕ → Type 0
CountsEnd (Some (Refused Writer)) old_faults new_faults = new_faults ≡ old_faults + 1
CountsEnd cause old_faults new_faults = new_faults ≡ old_faults

abbrev pub cause_status : LineCause → ℕ
cause_status NoSettings = 2
cause_status cause = 1

-- the program's exit status, by the fault and by whether the last text was flushed
abbrev pub status_of : Option LineFault → Bool → ℕ
status_of None flushed = if flushed then 0 else 1
status_of (Some fault) flushed = cause_status fault.cause
