-- What a writer of steps has, and what a call leaves.
use Rattle.std.specs.Io.KnownBytes.{Keeps}
use Rattle.std.specs.Prelude.{◌≡◌, ◌≢◌, ℕ, ◌==◌, not, List, [], ◌∷◌, flat_map, Option, Some, None, option_map, Result, Ok, Err}
use Rattle.std.specs.Bool.{then_some}
use Rattle.tracing_tree_base.specs.declared.context.Context.{Context}
use Rattle.tracing_tree_base.specs.declared.context.Id.{Id}
use Rattle.tracing_tree_base.specs.declared.context.Refusal.{Refusal}
use Rattle.tracing_tree_base.specs.declared.context.Refusal.TheVariants.{NotHeld, TooMany, Memory, Writer, Failed}
use Rattle.tracing_tree_layer.specs.Layered.Answered.{Writes}
use Rattle.tracing_tree_layer.specs.Layered.Refused.{first_of_all, id_not_held, is_too_many}
use Rattle.tracing_tree_layer.specs.Layered.Step.{reply_of}
use Rattle.tracing_tree_layer.specs.declared.call.Call.{Call}
use Rattle.tracing_tree_layer.specs.declared.call.Reply.{Reply}
use Rattle.tracing_tree_output.specs.declared.output.Output.{Ghosts as Output}
use Rattle.tracing_tree_output.specs.Writers.{SeenWriter, seen_writer}
use Rattle.ttree_page.specs.declared.form.LineForm.{LineForm}
use Rattle.ttree_page.specs.Lines.{IsHarmless, step_line}
use Rattle.ttree_page.specs.Steps.{Step, steps_of, forest_after}
use Rattle.tracing_tree_spans.specs.Registry.Forest.{Forest}
use Rattle.tracing_tree_spans.specs.Registry.Registered.{IsNewSpan, missing_parent}
use Rattle.tracing_tree_spans.specs.declared.registry.Attributes.{Attributes}

-- a writer of steps: the form of its lines, the live spans, and the output
pub record StepWriterView (W : Type 0) : Type 0 where
  pub form : LineForm
  pub forest : Forest
  pub writer : W

-- what is seen of a writer of steps
pub record SeenSteps : Type 0 where
  pub form : LineForm
  pub forest : Forest
  pub writer : SeenWriter

abbrev pub seen_steps : {W : Type 0} → Output W → StepWriterView W → SeenSteps
seen_steps output it =
    record { form = it.form; forest = it.forest; writer = seen_writer output it.writer }

abbrev pub lines_of : LineForm → List Step → List ℕ
lines_of form steps = flat_map (step_line form) steps

-- the id that a new span gets, or the refusal if it gets no id
abbrev pub IsFree : Attributes → Context → Result Id Refusal → Forest → Type 0
IsFree attributes context (Ok i) forest =
    (missing_parent forest attributes context ≡ None) × (forest.next ≡ Some i)
IsFree attributes context (Err refusal) forest =
    IsNewSpan attributes context (Err refusal) forest forest

-- ---- refusals

-- why a call is refused, apart from memory and the output: an earlier fault of the output, an id
-- that isn't held, or no further id or handle
abbrev pub cause_of : SeenSteps → Call → Option Refusal
cause_of old call = first_of_all (
    then_some (not (old.writer.faults == 0)) Failed
    ∷ option_map NotHeld (id_not_held old.forest call)
    ∷ then_some (is_too_many old.forest call) TooMany ∷ [])

-- A call is refused for its first cause. Without a cause, it is refused only if it has a line to
-- write: if memory runs out or the output fails.
abbrev pub IsRefusedFor : Option Refusal → List Step → Refusal → Type 0
IsRefusedFor cause steps Memory = (cause ≡ None) × (steps ≢ [])
IsRefusedFor cause steps Writer = (cause ≡ None) × (steps ≢ [])
IsRefusedFor cause steps refusal = cause ≡ Some refusal

-- an answer that a call may get
abbrev pub MayAnswer : SeenSteps → Call → Result Reply Refusal → Type 0
MayAnswer old call (Ok reply) = (cause_of old call ≡ None) × (reply ≡ reply_of old.forest call)
MayAnswer old call (Err refusal) =
    IsRefusedFor (cause_of old call) (steps_of old.forest call) refusal

-- ---- calls

-- the live spans after an answer
abbrev pub forest_after_answer : {A : Type 0} → Forest → Call → Result A Refusal → Forest
forest_after_answer forest call (Ok reply) = forest_after forest call
forest_after_answer forest call (Err refusal) = forest

-- One call. If it is accepted, the lines of its steps are written, and the live spans are those
-- after it. If it is refused, the live spans are unchanged, and nothing is written, except a prefix
-- of the lines if the output failed.
pub record Answers (call : Call) (answer : Result Reply Refusal) (old new : SeenSteps) : Type 0
  where
    pub allowed : MayAnswer old call answer
    pub form : new.form ≡ old.form
    pub forest : new.forest ≡ forest_after_answer old.forest call answer
    pub written : Writes (lines_of old.form (steps_of old.forest call)) answer old.writer new.writer

-- Bytes that no call writes. If they can't be written, a prefix of them may be.
pub record WritesBytes {A : Type 0} (bytes : List ℕ) (answer : Result A Refusal)
    (old new : SeenSteps) : Type 0 where
  pub form : new.form ≡ old.form
  pub forest : new.forest ≡ old.forest
  pub written : Writes bytes answer old.writer new.writer

-- the output flushed
pub record PassesOn (old new : SeenSteps) : Type 0 where
  pub form : new.form ≡ old.form
  pub forest : new.forest ≡ old.forest
  pub bytes : Keeps old.writer.bytes new.writer.bytes
  pub faults : new.writer.faults ≡ old.writer.faults

-- Whatever a step has in it, its line has no `<`, and no control character except the line end that
-- ends it. So no input can end the element that contains the lines.
abbrev pub AreLinesHarmless : Type 0
AreLinesHarmless = (form : LineForm) (step : Step) → IsHarmless (step_line form step)
