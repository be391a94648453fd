-- The effect of one call on a layer, by its answer.
use Rattle.std.specs.Prelude.{◌≡◌, ℕ, List, Result, Ok, Err}
use Rattle.std.specs.Io.KnownBytes.{Appends, Keeps}
use Rattle.tracing_tree_output.specs.Writers.{LeavesCut, SeenWriter}
use Rattle.tracing_tree_base.specs.declared.context.Refusal.{Refusal}
use Rattle.tracing_tree_base.specs.declared.context.Refusal.TheVariants.{Writer}
use Rattle.tracing_tree_layer.specs.Layered.Seen.{Seen, seen_later}
use Rattle.tracing_tree_layer.specs.Layered.Run.{call_text, MayAnswer, state_after_answer}
use Rattle.tracing_tree_layer.specs.declared.call.Call.{Call}
use Rattle.tracing_tree_layer.specs.declared.call.Reply.{Reply}

-- what the writer has after an answer: the whole text, nothing, or after its own fault a prefix
abbrev pub Writes : {A : Type 0} → List ℕ → Result A Refusal → SeenWriter → SeenWriter → Type 0
Writes text (Ok answer) old new = Appends old.bytes new.bytes text × (new.faults ≡ old.faults)
Writes text (Err Writer) old new = LeavesCut text old new
Writes text (Err refusal) old new = Keeps old.bytes new.bytes × (new.faults ≡ old.faults)

-- one call: its answer, the state after it, and what was written
pub record IsAnswered (call : Call) (answer : Result Reply Refusal) (old new : Seen) : Type 0 where
  pub allowed : MayAnswer old.settings old.timer old.state call answer
  pub left : new
      ≡ seen_later old (state_after_answer old.settings old.timer old.state call answer) new.writer
  pub written : Writes (call_text old.settings old.timer old.state call) answer old.writer
      new.writer
