-- Calls that were made, or could not be read.
use Rattle.std.specs.Prelude.{◌≡◌, refl, Result, Ok, Err}
use Rattle.tracing_tree_layer.specs.Layer.Layers.{LayeredView, Changes}
use Rattle.tracing_tree_layer.specs.Layered.Answered.{IsAnswered}
use Rattle.tracing_tree_layer.specs.Layered.Seen.{Seen}
use Rattle.tracing_tree_layer.specs.declared.call.Call.{Call}
use Rattle.tracing_tree_layer.specs.declared.call.Reply.{Reply}
use Rattle.tracing_tree_lines.specs.Lines.Values.{IsUnlessMemory}
use Rattle.tracing_tree_lines.specs.Lines.Steps.{Answering, MakesSpelled}
use Rattle.tracing_tree_lines.specs.declared.lines.LineCause.{LineCause}
use Rattle.tracing_tree_lines.specs.declared.lines.LineCause.TheVariants.{Settings as NoSettings, NotACall, Read, Memory, Refused}

module _ {S : Type 0} (Answered : Answering S) where
  -- what is encoded in one way is encoded in the other
  pub spelled_as : (P Q : Call → Type 0) (result : Result Reply LineCause) (old new : S) → ((call : Call) → P call → Q call) → ((call : Call) → Q call → P call)
      → MakesSpelled Answered P result old new → MakesSpelled Answered Q result old new
  spelled_as P Q (Ok reply) old new to back made = record { call = made.call; spelled = to made.call made.spelled; answered = made.answered }
  spelled_as P Q (Err NoSettings) old new to back made = made
  spelled_as P Q (Err NotACall) old new to back made = (λ call q. made.0 call (back call q), made.1)
  spelled_as P Q (Err Read) old new to back made = made
  spelled_as P Q (Err Memory) old new to back made = made
  spelled_as P Q (Err (Refused refusal)) old new to back made = record { call = made.call; spelled = to made.call made.spelled; answered = made.answered }

not_settings : NotACall ≡ NoSettings → ⊥
not_settings e = cc

module _ {S : Type 0} (Answered : Answering S) where
  -- if no call could be read, nothing has changed
  pub unread : (P : Call → Type 0) (cause : LineCause) (receiver : S) → IsUnlessMemory NotACall ((call : Call) → ¬ P call) cause
      → MakesSpelled Answered P (Err cause) receiver receiver
  unread P NoSettings receiver failed = absurd (not_settings failed.0)
  unread P NotACall receiver failed = (failed.1, refl)
  unread P Read receiver failed = absurd failed
  unread P Memory receiver failed = refl
  unread P (Refused refusal) receiver failed = absurd failed

-- what is seen of a layer with a registry on which a call was made
pub made_seen : {W FT : Type 0} (see : LayeredView W FT → Seen) (P : Call → Type 0) (result : Result Reply LineCause) (old new : LayeredView W FT)
    → MakesSpelled (λ call answer. Changes see (IsAnswered call answer)) P result old new → Changes see (MakesSpelled IsAnswered P result) old new
made_seen see P (Ok reply) old new made = record {
  changed = record { call = made.call; spelled = made.spelled; answered = made.answered.changed };
  fixed = made.answered.fixed;
}
made_seen see P (Err NoSettings) old new made = absurd made
made_seen see P (Err NotACall) old new (none, same) = rw same (record { changed = (none, refl); fixed = refl })
made_seen see P (Err Read) old new made = absurd made
made_seen see P (Err Memory) old new same = rw same (record { changed = refl; fixed = refl })
made_seen see P (Err (Refused refusal)) old new made = record {
  changed = record { call = made.call; spelled = made.spelled; answered = made.answered.changed };
  fixed = made.answered.fixed;
}
