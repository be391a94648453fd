-- What a draft leaves in a layer that keeps no history.
use Rattle.std.specs.Prelude.{◌≡◌, ◌+◌, ◌-◌, ◌^◌, ℕ, min, Bool, Result, Ok, Err}
use Rattle.tracing_tree_base.specs.declared.context.Refusal.{Refusal}
use Rattle.tracing_tree_output.specs.declared.output.Output.{Ghosts as Output}
use Rattle.tracing_tree_time.specs.declared.timer.FormatTime.{Ghosts as FormatTime}
use Rattle.tracing_tree_layer.specs.Layer.Layers.{LayeredView, seen, Changes}
use Rattle.tracing_tree_layer.specs.declared.call.Call.{Call}
use Rattle.tracing_tree_layer.specs.declared.call.Reply.{Reply}
use Rattle.tracing_tree_shared.specs.Books.{IsAnsweredOrLacks}
use Rattle.tracing_tree_shared.specs.declared.draft.Refused.{Refused}
use Rattle.tracing_tree_shared.specs.declared.streaming.Numbered.{Numbered}

-- a registry with a layer, and how many calls it accepted
pub record CountedView (W FT : Type 0) : Type 0 where
  pub layered : LayeredView W FT
  pub accepted : ℕ

-- the two settings under which a layer for several threads drafts events
pub record StreamingView : Type 0 where
  pub ansi : Bool
  pub targets : Bool

-- what the answer to a draft says of its call
abbrev pub answer_numbered : Result Numbered Refused → Result Reply Refusal
answer_numbered (Ok numbered) = Ok numbered.reply
answer_numbered (Err refused) = Err refused.cause

-- an accepted call has the next number, and a refused one has no number
abbrev pub IsCounted : Result Numbered Refused → ℕ → ℕ → Type 0
IsCounted (Ok numbered) old new = (numbered.number ≡ old) × (new ≡ min (old + 1) (2 ^ 64 - 1))
IsCounted (Err refused) old new = new ≡ old

-- A draft is applied: its call is answered as `Layered::call` answers it, or memory for it ran out.
pub record IsStreamed {W FT : Type 0} (time : FormatTime FT) (output : Output W) (call : Call)
    (result : Result Numbered Refused) (old new : CountedView W FT) : Type 0 where
  pub answered : Changes (seen time output) (IsAnsweredOrLacks call (answer_numbered result))
      old.layered new.layered
  pub counted : IsCounted result old.accepted new.accepted

-- There is a registry with a layer, and a count, to which a draft is applied this way. Contracts
-- can't say more of those behind a lock.
abbrev pub IsStreamedOnSome : {W FT : Type 0} → FormatTime FT → Output W → Call
    → Result Numbered Refused → Type 0
IsStreamedOnSome {W} {FT} time output call result =
    (old : CountedView W FT) × (new : CountedView W FT) × IsStreamed time output call result old new
