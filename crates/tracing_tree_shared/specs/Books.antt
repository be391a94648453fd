-- What a book keeps with its history, and what a draft leaves in it.
use Rattle.std.specs.Prelude.{◌≡◌, ◌⊎◌, ℕ, true, false, List, [], ◌∷◌, ◌++◌, length, Option, Some, Result, Ok, Err, ⊤}
use Rattle.tracing_tree_base.specs.declared.context.Id.{Id}
use Rattle.tracing_tree_base.specs.declared.context.Refusal.{Refusal}
use Rattle.tracing_tree_base.specs.declared.context.Refusal.TheVariants.{Memory}
use Rattle.tracing_tree_output.specs.Outputs.{TapeView}
use Rattle.tracing_tree_time.specs.declared.timer.FormatTime.{Ghosts as FormatTime}
use Rattle.tracing_tree_layer.specs.Layered.Answered.{IsAnswered}
use Rattle.tracing_tree_layer.specs.Layered.Seen.{Seen}
use Rattle.tracing_tree_layer.specs.Layer.Layers.{LayeredView, Changes}
use Rattle.tracing_tree_layer.specs.declared.call.Call.{Call}
use Rattle.tracing_tree_layer.specs.declared.call.Reply.{Reply}
use Rattle.tracing_tree_shared.specs.History.{Entry, Slip, IsKept}
use Rattle.tracing_tree_shared.specs.declared.draft.Refused.{Refused}

-- what is kept with a history, of what is seen
abbrev pub KeepsReplay : Option Id → List Entry → Seen → Type 0
KeepsReplay first history seen =
    IsKept seen.settings seen.timer first history seen.state seen.writer.bytes

-- what an answer adds to the history: the call with its reply, or nothing
abbrev pub entries_of : Call → Result Reply Refusal → List Entry
entries_of call (Ok reply) = (call, reply) ∷ []
entries_of call (Err refusal) = []

-- a book: its registry with its layer, the id with which it began, and its history
pub record BookView (W FT : Type 0) : Type 0 where
  pub layered : LayeredView W FT
  pub first : Option Id
  pub history : List Entry

-- what is seen of a registry with a layer over a tape
abbrev pub seen_on_tape : {FT : Type 0} → FormatTime FT → LayeredView TapeView FT → Seen
seen_on_tape time layered = record {
  settings = layered.layer.settings;
  timer = time.timer layered.layer.timer;
  state = record {
    forest = layered.forest;
    last = layered.layer.last;
    failed = layered.layer.failed;
  };
  writer = record {
    bytes = Some layered.layer.writer.bytes;
    faults = layered.layer.writer.faults;
    whole = true;
  };
}

-- memory ran out in a layer that hasn't failed, and nothing changed
pub record LacksMemory (answer : Result Reply Refusal) (old new : Seen) : Type 0 where
  pub cause : answer ≡ Err Memory
  pub sound : old.state.failed ≡ false
  pub same : new ≡ old

-- a call is answered as `Layered::call` answers it, or memory for it ran out
abbrev pub IsAnsweredOrLacks : Call → Result Reply Refusal → Seen → Seen → Type 0
IsAnsweredOrLacks call answer old new =
    IsAnswered call answer old new ⊎ LacksMemory answer old new

-- what the answer to a draft says of its call: the reply on its receipt, or the cause
abbrev pub answer_shown : Result Slip Refused → Result Reply Refusal
answer_shown (Ok receipt) = Ok receipt.entry.1
answer_shown (Err refused) = Err refused.cause

-- the receipt shows the call at the place where the history ended
abbrev pub ShowsCall : Call → ℕ → Result Slip Refused → Type 0
ShowsCall call place (Ok receipt) = (receipt.place ≡ place) × (receipt.entry.0 ≡ call)
ShowsCall call place (Err refused) = ⊤

-- A draft is applied: its call is answered as `Layered::call` answers it, or memory for it ran out.
-- The history gains the call with its reply, which the receipt shows with their place, and the rest
-- is unchanged.
pub record IsApplied {FT : Type 0} (time : FormatTime FT) (call : Call)
    (result : Result Slip Refused) (old new : BookView TapeView FT) : Type 0 where
  pub answered : Changes (seen_on_tape time) (IsAnsweredOrLacks call (answer_shown result))
      old.layered new.layered
  pub history : new.history ≡ old.history ++ entries_of call (answer_shown result)
  pub shown : ShowsCall call (length old.history) result
  pub first : new.first ≡ old.first

-- what the answer to a submitted draft says of its call: the reply, or the cause
abbrev pub answer_given : Result Reply Refused → Result Reply Refusal
answer_given (Ok reply) = Ok reply
answer_given (Err refused) = Err refused.cause

-- There is a registry with a layer over a tape on which a call is answered this way. Contracts
-- can't say more of a layer behind a lock.
abbrev pub IsAnsweredOnSome : {FT : Type 0} → FormatTime FT → Call → Result Reply Refusal → Type 0
IsAnsweredOnSome {FT} time call answer =
    (old : LayeredView TapeView FT) × (new : LayeredView TapeView FT)
    × Changes (seen_on_tape time) (IsAnsweredOrLacks call answer) old new
