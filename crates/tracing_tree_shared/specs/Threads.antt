-- A thread's receiver of calls, which makes them on a layer of several threads, and its answers.
use Rattle.std.specs.Prelude.{◌≡◌, ◌⊎◌, ◌++◌, ◌∷◌, [], ℕ, Result, Ok, Err}
use Rattle.tracing_tree_base.specs.declared.context.Refusal.{Refusal}
use Rattle.tracing_tree_base.specs.declared.context.Refusal.TheVariants.{Memory}
use Rattle.tracing_tree_output.specs.declared.output.Output.{Ghosts as Output}
use Rattle.tracing_tree_time.specs.declared.timer.FormatTime.{Ghosts as FormatTime}
use Rattle.tracing_tree_layer.specs.Layer.Layers.{LayeredView, seen, Changes}
use Rattle.tracing_tree_layer.specs.declared.call.Call.{Call}
use Rattle.tracing_tree_layer.specs.declared.call.Reply.{Reply}
use Rattle.tracing_tree_shared.specs.Drafts.{SharedView}
use Rattle.tracing_tree_shared.specs.History.{Slips}
use Rattle.tracing_tree_shared.specs.Books.{IsAnsweredOnSome, IsAnsweredOrLacks}
use Rattle.tracing_tree_shared.specs.Streamed.{StreamingView}

-- a thread's receiver over a layer that keeps the history: the layer, and the receipts of the
-- thread's pass
pub record SharedCallsView : Type 0 where
  pub layer : SharedView
  pub receipts : Slips

-- the receipts after an answer: an accepted call adds its receipt, a refused one doesn't
abbrev pub Receives : Call → Result Reply Refusal → Slips → Slips → Type 0
Receives call (Ok reply) old new =
    (place : ℕ) × (new ≡ old ++ record { place = place; entry = (call, reply) } ∷ [])
Receives call (Err refusal) old new = new ≡ old

-- A call is answered as some registry with a layer over a tape answers it, or memory ran out.
-- Contracts can't say more of a layer behind a lock.
pub record IsAnsweredShared {FT : Type 0} (time : FormatTime FT) (call : Call)
    (answer : Result Reply Refusal) (old new : SharedCallsView) : Type 0 where
  pub answered : (answer ≡ Err Memory) ⊎ IsAnsweredOnSome time call answer
  pub received : Receives call answer old.receipts new.receipts
  pub same : new.layer ≡ old.layer

-- there is a registry with a layer on which a call is answered this way
abbrev pub IsAnsweredOnSomeLayer : {W FT : Type 0} → FormatTime FT → Output W → Call
    → Result Reply Refusal → Type 0
IsAnsweredOnSomeLayer {W} {FT} time output call answer =
    (old : LayeredView W FT) × (new : LayeredView W FT)
    × Changes (seen time output) (IsAnsweredOrLacks call answer) old new

-- A call is answered as some registry with a layer answers it, or memory ran out. Contracts can't
-- say more of a layer behind a lock.
pub record IsAnsweredStreaming {W FT : Type 0} (time : FormatTime FT) (output : Output W)
    (call : Call) (answer : Result Reply Refusal) (old new : StreamingView) : Type 0 where
  pub answered : (answer ≡ Err Memory) ⊎ IsAnsweredOnSomeLayer time output call answer
  pub same : new ≡ old
