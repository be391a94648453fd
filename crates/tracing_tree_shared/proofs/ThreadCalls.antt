-- The answers of a thread's receiver, from the layer's answer to a draft.
use Rattle.std.specs.Prelude.{◌≡◌, ◌⊎◌, ◌++◌, ◌∷◌, [], ℕ, Result, Ok, Err, IfOk, OnErr, refl}
use Rattle.std.proofs.Common.{inr, subst, sym}
use Rattle.tracing_tree_base.specs.declared.context.Refusal.{Refusal}
use Rattle.tracing_tree_base.specs.declared.context.Refusal.TheVariants.{Memory}
use Rattle.tracing_tree_output.specs.declared.output.Output.{Ghosts as Output}
use Rattle.tracing_tree_time.specs.declared.timer.FormatTime.{Ghosts as FormatTime}
use Rattle.tracing_tree_layer.specs.declared.call.Call.{Call}
use Rattle.tracing_tree_layer.specs.declared.call.Reply.{Reply}
use Rattle.tracing_tree_shared.specs.Drafts.{SharedView}
use Rattle.tracing_tree_shared.specs.History.{Slips}
use Rattle.tracing_tree_shared.specs.Books.{IsAnsweredOnSome, answer_given}
use Rattle.tracing_tree_shared.specs.Streamed.{IsStreamedOnSome, StreamingView, answer_numbered}
use Rattle.tracing_tree_shared.specs.declared.draft.Refused.{Refused}
use Rattle.tracing_tree_shared.specs.declared.streaming.Numbered.{Numbered}
use Rattle.tracing_tree_shared.specs.Threads.{IsAnsweredShared, IsAnsweredStreaming, Receives, SharedCallsView}

-- the receipts after the answer to a draft
received : (call : Call) (result : Result Reply Refused) (before after : Slips)
    → IfOk result (λ reply. (place : ℕ) × (after ≡ before ++ record { place = place; entry = (call, reply) } ∷ []))
    → OnErr result (after ≡ before) → Receives call (answer_given result) before after
received call (Ok reply) before after accepted refused = accepted
received call (Err cause) before after accepted refused = refused

abbrev way : SharedView → Slips → SharedCallsView
way layer receipts = record { layer = layer; receipts = receipts }

pub shared_answered : {FT : Type 0} (time : FormatTime FT) (given call : Call) → given ≡ call
    → (result : Result Reply Refused) (answer : Result Reply Refusal) → answer ≡ answer_given result
    → (layer : SharedView) (before after : Slips)
    → IfOk result (λ reply. (place : ℕ) × (after ≡ before ++ record { place = place; entry = (given, reply) } ∷ []))
    → OnErr result (after ≡ before)
    → ((answer_given result ≡ Err Memory) ⊎ IsAnsweredOnSome time given (answer_given result))
    → (old : SharedCallsView) → record { layer = layer; receipts = before } ≡ old
    → IsAnsweredShared time call answer old (record { layer = layer; receipts = after })
shared_answered time given call is_call result answer is_answer layer before after accepted refused answered old is_old =
    let ByCall : Call → Type 0 = λ one. IsAnsweredShared time one (answer_given result) (way layer before) (way layer after) in
    let ByAnswer : Result Reply Refusal → Type 0 = λ one. IsAnsweredShared time call one (way layer before) (way layer after) in
    let ByOld : SharedCallsView → Type 0 = λ one. IsAnsweredShared time call answer one (way layer after) in
    let made : ByCall given = record { answered = answered; received = received given result before after accepted refused; same = refl } in
    subst ByOld is_old (subst ByAnswer (sym is_answer) (subst ByCall is_call made))

pub streaming_answered : {W FT : Type 0} (time : FormatTime FT) (output : Output W) (given call : Call) → given ≡ call
    → (result : Result Numbered Refused) (answer : Result Reply Refusal) → answer ≡ answer_numbered result
    → IsStreamedOnSome time output given result → (layer : StreamingView)
    → IsAnsweredStreaming time output call answer layer layer
streaming_answered time output given call is_call result answer is_answer (old, new, streamed) layer =
    let ByCall : Call → Type 0 = λ one. IsAnsweredStreaming time output one (answer_numbered result) layer layer in
    let ByAnswer : Result Reply Refusal → Type 0 = λ one. IsAnsweredStreaming time output call one layer layer in
    let made : ByCall given = record { answered = inr (old.layered, new.layered, streamed.answered); same = refl } in
    subst ByAnswer (sym is_answer) (subst ByCall is_call made)
