-- Runs of calls.
use Rattle.std.specs.Prelude.{◌≡◌, ◌≢◌, Bool, false, ℕ, true, ◌||◌, List, [], ◌∷◌, ◌++◌, Option, Some, None, Result, Ok, Err}
use Rattle.tracing_tree_drawing.specs.Format.Settings.{Settings}
use Rattle.tracing_tree_time.specs.Clock.{Timer}
use Rattle.tracing_tree_drawing.specs.Format.Picture.{Row, draw}
use Rattle.tracing_tree_base.specs.declared.context.Refusal.{Refusal}
use Rattle.tracing_tree_base.specs.declared.context.Refusal.TheVariants.{Memory, Timer as TimerFault, Writer}
use Rattle.tracing_tree_layer.specs.Layered.State.{State}
use Rattle.tracing_tree_layer.specs.Layered.Step.{turn_of, reply_of, state_after}
use Rattle.tracing_tree_layer.specs.Layered.Refused.{cause_of, takes_no_memory}
use Rattle.tracing_tree_layer.specs.declared.call.Call.{Call}
use Rattle.tracing_tree_layer.specs.declared.call.Reply.{Reply}

-- what a run of calls leaves and draws, and its replies
pub record Run : Type 0 where
  pub state : State
  pub rows : List Row
  pub replies : List Reply

abbrev pub no_call : State → Run
no_call state = record { state = state; rows = []; replies = [] }

-- The state after a refusal: only a fault of the timer or of the writer changes it, and then the
-- layer has failed.
abbrev pub after_refusal : State → Refusal → State
after_refusal state TimerFault = record state { failed = true }
after_refusal state Writer = record state { failed = true }
after_refusal state refusal = state

-- one run and then another, which begins with the state after the first
abbrev pub then_run : Run → (State → Run) → Run
then_run first next =
    let rest = next first.state in
    record rest { rows = first.rows ++ rest.rows; replies = first.replies ++ rest.replies }

-- the calls that were answered with a reply
abbrev pub accepted_calls : List Call → List (Result Reply Refusal) → List Call
accepted_calls (call ∷ calls) (Ok reply ∷ answers) = call ∷ accepted_calls calls answers
accepted_calls (call ∷ calls) (Err refusal ∷ answers) = accepted_calls calls answers
accepted_calls calls answers = []

-- the replies among the answers
abbrev pub replies_among : List (Result Reply Refusal) → List Reply
replies_among [] = []
replies_among (Ok reply ∷ answers) = reply ∷ replies_among answers
replies_among (Err refusal ∷ answers) = replies_among answers

-- the answer to a call if memory suffices and the writer doesn't fail
abbrev pub answer_by_cause : State → Call → Option Refusal → Result Reply Refusal
answer_by_cause state call None = Ok (reply_of state.forest call)
answer_by_cause state call (Some refusal) = Err refusal

-- A refusal has the first cause, or memory ran out, if the call takes memory. `Writer` comes only
-- if there is no cause and there is text to write.
abbrev pub IsRefusedFor : Option Refusal → List ℕ → Bool → Refusal → Type 0
IsRefusedFor cause text without_memory Memory = without_memory ≡ false
IsRefusedFor cause text without_memory Writer = (cause ≡ None) × (text ≢ [])
IsRefusedFor cause text without_memory refusal = cause ≡ Some refusal

module _ (settings : Settings) (timer : Timer) where
  -- ---- runs

  -- an accepted call
  abbrev pub accepted : State → Call → Run
  accepted state call = record {
    state = state_after settings timer state call;
    rows = (turn_of settings timer state.forest state.last call).rows;
    replies = reply_of state.forest call ∷ [];
  }

  -- a call, by the cause for which it is refused, if there is one
  abbrev pub run_by_cause : State → Call → Option Refusal → Run
  run_by_cause state call None = accepted state call
  run_by_cause state call (Some refusal) = no_call (after_refusal state refusal)

  -- one call; a refused call draws nothing
  abbrev pub run_one : State → Call → Run
  run_one state call = run_by_cause state call (cause_of settings timer state call)

  -- these calls, one after another
  abbrev pub run : State → List Call → Run
  run state [] = no_call state
  run state (call ∷ calls) = then_run (run_one state call) (λ next. run next calls)

  -- the drawing of a run's rows
  abbrev pub text_of : State → List Call → List ℕ
  text_of state calls = draw settings (run state calls).rows

  -- ---- answers

  abbrev pub answer_of : State → Call → Result Reply Refusal
  answer_of state call = answer_by_cause state call (cause_of settings timer state call)

  -- the same of each of these calls
  abbrev pub answers_of : State → List Call → List (Result Reply Refusal)
  answers_of state [] = []
  answers_of state (call ∷ calls) =
      answer_of state call ∷ answers_of (run_one state call).state calls

  -- the text of a call
  abbrev pub call_text : State → Call → List ℕ
  call_text state call = draw settings (turn_of settings timer state.forest state.last call).rows

  -- an answer that a call may get; a layer that has failed refuses each call and takes no memory
  abbrev pub MayAnswer : State → Call → Result Reply Refusal → Type 0
  MayAnswer state call (Ok reply) =
      (cause_of settings timer state call ≡ None) × (reply ≡ reply_of state.forest call)
  MayAnswer state call (Err refusal) =
      IsRefusedFor (cause_of settings timer state call) (call_text state call)
      (state.failed || takes_no_memory settings timer state.forest call) refusal

  -- the state after an answer
  abbrev pub state_after_answer : State → Call → Result Reply Refusal → State
  state_after_answer state call (Ok reply) = state_after settings timer state call
  state_after_answer state call (Err refusal) = after_refusal state refusal
