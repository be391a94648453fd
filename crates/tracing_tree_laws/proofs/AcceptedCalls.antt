-- Calls that were accepted are also accepted in a run of only these calls.
use Rattle.std.proofs.Common.{◌≡◌, ◌≤◌, suc, false, List, [], ◌∷◌, ◌++◌, length, Option, Some, None, Result, Ok, Err, refl, sym, ap, subst, ◌∙◌, arith, length-append}
use Rattle.tracing_tree_base.specs.declared.context.Id.{Id}
use Rattle.tracing_tree_base.specs.declared.context.Refusal.{Refusal}
use Rattle.tracing_tree_drawing.specs.Format.Settings.{Settings}
use Rattle.tracing_tree_layer.specs.Layer.Layers.{LayeredView}
use Rattle.tracing_tree_layer.specs.Layered.Headline.{AreAnswered, IsRunOf}
use Rattle.tracing_tree_layer.specs.Layered.Refused.{cause_of}
use Rattle.tracing_tree_layer.specs.Layered.Run.{Run, accepted_calls, replies_among, run, run_by_cause, run_one}
use Rattle.tracing_tree_layer.specs.Layered.Seen.{Seen}
use Rattle.tracing_tree_layer.specs.Layered.State.{State, opening_state}
use Rattle.tracing_tree_layer.specs.declared.call.Call.{Call}
use Rattle.tracing_tree_layer.specs.declared.call.Reply.{Reply}
use Rattle.tracing_tree_laws.specs.ReadBack.{AreAllAccepted}
use Rattle.tracing_tree_time.specs.Clock.{Timer}

-- each call has its answer
pub one_answer_each : {W FT : Type 0} (see : LayeredView W FT → Seen) (calls : List Call) (answers : List (Result Reply Refusal)) (old new : LayeredView W FT) →
    AreAnswered see calls answers old new → length answers ≡ length calls
one_answer_each see [] [] old new h = refl
one_answer_each see [] (answer ∷ answers) old new h = absurd h
one_answer_each see (call ∷ calls) [] old new h = absurd h
one_answer_each see (call ∷ calls) (answer ∷ answers) old new (between, one, rest) = ap (λ n. suc n) (one_answer_each see calls answers between new rest)

-- each accepted call has a reply
one_reply_each : {W FT : Type 0} (see : LayeredView W FT → Seen) (calls : List Call) (answers : List (Result Reply Refusal)) (old new : LayeredView W FT) →
    AreAnswered see calls answers old new → length (replies_among answers) ≡ length (accepted_calls calls answers)
one_reply_each see [] [] old new h = refl
one_reply_each see [] (answer ∷ answers) old new h = absurd h
one_reply_each see (call ∷ calls) [] old new h = absurd h
one_reply_each see (call ∷ calls) (Ok reply ∷ answers) old new (between, one, rest) = ap (λ n. suc n) (one_reply_each see calls answers between new rest)
one_reply_each see (call ∷ calls) (Err refusal ∷ answers) old new (between, one, rest) = one_reply_each see calls answers between new rest

module _ (settings : Settings) (timer : Timer) where
  -- a call has one reply at most
  at_most_one : (state : State) (call : Call) (cause : Option Refusal) → length (run_by_cause settings timer state call cause).replies ≤ 1
  at_most_one state call None = omega arith
  at_most_one state call (Some refusal) = omega arith

  no_more_replies : (state : State) (calls : List Call) → length (run settings timer state calls).replies ≤ length calls
  no_more_replies state [] = omega arith
  no_more_replies state (call ∷ calls) =
      let first : Run = run_one settings timer state call in
      let rest : Run = run settings timer first.state calls in
      omega (arith, length-append first.replies rest.replies, at_most_one state call (cause_of settings timer state call), no_more_replies first.state calls)

  -- a call that has its reply has no cause
  has_no_cause : (state : State) (call : Call) (after : List Call) (cause : Option Refusal) → cause_of settings timer state call ≡ cause →
      (let first = run_by_cause settings timer state call cause in
      length (first.replies ++ (run settings timer first.state after).replies) ≡ suc (length after)) → cause_of settings timer state call ≡ None
  has_no_cause state call after None is replied = is
  has_no_cause state call after (Some refusal) is replied =
      let first : Run = run_by_cause settings timer state call (Some refusal) in
      absurd (omega (arith, replied, no_more_replies first.state after))

  -- if each call has its reply, each is accepted
  each_is_accepted : (state : State) (before : List Call) (call : Call) (after : List Call) →
      length (run settings timer state (before ++ call ∷ after)).replies ≡ length (before ++ call ∷ after) →
      cause_of settings timer (run settings timer state before).state call ≡ None
  each_is_accepted state [] call after replied = has_no_cause state call after (cause_of settings timer state call) refl replied
  each_is_accepted state (one ∷ before) call after replied =
      let first : Run = run_one settings timer state one in
      let rest : Run = run settings timer first.state (before ++ call ∷ after) in
      each_is_accepted first.state before call after
      (omega (arith, replied, length-append first.replies rest.replies, at_most_one state one (cause_of settings timer state one), no_more_replies first.state (before ++ call ∷ after)))

-- so each call is accepted in a run that didn't fail
pub all_accepted : {W FT : Type 0} (see : LayeredView W FT → Seen) (calls : List Call) (answers : List (Result Reply Refusal)) (old new : LayeredView W FT)
    (first : Option Id) → (see old).state ≡ opening_state first → (see new).state.failed ≡ false →
    IsRunOf calls answers (see old) (see new) → AreAnswered see calls answers old new →
    AreAllAccepted (see old).settings (see old).timer first (accepted_calls calls answers)
all_accepted see calls answers old new first began sound ran answered = λ before after call apart.
    let from : Seen = see old in
    let accepted : List Call = accepted_calls calls answers in
    let P : State → Type 0 = λ state. length (run from.settings from.timer state accepted).replies ≡ length accepted in
    let replied : P (opening_state first) = subst P began (sym (ap length (ran.runs sound).replies) ∙ one_reply_each see calls answers old new answered) in
    let Q : List Call → Type 0 = λ cs. length (run from.settings from.timer (opening_state first) cs).replies ≡ length cs in
    each_is_accepted from.settings from.timer (opening_state first) before call after (subst Q apart replied)
