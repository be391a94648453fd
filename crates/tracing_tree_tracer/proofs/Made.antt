-- Calls that were made by a method.
use Rattle.std.specs.Prelude.{◌≡◌, Bool, List, Option, Some, Result, Err}
use Rattle.std.proofs.Common.{subst, sym}
use Rattle.tracing_tree_base.specs.declared.context.Id.{Id}
use Rattle.tracing_tree_base.specs.declared.context.Moment.{Moment}
use Rattle.tracing_tree_base.specs.declared.context.Refusal.{Refusal}
use Rattle.tracing_tree_layer.specs.declared.call.Call.{Call}
use Rattle.tracing_tree_layer.specs.declared.call.Reply.{Reply}
use Rattle.tracing_tree_tracer.specs.declared.tracer.TraceFault.{TraceFault}
use Rattle.tracing_tree_tracer.specs.declared.tracer.TraceFault.TheVariants.{Refused}
use Rattle.tracing_tree_tracer.specs.Tracers.{TracerView, IsClosedAs, Leaves, Made, MadeAt, reply_as}

module _ {C : Type 0} (answers : Call → Result Reply Refusal → C → C → Type 0) where
  -- the call that was made is this one, with this answer, and on this value
  pub made_as : (given call : Call) → given ≡ call → (result answer : Result Reply Refusal) → result ≡ answer
      → (inside old new : C) → inside ≡ old → answers given result inside new
      → Made answers call old new answer
  made_as given call is_call result answer is_answer inside old new is_old made =
      let ByCall : Call → Type 0 = λ one. Made answers one inside new result in
      let ByAnswer : Result Reply Refusal → Type 0 = λ one. Made answers call inside new one in
      let ByOld : C → Type 0 = λ one. Made answers call one new answer in
      subst ByOld is_old (subst ByAnswer is_answer (subst ByCall is_call made))

  -- the same at a moment that was reported
  pub made_at : (reads : Option Moment → Type 0) (call : Moment → Call) (moment : Moment) → reads (Some moment)
      → (given : Call) → given ≡ call moment → (result answer : Result Reply Refusal) → result ≡ answer
      → (inside old new : C) → inside ≡ old → answers given result inside new
      → MadeAt answers reads call old new answer
  made_at reads call moment moment_read given is_call result answer is_answer inside old new is_old made =
      (moment, moment_read, made_as given (call moment) is_call result answer is_answer inside old new is_old made)

-- a method whose call was refused makes no other call
pub leaves_refused : {C N A : Type 0}
    (MadeFrom : C → C → Result Reply Refusal → Type 0) (Silent : Type 0)
    (after : Result A TraceFault → List Id) (reply : A → Reply) (old new : TracerView C N) (refusal : Refusal)
    (result : Result A TraceFault) → result ≡ Err (Refused refusal)
    → MadeFrom old.layered new.layered (Err refusal)
    → new ≡ record old { layered = new.layered; spans = after (Err (Refused refusal)) }
    → Leaves MadeFrom Silent (after result) (reply_as reply result) old new
leaves_refused {A = A} MadeFrom Silent after reply old new refusal result is_refused made left =
    let ByResult : Result A TraceFault → Type 0 = λ one. Leaves MadeFrom Silent (after one) (reply_as reply one) old new in
    subst ByResult (sym is_refused) (record { made = made; left = left })

-- the span that was closed is the current one
pub closed_as : {C N : Type 0} (answers : Call → Result Reply Refusal → C → C → Type 0) (reads : N → Option Moment → Type 0) (found : Option Id)
    (id : Id) → found ≡ Some id → (answer : Result Bool TraceFault) (old new : TracerView C N)
    → IsClosedAs answers reads (Some id) answer old new → IsClosedAs answers reads found answer old new
closed_as answers reads found id is_found answer old new closed =
    let ByFound : Option Id → Type 0 = λ one. IsClosedAs answers reads one answer old new in
    subst ByFound (sym is_found) closed
