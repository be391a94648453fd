-- Spans that were closed one after another.
use Rattle.std.specs.Prelude.{◌≡◌, ℕ, suc, ◌-◌, ◌<◌, Bool, List, length, Option, None, Some, Result, Ok, Err, refl}
use Rattle.std.proofs.Common.{subst, ap, ◌∙◌, arith}
use Rattle.std.proofs.lemmas.Grind.{common_steps}
use Rattle.tracing_tree_base.specs.declared.context.Id.{Id}
use Rattle.tracing_tree_base.specs.declared.context.Moment.{Moment}
use Rattle.tracing_tree_base.specs.declared.context.Refusal.{Refusal}
use Rattle.tracing_tree_layer.specs.declared.call.Call.{Call}
use Rattle.tracing_tree_layer.specs.declared.call.Reply.{Reply}
use Rattle.tracing_tree_tracer.specs.declared.tracer.TraceFault.{TraceFault}
use Rattle.tracing_tree_tracer.specs.Tracers.{TracerView, AreClosed, AreClosedTo, IsClosed, IsClosedAs, current_of, outer_of}

-- the count of the current span's ancestors
pub length-outer : (spans : List Id) → length (outer_of spans) ≡ length spans - 1
length-outer spans = grind (arith, common_steps)

module _ {C N : Type 0} (answers : Call → Result Reply Refusal → C → C → Type 0) (reads : N → Option Moment → Type 0) where
  -- an accepted close leaves the ancestors of the current span
  pub spans-closed : (found : Option Id) (went : Bool) (old new : TracerView C N)
      → IsClosedAs answers reads found (Ok went) old new → new.spans ≡ outer_of old.spans
  spans-closed None went old new (never, same) = cc
  spans-closed (Some id) went old new closed = ap (λ tracer. tracer.spans) closed.left

  -- one was closed, and then the others
  pub closed-more : (depth : ℕ) (old between new : TracerView C N) (given : Result Bool TraceFault) (went : Bool)
      → given ≡ Ok went → (answer : Result (Unit {0}) TraceFault) → depth < length old.spans
      → IsClosed answers reads given old between → AreClosedTo answers reads depth answer between new
      → AreClosedTo answers reads depth answer old new
  closed-more depth old between new given went is_given answer is_deep given_closed others =
      let ByGiven : Result Bool TraceFault → Type 0 = λ one. IsClosed answers reads one old between in
      let closed = subst ByGiven is_given given_closed in
      let left : length between.spans ≡ length old.spans - 1
      = ap length (spans-closed (current_of old.spans) went old between closed) ∙ length-outer old.spans in
      let count : suc (length between.spans - depth) ≡ length old.spans - depth = omega arith in
      let Closed : ℕ → Type 0 = λ n. AreClosed answers reads n answer old new in
      subst Closed count (Ok went, between, closed, others)

  -- the first couldn't be closed
  pub closed-none : (depth : ℕ) (old new : TracerView C N) (given : Result Bool TraceFault) (fault : TraceFault)
      → given ≡ Err fault → (answer : Result (Unit {0}) TraceFault) → answer ≡ Err fault → depth < length old.spans
      → IsClosed answers reads given old new → AreClosedTo answers reads depth answer old new
  closed-none depth old new given fault is_given answer is_answer is_deep given_closed =
      let ByGiven : Result Bool TraceFault → Type 0 = λ one. IsClosed answers reads one old new in
      let count : suc (length old.spans - depth - 1) ≡ length old.spans - depth = omega arith in
      let Closed : ℕ → Type 0 = λ n. AreClosed answers reads n answer old new in
      subst Closed count (Err fault, new, subst ByGiven is_given given_closed, (is_answer, refl))
