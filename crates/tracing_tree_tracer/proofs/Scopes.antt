-- What was done within a span.
use Rattle.std.specs.Prelude.{◌≡◌, ℕ, List, Result, Ok, Err, refl}
use Rattle.std.proofs.Common.{subst, sym}
use Rattle.tracing_tree_base.specs.declared.context.Id.{Id}
use Rattle.tracing_tree_base.specs.declared.field.Field.{Field}
use Rattle.tracing_tree_tracer.specs.declared.tracer.TraceFault.{TraceFault}
use Rattle.tracing_tree_tracer.specs.declared.spans.Spans.{Ghosts as Spans}
use Rattle.tracing_tree_tracer.specs.Within.{AfterOpen, IsDoneWithin, Joins}

module _ {T E : Type 0} (gives : TraceFault → E → Type 0) where
  pub joins-ok : (given : Result T E) (closed : Result (Unit {0}) TraceFault) (value : T) (nothing : Unit {0})
      → given ≡ Ok value → closed ≡ Ok nothing → Joins gives given closed (Ok value)
  joins-ok given closed value nothing is_done is_closed =
      let ByClosed : Result (Unit {0}) TraceFault → Type 0 = λ one. Joins gives (Ok value) one (Ok value) in
      let ByGiven : Result T E → Type 0 = λ one. Joins gives one closed (Ok value) in
      subst ByGiven (sym is_done) (subst ByClosed (sym is_closed) refl)

  pub joins-fault : (given : Result T E) (closed : Result (Unit {0}) TraceFault) (value : T) (fault : TraceFault) (error : E)
      → given ≡ Ok value → closed ≡ Err fault → gives fault error → Joins gives given closed (Err error)
  joins-fault given closed value fault error is_done is_closed is_given =
      let ByClosed : Result (Unit {0}) TraceFault → Type 0 = λ one. Joins gives (Ok value) one (Err error) in
      let ByGiven : Result T E → Type 0 = λ one. Joins gives one closed (Err error) in
      subst ByGiven (sym is_done) (subst ByClosed (sym is_closed) (error, is_given, refl))

  pub joins-error : (given : Result T E) (closed : Result (Unit {0}) TraceFault) (error : E) → given ≡ Err error
      → Joins gives given closed (Err error)
  joins-error given closed error is_failed =
      let ByGiven : Result T E → Type 0 = λ one. Joins gives one closed (Err error) in
      subst ByGiven (sym is_failed) refl

  -- the span was opened, this was done in it, and it was closed
  pub done-within : {S : Type 0} (spans : Spans S) (Does : S → Result T E → S → Type 0) (name : List ℕ) (fields : List Field)
      (answer : Result T E) (old begun ended new : S) (opened : Result Id TraceFault) (id : Id) → opened ≡ Ok id
      → spans.opens name fields opened old begun
      → (given : Result T E) → Does begun given ended
      → (depth : ℕ) → depth ≡ spans.depth_of old
      → (closed : Result (Unit {0}) TraceFault) → spans.closes_to depth closed ended new
      → Joins gives given closed answer → IsDoneWithin gives spans Does name fields answer old new
  done-within {S = S} spans Does name fields answer old begun ended new opened id is_open opens given does depth is_deep closed closes joins =
      let ByOpened : Result Id TraceFault → Type 0
      = λ one. AfterOpen gives spans Does (spans.depth_of old) one answer begun new in
      let ByDepth : ℕ → Type 0 = λ one. spans.closes_to one closed ended new in
      (opened, begun, opens, subst ByOpened (sym is_open) (given, ended, closed, does, subst ByDepth is_deep closes, joins))
