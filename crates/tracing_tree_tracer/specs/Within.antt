-- What is left when something is done within a span.
use Rattle.std.specs.Prelude.{◌≡◌, ℕ, List, Result, Ok, Err}
use Rattle.tracing_tree_base.specs.declared.context.Id.{Id}
use Rattle.tracing_tree_base.specs.declared.field.Field.{Field}
use Rattle.tracing_tree_tracer.specs.declared.tracer.TraceFault.{TraceFault}
use Rattle.tracing_tree_tracer.specs.declared.spans.Spans.{Ghosts as Spans}

module _ {T E : Type 0} (gives : TraceFault → E → Type 0) where
  -- The answer of what was done, joined with that of the closes after it: a failure of the first
  -- counts, otherwise one of the second, turned into an error of the first.
  abbrev pub Joins : Result T E → Result (Unit {0}) TraceFault → Result T E → Type 0
  Joins (Err error) closed answer = answer ≡ Err error
  Joins (Ok value) (Ok nothing) answer = answer ≡ Ok value
  Joins (Ok value) (Err fault) answer = (error : E) × gives fault error × (answer ≡ Err error)

  module _ {S : Type 0} (spans : Spans S) (Does : S → Result T E → S → Type 0) where
    -- A span was opened when this count of spans was open. If that succeeded, this was done in it,
    -- and then all spans beyond them were closed. Otherwise nothing was done.
    abbrev pub AfterOpen : ℕ → Result Id TraceFault → Result T E → S → S → Type 0
    AfterOpen depth (Ok id) answer begun new =
        (given : Result T E) × (ended : S) × (closed : Result (Unit {0}) TraceFault)
        × Does begun given ended × spans.closes_to depth closed ended new
        × Joins given closed answer
    AfterOpen depth (Err fault) answer begun new =
        (error : E) × gives fault error × (answer ≡ Err error) × (new ≡ begun)

    -- this was done within a span
    abbrev pub IsDoneWithin : List ℕ → List Field → Result T E → S → S → Type 0
    IsDoneWithin name fields answer old new =
        (opened : Result Id TraceFault) × (begun : S) × spans.opens name fields opened old begun
        × AfterOpen (spans.depth_of old) opened answer begun new
