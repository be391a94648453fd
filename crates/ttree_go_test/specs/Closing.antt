-- In which order spans close when a package ends.
use Rattle.std.specs.Prelude.{◌≡◌, ◌⊎◌, ⊤, ℕ, true, List, [], ◌∷◌, map, Some, Bool, ◌||◌, bytes_eq, codes}
use Rattle.tracing_tree_base.specs.declared.context.Id.{Id}
use Rattle.tracing_tree_layer.specs.declared.call.Call.{Call}
use Rattle.tracing_tree_layer.specs.declared.call.Call.TheVariants.{New, Clone, Record, Event, Close}
use Rattle.ttree_source.specs.Marks.{is_empty}
use Rattle.ttree_go_test.specs.GoTest.{Tests, span_of_test}
use Rattle.ttree_go_test.specs.Nesting.{IsIn}

-- the actions that end a test or a package
abbrev pub is_end : List ℕ → Bool
is_end action =
    (bytes_eq action (codes "pass") || bytes_eq action (codes "bench"))
    || (bytes_eq action (codes "fail") || bytes_eq action (codes "skip"))

-- the spans that calls close, in order
abbrev pub spans_closed : List Call → List Id
spans_closed [] = []
spans_closed (New attributes context ∷ calls) = spans_closed calls
spans_closed (Clone id ∷ calls) = spans_closed calls
spans_closed (Record id fields ∷ calls) = spans_closed calls
spans_closed (Event event context ∷ calls) = spans_closed calls
spans_closed (Close id context ∷ calls) = id ∷ spans_closed calls

-- a span is below another of its package: below that of the package, whose name is empty, or below
-- that of a test in which it is nested
abbrev pub IsBelow : List ℕ → List ℕ → Type 0
IsBelow test outer = (is_empty outer ≡ true) ⊎ IsIn test outer

-- a span by the name of its test
abbrev pub NamedSpan : Type 0
NamedSpan = List ℕ × Id

-- no span of the list is below this one
abbrev pub NoneBelow : List ℕ → List NamedSpan → Type 0
NoneBelow name [] = ⊤
NoneBelow name (e ∷ es) = (IsBelow e.0 name → ⊥) × NoneBelow name es

-- each span comes after all spans that are below it
abbrev pub InnerFirst : List NamedSpan → Type 0
InnerFirst [] = ⊤
InnerFirst (e ∷ es) = NoneBelow e.0 es × InnerFirst es

-- the list has this span
abbrev pub IsAmong : NamedSpan → List NamedSpan → Type 0
IsAmong span [] = ⊥
IsAmong span (e ∷ es) = (e ≡ span) ⊎ IsAmong span es

-- Calls close the spans of these tests, and each after the spans below it.
pub record ClosesAll (tests : Tests) (calls : List Call) : Type 0 where
  pub spans : List NamedSpan
  pub closes : spans_closed calls ≡ map (λ e. e.1) spans
  pub inner_first : InnerFirst spans
  pub all : (name : List ℕ) (id : Id) → span_of_test tests name ≡ Some id →
      IsAmong (name, id) spans
