-- How tests are nested: by their names, among those that run.
use Rattle.std.specs.Prelude.{◌≡◌, ◌<◌, ◌⊎◌, ⊤, ℕ, true, false, List, [], ◌∷◌, ◌++◌, length, Option, Some, None, is_some, codes}
use Rattle.tracing_tree_base.specs.declared.context.Id.{Id}
use Rattle.ttree_source.specs.Marks.{is_empty}
use Rattle.ttree_go_test.specs.GoTest.{GoState, Tests, span_of_test, tests_of}
use Rattle.ttree_go_test.specs.Names.{named}
use Rattle.tracing_tree_layer.specs.declared.call.Call.{Call}
use Rattle.tracing_tree_layer.specs.declared.call.Call.TheVariants.{New, Clone, Record, Event, Close}

-- a test is nested in another if its name is that one's name, a `/` and more
pub record IsIn (test outer : List ℕ) : Type 0 where
  pub named : is_empty outer ≡ false
  pub rest : List ℕ
  pub whole : test ≡ outer ++ codes "/" ++ rest

-- This test runs and has this span, and no test that is nearer has one.
pub record IsNearest (tests : Tests) (test outer : List ℕ) (span : Id) : Type 0 where
  pub inside : IsIn test outer
  pub shows : span_of_test tests outer ≡ Some span
  pub nearest : (other : List ℕ) → IsIn test other → length outer < length other →
      span_of_test tests other ≡ None

-- no test that it is nested in runs and has a span
abbrev pub IsAlone : Tests → List ℕ → Type 0
IsAlone tests test = (outer : List ℕ) → IsIn test outer → span_of_test tests outer ≡ None

-- The span of the nearest test that it is nested in and that runs and has a span; otherwise that of
-- the package.
abbrev pub IsParent : Tests → List ℕ → Option Id → Type 0
IsParent tests test parent =
    ((outer : List ℕ) × (span : Id) × IsNearest tests test outer span × (parent ≡ Some span))
    ⊎ (IsAlone tests test × (parent ≡ span_of_test tests []))

-- a test, or one that it is nested in
abbrev pub IsAtOrIn : List ℕ → List ℕ → Type 0
IsAtOrIn test name = (name ≡ test) ⊎ IsIn test name

-- Of what runs, this takes what a test prints: the test itself, otherwise the nearest that it is
-- nested in, otherwise with an empty name the package.
pub record TakesPrinted (tests : Tests) (test name : List ℕ) : Type 0 where
  pub runs : (name ≡ []) ⊎ (IsAtOrIn test name × (is_some (named name tests) ≡ true))
  pub nearest : (other : List ℕ) → IsAtOrIn test other → length name < length other →
      named other tests ≡ None

-- a package is at the root, and a test in its parent
abbrev pub IsPlace : Tests → List ℕ → Option Id → Type 0
IsPlace tests name parent =
    ((is_empty name ≡ true) × (parent ≡ None))
    ⊎ ((is_empty name ≡ false) × IsParent tests name parent)

-- a span opens in this parent, or a line is an event in the span of the test itself
abbrev pub IsPlacedCall : Option Id → Option Id → Call → Type 0
IsPlacedCall parent own (New attributes context) = context.current ≡ parent
IsPlacedCall parent own (Event event context) = (context.current ≡ own) × (is_some own ≡ true)
IsPlacedCall parent own (Clone id) = ⊥
IsPlacedCall parent own (Record id fields) = ⊥
IsPlacedCall parent own (Close id context) = ⊥

abbrev pub ArePlacedCalls : Option Id → Option Id → List Call → Type 0
ArePlacedCalls parent own [] = ⊤
ArePlacedCalls parent own (call ∷ calls) =
    IsPlacedCall parent own call × ArePlacedCalls parent own calls

-- What a step adds for a test. The calls are those of the test itself, of the nearest that it is
-- nested in and that runs, or of the package: its span opens in its place, and its lines are events
-- in its span.
pub record PlacesCalls (path test : List ℕ) (s t : GoState) : Type 0 where
  pub name : List ℕ
  pub takes : TakesPrinted (tests_of path s) test name
  pub parent : Option Id
  pub place : IsPlace (tests_of path s) name parent
  pub calls : List Call
  pub adds : t.calls ≡ s.calls ++ calls
  pub placed : ArePlacedCalls parent (span_of_test (tests_of path t) name) calls
