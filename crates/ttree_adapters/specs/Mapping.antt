-- Calls that become others, line by line.
use Rattle.std.specs.Prelude.{◌≡◌, ℕ, List, Option, Some, None, option_map}
use Rattle.json.specs.Json.{Json}
use Rattle.tracing_tree_layer.specs.declared.call.Call.{Call}
use Rattle.ttree_source.specs.Source.{Step}

-- what the calls of a line became, and the mapping afterwards
pub record Made (M : Type 0) : Type 0 where
  pub calls : List Call
  pub mapping : M

-- a source, and what its calls become
pub record MappedState (S M : Type 0) : Type 0 where
  pub source : S
  pub mapping : M

module _ {M : Type 0} (makes : M → Option Json → List Call → Made M) where
  -- calls become the same whatever the value of their line is
  abbrev pub MapsAnyValue : M → Type 0
  MapsAnyValue mapping =
      (value : Option Json) (calls : List Call) → makes mapping value calls ≡ makes mapping None calls

  abbrev pub some_made : Made M → Made (Option M)
  some_made made = record { calls = made.calls; mapping = Some made.mapping }

  -- without a mapping, calls are unchanged
  abbrev pub made_if : Option M → Option Json → List Call → Made (Option M)
  made_if (Some mapping) value calls = some_made (makes mapping value calls)
  made_if None value calls = record { calls = calls; mapping = None }

-- two mappings
pub record Both (A B : Type 0) : Type 0 where
  pub first : A
  pub second : B

module _ {A B : Type 0} where
  -- the second mapping gets what the first one makes
  abbrev pub makes_both : (A → Option Json → List Call → Made A)
      → (B → Option Json → List Call → Made B) → Both A B → Option Json → List Call
      → Made (Both A B)
  makes_both makes_first makes_second both value calls =
      let one = makes_first both.first value calls in
      let other = makes_second both.second value one.calls in
      record {
        calls = other.calls;
        mapping = record { first = one.mapping; second = other.mapping };
      }

module _ {S M : Type 0} where
  abbrev pub mapped_step : Made M → S → Step (MappedState S M)
  mapped_step made source = record {
    calls = made.calls;
    source = record { source = source; mapping = made.mapping };
  }

  -- a line means what its calls become
  abbrev pub mapped_takes : (S → List ℕ → Option Json → Option (Step S))
      → (M → Option Json → List Call → Made M) → MappedState S M → List ℕ → Option Json
      → Option (Step (MappedState S M))
  mapped_takes takes makes it line value =
      option_map (λ (step : Step S). mapped_step (makes it.mapping value step.calls) step.source)
      (takes it.source line value)

  abbrev pub mapped_ends : (S → List Call) → (M → Option Json → List Call → Made M)
      → MappedState S M → List Call
  mapped_ends ends makes it = (makes it.mapping None (ends it.source)).calls

  abbrev pub mapped_ended : (S → S) → (S → List Call) → (M → Option Json → List Call → Made M)
      → MappedState S M → MappedState S M
  mapped_ended ended ends makes it = record {
    source = ended it.source;
    mapping = (makes it.mapping None (ends it.source)).mapping;
  }

module _ {M : Type 0} where
  -- calls stay as they are
  abbrev pub unchanged : M → Option Json → List Call → Made M
  unchanged mapping value calls = record { calls = calls; mapping = mapping }
