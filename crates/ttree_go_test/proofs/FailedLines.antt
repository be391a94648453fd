-- Lines of Go's tests that are kept.
use Rattle.std.proofs.Common.{◌≡◌, ℕ, Bool, true, false, List, [], Option, Some, None, is_some, option_map, refl, ap, ◌∙◌}
use Rattle.std.specs.Prelude.{◌&&◌, ◌||◌, not, unwrap_or, if◌then◌else◌}
use Rattle.json.specs.Json.{Json}
use Rattle.tracing_tree_layer.specs.declared.call.Call.{Call}
use Rattle.ttree_source.specs.Source.{Step, Emits}
use Rattle.ttree_go_test.specs.GoTest.{GoState, takes_value_as}
use Rattle.ttree_go_test.specs.Failed.{FailedState, Knows, Pending, failed_line_taken, failed_step}

-- a known line is processed, and an unknown one changes nothing
pub took : (state : Option GoState) (old new : GoState) (known : Bool) → takes_value_as state old new known → new ≡ unwrap_or state old
took None old new known h = h.0
took (Some state) old new known h = h.0

-- what is in a set to which a key was added, if it is the key or was in it
pub or-added : (key has : Bool) → (if key then true else has) ≡ (has || key)
or-added true true = refl
or-added true false = refl
or-added false true = refl
or-added false false = refl

-- what is in a set from which a key was removed, if it was in it and isn't the key
pub and-removed : (key has : Bool) → (if key then false else has) ≡ (has && not key)
and-removed true true = refl
and-removed true false = refl
and-removed false true = refl
and-removed false false = refl

module _ (whole after : GoState) (shown : GoState) (packages : List (List ℕ × Pending)) where
  pub knows_as : {X : Type 0} (known : Option (Step GoState)) (items : X → List Call) (emitted : Option X) (is : Bool) → is ≡ is_some emitted → Emits known whole after (option_map items emitted) →
      Knows known (record { whole = whole; shown = shown; packages = packages }) (record { whole = after; shown = shown; packages = packages }) is
  knows_as None items None is e h = (ap (λ w. record { whole = w; shown = shown; packages = packages }) h, e)
  knows_as None items (Some emitted) is e h = absurd h
  knows_as (Some step) items None is e h = absurd h
  knows_as (Some step) items (Some emitted) is e h = (ap (λ w. record { whole = w; shown = shown; packages = packages }) h.1, e)

pub emits_unknown : (known : Option (Step GoState)) (line : List ℕ) (value : Option Json) (old new : FailedState) (is_known : Bool) → is_known ≡ false →
    Knows known old new is_known → Emits (option_map (failed_step line value old) known) old new None
emits_unknown None line value old new is_known e h = h.0
emits_unknown (Some step) line value old new true e h = cc
emits_unknown (Some step) line value old new false e h = cc

pub emits_known : (known : Option (Step GoState)) (line : List ℕ) (value : Option Json) (old counted taken new : FailedState) (emitted : List Call) (is_known : Bool) → is_known ≡ true →
    Knows known old counted is_known → taken ≡ failed_line_taken line value counted → emitted ≡ taken.shown.calls → new ≡ record taken { shown = record taken.shown { calls = [] } } →
    Emits (option_map (failed_step line value old) known) old new (Some emitted)
emits_known None line value old counted taken new emitted false e h line_is emitted_is new_is = cc
emits_known None line value old counted taken new emitted true e h line_is emitted_is new_is = cc
emits_known (Some step) line value old counted taken new emitted is_known e h line_is emitted_is new_is =
    let all : taken ≡ failed_line_taken line value (record old { whole = step.source }) = line_is ∙ ap (failed_line_taken line value) h.0 in (
      emitted_is ∙ ap (λ (s : FailedState). s.shown.calls) all,
      new_is ∙ ap (λ (s : FailedState). record s { shown = record s.shown { calls = [] } }) all,
    )
