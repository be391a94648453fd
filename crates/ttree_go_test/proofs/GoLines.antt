-- Lines of Go's tests.
use Rattle.std.proofs.Common.{◌≡◌, ℕ, Bool, true, false, List, [], ◌∷◌, ◌++◌, Option, Some, None, option_map, sym, ap, subst, ◌∙◌, append-nil, append_assoc}
use Rattle.json.specs.Json.{Json}
use Rattle.tracing_tree_base.specs.declared.context.Id.{Id}
use Rattle.tracing_tree_layer.specs.declared.call.Call.{Call}
use Rattle.ttree_source.specs.Source.{Emits}
use Rattle.ttree_go_test.specs.declared.go_test.running.Running.{Running}
use Rattle.ttree_go_test.specs.declared.go_test.tally.Ending.{Ending}
use Rattle.ttree_go_test.specs.GoTest.{GoState, Tests, at_action_time, handed_out, left_one, left_over, takes_json, takes_timed, takes_value, takes_value_as, test_placed}

pub emits_unknown : (state : Option GoState) (old new : GoState) → takes_value_as state old new false → Emits (option_map handed_out state) old new None
emits_unknown None old new h = h.0
emits_unknown (Some state) old new h = cc

pub emits_known : (state : Option GoState) (old new after : GoState) (calls : List Call) → takes_value_as state old new true →
    calls ≡ new.calls → after ≡ record new { calls = [] } → Emits (option_map handed_out state) old after (Some calls)
emits_known None old new after calls h emitted rest = cc
emits_known (Some state) old new after calls h emitted rest = (emitted ∙ ap (λ (s : GoState). s.calls) h.0, rest ∙ ap (λ (s : GoState). record s { calls = [] }) h.0)

kept_on : (state : Option GoState) (value : Json) (old left : GoState) (known : Bool) → takes_value_as state (at_action_time value old) left known → known ≡ true →
    takes_value_as state old left known
kept_on (Some state) value old left known h is = h
kept_on None value old left false h is = cc
kept_on None value old left true h is = cc

put_back : (state : Option GoState) (value : Json) (old left new : GoState) (known : Bool) → takes_value_as state (at_action_time value old) left known → known ≡ false →
    new ≡ record left { moment = old.moment } → takes_value_as state old new known
put_back None value old left new known h is back = (back ∙ ap (λ (s : GoState). record s { moment = old.moment }) h.0, h.1)
put_back (Some state) value old left new true h is back = cc
put_back (Some state) value old left new false h is back = cc

-- a line that is known stays taken at its own time
pub taken_on : (value : Json) (old at left : GoState) (known : Bool) → at ≡ at_action_time value old → takes_timed value at left known → known ≡ true →
    takes_value value old left known
taken_on value old at left known on h is =
    let taken : GoState → Type 0 = λ s. takes_value_as (takes_json value s) s left known in
    kept_on (takes_json value (at_action_time value old)) value old left known (subst taken on h) is

-- an unknown line leaves nothing, not even its time
pub taken_back : (value : Json) (old at left new : GoState) (known : Bool) → at ≡ at_action_time value old → takes_timed value at left known → known ≡ false →
    new ≡ record left { moment = old.moment } → takes_value value old new known
taken_back value old at left new known on h is back =
    let taken : GoState → Type 0 = λ s. takes_value_as (takes_json value s) s left known in
    put_back (takes_json value (at_action_time value old)) value old left new known (subst taken on h) is back

-- the test of the last name ends first, and is nested in all others
pub from_the_last : (ending : Ending) (root : Option Id) (earlier tests : Tests) (name : List ℕ) (one : Running) (s : GoState) →
    left_over ending root earlier (tests ++ (name, one) ∷ []) s ≡ left_over ending root earlier tests (left_one ending (test_placed root (earlier ++ tests) one) s)
from_the_last ending root earlier [] name one s = ap (λ others. left_one ending (test_placed root others one) s) (sym (append-nil earlier))
from_the_last ending root earlier (test ∷ later) name one s =
    ap (left_one ending (test_placed root earlier test.1))
    (from_the_last ending root (earlier ++ test ∷ []) later name one s
    ∙ ap (λ others. left_over ending root (earlier ++ test ∷ []) later (left_one ending (test_placed root others one) s)) (append_assoc earlier (test ∷ []) later))
