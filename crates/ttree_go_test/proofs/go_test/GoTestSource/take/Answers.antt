use Rattle.std.proofs.Common.{◌≡◌, Bool, true, false, [], option_map, ap, ◌∙◌, subst}
use Rattle.json.specs.Value.{value_view}
use Rattle.ttree_go_test.specs.GoTest.{GoState, at_action_time, takes_json, takes_value}
use Rattle.ttree_go_test.proofs.GoLines.{emits_known, emits_unknown}
use Rattle.ttree_go_test.proofs.go_test.GoTestSource.take.Goals.{in-Some+in_ok-take_value-in-Some+else-not-branch, in-None+in_ok-take_text-in-None}
use Rattle.ttree_go_test.proofs.go_test.GoTestSource.take.Goals as goal

pub returns-then-not-branch : goal.returns-then-not-branch
returns-then-not-branch c =
    let old = c.args.self.now in
    let value = value_view c.in-Some.value.now in
    let known : c.in_ok-take_value-in-Some.field-0 ≡ false = cc in
    let taken : Bool → Type 0 = λ known. takes_value value old c.take_value.new.self known in
    rw (ap (option_map (λ v. value_view v.now)) c.in-Some.is)
    (emits_unknown (takes_json value (at_action_time value old)) old c.take_value.new.self (subst taken known c.in_ok-take_value-in-Some.ensures))

pub returns : goal.returns
returns c = elim c.match-value.branch [
  | in-Some+in_ok-take_value-in-Some+else-not-branch w ↦
      let old = c.args.self.now in
      let value = value_view w.in-Some.value.now in
      let known : w.in_ok-take_value-in-Some.field-0 ≡ true = cc in
      let taken : Bool → Type 0 = λ known. takes_value value old w.take_value.new.self known in
      rw (ap (option_map (λ v. value_view v.now)) w.in-Some.is)
      (emits_known (takes_json value (at_action_time value old)) old w.take_value.new.self c.emitted.new.self c.emitted.result.items
      (subst taken known w.in_ok-take_value-in-Some.ensures)
      (c.emitted.ensures.emitted ∙ ap (λ (s : GoState). s.calls) w.self-is)
      (c.emitted.ensures.rest ∙ ap (λ (s : GoState). record s { calls = [] }) w.self-is))
  | in-None+in_ok-take_text-in-None w ↦ rw (ap (option_map (λ v. value_view v.now)) w.in-None.is) (
    c.emitted.ensures.emitted ∙ ap (λ (s : GoState). s.calls) (w.self-is ∙ w.in_ok-take_text-in-None.ensures),
    c.emitted.ensures.rest ∙ ap (λ (s : GoState). record s { calls = [] }) (w.self-is ∙ w.in_ok-take_text-in-None.ensures),
  )
]
