use Rattle.std.proofs.Common.{◌≡◌, Some, Option, option_map, codes, refl, sym, ap, ◌∙◌, subst}
use Rattle.std.specs.Prelude.{IfOk}
use Rattle.json.specs.Value.{value_view}
use Rattle.ttree_go_test.specs.GoTest.{GoState, package_of, acted, takes_json, takes_value_as}
use Rattle.ttree_source.specs.Values.{text_at}
use Rattle.ttree_go_test.proofs.go_test.GoTest.take_timed.Goals as goal

pub returns : goal.returns
returns c =
    let old = c.args.self.now in
    let value = value_view c.args.value.now in
    let action : text_at (codes "Action") value ≡ Some c.in-Some.action.now =
    sym c.text_at.ensures ∙ ap (option_map (λ s. s.now)) c.in-Some.is in
    let path : package_of value ≡ Some c.in-Some-package_of.path.now =
    sym c.package_of.ensures ∙ ap (option_map (λ s. s.now)) c.in-Some-package_of.is in
    let emitted : takes_json value old ≡ acted c.in-Some.action.now c.in-Some-package_of.path.now c.test_of.result.now value old =
    rw (action, path, sym c.test_of.ensures) refl in
    let takes : Option GoState → Type 0 = λ s. IfOk c.act.result (takes_value_as s old c.act.new.self) in
    subst takes (sym emitted) c.act.ensures
