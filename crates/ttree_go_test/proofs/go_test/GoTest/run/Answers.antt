use Rattle.std.proofs.Common.{◌≡◌, Bool, false, sym, ap, ◌∙◌, subst}
use Rattle.std.specs.Prelude.{OnOk, if◌then◌else◌}
use Rattle.ttree_source.specs.Marks.{is_empty}
use Rattle.ttree_go_test.specs.GoTest.{GoState, Held, above_held, held_opened, holds, new_running, part_emitted, started, test_kept}
use Rattle.ttree_go_test.specs.declared.go_test.running.Running.{Running}
use Rattle.ttree_go_test.proofs.go_test.GoTest.run.Goals as goal

pub returns : goal.returns
returns c =
    let path = c.args.path.now in
    let test = c.args.test.now in
    let empty : is_empty test ≡ false = cc in
    let before : Held = held_opened (part_emitted (above_held path test c.args.self.now)) in
    let parent : Held = started before in
    let shown : holds c.open.new.one c.open.new.self ≡ before = c.in_ok-open.ensures ∙ ap held_opened (c.in_ok-emit_part.ensures ∙ ap part_emitted c.in_ok-owner.ensures) in
    let left : c.keep.new.self ≡ test_kept parent = c.in_ok-keep.ensures ∙ ap (λ (h : Held). test_kept (started h)) shown in
    let done : Running → GoState → Type 0 = λ one s. OnOk c.keep-2.result (c.keep-2.new.self ≡ test_kept (holds one s)) in
    let ends : Bool → Type 0 = λ is_package. OnOk c.keep-2.result (c.keep-2.new.self ≡ (if is_package then test_kept parent else test_kept (holds (new_running path test) (test_kept parent)))) in
    subst ends (sym empty) (subst (done (new_running path test)) left (subst (λ one. done one c.keep.new.self) c.in_ok-begun.ensures c.keep-2.ensures))
