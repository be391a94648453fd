use Rattle.std.proofs.Common.{◌≡◌, false, true, option_map, subst}
use Rattle.std.specs.Prelude.{OnOk}
use Rattle.ttree_source.specs.Marks.{is_empty}
use Rattle.ttree_go_test.specs.GoTest.{GoState, Held, held_test, holds, package_ended, test_ended}
use Rattle.ttree_go_test.proofs.go_test.GoTest.end.Goals as goal

pub returns : goal.returns
returns c =
    let path = c.args.path.now in
    let test = c.args.test.now in
    let empty : is_empty test ≡ false = cc in
    let owner : GoState → Type 0 = λ s. holds c.in_ok-owner.owner c.take_owner.new.self ≡ held_test path test s in
    let done : Held → Type 0 = λ h. OnOk c.end_test.result (c.end_test.new.self ≡ test_ended c.args.ending test (option_map (λ e. e.now) c.args.elapsed) h) in
    rw empty (subst done (subst owner c.in_ok-count.ensures c.in_ok-owner.ensures) c.end_test.ensures)

pub returns-then-is_empty : goal.returns-then-is_empty
returns-then-is_empty c =
    let path = c.args.path.now in
    let test = c.args.test.now in
    let empty : is_empty test ≡ true = cc in
    let done : GoState → Type 0 = λ s. OnOk c.end_package.result (c.end_package.new.self ≡ package_ended c.args.ending path (option_map (λ e. e.now) c.args.elapsed) s) in
    rw empty (subst done c.in_ok-end_build.ensures c.end_package.ensures)
