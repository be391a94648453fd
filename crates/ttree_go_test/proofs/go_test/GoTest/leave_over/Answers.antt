use Rattle.std.proofs.Common.{[], sym, ap, ◌∙◌}
use Rattle.ttree_go_test.specs.GoTest.{left_over}
use Rattle.ttree_go_test.proofs.GoLines.{from_the_last}
use Rattle.ttree_go_test.proofs.go_test.GoTest.leave_over.Goals as goal

pub loop-tests-preserved : goal.loop-tests-preserved
loop-tests-preserved c =
    let ending = c.args.ending in
    let root = c.args.package_span in
    let earlier = c.take_last.new.self in
    let s = c.loop-tests.self in
    let taken = rw c.in-Some.is at c.in_ok-one.ensures.one in
    c.loop-tests.invariant ∙ ap (λ tests. left_over ending root [] tests s) taken.1
    ∙ from_the_last ending root [] earlier taken.0 c.in-Some.one s ∙ ap (left_over ending root [] earlier) (sym c.in_ok-leave_placed.ensures)
