use Rattle.std.proofs.Common.{sym, ap, ◌∙◌}
use Rattle.ttree_go_test.specs.GoTest.{packages_left}
use Rattle.ttree_go_test.proofs.go_test.GoTest.leave_packages.Goals as goal

pub loop-packages-preserved : goal.loop-packages-preserved
loop-packages-preserved c =
    let later = c.take_first.new.self in
    let s = c.loop-packages.self in
    let taken = rw c.in-Some.is at c.in_ok-tests.ensures.one in
    c.loop-packages.invariant ∙ ap (λ packages. packages_left packages s) taken
    ∙ ap (packages_left later) (sym c.in_ok-leave_package.ensures)
