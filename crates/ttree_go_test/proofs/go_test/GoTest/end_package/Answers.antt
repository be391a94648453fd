use Rattle.std.proofs.Common.{◌≡◌, [], option_map, ap, ◌∙◌, subst}
use Rattle.std.specs.Prelude.{OnOk}
use Rattle.ttree_go_test.specs.Names.{without}
use Rattle.ttree_go_test.specs.GoTest.{GoState, Held, all_left_over, held_finished, holds, left_as, left_over, package_counted, package_ended, running_as, tests_of, without_package}
use Rattle.ttree_go_test.proofs.go_test.GoTest.end_package.Goals as goal

pub returns : goal.returns
unfolding package_ended
returns c =
    let path = c.args.path.now in
    let ending = c.args.ending in
    let all : GoState = package_counted ending path c.args.self.now in
    let empty : c.as_bytes.result.now ≡ [] = c.as_bytes.ensures.value in
    let tests : c.in_ok-tests.tests ≡ tests_of path all = c.in_ok-tests.ensures.tests ∙ ap (tests_of path) c.in_ok-count_package.ensures in
    let others : c.take_package.new.self ≡ without_package path all = c.in_ok-tests.ensures.rest ∙ ap (without_package path) c.in_ok-count_package.ensures in
    let own : c.in_ok-package.package ≡ running_as path [] (tests_of path all) = c.in_ok-package.ensures.one ∙ (λ i. running_as path (empty i) (tests i)) in
    let inner : c.take_running.new.tests ≡ without [] (tests_of path all) = c.in_ok-package.ensures.rest ∙ (λ i. without (empty i) (tests i)) in
    let left : c.leave_over.new.self ≡ all_left_over (left_as ending) path all = c.in_ok-leave_over.ensures ∙ (λ i. left_over (c.of_left.ensures i) (own i).span [] (inner i) (others i)) in
    let done : Held → Type 0 = λ h. OnOk c.finish.result (c.finish.new.self ≡ held_finished ending (option_map (λ e. e.now) c.args.elapsed) h) in
    subst done (λ i. holds (own i) (left i)) c.finish.ensures
