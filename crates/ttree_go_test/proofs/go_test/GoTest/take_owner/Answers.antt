use Rattle.std.proofs.Common.{◌≡◌, List, ℕ, [], ap, ◌∙◌}
use Rattle.ttree_go_test.specs.Names.{without}
use Rattle.ttree_go_test.specs.GoTest.{GoState, Held, Tests, held_test, holds, owner, running_as, span_of_test, test_placed, with_package}
use Rattle.ttree_go_test.proofs.go_test.GoTest.take_owner.Goals as goal

pub returns : goal.returns
unfolding held_test
returns c =
    let path = c.args.path.now in
    let test = c.args.test.now in
    let tests = c.in_ok-tests.tests in
    let left = c.take_package.new.self in
    let name = c.owner-name.result.now in
    let is : name ≡ owner tests test = c.owner-name.ensures ∙ ap (owner tests) c.as_bytes.ensures.value in
    let rest : c.take_running.new.tests ≡ without name tests = c.in_ok-one.ensures.rest in
    let root : c.as_bytes-2.result.now ≡ [] = c.as_bytes-2.ensures.value in
    let others : c.put_package.new.self ≡ with_package path (without name tests) left =
    c.in_ok-put_package.ensures ∙ ap (λ rest. with_package path rest left) rest in
    let root_span : c.span_in.result ≡ span_of_test (without name tests) [] = c.span_in.ensures ∙ (λ i. span_of_test (rest i) (root i)) in
    let one : c.place.new.self ≡ test_placed (span_of_test (without name tests) []) (without name tests) (running_as path name tests) =
    c.in_ok-place.ensures ∙ (λ i. test_placed (root_span i) (rest i) (c.in_ok-one.ensures.one i)) in
    let at : Tests → List ℕ → GoState → Held = λ tests name s.
    let others : Tests = without name tests in
    holds (test_placed (span_of_test others []) others (running_as path name tests)) (with_package path others s) in
    (λ i. holds (one i) (others i)) ∙ ap (λ name. at tests name left) is
    ∙ (λ i. at (c.in_ok-tests.ensures.tests i) (owner (c.in_ok-tests.ensures.tests i) test) (c.in_ok-tests.ensures.rest i))
