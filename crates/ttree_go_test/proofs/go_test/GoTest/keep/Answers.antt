use Rattle.std.proofs.Common.{◌≡◌, ap, ◌∙◌, subst}
use Rattle.std.specs.Prelude.{OnOk}
use Rattle.ttree_go_test.specs.Names.{put}
use Rattle.ttree_go_test.specs.GoTest.{GoState, test_kept, tests_of, with_package, without_package}
use Rattle.ttree_go_test.proofs.go_test.GoTest.keep.Goals as goal

pub returns : goal.returns
unfolding test_kept
returns c =
    let s = c.args.self.now in
    let one = c.args.one in
    let path : c.as_str.result.now ≡ one.path = c.as_str.ensures ∙ c.in_ok-path.ensures.cases in
    let again : c.as_str-3.result.now ≡ one.path = c.as_str-3.ensures ∙ c.in_ok-path.ensures.cases in
    let name : c.as_bytes.result.now ≡ one.test = c.as_bytes.ensures.value ∙ c.as_str-2.ensures ∙ c.in_ok-name.ensures.cases in
    let tests : c.in_ok-tests.tests ≡ tests_of one.path s = c.in_ok-tests.ensures.tests ∙ ap (λ path. tests_of path s) path in
    let others : c.take_package.new.self ≡ without_package one.path s = c.in_ok-tests.ensures.rest ∙ ap (λ path. without_package path s) path in
    let more : c.put.new.self ≡ put one.test one (tests_of one.path s) = c.in_ok-put.ensures ∙ (λ i. put (name i) one (tests i)) in
    let done : GoState → Type 0 = λ left. OnOk c.put_package.result (c.put_package.new.self ≡ left) in
    subst done (λ i. with_package (again i) (more i) (others i)) c.put_package.ensures
