use Rattle.std.proofs.Common.{rules, ◌≡◌, Bool, true, false, not, refl, sym, ap, ◌∙◌, subst, bytes_eq}
use Rattle.std.specs.Prelude.{OnOk}
use Rattle.std.proofs.lemmas.Slice.Eq.{bytes_eq-Decides}
use Rattle.ttree_go_test.specs.Names.{put}
use Rattle.ttree_go_test.specs.GoTest.{GoState, test_kept, tests_of, with_package, without_package}
use Rattle.ttree_go_test.proofs.go_test.GoTest.keep_as.Goals as goal

same : (b : Bool) → not b ≡ false → b ≡ true
same true h = refl
same false h = sym h

pub returns : goal.returns
unfolding test_kept
returns c =
    let s = c.args.self.now in
    let one = c.args.one in
    let of : not (bytes_eq one.path c.args.path.now) ≡ false = search rules in
    let called : not (bytes_eq one.test c.args.test.now) ≡ false = search rules in
    let path : c.args.path.now ≡ one.path = sym ((bytes_eq-Decides one.path c.args.path.now).0 (same (bytes_eq one.path c.args.path.now) of)) in
    let name : c.as_bytes.result.now ≡ one.test = c.as_bytes.ensures.value ∙ sym ((bytes_eq-Decides one.test c.args.test.now).0 (same (bytes_eq one.test c.args.test.now) called)) in
    let tests : c.in_ok-tests.tests ≡ tests_of one.path s = c.in_ok-tests.ensures.tests ∙ ap (λ path. tests_of path s) path in
    let others : c.take_package.new.self ≡ without_package one.path s = c.in_ok-tests.ensures.rest ∙ ap (λ path. without_package path s) path in
    let more : c.put.new.self ≡ put one.test one (tests_of one.path s) = c.in_ok-put.ensures ∙ (λ i. put (name i) one (tests i)) in
    let done : GoState → Type 0 = λ left. OnOk c.put_package.result (c.put_package.new.self ≡ left) in
    subst done (λ i. with_package (path i) (more i) (others i)) c.put_package.ensures
