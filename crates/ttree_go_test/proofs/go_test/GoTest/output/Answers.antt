use Rattle.std.proofs.Common.{◌≡◌, ap, ◌∙◌, subst}
use Rattle.std.specs.Prelude.{OnOk}
use Rattle.ttree_go_test.specs.GoTest.{Held, held_test, holds, started, string_printed, test_kept}
use Rattle.ttree_go_test.proofs.go_test.GoTest.output.Goals as goal

pub returns : goal.returns
returns c =
    let text = c.args.text.now in
    let first : Held = held_test c.args.path.now c.args.test.now c.args.self.now in
    let emitted : holds c.print_string.new.owner c.print_string.new.self ≡ string_printed c.args.kind text (started first) =
    c.in_ok-print_string.ensures ∙ ap (λ (h : Held). string_printed c.args.kind text (started h)) c.in_ok-owner.ensures in
    let done : Held → Type 0 = λ h. OnOk c.keep_as.result (c.keep_as.new.self ≡ test_kept h) in
    subst done emitted c.keep_as.ensures
