use Rattle.std.proofs.Common.{◌≡◌, true, false, sym, rules}
use Rattle.ttree_go_test.specs.Texts.{is_frame, without_line_end}
use Rattle.ttree_go_test.proofs.go_test.GoTest.emit_line.Goals as goal

pub returns-then-is_frame : goal.returns-then-is_frame
returns-then-is_frame c =
    let e : is_frame c.args.owner.now.test (without_line_end c.args.text.now) ≡ true = cc in
    rw e (search rules)

pub returns : goal.returns
returns c =
    let e : is_frame c.args.owner.now.test (without_line_end c.args.text.now) ≡ false = cc in
    rw (e, sym c.in_ok-open.ensures) (search rules)
