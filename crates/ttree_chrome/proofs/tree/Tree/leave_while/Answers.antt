use Rattle.std.proofs.Common.{sym, ap, ◌∙◌}
use Rattle.ttree_chrome.specs.Tree.{frame_left}
use Rattle.ttree_chrome.proofs.Leaving.{left_step}
use Rattle.ttree_chrome.proofs.tree.Tree.leave_while.Goals as goal

pub loop-frame-preserved : goal.loop-frame-preserved
loop-frame-preserved c =
    c.loop-frame.invariant
    ∙ left_step c.args.until c.in-Some.frame c.loop-frame.self (sym c.in-Some.ensures.frame)
    c.leave.new.self (c.in_ok-leave.ensures ∙ ap (frame_left c.in-Some.frame)
    c.in-Some.ensures.rest)
