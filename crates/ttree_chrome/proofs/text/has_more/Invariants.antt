use Rattle.std.proofs.Common.{◌≡◌, length}
use Rattle.ttree_chrome.specs.Text.{has_more}
use Rattle.ttree_chrome.proofs.text.has_more.Given as goal

abbrev pub invariant-loop-rest : goal.invariant-loop-rest
invariant-loop-rest l = has_more l.fn.bytes ≡ has_more l.rest

abbrev pub decreases-loop-rest : goal.decreases-loop-rest
decreases-loop-rest l = length l.rest
