use Rattle.std.proofs.Common.{◌≡◌, ◌+◌, length}
use Rattle.ttree_chrome.specs.Text.{element_depth, nothing_read, scan_from}
use Rattle.ttree_chrome.proofs.text.scan_of.Given as goal

-- the scan continues with the rest
abbrev pub invariant-loop-rest : goal.invariant-loop-rest
invariant-loop-rest l = record {
  place : l.at + length l.rest ≡ length l.fn.text;
  same : scan_from (element_depth l.fn.text) 0 l.fn.text nothing_read ≡ scan_from l.level l.at l.rest l.scan;
}

abbrev pub decreases-loop-rest : goal.decreases-loop-rest
decreases-loop-rest l = length l.rest
