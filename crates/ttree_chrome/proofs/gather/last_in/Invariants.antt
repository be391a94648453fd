use Rattle.std.proofs.Common.{◌≡◌, ◌≤◌, length, take}
use Rattle.ttree_chrome.specs.Gather.{last_in}
use Rattle.ttree_chrome.proofs.gather.last_in.Given as goal

-- no item from this place on is in the lane
abbrev pub invariant-loop-at : goal.invariant-loop-at
invariant-loop-at l = record {
  place : l.at ≤ length l.fn.begun;
  same : last_in l.fn.begun l.fn.lane ≡ last_in (take l.at l.fn.begun) l.fn.lane;
}

abbrev pub decreases-loop-at : goal.decreases-loop-at
decreases-loop-at l = l.at
