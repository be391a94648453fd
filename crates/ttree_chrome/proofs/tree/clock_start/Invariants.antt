use Rattle.std.proofs.Common.{◌≡◌, ◌≤◌, ◌^◌, drop}
use Rattle.std.specs.Prelude.{min}
use Rattle.ttree_chrome.specs.Tree.{clock_start}
use Rattle.ttree_chrome.proofs.tree.clock_start.Given as goal

-- the others are still to be read
abbrev pub invariant-loop-item : goal.invariant-loop-item
invariant-loop-item l = record {
  same : clock_start l.fn.items ≡ min l.start (clock_start (drop l.item-index l.items));
  small : l.start ≤ 2 ^ 63;
}
