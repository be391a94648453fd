use Rattle.std.proofs.Common.{◌≡◌, length, reverse}
use Rattle.ttree_chrome.specs.Tree.{stepped_all}
use Rattle.ttree_chrome.proofs.tree.Tree.step_all.Given as goal

-- the others are left to be drawn
abbrev pub invariant-loop-item : goal.invariant-loop-item
invariant-loop-item l =
    stepped_all (reverse l.fn.items.items) l.fn.self ≡ stepped_all (reverse l.items.items) l.self

abbrev pub decreases-loop-item : goal.decreases-loop-item
decreases-loop-item l = length l.items.items
