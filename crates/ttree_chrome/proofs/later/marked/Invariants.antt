use Rattle.std.proofs.Common.{◌≡◌, ◌++◌, List, length, reverse}
use Rattle.ttree_chrome.specs.Later.{marked}
use Rattle.ttree_chrome.specs.declared.gather.Item.{Item}
use Rattle.ttree_chrome.proofs.later.marked.Given as goal

-- those from some place on are marked
abbrev pub invariant-loop-item : goal.invariant-loop-item
invariant-loop-item l =
    (done : List Item) × (l.fn.items.items ≡ l.items.items ++ done)
    × (reverse l.all.items ≡ marked l.fn.min_duration done)

abbrev pub decreases-loop-item : goal.decreases-loop-item
decreases-loop-item l = length l.items.items
