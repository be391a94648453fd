use Rattle.std.proofs.Common.{◌≡◌, length}
use Rattle.json.specs.Find.{InMembers}
use Rattle.json.specs.Json.{Members}
use Rattle.ttree_chrome.specs.Text.{list_among, lists_among}
use Rattle.ttree_chrome.proofs.text.find_list.Given as goal

-- the last list is among the others
abbrev pub invariant-loop-left : goal.invariant-loop-left
invariant-loop-left l =
    (all : Members) → InMembers l.fn.reader all → l.fn.count ≡ lists_among all
    → (others : Members) × InMembers l.reader others × (l.left ≡ lists_among others) × (list_among all ≡ list_among others)

abbrev pub decreases-loop-left : goal.decreases-loop-left
decreases-loop-left l = length l.reader
