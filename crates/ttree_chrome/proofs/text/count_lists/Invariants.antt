use Rattle.std.proofs.Common.{◌≡◌, ◌+◌, length}
use Rattle.json.specs.Find.{InMembers}
use Rattle.json.specs.Json.{Members}
use Rattle.ttree_chrome.specs.Text.{lists_among}
use Rattle.ttree_chrome.proofs.text.count_lists.Given as goal

-- the others are still to be counted
abbrev pub invariant-loop-key : goal.invariant-loop-key
invariant-loop-key l =
    (all : Members) → InMembers l.fn.reader all
    → (others : Members) × InMembers l.reader others × (lists_among all ≡ l.count + lists_among others)

abbrev pub decreases-loop-key : goal.decreases-loop-key
decreases-loop-key l = length l.reader
