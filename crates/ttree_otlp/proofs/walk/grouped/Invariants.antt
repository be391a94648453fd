use Rattle.std.proofs.Common.{◌≡◌, ◌++◌, List, length}
use Rattle.ttree_otlp.specs.Walk.{grouped}
use Rattle.ttree_otlp.specs.declared.item.Item.{Item}
use Rattle.ttree_otlp.proofs.walk.grouped.Given as goal

-- those from some place on are grouped
abbrev pub invariant-loop-item : goal.invariant-loop-item
invariant-loop-item l =
    (done : List Item) × (l.fn.items.items ≡ l.items.items ++ done) × (l.groups ≡ grouped done)

abbrev pub decreases-loop-item : goal.decreases-loop-item
decreases-loop-item l = length l.items.items
