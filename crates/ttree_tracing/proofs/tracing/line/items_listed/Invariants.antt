use Rattle.std.proofs.Common.{◌≡◌, ◌++◌, drop}
use Rattle.json.specs.Value.{items_view}
use Rattle.ttree_tracing.specs.TracingLine.{items_listed}
use Rattle.ttree_tracing.proofs.tracing.line.items_listed.Given as goal

-- what is read of all is what was read, and then what is read of the rest
abbrev pub invariant-loop-item : goal.invariant-loop-item
invariant-loop-item l =
    items_listed (items_view l.item-items)
    ≡ l.spans.items ++ items_listed (items_view (drop l.item-index l.item-items))
