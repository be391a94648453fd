use Rattle.std.proofs.Common.{◌≡◌, drop}
use Rattle.json.specs.Value.{items_view}
use Rattle.ttree_otlp.specs.Read.{attribute_at}
use Rattle.ttree_otlp.proofs.read.attribute_at.Given as goal

-- the first of the rest is the first of all
abbrev pub invariant-loop-attribute : goal.invariant-loop-attribute
invariant-loop-attribute l =
    attribute_at l.key (items_view l.attribute-items)
    ≡ attribute_at l.key (items_view (drop l.attribute-index l.attribute-items))
