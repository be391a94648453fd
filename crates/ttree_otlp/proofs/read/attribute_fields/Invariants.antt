use Rattle.std.proofs.Common.{◌≡◌, ◌++◌, drop}
use Rattle.json.specs.Value.{items_view}
use Rattle.ttree_otlp.specs.Read.{attribute_fields}
use Rattle.ttree_otlp.proofs.read.attribute_fields.Given as goal

-- what was read, and then what is read of the rest, are all
abbrev pub invariant-loop-attribute : goal.invariant-loop-attribute
invariant-loop-attribute l =
    attribute_fields l.is_event (items_view l.attribute-items)
    ≡ l.fields.items ++ attribute_fields l.is_event (items_view (drop l.attribute-index l.attribute-items))
