use Rattle.std.proofs.Common.{◌≡◌, drop}
use Rattle.ttree_junit.specs.Element.{attribute_in}
use Rattle.ttree_junit.proofs.element.attribute_in.Given as goal

-- what the rest has, all have
abbrev pub invariant-loop-attribute : goal.invariant-loop-attribute
invariant-loop-attribute l =
    attribute_in l.name l.attributes ≡ attribute_in l.name (drop l.attribute-index l.attributes)
