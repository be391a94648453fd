use Rattle.std.proofs.Common.{◌≡◌, ◌++◌, flat_map, length}
use Rattle.json.specs.Value.{value_view}
use Rattle.ttree_adapters.specs.LineFields.{found_fields, member_field}
use Rattle.ttree_adapters.proofs.line_fields.found_fields.Given as goal

-- what was found so far, and what is found of the rest, are all
abbrev pub invariant-loop-rest : goal.invariant-loop-rest
invariant-loop-rest l =
    found_fields (value_view l.fn.value) l.fn.members
    ≡ l.fields.items ++ flat_map (member_field (value_view l.fn.value)) l.rest

abbrev pub decreases-loop-rest : goal.decreases-loop-rest
decreases-loop-rest l = length l.rest
