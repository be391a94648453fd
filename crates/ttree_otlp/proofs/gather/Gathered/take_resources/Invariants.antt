use Rattle.std.proofs.Common.{◌≡◌, drop}
use Rattle.json.specs.Value.{items_view}
use Rattle.ttree_otlp.specs.Gather.{resources_taken}
use Rattle.ttree_otlp.proofs.gather.Gathered.take_resources.Given as goal

-- the others are left to be taken
abbrev pub invariant-loop-resource : goal.invariant-loop-resource
invariant-loop-resource l =
    resources_taken (items_view l.resource-items) l.fn.self
    ≡ resources_taken (items_view (drop l.resource-index l.resource-items)) l.self
