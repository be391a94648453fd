use Rattle.std.proofs.Common.{◌≡◌, length}
use Rattle.ttree_otlp.specs.Item.{number_from}
use Rattle.ttree_otlp.proofs.item.number_of.Given as goal

abbrev pub invariant-loop-rest : goal.invariant-loop-rest
invariant-loop-rest l = number_from 0 l.fn.id ≡ number_from l.number l.rest

abbrev pub decreases-loop-rest : goal.decreases-loop-rest
decreases-loop-rest l = length l.rest
