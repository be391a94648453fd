use Rattle.std.proofs.Common.{◌≡◌, length}
use Rattle.ttree_prefix.specs.Color.{are_numbers}
use Rattle.ttree_prefix.proofs.color.are_numbers.Given as goal

abbrev pub invariant-loop-rest : goal.invariant-loop-rest
invariant-loop-rest l = are_numbers l.fn.text ≡ are_numbers l.rest

abbrev pub decreases-loop-rest : goal.decreases-loop-rest
decreases-loop-rest l = length l.rest
