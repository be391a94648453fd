use Rattle.std.proofs.Common.{◌≡◌, length}
use Rattle.ttree_source.specs.Blanks.{first_byte}
use Rattle.ttree_source.proofs.blanks.first_byte.Given as goal

abbrev pub invariant-loop-rest : goal.invariant-loop-rest
invariant-loop-rest l = first_byte l.fn.text ≡ first_byte l.rest

abbrev pub decreases-loop-rest : goal.decreases-loop-rest
decreases-loop-rest l = length l.rest
