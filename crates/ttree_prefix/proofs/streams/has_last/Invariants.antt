use Rattle.std.proofs.Common.{◌≡◌, length}
use Rattle.ttree_prefix.specs.Streams.{has_last}
use Rattle.ttree_prefix.proofs.streams.has_last.Given as goal

abbrev pub invariant-loop-rest : goal.invariant-loop-rest
invariant-loop-rest l = has_last l.fn.prefix l.fn.streams ≡ has_last l.fn.prefix l.rest

abbrev pub decreases-loop-rest : goal.decreases-loop-rest
decreases-loop-rest l = length l.rest
