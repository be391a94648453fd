use Rattle.std.proofs.Common.{◌≡◌, length}
use Rattle.ttree_tracing.specs.Tracing.{pending_from}
use Rattle.ttree_tracing.proofs.tracing.pending_count.Given as goal

-- counting on over the rest counts all
abbrev pub invariant-loop-rest : goal.invariant-loop-rest
invariant-loop-rest l = pending_from 0 l.fn.live ≡ pending_from l.count l.rest

abbrev pub decreases-loop-rest : goal.decreases-loop-rest
decreases-loop-rest l = length l.rest
