use Rattle.std.proofs.Common.{◌≡◌, length}
use Rattle.ttree_prefix.specs.Streams.{last_span}
use Rattle.ttree_prefix.proofs.streams.last_span.Given as goal

abbrev pub invariant-loop-rest : goal.invariant-loop-rest
invariant-loop-rest l = last_span l.fn.before l.fn.calls ≡ last_span l.span l.rest

abbrev pub decreases-loop-rest : goal.decreases-loop-rest
decreases-loop-rest l = length l.rest
