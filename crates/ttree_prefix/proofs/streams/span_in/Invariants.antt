use Rattle.std.proofs.Common.{◌≡◌, length}
use Rattle.ttree_prefix.specs.Streams.{stream_span}
use Rattle.ttree_prefix.proofs.streams.span_in.Given as goal

abbrev pub invariant-loop-rest : goal.invariant-loop-rest
invariant-loop-rest l = stream_span l.fn.prefix l.fn.streams ≡ stream_span l.fn.prefix l.rest

abbrev pub decreases-loop-rest : goal.decreases-loop-rest
decreases-loop-rest l = length l.rest
