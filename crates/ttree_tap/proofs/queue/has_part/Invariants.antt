use Rattle.std.proofs.Common.{◌≡◌, length}
use Rattle.ttree_tap.specs.Queue.{has_part}
use Rattle.ttree_tap.proofs.queue.has_part.Given as goal

abbrev pub invariant-loop-rest : goal.invariant-loop-rest
invariant-loop-rest l = has_part l.fn.part l.fn.text ≡ has_part l.fn.part l.rest

abbrev pub decreases-loop-rest : goal.decreases-loop-rest
decreases-loop-rest l = length l.rest
