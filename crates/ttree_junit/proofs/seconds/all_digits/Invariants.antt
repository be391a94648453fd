use Rattle.std.proofs.Common.{◌≡◌, length}
use Rattle.ttree_junit.specs.Seconds.{all_digits}
use Rattle.ttree_junit.proofs.seconds.all_digits.Given as goal

abbrev pub invariant-loop-rest : goal.invariant-loop-rest
invariant-loop-rest l = all_digits l.fn.bytes ≡ all_digits l.rest

abbrev pub decreases-loop-rest : goal.decreases-loop-rest
decreases-loop-rest l = length l.rest
