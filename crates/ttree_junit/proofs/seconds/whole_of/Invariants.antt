use Rattle.std.proofs.Common.{◌≡◌, length}
use Rattle.ttree_junit.specs.Seconds.{whole_from}
use Rattle.ttree_junit.proofs.seconds.whole_of.Given as goal

-- the rest of the digits continues what is read
abbrev pub invariant-loop-rest : goal.invariant-loop-rest
invariant-loop-rest l = whole_from 0 l.fn.digits ≡ whole_from l.number l.rest

abbrev pub decreases-loop-rest : goal.decreases-loop-rest
decreases-loop-rest l = length l.rest
