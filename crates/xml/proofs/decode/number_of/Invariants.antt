use Rattle.std.proofs.Common.{◌≡◌, length}
use Rattle.xml.specs.Decoded.{number_from}
use Rattle.xml.proofs.decode.number_of.Given as goal

-- the rest of the digits continues what is read
abbrev pub invariant-loop-rest : goal.invariant-loop-rest
invariant-loop-rest l = number_from l.radix 0 l.fn.digits ≡ number_from l.radix l.number l.rest

abbrev pub decreases-loop-rest : goal.decreases-loop-rest
decreases-loop-rest l = length l.rest
