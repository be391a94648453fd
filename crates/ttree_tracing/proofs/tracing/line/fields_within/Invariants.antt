use Rattle.std.proofs.Common.{◌≡◌, length}
use Rattle.ttree_tracing.specs.TracingLine.{fields_within}
use Rattle.ttree_tracing.proofs.tracing.line.fields_within.Given as goal

-- what holds of the rest holds of all
abbrev pub invariant-loop-rest : goal.invariant-loop-rest
invariant-loop-rest l = fields_within l.fn.first l.fn.fields ≡ fields_within l.rest l.fn.fields

abbrev pub decreases-loop-rest : goal.decreases-loop-rest
decreases-loop-rest l = length l.rest
