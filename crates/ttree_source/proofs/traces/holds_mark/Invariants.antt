use Rattle.std.proofs.Common.{◌≡◌, length}
use Rattle.ttree_source.specs.Traces.{holds_mark}
use Rattle.ttree_source.proofs.traces.holds_mark.Given as goal

-- what holds of the rest holds of all
abbrev pub invariant-loop-rest : goal.invariant-loop-rest
invariant-loop-rest l = holds_mark l.fn.mark l.fn.text ≡ holds_mark l.fn.mark l.rest

abbrev pub decreases-loop-rest : goal.decreases-loop-rest
decreases-loop-rest l = length l.rest
