use Rattle.std.proofs.Common.{◌≡◌, length}
use Rattle.ttree_source.specs.Traces.{after_name}
use Rattle.ttree_source.proofs.traces.after_name.Given as goal

abbrev pub invariant-loop-rest : goal.invariant-loop-rest
invariant-loop-rest l = after_name l.fn.text ≡ after_name l.rest

abbrev pub decreases-loop-rest : goal.decreases-loop-rest
decreases-loop-rest l = length l.rest
