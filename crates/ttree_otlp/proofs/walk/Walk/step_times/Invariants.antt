use Rattle.std.proofs.Common.{◌≡◌}
use Rattle.ttree_otlp.specs.Walk.{stepped_times}
use Rattle.ttree_otlp.proofs.walk.Walk.step_times.Given as goal

abbrev pub invariant-loop-done : goal.invariant-loop-done
invariant-loop-done l = l.self ≡ stepped_times l._done l.fn.self
