use Rattle.std.proofs.Common.{◌≡◌}
use Rattle.ttree_otlp.specs.Draw.{closed_times}
use Rattle.ttree_otlp.proofs.draw.Tree.close_times.Given as goal

abbrev pub invariant-loop-done : goal.invariant-loop-done
invariant-loop-done l = l.self ≡ closed_times l._done l.fn.self
