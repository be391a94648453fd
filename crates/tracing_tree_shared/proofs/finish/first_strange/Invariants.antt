use Rattle.std.proofs.Common.{◌≡◌, ℕ, ◌<◌}
use Rattle.tracing_tree_shared.specs.History.{slips_at}
use Rattle.tracing_tree_shared.proofs.finish.first_strange.Given as goal

abbrev pub invariant-loop-place : goal.invariant-loop-place
invariant-loop-place g l = (other : ℕ) → other < l.place → slips_at l.passes other ≡ 1
