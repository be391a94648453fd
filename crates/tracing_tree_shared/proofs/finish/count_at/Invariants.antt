use Rattle.std.proofs.Common.{◌≡◌, ◌+◌, ◌≤◌, drop}
use Rattle.tracing_tree_shared.specs.History.{slips_at}
use Rattle.tracing_tree_shared.proofs.finish.count_at.Given as goal

abbrev pub invariant-loop-pass : goal.invariant-loop-pass
invariant-loop-pass g l =
    (l.count + slips_at (drop l.pass-index l.passes) l.place ≡ slips_at l.passes l.place) × (l.count ≤ l.pass-index)
