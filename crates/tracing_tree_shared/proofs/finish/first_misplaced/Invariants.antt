use Rattle.std.proofs.Common.{◌≡◌, None, drop, flat_map}
use Rattle.tracing_tree_shared.specs.Finish.{misplaced, smallest}
use Rattle.tracing_tree_shared.proofs.finish.first_misplaced.Given as goal

abbrev pub invariant-loop-pass : goal.invariant-loop-pass
invariant-loop-pass g l =
    smallest l.first (flat_map (misplaced l.history None) (drop l.pass-index l.passes)) ≡ smallest None (flat_map (misplaced l.history None) l.passes)
