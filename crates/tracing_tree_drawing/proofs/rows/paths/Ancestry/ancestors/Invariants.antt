use Rattle.std.proofs.Common.{◌≡◌, ◌-◌, ◌++◌, None, replicate, take}
use Rattle.tracing_tree_drawing.proofs.rows.paths.Ancestry.ancestors.Given as goal

abbrev pub invariant-loop-absent : goal.invariant-loop-absent
invariant-loop-absent l = l.places.items ≡ take l.kept l.self ++ replicate (l._absent - l.kept) None
