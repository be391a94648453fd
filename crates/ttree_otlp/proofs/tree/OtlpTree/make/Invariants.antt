use Rattle.std.proofs.Common.{◌≡◌, List, ◌++◌}
use Rattle.tracing_tree_layer.specs.declared.call.Call.{Call}
use Rattle.ttree_source.specs.Source.{Accepts}
use Rattle.ttree_otlp.specs.Tree.{calls_of_tree, steps_left}
use Rattle.ttree_otlp.proofs.tree.OtlpTree.make.Given as goal

-- the calls so far were accepted, and the others are left
abbrev pub invariant-loop-next : goal.invariant-loop-next
invariant-loop-next g l =
    (made : List Call) × Accepts g.C.Calls.answers g.C.Calls.flushes made l.fn.receiver l.receiver
    × (calls_of_tree l.fn.self ≡ made ++ calls_of_tree l.tree)

abbrev pub decreases-loop-next : goal.decreases-loop-next
decreases-loop-next g l = steps_left l.tree
