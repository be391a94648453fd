use Rattle.std.proofs.Common.{◌≡◌, ◌++◌, List, length}
use Rattle.std.specs.Vec.Iter.{into_iter_items, into_iter_len}
use Rattle.tracing_tree_layer.specs.declared.call.Call.{Call}
use Rattle.ttree_source.specs.Source.{Accepts}
use Rattle.ttree_source.proofs.run.make.Given as goal

-- the calls so far were accepted
abbrev pub invariant-loop-call : goal.invariant-loop-call
invariant-loop-call g l =
    (done : List Call) × (l.fn.calls.items ≡ done ++ into_iter_items l.call-iterator)
    × Accepts g.C.Calls.answers g.C.Calls.flushes done l.fn.receiver l.receiver
    × (into_iter_len l.call-iterator ≡ length (into_iter_items l.call-iterator))
