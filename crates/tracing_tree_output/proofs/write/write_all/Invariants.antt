use Rattle.std.proofs.Common.{◌≡◌, ℕ, ◌<◌, List, [], ◌++◌, IsTrue, length}
use Rattle.std.specs.Io.KnownBytes.{Appends}
use Rattle.tracing_tree_output.proofs.write.write_all.Given as goal

-- what was removed from `rest` was appended
abbrev pub invariant-loop-rest : goal.invariant-loop-rest
invariant-loop-rest g l =
    (done : List ℕ) × (l.bytes ≡ done ++ l.rest)
    × Appends (g.O.Output.contents l.initial.out) (g.O.Output.contents l.out) done
    × (g.O.Output.fault_count l.out ≡ g.O.Output.fault_count l.initial.out)
    × (IsTrue g.O.Output.WHOLE → 0 < length done → l.rest ≡ [])

abbrev pub decreases-loop-rest : goal.decreases-loop-rest
decreases-loop-rest g l = length l.rest
