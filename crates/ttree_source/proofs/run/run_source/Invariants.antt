use Rattle.std.proofs.Common.{◌+◌, ◌≤◌}
use Rattle.ttree_source.proofs.Interpreted.{IsKnownSoFar}
use Rattle.ttree_source.proofs.run.run_source.Given as goal

-- each line before this one is counted at most once, and the calls of these lines were made
abbrev pub invariant-loop-number : goal.invariant-loop-number
invariant-loop-number g l = record {
  room : l.unknown + 1 ≤ l.number;
  so_far : IsKnownSoFar g.C.Calls.answers g.C.Calls.flushes g.S.Source.takes g.S.Source.value_problem (g.L.LineInput.remaining l.fn.lines) (g.L.LineInput.remaining l.lines)
      l.fn.source l.source l.number l.unknown (g.N.Notes.noted l.fn.notes) (g.N.Notes.noted l.notes) l.fn.receiver l.receiver;
}
