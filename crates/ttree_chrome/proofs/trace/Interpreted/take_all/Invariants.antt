use Rattle.std.proofs.Common.{◌≤◌}
use Rattle.json.specs.Find.{InItems}
use Rattle.json.specs.Json.{Items}
use Rattle.ttree_chrome.proofs.Taking.{IsTaken}
use Rattle.ttree_chrome.proofs.trace.Interpreted.take_all.Given as goal

-- the others are still to be read
abbrev pub invariant-loop-number : goal.invariant-loop-number
invariant-loop-number g l = record {
  numbered : 1 ≤ l.number;
  taken : (all : Items) → InItems l.fn.elements all
      → IsTaken all l.fn.self l.elements l.self l.number (g.N.Notes.noted l.fn.notes) (g.N.Notes.noted l.notes);
}
