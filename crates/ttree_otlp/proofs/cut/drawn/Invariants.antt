use Rattle.std.proofs.Common.{◌≡◌, ◌++◌, List, length}
use Rattle.ttree_otlp.specs.Cut.{drawn, lasts}
use Rattle.ttree_otlp.specs.Nested.{reach_of}
use Rattle.ttree_otlp.specs.declared.walk.Row.{Row}
use Rattle.ttree_otlp.proofs.cut.drawn.Given as goal

-- those from some place on are judged
abbrev pub invariant-loop-row : goal.invariant-loop-row
invariant-loop-row l =
    (done : List Row) × (l.fn.rows.items ≡ l.rows.items ++ done)
    × (l.left ≡ drawn l.cut done) × (l.reach ≡ reach_of (lasts l.cut.min_time) done)

abbrev pub decreases-loop-row : goal.decreases-loop-row
decreases-loop-row l = length l.rows.items
