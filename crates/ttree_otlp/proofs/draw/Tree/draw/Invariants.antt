use Rattle.std.proofs.Common.{◌≡◌, length}
use Rattle.ttree_otlp.specs.Draw.{rows_drawn}
use Rattle.ttree_otlp.proofs.draw.Tree.draw.Given as goal

-- the others are left to be drawn
abbrev pub invariant-loop-row : goal.invariant-loop-row
invariant-loop-row l = rows_drawn l.fn.rows l.fn.self ≡ rows_drawn l.rows l.self

abbrev pub decreases-loop-row : goal.decreases-loop-row
decreases-loop-row l = length l.rows
