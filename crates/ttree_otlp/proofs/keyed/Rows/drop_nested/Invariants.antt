use Rattle.std.proofs.Common.{◌≡◌, length}
use Rattle.ttree_otlp.specs.Nested.{without_nested}
use Rattle.ttree_otlp.proofs.keyed.Rows.drop_nested.Given as goal

-- the others are left to be judged
abbrev pub invariant-loop-self : goal.invariant-loop-self
invariant-loop-self l = without_nested l.depth l.fn.self ≡ without_nested l.depth l.self

abbrev pub decreases-loop-self : goal.decreases-loop-self
decreases-loop-self l = length l.self
