use Rattle.std.proofs.Common.{◌≡◌, ◌+◌, ◌-◌, ℕ, length}
use Rattle.tracing_tree_drawing.specs.Rows.Paths.{place_at}
use Rattle.tracing_tree_drawing.proofs.rows.paths.Ancestry.open.Given as goal

abbrev pub invariant-loop-self : goal.invariant-loop-self
invariant-loop-self l = (k : ℕ) → place_at l.self-inside.opened.items k ≡ place_at l.initial.self-inside.opened.items k

abbrev pub decreases-loop-self : goal.decreases-loop-self
decreases-loop-self l = l.level + 1 - length l.self-inside.opened.items
