use Rattle.std.proofs.Common.{◌≡◌, ◌++◌, List, length}
use Rattle.ttree_otlp.specs.Nested.{reach_of}
use Rattle.ttree_otlp.specs.Select.{is_selected, selected_of}
use Rattle.ttree_otlp.specs.declared.walk.Row.{Row}
use Rattle.ttree_otlp.proofs.select.selected_of.Given as goal

-- those from some place on are judged
abbrev pub invariant-loop-row : goal.invariant-loop-row
invariant-loop-row l =
    (done : List Row) × (l.fn.rows.items ≡ l.rows.items ++ done)
    × (l.kept ≡ selected_of l.selection done) × (l.reach ≡ reach_of (is_selected l.selection) done)

abbrev pub decreases-loop-row : goal.decreases-loop-row
decreases-loop-row l = length l.rows.items
