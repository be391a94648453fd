use Rattle.std.proofs.Common.{◌≡◌, ◌+◌, length}
use Rattle.tracing_tree_c.specs.Entered.{entry_place}
use Rattle.tracing_tree_c.proofs.entered.place_of.Given as goal

-- the rest decides
abbrev pub invariant-loop-last : goal.invariant-loop-last
invariant-loop-last l = (entry_place l.id l.place l.rest ≡ entry_place l.id 0 l.ids) × (l.place + length l.rest ≡ length l.ids)

abbrev pub decreases-loop-last : goal.decreases-loop-last
decreases-loop-last l = length l.rest
