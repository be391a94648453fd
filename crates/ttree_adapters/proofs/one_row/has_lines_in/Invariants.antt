use Rattle.std.proofs.Common.{◌≡◌, length}
use Rattle.std.specs.List.{list_any}
use Rattle.ttree_adapters.specs.OneRow.{has_lines}
use Rattle.ttree_adapters.proofs.one_row.has_lines_in.Given as goal

-- what holds of the rest holds of all
abbrev pub invariant-loop-rest : goal.invariant-loop-rest
invariant-loop-rest l = list_any has_lines l.fn.calls ≡ list_any has_lines l.rest

abbrev pub decreases-loop-rest : goal.decreases-loop-rest
decreases-loop-rest l = length l.rest
