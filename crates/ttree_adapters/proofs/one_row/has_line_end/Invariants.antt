use Rattle.std.proofs.Common.{◌≡◌, length}
use Rattle.std.specs.List.{list_any}
use Rattle.ttree_adapters.specs.OneRow.{is_line_end}
use Rattle.ttree_adapters.proofs.one_row.has_line_end.Given as goal

-- what holds of the rest holds of all
abbrev pub invariant-loop-rest : goal.invariant-loop-rest
invariant-loop-rest l = list_any is_line_end l.fn.text ≡ list_any is_line_end l.rest

abbrev pub decreases-loop-rest : goal.decreases-loop-rest
decreases-loop-rest l = length l.rest
