use Rattle.std.proofs.Common.{◌≡◌, map}
use Rattle.ttree_adapters.specs.OneRow.{one_row_call}
use Rattle.ttree_adapters.proofs.one_row.all_in_one_row.Given as goal

-- what was made so far are the calls that were taken
abbrev pub invariant-loop-call : goal.invariant-loop-call
invariant-loop-call l = l.made.items ≡ map one_row_call l.yielded
