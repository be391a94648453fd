use Rattle.std.proofs.Common.{◌≡◌, ◌++◌, length, map}
use Rattle.ttree_adapters.specs.OneRow.{one_row_field}
use Rattle.ttree_adapters.proofs.one_row.one_row_fields.Given as goal

-- what was made so far, and what becomes of the rest, are all
abbrev pub invariant-loop-rest : goal.invariant-loop-rest
invariant-loop-rest l = map one_row_field l.fn.fields ≡ l.made.items ++ map one_row_field l.rest

abbrev pub decreases-loop-rest : goal.decreases-loop-rest
decreases-loop-rest l = length l.rest
