use Rattle.std.proofs.Common.{◌≡◌, length}
use Rattle.std.specs.List.{list_any}
use Rattle.ttree_source.specs.Calls.{is_unprintable}
use Rattle.ttree_source.proofs.calls.has_unprintable.Given as goal

abbrev pub invariant-loop-rest : goal.invariant-loop-rest
invariant-loop-rest l = list_any is_unprintable l.fn.bytes ≡ list_any is_unprintable l.rest

abbrev pub decreases-loop-rest : goal.decreases-loop-rest
decreases-loop-rest l = length l.rest
