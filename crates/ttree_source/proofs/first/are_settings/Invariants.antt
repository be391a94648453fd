use Rattle.std.proofs.Common.{◌≡◌, length}
use Rattle.json.specs.Value.{members_view}
use Rattle.ttree_source.specs.First.{are_settings}
use Rattle.ttree_source.proofs.first.are_settings.Given as goal

-- what holds of the rest holds of all
abbrev pub invariant-loop-rest : goal.invariant-loop-rest
invariant-loop-rest l = are_settings (members_view l.fn.members) ≡ are_settings (members_view l.rest)

abbrev pub decreases-loop-rest : goal.decreases-loop-rest
decreases-loop-rest l = length l.rest
