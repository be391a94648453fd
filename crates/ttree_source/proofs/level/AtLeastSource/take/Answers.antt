use Rattle.std.proofs.Common.{rules}
use Rattle.ttree_source.proofs.Leveled.{emits_shown, emits_unknown}
use Rattle.ttree_source.proofs.level.AtLeastSource.take.Goals.{in-Some, in-None}
use Rattle.ttree_source.proofs.level.AtLeastSource.take.Goals as goal

pub returns : goal.returns
returns g c = elim c.match-branch-2.branch [
  | in-Some w ↦ search (rules, emits_shown)
  | in-None w ↦ search (rules, emits_unknown)
]
