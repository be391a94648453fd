use Rattle.std.proofs.Common.{Some, ap, sym, ◌∙◌}
use Rattle.ttree_source.specs.Moments.{moment_read}
use Rattle.ttree_source.proofs.Instants.{moment_at_instant}
use Rattle.ttree_source.proofs.moments.moment_of.Goals as goal

pub returns-in-Ok : goal.returns-in-Ok
returns-in-Ok c =
    sym (ap moment_read (sym c.in-Ok.ensures.value) ∙ ap Some (moment_at_instant c.in-Ok.wall c.since_1970.result c.since_1970.ensures))
