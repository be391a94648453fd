use Rattle.jiff.specs.ZoneView.{plain_zone}
use Rattle.tracing_tree_time.proofs.DateTexts.{fixed_timer}
use Rattle.tracing_tree_time.proofs.local.LocalDateTime.with_offset.Goals as goal

pub returns-clause-timer : goal.returns-clause-timer
returns-clause-timer c = fixed_timer c.args.offset (plain_zone c.fixed.result) c.args.higher_precision c.fixed.ensures
