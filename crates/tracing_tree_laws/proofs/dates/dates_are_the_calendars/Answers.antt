use Rattle.tracing_tree_time.proofs.CivilLaws.{civil_at-is, IsCivilOn-one}
use Rattle.tracing_tree_laws.proofs.dates.dates_are_the_calendars.Goals as goal

pub returns-clause-shown : goal.returns-clause-shown
returns-clause-shown c = civil_at-is

pub returns-clause-only : goal.returns-clause-only
returns-clause-only c = IsCivilOn-one
