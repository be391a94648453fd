use Rattle.std.proofs.Common.{option_map, ap}
use Rattle.json.specs.Value.{value_view}
use Rattle.ttree_go_test.specs.GoTest.{at_action_time, takes_json}
use Rattle.ttree_go_test.proofs.FailedLines.{took}
use Rattle.ttree_go_test.proofs.failed.show.Goals as goal

pub returns-in_ok-take_value-in-Some : goal.returns-in_ok-take_value-in-Some
returns-in_ok-take_value-in-Some c =
    let old = c.args.shown.now in
    let value = value_view c.in-Some.value.now in
    rw (ap (option_map (λ v. value_view v.now)) c.in-Some.is)
    (took (takes_json value (at_action_time value old)) old c.take_value.new.self _ c.in_ok-take_value-in-Some.ensures)
