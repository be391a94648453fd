use Rattle.std.proofs.Common.{◌≡◌, true, false, ap, ◌∙◌}
use Rattle.json.specs.Value.{value_view}
use Rattle.ttree_go_test.proofs.GoLines.{taken_back, taken_on}
use Rattle.ttree_go_test.proofs.go_test.GoTest.take_value.Goals as goal

pub returns-then-not-is_known : goal.returns-then-not-is_known
returns-then-not-is_known c =
    let left = c.take_timed.new.self in
    let unknown : c.in_ok-is_known.is_known ≡ false = cc in
    taken_back (value_view c.args.value.now) c.args.self.now c.go_on.new.self left c.go_back.new.self c.in_ok-is_known.is_known c.go_on.ensures
    c.in_ok-is_known.ensures unknown (c.go_back.ensures ∙ ap (λ m. record left { moment = m }) c.moment-before.ensures)

pub returns-else-not-is_known : goal.returns-else-not-is_known
returns-else-not-is_known c =
    let known : c.in_ok-is_known.is_known ≡ true = cc in
    taken_on (value_view c.args.value.now) c.args.self.now c.go_on.new.self c.take_timed.new.self c.in_ok-is_known.is_known c.go_on.ensures
    c.in_ok-is_known.ensures known
