use Rattle.std.proofs.Common.{◌≡◌, ◌-◌}
use Rattle.ttree_junit.specs.Seconds.{over_ten}
use Rattle.ttree_junit.proofs.seconds.over_ten.Given as goal

-- the rest of the power is left
abbrev pub invariant-loop-turn : goal.invariant-loop-turn
invariant-loop-turn l = over_ten l.power l.number ≡ over_ten (l.power - l._turn) l.rest
