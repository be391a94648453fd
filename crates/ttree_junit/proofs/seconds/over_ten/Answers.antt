use Rattle.std.proofs.Common.{◌≡◌, ◌∙◌, ◌+◌, ◌-◌, suc, ap, arith}
use Rattle.ttree_junit.specs.Seconds.{over_ten}
use Rattle.ttree_junit.proofs.seconds.over_ten.Goals as goal

pub loop-turn-preserved : goal.loop-turn-preserved
loop-turn-preserved c =
    let n = c.args.power - (c.loop-turn._turn + 1) in
    let fuel : c.args.power - c.loop-turn._turn ≡ suc n = omega arith in
    c.loop-turn.invariant ∙ ap (λ k. over_ten k c.loop-turn.rest) fuel
