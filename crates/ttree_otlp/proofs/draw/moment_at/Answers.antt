use Rattle.std.proofs.Common.{◌≡◌, ◌-◌, ◌^◌, min, pos, ap, sym, ◌∙◌, arith, rules}
use Rattle.ttree_source.specs.Moments.{moment_at, since_1970}
use Rattle.ttree_source.proofs.Instants.{moment_at_instant}
use Rattle.ttree_otlp.proofs.draw.moment_at.Goals as goal

pub returns-in-Ok : goal.returns-in-Ok
returns-in-Ok c =
    let n = c.args.nanosecond in
    let wall = c.in-Ok.wall in
    let is : wall.nanosecond ≡ pos n = search rules in
    let fits : n ≡ min n (2 ^ 64 - 1) = omega (arith, c.ranges.nanosecond.fits) in
    sym (ap moment_at (sym is) ∙ moment_at_instant wall n (fits ∙ ap since_1970 (sym is)))
