use Rattle.std.proofs.Common.{arith}
use Rattle.std.proofs.lemmas.Grind.{common_steps}
use Rattle.tracing_tree_time.proofs.Numbers.{filled-digit, filled-step}
use Rattle.tracing_tree_time.proofs.pieces.+push_number.Goals as goal
use Rattle.tracing_tree_time.proofs.pieces.+push_number.Goals.{then-number-lt10+in_ok-push_fill, else-number-lt10+in_ok-push_number}

pub returns-clause-ok : goal.returns-clause-ok
returns-clause-ok t c =
    elim c.if-number-lt10.branch [
      | then-number-lt10+in_ok-push_fill w ↦
          let digits = filled-digit c.args.fill c.args.places c.args.number w.if-number-lt10.true in
          grind (arith, common_steps, digits)
      | else-number-lt10+in_ok-push_number w ↦
          let digits = filled-step c.args.fill c.args.places c.args.number w.if-number-lt10.false c.ranges.number.fits in
          grind (arith, common_steps, digits)
    ]
