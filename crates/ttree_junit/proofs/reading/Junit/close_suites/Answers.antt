use Rattle.std.proofs.Common.{◌≡◌, ◌∙◌, ◌+◌, ◌-◌, suc, ap, sym, arith}
use Rattle.ttree_junit.specs.Reading.{closed_times}
use Rattle.ttree_junit.proofs.reading.Junit.close_suites.Goals as goal

pub loop-suite-preserved : goal.loop-suite-preserved
loop-suite-preserved c =
    let n = c.len-suite-end.result - (c.loop-suite._suite + 1) in
    let fuel : c.len-suite-end.result - c.loop-suite._suite ≡ suc n = omega arith in
    record {
      count = c.loop-suite.invariant.count;
      same = c.loop-suite.invariant.same ∙ ap (λ k. closed_times k c.loop-suite.self) fuel ∙ ap (closed_times n) (sym c.in_ok-close_suite.ensures);
    }
