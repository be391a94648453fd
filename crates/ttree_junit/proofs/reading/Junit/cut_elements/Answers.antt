use Rattle.std.proofs.Common.{◌≡◌, ◌∙◌, ◌+◌, ◌-◌, suc, ap, sym, arith}
use Rattle.ttree_junit.specs.Reading.{cut_times}
use Rattle.ttree_junit.proofs.reading.Junit.cut_elements.Goals as goal

pub loop-element-preserved : goal.loop-element-preserved
loop-element-preserved c =
    let n = c.len-element-end.result - (c.loop-element._element + 1) in
    let fuel : c.len-element-end.result - c.loop-element._element ≡ suc n = omega arith in
    record {
      count = c.loop-element.invariant.count;
      same = c.loop-element.invariant.same ∙ ap (λ k. cut_times k c.loop-element.self) fuel ∙ ap (cut_times n) (sym c.in_ok-cut_innermost.ensures);
    }
