use Rattle.std.proofs.Common.{true, false, sym, ◌∙◌, arith}
use Rattle.ttree_chrome.proofs.LastInLane.{last_before}
use Rattle.ttree_chrome.proofs.gather.last_in.Goals as goal

pub returns-then-same_lane-clause-last : goal.returns-then-same_lane-clause-last
returns-then-same_lane-clause-last c =
    sym (c.loop-at.invariant.same
    ∙ last_before c.args.begun.now c.loop-at.at c.args.lane _ true c.loop-at-test.true c.loop-at.invariant.place
    c.if-same_lane.ensures)

pub loop-at-preserved : goal.loop-at-preserved
loop-at-preserved c = record {
  place = omega (arith, c.loop-at.invariant.place);
  same = c.loop-at.invariant.same
      ∙ last_before c.args.begun.now c.loop-at.at c.args.lane _ false c.loop-at-test.true c.loop-at.invariant.place
      c.if-same_lane.ensures;
}
