use Rattle.std.proofs.Common.{rules, refl, ◌∙◌, Some, None}
use Rattle.std.proofs.iter.Next as it
use Rattle.tracing_tree_layer.specs.Difference.Steps.{difference_compare, Matches, Differs}
use Rattle.tracing_tree_layer.proofs.DifferenceLemmas.{Differs-same, AllMatch-push}
use Rattle.tracing_tree_layer.proofs.difference.DifferenceIterIterator.next.Goals as goal

pub returns-then-differs-clause-steps : goal.returns-then-differs-clause-steps
returns-then-differs-clause-steps g c = (
  c.loop-left.invariant.0.seen,
  Some (c.in-Some.left, c.in-Some.right),
  it.Gave-then c.loop-left.invariant.0 c.in-Some.is c.both.ensures.steps,
  c.loop-left.invariant.0.holds,
  (
    search rules,
    Differs-same g.C.Fn g.U.PartialEq.eq (difference_compare c.args.self.now) _ c.in-Some.left c.in-Some.right
        (c.both.ensures.steps.0 ∙ c.loop-left.invariant.1) (it.if_yes _ _ c.if-differs.true c.differs.ensures),
  ),
)

pub loop-left-preserved-else-differs : goal.loop-left-preserved-else-differs
loop-left-preserved-else-differs g c =
    let f = difference_compare c.both.new.self in
    let same = c.both.ensures.steps.0 ∙ c.loop-left.invariant.1 in
    let differ = Differs g.C.Fn g.U.PartialEq.eq f c.in-Some.left c.in-Some.right in
    let match = Matches g.C.Fn g.U.PartialEq.eq f c.in-Some.left c.in-Some.right in (
      it.again c.loop-left.invariant.0 (c.in-Some.left, c.in-Some.right) c.in-Some.is (c.both.ensures.steps, c.both.ensures.goes)
          (AllMatch-push g.C.Fn g.U.PartialEq.eq (difference_compare c.args.self.now) f c.loop-left.invariant.0.seen (c.in-Some.left, c.in-Some.right) same
          c.loop-left.invariant.0.holds (it.if_no differ match c.if-differs.false c.differs.ensures)),
      same,
    )

pub returns-clause-steps : goal.returns-clause-steps
returns-clause-steps g c = (
  c.loop-left.invariant.0.seen,
  None,
  it.Gave-then c.loop-left.invariant.0 c.in_default.is c.both.ensures.steps,
  c.loop-left.invariant.0.holds,
  refl,
)
