use Rattle.std.proofs.Common.{◌≡◌}
use Rattle.std.proofs.iter.Next as it
use Rattle.std.specs.Iterator.{EndsFrom, items_left}
use Rattle.tracing_tree_layer.specs.Difference.Steps.{CanCallDifference, difference_remaining, both_steps, difference_compare, AllMatch}
use Rattle.tracing_tree_layer.proofs.difference.DifferenceIterIterator.next.Given as goal

-- the pairs so far match, and `compare` stays
abbrev pub invariant-loop-left : goal.invariant-loop-left
invariant-loop-left g l =
    it.Ran (CanCallDifference g.L.Iterator.can_next g.R.Iterator.can_next g.R.Iterator.remaining (goal.C-IsAlwaysCallable g))
    (EndsFrom (difference_remaining g.R.Iterator.remaining)) (items_left (difference_remaining g.R.Iterator.remaining))
    (both_steps g.L.Iterator.next_gives g.R.Iterator.next_gives)
    (AllMatch g.C.Fn g.U.PartialEq.eq (difference_compare l.initial.self)) l.initial.self l.self
    × (difference_compare l.self ≡ difference_compare l.initial.self)

abbrev pub decreases-loop-left : goal.decreases-loop-left
decreases-loop-left g l = items_left (difference_remaining g.R.Iterator.remaining) l.self
