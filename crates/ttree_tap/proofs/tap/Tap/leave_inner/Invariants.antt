use Rattle.std.proofs.Common.{◌≡◌, length}
use Rattle.ttree_tap.specs.Tap.{inner_left}
use Rattle.ttree_tap.proofs.tap.Tap.leave_inner.Given as goal

-- those left now and those left later are all
abbrev pub invariant-loop-self : goal.invariant-loop-self
invariant-loop-self l = inner_left l.fn.column l.fn.self.outer l.fn.self ≡ inner_left l.fn.column l.self.outer l.self

abbrev pub decreases-loop-self : goal.decreases-loop-self
decreases-loop-self l = length l.self.outer
