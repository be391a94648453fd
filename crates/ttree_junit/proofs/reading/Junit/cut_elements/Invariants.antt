use Rattle.std.proofs.Common.{◌≡◌, ◌-◌, length}
use Rattle.ttree_junit.specs.Reading.{cut_times}
use Rattle.ttree_junit.proofs.reading.Junit.cut_elements.Given as goal

-- the rest of the elements is left to be ended
abbrev pub invariant-loop-element : goal.invariant-loop-element
invariant-loop-element l = record {
  count : l._element-end ≡ length l.fn.self.elements;
  same : cut_times (length l.fn.self.elements) l.fn.self ≡ cut_times (l._element-end - l._element) l.self;
}
