use Rattle.std.proofs.Common.{◌≡◌, ◌-◌, length}
use Rattle.ttree_junit.specs.Reading.{closed_times}
use Rattle.ttree_junit.proofs.reading.Junit.close_suites.Given as goal

-- the rest of the suites is left to be closed
abbrev pub invariant-loop-suite : goal.invariant-loop-suite
invariant-loop-suite l = record {
  count : l._suite-end ≡ length l.fn.self.suites;
  same : closed_times (length l.fn.self.suites) l.fn.self ≡ closed_times (l._suite-end - l._suite) l.self;
}
