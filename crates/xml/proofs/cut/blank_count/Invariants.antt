use Rattle.std.proofs.Common.{◌≡◌, ◌+◌, length}
use Rattle.xml.specs.Cut.{blank_count}
use Rattle.xml.proofs.cut.blank_count.Given as goal

-- what is counted, and then the blanks of the rest
abbrev pub invariant-loop-rest : goal.invariant-loop-rest
invariant-loop-rest l = record {
  place : l.count + length l.rest ≡ length l.fn.bytes;
  same : blank_count l.fn.bytes ≡ l.count + blank_count l.rest;
}

abbrev pub decreases-loop-rest : goal.decreases-loop-rest
decreases-loop-rest l = length l.rest
