use Rattle.std.proofs.Common.{◌≡◌, ◌+◌, length}
use Rattle.std.specs.List.{position_or_len}
use Rattle.xml.specs.Cut.{ends_at}
use Rattle.xml.proofs.cut.length_until.Given as goal

-- what is counted, and then what comes first in the rest
abbrev pub invariant-loop-rest : goal.invariant-loop-rest
invariant-loop-rest l = record {
  place : l.count + length l.rest ≡ length l.fn.bytes;
  same : position_or_len (ends_at l.until) l.fn.bytes ≡ l.count + position_or_len (ends_at l.until) l.rest;
}

abbrev pub decreases-loop-rest : goal.decreases-loop-rest
decreases-loop-rest l = length l.rest
