use Rattle.std.proofs.Common.{◌≡◌, length}
use Rattle.ttree_terminal.specs.Plain.{plain_after}
use Rattle.ttree_terminal.proofs.plain.is_plain.Given as goal

-- the rest decides
abbrev pub invariant-loop-byte : goal.invariant-loop-byte
invariant-loop-byte l = plain_after l.before l.rest ≡ plain_after 194 l.bytes

abbrev pub decreases-loop-byte : goal.decreases-loop-byte
decreases-loop-byte l = length l.rest
