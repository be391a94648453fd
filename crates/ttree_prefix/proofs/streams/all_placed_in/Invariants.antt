use Rattle.std.proofs.Common.{◌≡◌, map}
use Rattle.ttree_prefix.specs.Streams.{placed_in}
use Rattle.ttree_prefix.proofs.streams.all_placed_in.Given as goal

-- what was made so far are the calls that were taken, each event in the span
abbrev pub invariant-loop-call : goal.invariant-loop-call
invariant-loop-call l = l.made.items ≡ map (placed_in l.fn.span) l.yielded
