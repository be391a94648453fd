use Rattle.std.proofs.Common.{◌≡◌, map}
use Rattle.ttree_prefix.specs.Prefix.{with_prefix}
use Rattle.ttree_prefix.proofs.prefix.with_prefixes.Given as goal

-- what was made so far are the calls that were taken, each with the prefix
abbrev pub invariant-loop-call : goal.invariant-loop-call
invariant-loop-call l = l.made.items ≡ map (with_prefix l.fn.prefix) l.yielded
