use Rattle.std.proofs.Common.{◌≡◌, map}
use Rattle.ttree_adapters.specs.Short.{short_call}
use Rattle.ttree_adapters.proofs.short.all_short.Given as goal

-- what was made so far are the calls that were taken
abbrev pub invariant-loop-call : goal.invariant-loop-call
invariant-loop-call l = l.made.items ≡ map short_call l.yielded
