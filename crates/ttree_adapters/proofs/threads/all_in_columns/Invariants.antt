use Rattle.std.proofs.Common.{◌≡◌, map}
use Rattle.ttree_adapters.specs.Threads.{call_in_column}
use Rattle.ttree_adapters.proofs.threads.all_in_columns.Given as goal

-- what was made so far are the calls that were taken, each in its column
abbrev pub invariant-loop-call : goal.invariant-loop-call
invariant-loop-call l = l.made.items ≡ map call_in_column l.yielded
