use Rattle.std.proofs.Common.{◌≡◌, map}
use Rattle.ttree_adapters.specs.LineFields.{call_with}
use Rattle.ttree_adapters.proofs.line_fields.all_with.Given as goal

-- what was made so far are the calls that were taken, with the fields
abbrev pub invariant-loop-call : goal.invariant-loop-call
invariant-loop-call l = l.made.items ≡ map (call_with l.fn.fields) l.yielded
