use Rattle.std.proofs.Common.{◌≡◌, ◌++◌, length, map}
use Rattle.ttree_adapters.specs.Short.{short_field}
use Rattle.ttree_adapters.proofs.short.short_fields.Given as goal

-- what was made so far, and what becomes of the rest, are all
abbrev pub invariant-loop-rest : goal.invariant-loop-rest
invariant-loop-rest l = map short_field l.fn.fields ≡ l.made.items ++ map short_field l.rest

abbrev pub decreases-loop-rest : goal.decreases-loop-rest
decreases-loop-rest l = length l.rest
