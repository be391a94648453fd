use Rattle.std.proofs.Common.{◌≡◌, length, map}
use Rattle.json.specs.Value.{value_view}
use Rattle.ttree_logs.specs.LogLine.{first_key}
use Rattle.ttree_logs.proofs.logs.line.first_key.Given as goal

-- the first of the rest is the first of all
abbrev pub invariant-loop-rest : goal.invariant-loop-rest
invariant-loop-rest l =
    first_key (map (λ k. k.now) l.fn.keys) (value_view l.value) ≡ first_key (map (λ k. k.now) l.rest) (value_view l.value)

abbrev pub decreases-loop-rest : goal.decreases-loop-rest
decreases-loop-rest l = length l.rest
