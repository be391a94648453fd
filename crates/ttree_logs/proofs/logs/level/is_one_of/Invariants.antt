use Rattle.std.proofs.Common.{◌≡◌, drop, map}
use Rattle.ttree_logs.specs.LogLine.{is_one_of}
use Rattle.ttree_logs.proofs.logs.level.is_one_of.Given as goal

-- what holds of the rest holds of all
abbrev pub invariant-loop-name : goal.invariant-loop-name
invariant-loop-name l =
    is_one_of (map (λ n. n.now) l.names) l.word ≡ is_one_of (map (λ n. n.now) (drop l.name-index l.names)) l.word
