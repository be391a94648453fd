use Rattle.std.proofs.Common.{◌≡◌, bytes_eq, map, drop}
use Rattle.std.specs.List.{list_any}
use Rattle.ttree_logs.proofs.logs.used.is_among.Given as goal

-- what holds of the rest holds of all
abbrev pub invariant-loop-one : goal.invariant-loop-one
invariant-loop-one l =
    list_any (bytes_eq l.key) (map (λ k. k.now) l.keys)
    ≡ list_any (bytes_eq l.key) (map (λ k. k.now) (drop l.one-index l.keys))
