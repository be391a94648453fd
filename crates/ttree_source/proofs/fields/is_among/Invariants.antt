use Rattle.std.proofs.Common.{◌≡◌, bytes_eq, map, drop}
use Rattle.std.specs.List.{list_any}
use Rattle.ttree_source.proofs.fields.is_among.Given as goal

-- what holds of the rest holds of all
abbrev pub invariant-loop-key : goal.invariant-loop-key
invariant-loop-key l =
    list_any (bytes_eq l.text) (map (λ key. key.now) l.keys)
    ≡ list_any (bytes_eq l.text) (map (λ key. key.now) (drop l.key-index l.keys))
