use Rattle.std.proofs.Common.{◌≡◌, ◌∷◌, flat_map, take}
use Rattle.tracing_tree_base.specs.Field.{escaped}
use Rattle.tracing_tree_c.proofs.value.quoted.Given as goal

-- the quote, and the characters so far
abbrev pub invariant-loop-byte : goal.invariant-loop-byte
invariant-loop-byte l = l.out.items ≡ 34 ∷ flat_map escaped (take l.byte-index l.text)
