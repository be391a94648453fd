use Rattle.std.proofs.Common.{◌≡◌, ◌∷◌, flat_map, take, string_bytes}
use Rattle.tracing_tree_base.specs.Field.{escaped}
use Rattle.tracing_tree_base.proofs.field.quoted.Given as goal

-- the quote, and the characters so far
abbrev pub invariant-loop-byte : goal.invariant-loop-byte
invariant-loop-byte l = string_bytes l.out ≡ 34 ∷ flat_map escaped (take l.byte-index l.byte-items)
