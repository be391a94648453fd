use Rattle.std.proofs.Common.{◌≡◌, ◌++◌, ◌+◌, ◌≤◌, drop, length, vec_len}
use Rattle.std.specs.Prelude.{vec_capacity}
use Rattle.tracing_tree_c.specs.Foreign.{IsUtf8Fields, foreign_fields}
use Rattle.tracing_tree_c.proofs.foreign.many_fields_in.Given as goal

-- what is read so far and the rest are all, all can be read exactly if the rest can, and there is
-- space for the rest
abbrev pub invariant-loop-field : goal.invariant-loop-field
invariant-loop-field l =
    let rest = drop l.field-index l.given in
    (l.fields.items ++ foreign_fields rest ≡ foreign_fields l.given)
    × (IsUtf8Fields rest → IsUtf8Fields l.given)
    × (IsUtf8Fields l.given → IsUtf8Fields rest)
    × (vec_len l.fields + length rest ≤ vec_capacity l.fields)
