use Rattle.std.proofs.Common.{◌≡◌, ◌++◌, take, string_bytes}
use Rattle.tracing_tree_time.specs.Pieces.{groups_text}
use Rattle.tracing_tree_base.specs.Extended.{IsExtended}
use Rattle.tracing_tree_time.proofs.pieces.push_groups.Given as goal

-- the groups so far
abbrev pub invariant-loop-pieces : goal.invariant-loop-pieces
invariant-loop-pieces l =
    (string_bytes l.out ≡ string_bytes l.initial.out ++ groups_text (take l.pieces-index l.groups))
    × IsExtended (string_bytes l.initial.out) (string_bytes l.out)
