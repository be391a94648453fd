use Rattle.std.proofs.Common.{◌≡◌, ◌++◌, take, string_bytes}
use Rattle.tracing_tree_time.specs.Pieces.{pieces_text}
use Rattle.tracing_tree_base.specs.Extended.{IsExtended}
use Rattle.tracing_tree_time.proofs.pieces.push_pieces.Given as goal

-- the pieces so far
abbrev pub invariant-loop-piece : goal.invariant-loop-piece
invariant-loop-piece l =
    (string_bytes l.out ≡ string_bytes l.initial.out ++ pieces_text (take l.piece-index l.pieces))
    × IsExtended (string_bytes l.initial.out) (string_bytes l.out)
