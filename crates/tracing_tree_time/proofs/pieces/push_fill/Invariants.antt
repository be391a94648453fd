use Rattle.std.proofs.Common.{◌≡◌, ◌++◌, replicate, string_bytes}
use Rattle.tracing_tree_base.specs.Extended.{IsExtended}
use Rattle.tracing_tree_time.proofs.pieces.push_fill.Given as goal

abbrev pub invariant-loop : goal.invariant-loop
invariant-loop l =
    (string_bytes l.out ≡ string_bytes l.initial.out ++ replicate l.counter l.fill)
    × IsExtended (string_bytes l.initial.out) (string_bytes l.out)
