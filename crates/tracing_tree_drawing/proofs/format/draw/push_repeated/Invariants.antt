use Rattle.std.proofs.Common.{◌≡◌, ◌++◌, string_bytes}
use Rattle.std.specs.List.{repeat}
use Rattle.tracing_tree_base.specs.Extended.{IsExtended}
use Rattle.tracing_tree_drawing.proofs.format.draw.push_repeated.Given as goal

abbrev pub invariant-loop : goal.invariant-loop
invariant-loop l =
    (string_bytes l.out ≡ string_bytes l.initial.out ++ repeat l.counter l.text)
    × IsExtended (string_bytes l.initial.out) (string_bytes l.out)
