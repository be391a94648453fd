use Rattle.std.proofs.Common.{◌≡◌, ◌≤◌, ◌++◌, IsUtf8, string_bytes}
use Rattle.std.specs.Str.{chars, encode_utf8_all}
use Rattle.ttree_columns.specs.Columns.{column_after, fitting, start}
use Rattle.ttree_columns.proofs.columns.push_fitting.Given as goal

-- What is written so far and what fits of the rest are what fits of the line. Both reach the same
-- column.
abbrev pub invariant-loop-c : goal.invariant-loop-c
invariant-loop-c l =
    let rest = chars l.c-iterator.rest.now in
    let line = chars l.fn.line in
    IsUtf8 l.c-iterator.rest.now × (l.place.column ≤ l.fn.width)
    × (string_bytes l.out ++ encode_utf8_all (fitting l.fn.width l.place rest)
    ≡ string_bytes l.fn.out ++ encode_utf8_all (fitting l.fn.width start line))
    × (column_after l.place (fitting l.fn.width l.place rest)
    ≡ column_after start (fitting l.fn.width start line))
