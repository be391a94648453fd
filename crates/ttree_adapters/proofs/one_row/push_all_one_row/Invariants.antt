use Rattle.std.proofs.Common.{◌≡◌, ◌++◌, IsUtf8, flat_map, string_bytes}
use Rattle.std.specs.Str.{chars}
use Rattle.ttree_adapters.specs.OneRow.{one_row_char}
use Rattle.ttree_adapters.proofs.one_row.push_all_one_row.Given as goal

-- what is written so far, and then the rest, are all
abbrev pub invariant-loop-c : goal.invariant-loop-c
invariant-loop-c l =
    IsUtf8 l.c-iterator.rest.now
    × (string_bytes l.out ++ flat_map one_row_char (chars l.c-iterator.rest.now)
    ≡ string_bytes l.fn.out ++ flat_map one_row_char (chars l.fn.text))
