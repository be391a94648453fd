use Rattle.std.proofs.Common.{◌≡◌, ◌++◌, IsUtf8, false, string_bytes}
use Rattle.std.specs.Str.{chars}
use Rattle.ttree_tap.specs.Strings.{unescaped_from}
use Rattle.ttree_tap.proofs.strings.push_unescaped.Given as goal

-- what is written so far, and then the rest, are all
abbrev pub invariant-loop-c : goal.invariant-loop-c
invariant-loop-c l =
    IsUtf8 l.c-iterator.rest.now
    × (string_bytes l.out ++ unescaped_from l.is_escaped (chars l.c-iterator.rest.now) ≡ string_bytes l.fn.out ++ unescaped_from false (chars l.fn.text))
