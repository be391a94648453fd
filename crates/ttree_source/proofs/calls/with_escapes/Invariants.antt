use Rattle.std.proofs.Common.{◌≡◌, ◌++◌, IsUtf8, string_bytes}
use Rattle.ttree_source.specs.Calls.{shown_text}
use Rattle.ttree_source.proofs.calls.with_escapes.Given as goal

-- what is made so far and the drawn form of the rest are the string's drawn form
abbrev pub invariant-loop-c : goal.invariant-loop-c
invariant-loop-c l =
    IsUtf8 l.c-iterator.rest.now
    × (string_bytes l.out ++ shown_text l.c-iterator.rest.now ≡ shown_text l.fn.text)
