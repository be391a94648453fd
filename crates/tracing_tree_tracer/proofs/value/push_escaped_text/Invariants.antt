use Rattle.std.proofs.Common.{◌≡◌, ◌++◌, IsUtf8, string_bytes}
use Rattle.tracing_tree_tracer.specs.Values.{escaped_text}
use Rattle.tracing_tree_tracer.proofs.value.push_escaped_text.Given as goal

-- what is pushed so far and the rest are the whole string
abbrev pub invariant-loop-c : goal.invariant-loop-c
invariant-loop-c l =
    IsUtf8 l.c-iterator.rest.now
    × (string_bytes l.out ++ escaped_text l.c-iterator.rest.now
    ≡ string_bytes l.fn.out ++ escaped_text l.fn.text)
