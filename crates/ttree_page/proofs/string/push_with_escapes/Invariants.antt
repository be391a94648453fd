use Rattle.std.proofs.Common.{◌≡◌, ◌++◌, flat_map, string_bytes}
use Rattle.ttree_page.specs.Lines.{escaped_byte}
use Rattle.ttree_page.proofs.string.push_with_escapes.Given as goal
use lib.Utf8.{encodes}

-- the characters so far
abbrev pub invariant-loop-c : goal.invariant-loop-c
invariant-loop-c l = string_bytes l.out ≡ string_bytes l.fn.out ++ flat_map escaped_byte (encodes l.yielded)
