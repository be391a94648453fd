use Rattle.std.proofs.Common.{◌≡◌, ◌++◌, IsUtf8, string_bytes}
use Rattle.ttree_source.specs.JsonText.{quoted_chars}
use Rattle.ttree_source.proofs.json_text.push_quoted_chars.Given as goal

-- what is written so far, and then the rest between quotes, are all
abbrev pub invariant-loop-c : goal.invariant-loop-c
invariant-loop-c l =
    IsUtf8 l.c-iterator.rest.now
    × (string_bytes l.out ++ quoted_chars l.c-iterator.rest.now ≡ string_bytes l.fn.out ++ quoted_chars l.fn.text)
