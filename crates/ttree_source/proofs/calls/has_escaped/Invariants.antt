use Rattle.std.proofs.Common.{◌≡◌, IsUtf8}
use Rattle.std.specs.List.{list_any}
use Rattle.std.specs.Str.{chars}
use Rattle.ttree_source.specs.Calls.{is_escaped}
use Rattle.ttree_source.proofs.calls.has_escaped.Given as goal

-- what holds of the rest holds of all
abbrev pub invariant-loop-c : goal.invariant-loop-c
invariant-loop-c l =
    IsUtf8 l.c-iterator.rest.now
    × (list_any is_escaped (chars l.c-iterator.rest.now) ≡ list_any is_escaped (chars l.fn.text))
