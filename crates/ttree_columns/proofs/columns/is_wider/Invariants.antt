use Rattle.std.proofs.Common.{◌≡◌, ◌≤◌, IsUtf8}
use Rattle.std.specs.Str.{chars}
use Rattle.ttree_columns.specs.Columns.{is_wider, start}
use Rattle.ttree_columns.proofs.columns.is_wider.Given as goal

-- the rest decides
abbrev pub invariant-loop-c : goal.invariant-loop-c
invariant-loop-c l =
    IsUtf8 l.c-iterator.rest.now × (l.place.column ≤ l.fn.width)
    × (is_wider l.fn.width l.place (chars l.c-iterator.rest.now) ≡ is_wider l.fn.width start (chars l.fn.line))
