use Rattle.std.proofs.Common.{◌≡◌, IsUtf8}
use Rattle.std.specs.Str.{chars}
use Rattle.ttree_adapters.specs.Column.{columns_left}
use Rattle.ttree_adapters.proofs.column.columns_left.Given as goal

-- the rest leaves what all leave
abbrev pub invariant-loop-c : goal.invariant-loop-c
invariant-loop-c l =
    IsUtf8 l._c-iterator.rest.now
    × (columns_left l.left (chars l._c-iterator.rest.now) ≡ columns_left l.fn.columns (chars l.fn.text))
