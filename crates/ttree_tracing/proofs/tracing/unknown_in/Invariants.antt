use Rattle.std.proofs.Common.{◌≡◌, ◌++◌, drop}
use Rattle.ttree_tracing.specs.Tracing.{unknown_in}
use Rattle.ttree_tracing.proofs.tracing.unknown_in.Given as goal

-- those among all are those that were found, and then those among the rest
abbrev pub invariant-loop-field : goal.invariant-loop-field
invariant-loop-field l =
    unknown_in l.fn.one l.fn.fields
    ≡ l.unknown.items ++ unknown_in l.fn.one (drop l.field-index l.fn.fields)
