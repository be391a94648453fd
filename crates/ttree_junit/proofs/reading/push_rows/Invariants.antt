use Rattle.std.proofs.Common.{◌≡◌, ◌++◌, drop}
use Rattle.ttree_junit.specs.Reading.{row_calls}
use Rattle.ttree_junit.proofs.reading.push_rows.Given as goal

-- the calls made so far, and then those of the rest, are all
abbrev pub invariant-loop-row : goal.invariant-loop-row
invariant-loop-row l =
    l.fn.calls.items ++ row_calls l.moment l.at l.rows
    ≡ l.calls.items ++ row_calls l.moment l.at (drop l.row-index l.rows)
