use Rattle.std.proofs.Common.{◌≡◌, ◌-◌, ◌++◌, length, option_map}
use denote.Text.{Utf8}
use denote.Shadow.{shadow}
use Rattle.ttree_junit.specs.Lines.{printed_rows, rows_within}
use Rattle.ttree_junit.proofs.lines.push_lines.Given as goal

-- the rows so far, and then those of the rest, are all
abbrev pub invariant-loop-turn : goal.invariant-loop-turn
invariant-loop-turn l =
    shadow (Utf8 l.rest)
    × (l.fn.rows.items ++ printed_rows l.fn.text
    ≡ l.rows.items ++ rows_within (length l.fn.text - l._turn) (option_map (λ k. k.now) l.kept) l.rest)
