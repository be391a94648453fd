use Rattle.std.proofs.Common.{◌≡◌, ◌-◌, length}
use denote.Text.{Utf8}
use denote.Shadow.{shadow}
use Rattle.ttree_junit.specs.Failure.{has_lines, has_lines_within}
use Rattle.ttree_junit.proofs.failure.has_lines.Given as goal

-- the rest of the lines is to be found in what is left of the body
abbrev pub invariant-loop-turn : goal.invariant-loop-turn
invariant-loop-turn l =
    shadow (Utf8 l.rest)
    × (has_lines l.fn.text l.fn.body ≡ has_lines_within (length l.fn.text - l._turn) l.rest l.left)
