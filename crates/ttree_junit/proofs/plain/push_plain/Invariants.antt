use Rattle.std.proofs.Common.{◌≡◌, ◌-◌, ◌++◌, length}
use denote.Text.{Utf8}
use denote.Shadow.{shadow}
use Rattle.ttree_junit.specs.Plain.{plain_calls, plain_within}
use Rattle.ttree_junit.proofs.plain.push_plain.Given as goal

-- the calls so far, and then those of the rest, are all
abbrev pub invariant-loop-turn : goal.invariant-loop-turn
invariant-loop-turn l =
    shadow (Utf8 l.rest)
    × (l.fn.calls.items ++ plain_calls l.moment l.fn.text
    ≡ l.calls.items ++ plain_within (length l.fn.text - l._turn) l.moment l.rest)
