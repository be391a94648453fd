use Rattle.std.proofs.Common.{◌≡◌, ◌<◌, ◌≤◌, ◌^◌}
use Rattle.tracing_tree_time.specs.Clock.{fraction_text, significant_digits}
use Rattle.tracing_tree_time.specs.Numbers.{digits_in}
use Rattle.tracing_tree_time.proofs.civil.push_fraction.Given as goal

-- the digits that are left show the fraction
abbrev pub invariant-loop-places : goal.invariant-loop-places
invariant-loop-places l =
    (significant_digits (digits_in l.places l.number) ≡ fraction_text l.nanosecond)
    × (1 ≤ l.places) × (l.places ≤ 9) × (l.number < 10 ^ l.places)

abbrev pub decreases-loop-places : goal.decreases-loop-places
decreases-loop-places l = l.places
