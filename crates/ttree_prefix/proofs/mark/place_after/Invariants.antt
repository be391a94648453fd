use Rattle.std.proofs.Common.{◌≡◌, ◌+◌, length, option_map}
use Rattle.ttree_prefix.specs.Mark.{place_after}
use Rattle.ttree_prefix.proofs.mark.place_after.Given as goal

-- the place in the rest, after what was passed
abbrev pub invariant-loop-rest : goal.invariant-loop-rest
invariant-loop-rest l = record {
  place : place_after l.fn.separator l.fn.separators l.fn.end l.fn.line
      ≡ option_map (λ place. l.place + place) (place_after l.fn.separator l.left l.fn.end l.rest);
  within : l.place + length l.rest ≡ length l.fn.line;
}

abbrev pub decreases-loop-rest : goal.decreases-loop-rest
decreases-loop-rest l = length l.rest
