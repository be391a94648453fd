use Rattle.std.proofs.Common.{◌≡◌, ◌+◌, length, drop}
use Rattle.ttree_tap.specs.Line.{space_note_place}
use Rattle.ttree_tap.proofs.line.space_note_place.Given as goal

-- the place in the rest, after what was passed
abbrev pub invariant-loop-rest : goal.invariant-loop-rest
invariant-loop-rest l = record {
  place : space_note_place l.fn.text ≡ l.place + space_note_place l.rest;
  rest : l.rest ≡ drop l.place l.fn.text;
  within : l.place + length l.rest ≡ length l.fn.text;
}

abbrev pub decreases-loop-rest : goal.decreases-loop-rest
decreases-loop-rest l = length l.rest
