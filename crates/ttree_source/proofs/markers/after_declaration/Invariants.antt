use Rattle.std.proofs.Common.{◌≡◌, length}
use Rattle.ttree_source.specs.Markers.{after_declaration}
use Rattle.ttree_source.proofs.markers.after_declaration.Given as goal

-- what follows the mark in the rest follows it in all
abbrev pub invariant-loop-rest : goal.invariant-loop-rest
invariant-loop-rest l = after_declaration l.fn.text ≡ after_declaration l.rest

abbrev pub decreases-loop-rest : goal.decreases-loop-rest
decreases-loop-rest l = length l.rest
