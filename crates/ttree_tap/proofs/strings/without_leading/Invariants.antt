use Rattle.std.proofs.Common.{◌≡◌, IsUtf8, length}
use Rattle.ttree_tap.specs.Strings.{without_leading}
use Rattle.ttree_tap.proofs.strings.without_leading.Given as goal

-- what is left of the rest is left of all
abbrev pub invariant-loop-more : goal.invariant-loop-more
invariant-loop-more l = record {
  same : without_leading l.fn.mark l.fn.text ≡ without_leading l.fn.mark l.rest;
  utf8 : IsUtf8 l.rest;
}

abbrev pub decreases-loop-more : goal.decreases-loop-more
decreases-loop-more l = length l.rest
