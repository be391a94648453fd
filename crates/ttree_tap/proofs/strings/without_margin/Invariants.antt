use Rattle.std.proofs.Common.{◌≡◌, ◌-◌, ◌≤◌, IsUtf8}
use Rattle.ttree_tap.specs.Strings.{without_margin_from}
use Rattle.ttree_tap.proofs.strings.without_margin.Given as goal

-- what is left of the rest is left of all
abbrev pub invariant-loop-place : goal.invariant-loop-place
invariant-loop-place l = record {
  same : without_margin_from 0 l.fn.limit l.fn.text ≡ without_margin_from l.place l.fn.limit l.rest;
  below : l.place ≤ l.fn.limit;
  utf8 : IsUtf8 l.rest;
}

abbrev pub decreases-loop-place : goal.decreases-loop-place
decreases-loop-place l = l.fn.limit - l.place
