use Rattle.std.proofs.Common.{◌≡◌, ◌<◌, ◌^◌, length}
use Rattle.ttree_chrome.specs.Number.{digits_after}
use Rattle.ttree_chrome.proofs.number.digits_from.Given as goal

-- the other digits follow
abbrev pub invariant-loop-rest : goal.invariant-loop-rest
invariant-loop-rest l = record {
  same : digits_after l.fn.number l.fn.digits ≡ digits_after l.number l.rest;
  fits : l.number < 2 ^ 64;
}

abbrev pub decreases-loop-rest : goal.decreases-loop-rest
decreases-loop-rest l = length l.rest
