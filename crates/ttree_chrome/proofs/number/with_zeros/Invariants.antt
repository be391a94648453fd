use Rattle.std.proofs.Common.{◌≡◌, ◌<◌, ◌*◌, ◌^◌}
use Rattle.ttree_chrome.proofs.number.with_zeros.Given as goal

abbrev pub invariant-loop-zero : goal.invariant-loop-zero
invariant-loop-zero l = record {
  same : l.number ≡ l.fn.number * 10 ^ l._zero;
  fits : l.number < 2 ^ 64;
}
