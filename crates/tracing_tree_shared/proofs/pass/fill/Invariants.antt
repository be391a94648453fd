use Rattle.std.proofs.Common.{◌≡◌, ◌*◌, ◌-◌, ◌^◌, ◌≤◌}
use Rattle.tracing_tree_shared.proofs.pass.fill.Given as goal

abbrev pub invariant-loop : goal.invariant-loop
invariant-loop g l = record {
  parts : l.share.parts ≡ g.L.Ledger.parts;
  amount : l.share.amount ≡ l.counter * (2 ^ 64 - 1);
  total : l.book.total ≡ l.share.amount;
  count : l.counter ≤ 4;
}
