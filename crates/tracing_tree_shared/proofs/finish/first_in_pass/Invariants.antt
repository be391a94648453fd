use Rattle.std.proofs.Common.{◌≡◌, None, drop}
use Rattle.tracing_tree_shared.specs.Finish.{misplaced, smallest}
use Rattle.tracing_tree_shared.proofs.finish.first_in_pass.Given as goal

abbrev pub invariant-loop-receipt : goal.invariant-loop-receipt
invariant-loop-receipt l =
    smallest l.first (misplaced l.history l.greatest (drop l.receipt-index l.receipts)) ≡ smallest l.fn.found (misplaced l.history None l.receipts)
