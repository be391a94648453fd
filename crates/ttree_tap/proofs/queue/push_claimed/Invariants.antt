use Rattle.std.proofs.Common.{◌≡◌, ◌++◌, false, length}
use Rattle.std.specs.Vec.Iter.{into_iter_items, into_iter_len}
use Rattle.ttree_tap.specs.Queue.{claimed_lines}
use Rattle.ttree_tap.proofs.queue.push_claimed.Given as goal

-- what is claimed so far and what of the others is, are all
abbrev pub invariant-loop-line : goal.invariant-loop-line
invariant-loop-line l = record {
  same : l.out.items ++ claimed_lines l.was_named l.fn.name (into_iter_items l.line-iterator) ≡ l.fn.out.items ++ claimed_lines false l.fn.name l.fn.lines.items;
  len : into_iter_len l.line-iterator ≡ length (into_iter_items l.line-iterator);
}
