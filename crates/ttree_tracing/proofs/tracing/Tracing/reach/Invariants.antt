use Rattle.std.proofs.Common.{◌≡◌, None, length}
use Rattle.std.specs.Vec.Iter.{into_iter_items, into_iter_len}
use Rattle.ttree_tracing.specs.Tracing.{reached}
use Rattle.ttree_tracing.proofs.tracing.Tracing.reach.Given as goal

-- the others are still to be reached
abbrev pub invariant-loop-listed : goal.invariant-loop-listed
invariant-loop-listed l = record {
  depth : l.depth ≡ length l.fn.path.items;
  same : reached l.depth l.fn.thread l.fn.path.items None l.fn.self ≡ reached l.depth l.fn.thread (into_iter_items l.listed-iterator) l.at l.self;
  len : into_iter_len l.listed-iterator ≡ length (into_iter_items l.listed-iterator);
}
