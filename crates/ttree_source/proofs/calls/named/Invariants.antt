use Rattle.std.proofs.Common.{◌≡◌, ◌++◌, map, length}
use Rattle.std.specs.Vec.Iter.{into_iter_items, into_iter_len}
use Rattle.ttree_source.specs.Calls.{on_thread}
use Rattle.ttree_source.proofs.calls.named.Given as goal

-- what is placed so far and the others as they will be are all
abbrev pub invariant-loop-call : goal.invariant-loop-call
invariant-loop-call l = record {
  same : l.placed.items ++ map (on_thread l.fn.name) (into_iter_items l.call-iterator) ≡ map (on_thread l.fn.name) l.fn.calls.items;
  len : into_iter_len l.call-iterator ≡ length (into_iter_items l.call-iterator);
}
