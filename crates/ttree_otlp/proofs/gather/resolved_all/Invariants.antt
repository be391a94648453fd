use Rattle.std.proofs.Common.{◌≡◌, ◌++◌, map, length}
use Rattle.std.specs.Vec.Iter.{into_iter_items, into_iter_len}
use Rattle.ttree_otlp.specs.Gather.{resolved}
use Rattle.ttree_otlp.proofs.gather.resolved_all.Given as goal

-- what is nested so far and the others as they will be are everything
abbrev pub invariant-loop-item : goal.invariant-loop-item
invariant-loop-item l = record {
  same : l.rows.items ++ map (resolved l.known) (into_iter_items l.item-iterator) ≡ map (resolved l.known) l.fn.items.items;
  len : into_iter_len l.item-iterator ≡ length (into_iter_items l.item-iterator);
}
