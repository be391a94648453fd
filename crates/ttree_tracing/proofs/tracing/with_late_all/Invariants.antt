use Rattle.std.proofs.Common.{◌≡◌, ◌++◌, length, map}
use Rattle.std.specs.Vec.Iter.{into_iter_items, into_iter_len}
use Rattle.ttree_tracing.specs.Tracing.{with_late}
use Rattle.ttree_tracing.proofs.tracing.with_late_all.Given as goal

-- what is made so far, and what the others will be, are all
abbrev pub invariant-loop-one : goal.invariant-loop-one
invariant-loop-one l = record {
  same : l.all.items ++ map (with_late l.fn.id l.fn.late) (into_iter_items l.one-iterator) ≡ map (with_late l.fn.id l.fn.late) l.fn.live.items;
  len : into_iter_len l.one-iterator ≡ length (into_iter_items l.one-iterator);
}
