use Rattle.std.proofs.Common.{◌≡◌, ◌∷◌, [], length}
use Rattle.std.specs.Vec.Iter.{into_iter_items, into_iter_len}
use Rattle.ttree_tracing.specs.Tracing.{parted}
use Rattle.ttree_tracing.proofs.tracing.Tracing.part.Given as goal

-- the others are still left
abbrev pub invariant-loop-one : goal.invariant-loop-one
invariant-loop-one l = record {
  same : parted l.fn.live.items (l.fn.id ∷ []) l.fn.self ≡ parted (into_iter_items l.one-iterator) l.gone.items l.self;
  len : into_iter_len l.one-iterator ≡ length (into_iter_items l.one-iterator);
}
