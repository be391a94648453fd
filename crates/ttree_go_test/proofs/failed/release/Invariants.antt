use Rattle.std.proofs.Common.{◌≡◌, length}
use Rattle.std.specs.BTreeSet.{contains_text}
use Rattle.std.specs.Vec.Iter.{into_iter_items, into_iter_len}
use Rattle.ttree_go_test.specs.Failed.{released_each}
use Rattle.ttree_go_test.proofs.failed.release.Given as goal

-- the others are still to be shown
abbrev pub invariant-loop-one : goal.invariant-loop-one
invariant-loop-one l = record {
  same : released_each l.fn.path (contains_text l.over) l.fn.lines l.fn.shown
      ≡ released_each l.fn.path (contains_text l.over) (into_iter_items l.one-iterator) l.shown;
  len : into_iter_len l.one-iterator ≡ length (into_iter_items l.one-iterator);
}
