use Rattle.std.proofs.Common.{◌≡◌, ◌++◌, length}
use Rattle.std.specs.Vec.Iter.{into_iter_items, into_iter_len}
use Rattle.ttree_adapters.specs.Failures.{all_kept}
use Rattle.ttree_adapters.proofs.failures.FailureLines.all_kept.Given as goal

-- what was made so far, and what becomes of the others, are all
abbrev pub invariant-loop-call : goal.invariant-loop-call
invariant-loop-call l = record {
  same : all_kept l.fn.calls.items l.fn.self ≡ record {
    calls = l.made.items ++ (all_kept (into_iter_items l.call-iterator) l.self).calls;
    mapping = (all_kept (into_iter_items l.call-iterator) l.self).mapping;
  };
  len : into_iter_len l.call-iterator ≡ length (into_iter_items l.call-iterator);
}
