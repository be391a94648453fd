use Rattle.std.proofs.Common.{◌≡◌, ℕ, ◌+◌, ◌≤◌, false, length, min}
use Rattle.tracing_tree_spans.specs.Registry.Paths.{agree_at}
use Rattle.tracing_tree_spans.proofs.registry.paths.common.Given as goal

-- each place past the length was compared, and no such place agrees
abbrev pub invariant-loop-length : goal.invariant-loop-length
invariant-loop-length l = record {
  counted : l.compared + l.length ≡ min (length l.old) (length l.new);
  apart : (k : ℕ) → l.length ≤ k → agree_at l.old l.new k ≡ false;
}

abbrev pub decreases-loop-length : goal.decreases-loop-length
decreases-loop-length l = l.length
