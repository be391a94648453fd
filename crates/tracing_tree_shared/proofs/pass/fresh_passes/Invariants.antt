use Rattle.std.proofs.Common.{◌≡◌, ◌+◌, [], All, vec_len}
use Rattle.tracing_tree_shared.proofs.pass.fresh_passes.Given as goal

abbrev pub invariant-loop-pass : goal.invariant-loop-pass
invariant-loop-pass g l = (l.share.parts + l._pass ≡ l.count + 1) × (l.share.amount ≡ l.fn.share.amount) × (vec_len l.all ≡ l._pass) × All (λ p. p ≡ []) l.all.items
