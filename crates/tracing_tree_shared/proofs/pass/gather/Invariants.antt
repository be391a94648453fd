use Rattle.std.proofs.Common.{◌≡◌, ◌+◌, ◌*◌, ◌≤◌, length, vec_len, sum_by}
use Rattle.std.specs.Vec.Iter.{into_iter_items, into_iter_len}
use Rattle.tracing_tree_shared.proofs.pass.gather.Given as goal

abbrev pub invariant-loop-pass : goal.invariant-loop-pass
invariant-loop-pass g l =
    let rest = into_iter_items l.pass-iterator in
    record {
      parts : l.share.parts + into_iter_len l.pass-iterator ≡ vec_len l.fn.passes + 1;
      amount : l.share.amount + 4 * sum_by length rest ≡ l.fn.share.amount + 4 * sum_by length l.fn.passes.items;
      length_is : into_iter_len l.pass-iterator ≡ length rest;
      bound : l.share.amount ≤ l.total.amount;
      whole : l.total.parts ≤ l.share.parts → l.share.amount ≡ l.total.amount;
    }
