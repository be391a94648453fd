use Rattle.std.proofs.Common.{◌≡◌, length, Some, arith, refl}
use Rattle.std.specs.List.{slice_get}
use Rattle.std.proofs.lemmas.Option.{slice_get_read}
use Rattle.tracing_tree_spans.proofs.registry.branches.Branches.take_free.Goals as goal

pub returns-clause-free : goal.returns-clause-free
returns-clause-free c =
    let branches = c.args.self.now.branches.items in
    let free = c.index-branch.result.now in
    let here : slice_get branches c.in_ok-at.at ≡ Some free = slice_get_read branches (length branches) c.in_ok-at.at free refl (omega arith) c.index-branch.ensures in
    let none : length free.ids.items ≡ 0 = omega (arith, c.len-2.ensures, c.if-len-gt0.false) in
    (free, here, none)
