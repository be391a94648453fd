use Rattle.std.proofs.Common.{◌≡◌, length, refl, Some, arith, ap, ◌∙◌}
use Rattle.std.specs.List.{slice_get}
use Rattle.std.proofs.lemmas.Option.{slice_get_read}
use Rattle.tracing_tree_spans.specs.Registry.Branches.{path_at}
use Rattle.tracing_tree_spans.proofs.BranchLaws.{others-set}
use Rattle.tracing_tree_spans.proofs.registry.branches.Branches.cut.Goals as goal

pub returns-in-Some : goal.returns-in-Some
returns-in-Some c path ids h other =
    let branches = c.args.self.now.branches.items in
    let old = c.index_mut-branch.result.now in
    let here : slice_get branches c.args.place.branch ≡ Some old = slice_get_read branches (length branches) c.args.place.branch old refl (omega arith) c.index_mut-branch.ensures.value in
    let ends : length old.ids.items ≡ c.args.place.length = omega (arith, c.len-2.ensures, c.if-len-place.false) in
    ap (λ (v : _). path_at v.items path) c.keep.ensures
    ∙ others-set branches c.args.place old c.pop.new.self here ends c.pop.ensures path ids h other

pub returns-in_default : goal.returns-in_default
returns-in_default c =
    let branches = c.args.self.now.branches.items in
    let old = c.index_mut-branch.result.now in
    let here : slice_get branches c.args.place.branch ≡ Some old = slice_get_read branches (length branches) c.args.place.branch old refl (omega arith) c.index_mut-branch.ensures.value in
    let ends : length old.ids.items ≡ c.args.place.length = omega (arith, c.len-2.ensures, c.if-len-place.false) in
    others-set branches c.args.place old c.pop.new.self here ends c.pop.ensures
