use Rattle.std.proofs.Common.{◌≡◌, ◌++◌, ◌∷◌, [], length, List, arith, ap, ◌∙◌}
use Rattle.std.specs.List.{slice_get}
use Rattle.tracing_tree_spans.specs.Registry.Branches.{path_at}
use Rattle.tracing_tree_spans.specs.declared.registry.branches.Branch.{Branch}
use Rattle.tracing_tree_spans.proofs.BranchLaws.{get-set, get-last, part-none, paths-set, paths-pushed}
use Rattle.tracing_tree_spans.proofs.registry.branches.Branches.store.Goals as goal

pub returns-in-Some-clause-paths : goal.returns-in-Some-clause-paths
returns-in-Some-clause-paths c path ids h =
    let free = c.in-Some.ensures.free in
    paths-set c.take_free.new.self.branches.items c.in-Some.at free.0 c.args.branch free.1
    (λ count part e. absurd (part-none free.0 count part free.2 e)) path ids
    (ap (λ (v : _). path_at v.items path) c.take_free.ensures.branches ∙ h)

pub returns-in-Some-clause-branch : goal.returns-in-Some-clause-branch
returns-in-Some-clause-branch c =
    let free = c.in-Some.ensures.free in
    get-set c.take_free.new.self.branches.items c.in-Some.at free.0 c.args.branch free.1

pub returns-clause-paths : goal.returns-clause-paths
returns-clause-paths c path ids h =
    ap (λ (xs : List Branch). path_at xs path) c.in_ok-push.ensures.items
    ∙ paths-pushed c.take_free.new.self.branches.items c.args.branch path ids
    (ap (λ (v : _). path_at v.items path) c.take_free.ensures.branches ∙ h)

pub returns-clause-branch : goal.returns-clause-branch
returns-clause-branch c =
    let branches = c.take_free.new.self.branches.items in
    let last : c.len-at.result ≡ length branches = omega arith in
    ap (λ (xs : List Branch). slice_get xs c.len-at.result) c.in_ok-push.ensures.items
    ∙ ap (slice_get (branches ++ c.args.branch ∷ [])) last ∙ get-last branches c.args.branch
