use Rattle.std.proofs.Common.{◌≡◌, ◌-◌, ◌≤◌, ◌++◌, ◌∷◌, [], ℕ, List, Option, None, ap, ◌∙◌, length, min, replicate, take, arith}
use Rattle.tracing_tree_drawing.proofs.RowsRead.AncestryLaws.{places-kept, none-more}
use Rattle.tracing_tree_drawing.proofs.rows.paths.Ancestry.ancestors.Goals as goal

pub loop-absent-preserved : goal.loop-absent-preserved
loop-absent-preserved c =
    let kept : ℕ = c.min-kept.result in
    let absent : ℕ = c.loop-absent._absent in
    let low : kept ≤ absent = c.loop-absent.auto._absent in
    c.in_ok-push.ensures.items ∙ ap (λ places. places ++ None ∷ []) c.loop-absent.invariant ∙ none-more (take kept c.args.self.now) kept absent low

pub returns : goal.returns
returns c =
    let kept : ℕ = c.min-kept.result in
    let seen : length c.self.inside.opened.items ≡ length c.args.self.now = ap (λ (ps : List (Option ℕ)). length ps) c.self.view_is in
    let least : kept ≡ min c.args.level (length c.args.self.now) = omega (arith, seen, c.self.inside.opened.ok.0) in
    let all : c.loop-absent._absent ≡ c.args.level = omega (arith, c.loop-absent.auto._absent-end) in
    c.from.ensures ∙ c.loop-absent.invariant ∙ ap (λ (n : ℕ). take kept c.args.self.now ++ replicate (n - kept) None) all
    ∙ places-kept c.args.self.now c.args.level kept least
