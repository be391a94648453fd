use Rattle.std.proofs.Common.{◌≡◌, Some, false, rules, sym, ap, ◌∙◌}
use Rattle.std.specs.Cmp.Rules.{comparing}
use Rattle.tracing_tree_spans.specs.Registry.Forest.{path_of_any, is_live}
use Rattle.tracing_tree_spans.proofs.PathLaws.{path_of-none}
use Rattle.tracing_tree_layer.proofs.Plans.{fresh-below}
use Rattle.tracing_tree_layer.proofs.layer.plan.Planner.follows_last.Goals as goal

pub returns-in-Some-Some : goal.returns-in-Some-Some
returns-in-Some-Some g c = λ equal.
    let forest = g.S.LookupSpan.forest c.args.self.now.spans.now in
    let same : c.in-Some-Some.parent ≡ c.in-Some-Some.last = search (comparing, rules) in
    let above : path_of_any forest c.in-Some.span.parent ≡ path_of_any forest c.args.plan.now.last =
    ap (λ o. path_of_any forest o) (sym c.parent.ensures ∙ c.in-Some-Some.is-0 ∙ ap (λ i. Some i) same ∙ sym c.in-Some-Some.is-1 ∙ c.last.ensures) in
    fresh-below forest c.in-Some.ensures.formed c.args.id c.in-Some.span c.args.plan.now.last c.in-Some.ensures.shown above

pub returns-in-None-Some : goal.returns-in-None-Some
returns-in-None-Some g c = λ gone.
    let forest = g.S.LookupSpan.forest c.args.self.now.spans.now in
    let dead : is_live forest c.in-None-Some.last ≡ false = search rules in
    let above : path_of_any forest c.in-Some.span.parent ≡ path_of_any forest c.args.plan.now.last =
    ap (λ o. path_of_any forest o) (sym c.parent.ensures ∙ c.in-None-Some.is-0)
    ∙ sym (ap (λ o. path_of_any forest o) (sym c.last.ensures ∙ c.in-None-Some.is-1) ∙ path_of-none forest c.in-None-Some.last dead) in
    fresh-below forest c.in-Some.ensures.formed c.args.id c.in-Some.span c.args.plan.now.last c.in-Some.ensures.shown above

pub returns-in-None-None : goal.returns-in-None-None
returns-in-None-None g c = λ both.
    let forest = g.S.LookupSpan.forest c.args.self.now.spans.now in
    let above : path_of_any forest c.in-Some.span.parent ≡ path_of_any forest c.args.plan.now.last =
    ap (λ o. path_of_any forest o) (sym c.parent.ensures ∙ c.in-None-None.is-0 ∙ sym c.in-None-None.is-1 ∙ c.last.ensures) in
    fresh-below forest c.in-Some.ensures.formed c.args.id c.in-Some.span c.args.plan.now.last c.in-Some.ensures.shown above
