use Rattle.std.proofs.Common.{◌≡◌, Some, rules, sym, ◌∙◌}
use Rattle.std.specs.Cmp.Rules.{comparing}
use Rattle.tracing_tree_layer.proofs.Plans.{retraced-there}
use Rattle.tracing_tree_layer.proofs.layer.plan.Planner.retrace_to.Goals as goal

pub returns-then-eq : goal.returns-then-eq
returns-then-eq g c =
    let same : c.last.result ≡ Some c.args.id = search (comparing, rules) in
    retraced-there c.args.self.now.config.now (g.S.LookupSpan.forest c.args.self.now.spans.now) c.args.id c.args.plan.now (sym c.last.ensures ∙ same)

pub returns-then-follows_last : goal.returns-then-follows_last
returns-then-follows_last g c =
    let alone = c.follows_last.ensures c.if-follows_last.true in
    rw alone c.show_alone.ensures
