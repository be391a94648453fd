use Rattle.std.proofs.Common.{◌||◌, ap, sym, ◌∙◌}
use Rattle.std.specs.List.{list_any}
use Rattle.tracing_tree_spans.specs.Registry.Ids.{same_id}
use Rattle.tracing_tree_layer.proofs.Marks.{printed-data, printed-gone}
use Rattle.tracing_tree_layer.proofs.layer.plan.Planner.is_printed.Goals as goal

pub returns-then-data : goal.returns-then-data
returns-then-data g c =
    let fresh = c.args.plan.now.fresh in
    let printed = printed-data fresh (g.S.LookupSpan.forest c.args.self.now.spans.now) c.args.id c.in-Some.data.now (sym c.in-Some.ensures.kept) in
    c.if-data.true ∙ sym (printed ∙ ap (λ b. b || list_any (same_id c.args.id) fresh) c.if-data.true)

pub returns-else-data : goal.returns-else-data
returns-else-data g c =
    let fresh = c.args.plan.now.fresh in
    let printed = printed-data fresh (g.S.LookupSpan.forest c.args.self.now.spans.now) c.args.id c.in-Some.data.now (sym c.in-Some.ensures.kept) in
    c.contains.ensures ∙ ap (list_any (same_id c.args.id)) c.fresh.ensures
    ∙ sym (printed ∙ ap (λ b. b || list_any (same_id c.args.id) fresh) c.if-data.false)

pub returns-in-None : goal.returns-in-None
returns-in-None g c =
    sym (printed-gone c.args.plan.now.fresh (g.S.LookupSpan.forest c.args.self.now.spans.now) c.args.id (sym c.in-None.ensures.kept))
