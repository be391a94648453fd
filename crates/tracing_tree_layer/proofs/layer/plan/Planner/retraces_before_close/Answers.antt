use Rattle.std.proofs.Common.{◌&&◌, false, not, ap, sym, ◌∙◌}
use Rattle.std.specs.Option.{option_map_or}
use Rattle.std.specs.List.{list_any}
use Rattle.tracing_tree_spans.specs.Registry.Ids.{same_id}
use Rattle.tracing_tree_spans.specs.Registry.Forest.{path_of_any}
use Rattle.tracing_tree_layer.proofs.Marks.{retraces_before_close-marked}
use Rattle.tracing_tree_layer.proofs.layer.plan.Planner.retraces_before_close.Goals as goal

pub returns-in_default : goal.returns-in_default
returns-in_default g c =
    let self = c.args.self.now in
    let plan = c.args.plan.now in
    let forest = g.S.LookupSpan.forest self.spans.now in
    let path = path_of_any forest plan.last in
    let on = sym c.close_retrace.ensures ∙ c.if-not-close_retrace.false in
    let shown = sym c.retraces.ensures ∙ c.if-not-retraces.false in
    let printed = sym c.is_printed.ensures ∙ c.if-not-is_printed.false in
    let above = sym c.in_default.ensures.parent in
    sym (retraces_before_close-marked self.config.now plan.fresh forest plan.last c.args.id
    ∙ (λ k. on k && shown k && printed k && option_map_or (λ i. not (list_any (same_id i) path)) (above k) false))

pub returns : goal.returns
returns g c =
    let self = c.args.self.now in
    let plan = c.args.plan.now in
    let forest = g.S.LookupSpan.forest self.spans.now in
    let path = path_of_any forest plan.last in
    let on = sym c.close_retrace.ensures ∙ c.if-not-close_retrace.false in
    let shown = sym c.retraces.ensures ∙ c.if-not-retraces.false in
    let printed = sym c.is_printed.ensures ∙ c.if-not-is_printed.false in
    let above = sym c.in-Some.ensures.parent in
    let same = c.as_slice.ensures ∙ c.in_ok-path.ensures.path ∙ ap (path_of_any forest) c.last.ensures in
    ap not (c.contains.ensures ∙ ap (list_any (same_id c.in-Some.parent)) same)
    ∙ sym (retraces_before_close-marked self.config.now plan.fresh forest plan.last c.args.id
    ∙ (λ k. on k && shown k && printed k && option_map_or (λ i. not (list_any (same_id i) path)) (above k) false))
