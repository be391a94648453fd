use Rattle.std.proofs.Common.{sym, subst, ◌∙◌}
use Rattle.tracing_tree_spans.specs.Registry.Forest.{path_of_any}
use Rattle.tracing_tree_spans.specs.Registry.Paths.{PartOnce}
use Rattle.tracing_tree_layer.proofs.Plans.{last_paths_part_once}
use Rattle.tracing_tree_layer.proofs.layer.plan.Planner.retrace_apart.Goals as goal

pub beyond-fresh-requires : goal.beyond-fresh-requires
beyond-fresh-requires g c =
    let forest = g.S.LookupSpan.forest c.args.self.now.spans.now in
    let old = c.as_slice.ensures ∙ c.in_ok-old.ensures.path in
    let new = c.as_slice-2.ensures ∙ c.in_ok-new.ensures.path in
    subst (λ path. PartOnce path c.as_slice-2.result.now) (sym old)
    (subst (λ path. PartOnce (path_of_any forest c.last.result) path) (sym new)
    (last_paths_part_once forest (c.in_ok-new.ensures.formed (λ none. cc)) c.last.result c.args.id))
