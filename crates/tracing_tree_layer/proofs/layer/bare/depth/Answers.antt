use Rattle.std.proofs.Common.{List, length, ap, sym, ◌∙◌}
use Rattle.tracing_tree_base.specs.declared.context.Id.{Id}
use Rattle.tracing_tree_layer.proofs.DrawnLaws.{path-if_live}
use Rattle.tracing_tree_layer.proofs.layer.bare.depth.Goals as goal

pub returns-in-Some-kept_path : goal.returns-in-Some-kept_path
returns-in-Some-kept_path g c =
    rw c.in-Some.is (ap (λ (ids : List Id). length ids) (c.in-Some-kept_path.ensures.kept ∙ sym (path-if_live (g.S.LookupSpan.forest c.args.spans.now) c.in-Some.id)))
