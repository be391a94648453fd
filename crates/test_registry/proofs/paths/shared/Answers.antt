use Rattle.std.proofs.Common.{sym, subst, ◌∙◌}
use Rattle.tracing_tree_spans.specs.Registry.Ids.{id_of}
use Rattle.tracing_tree_spans.specs.Registry.Forest.{path_of}
use Rattle.tracing_tree_spans.specs.Registry.Paths.{PartOnce}
use Rattle.tracing_tree_spans.proofs.CommonLaws.{paths_part_once}
use Rattle.test_registry.proofs.paths.shared.Goals as goal

pub common-requires : goal.common-requires
common-requires c =
    let forest = c.args.spans.now in
    let old = c.as_slice.ensures.value ∙ c.in_ok-old.ensures.path in
    let new = c.as_slice-2.ensures.value ∙ c.in_ok-new.ensures.path in
    subst (λ path. PartOnce path c.as_slice-2.result.now) (sym old)
    (subst (λ path. PartOnce (path_of forest (id_of c.args.old)) path) (sym new)
    (paths_part_once forest c.in_ok-new.ensures.formed (id_of c.args.old) (id_of c.args.new)))
