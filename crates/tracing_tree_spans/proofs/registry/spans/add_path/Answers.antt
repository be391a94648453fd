use Rattle.std.proofs.Common.{◌≡◌, ◌++◌, ◌∷◌, [], List, None, Some, rules, sym, ap, ◌∙◌}
use Rattle.std.specs.Option.{option_and_then}
use Rattle.tracing_tree_spans.specs.Registry.Branches.{path_at}
use Rattle.tracing_tree_spans.specs.Registry.Nodes.{node_at}
use Rattle.tracing_tree_base.specs.declared.context.Id.{Id}
use Rattle.tracing_tree_spans.proofs.Ties.{no-path-above}
use Rattle.tracing_tree_spans.proofs.registry.spans.add_path.Goals as goal

pub returns-in-None-clause-path : goal.returns-in-None-clause-path
returns-in-None-clause-path c =
    let none : option_and_then (node_at c.args.nodes.now) c.args.parent ≡ None = search rules in
    ap (path_at c.args.branches.now.branches.items) c.root.ensures
    ∙ ap (λ (ids : List Id). Some (ids ++ c.args.id ∷ [])) (sym (no-path-above c.args.nodes.now c.args.parent none))
