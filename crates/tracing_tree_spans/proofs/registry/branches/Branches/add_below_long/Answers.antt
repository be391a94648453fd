use Rattle.std.proofs.Common.{◌≡◌, ◌++◌, ◌∷◌, [], List, Some, IfOk, Result, Ok, Err, ap, ◌∙◌}
use Rattle.tracing_tree_spans.specs.Registry.Branches.{path_at}
use Rattle.tracing_tree_spans.specs.declared.registry.branches.Branch.{Branch}
use Rattle.tracing_tree_spans.specs.declared.registry.path.SpanPath.{SpanPath}
use Rattle.tracing_tree_spans.specs.declared.registry.path.SpanPath.TheVariants.{Long}
use Rattle.tracing_tree_base.specs.declared.context.Id.{Id}
use Rattle.tracing_tree_spans.proofs.registry.branches.Branches.add_below_long.Goals as goal

-- the ids of the new branch are the parent's path and the span
if-started : {E : Type 0} (r : Result SpanPath E) (old new : List Branch) (parent : SpanPath) (i : Id) (items : List Id) →
    IfOk r (λ path. path_at new path ≡ Some items) → ((ids : List Id) → path_at old parent ≡ Some ids → items ≡ ids ++ i ∷ []) →
    IfOk r (λ path. (ids : List Id) → path_at old parent ≡ Some ids → path_at new path ≡ Some (ids ++ i ∷ []))
if-started (Ok path) old new parent i items there same = λ ids h. there ∙ ap (λ (xs : List Id). Some xs) (same ids h)
if-started (Err e) old new parent i items there same = tt

pub returns-clause-path : goal.returns-clause-path
returns-clause-path c =
    if-started c.start.result c.args.self.now.branches.items c.start.new.self.branches.items (Long c.args.parent) c.args.id c.in_ok-ids.ids.items
    c.start.ensures.path
    (λ ids h. c.in_ok-ids.ensures ∙ ap (λ (xs : List Id). xs ++ c.args.id ∷ []) (c.long.ensures ids
    (ap (λ (v : _). path_at v.items (Long c.args.parent)) c.take_spare-spare.ensures ∙ c.extend.ensures.paths (Long c.args.parent) ids h)))
