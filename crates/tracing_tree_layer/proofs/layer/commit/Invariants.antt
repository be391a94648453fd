use Rattle.std.proofs.Common.{◌≡◌, drop}
use Rattle.tracing_tree_spans.specs.Registry.Forest.{mark_all}
use Rattle.tracing_tree_layer.proofs.layer.commit.Given as goal

-- what the marks of the other spans make of the forest, those of all make of the first one
abbrev pub invariant-loop-id : goal.invariant-loop-id
invariant-loop-id g l =
    mark_all (drop l.id-index l.id-items) (g.S.LookupSpan.forest l.spans)
    ≡ mark_all l.id-items (g.S.LookupSpan.forest l.initial.spans)
