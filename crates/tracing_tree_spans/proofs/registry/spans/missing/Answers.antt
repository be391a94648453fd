use Rattle.std.proofs.Common.{◌∙◌}
use Rattle.tracing_tree_spans.proofs.Registers.{missing-is}
use Rattle.tracing_tree_spans.proofs.registry.spans.missing.Goals as goal

pub returns : goal.returns
returns c =
    c.then_some.ensures ∙ missing-is c.args.nodes.now c.args.id c.in_ok-id.id c.get.result c.is_none.result c.in_ok-id.was c.get.ensures c.is_none.ensures
