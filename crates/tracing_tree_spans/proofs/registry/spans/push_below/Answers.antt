use Rattle.tracing_tree_spans.proofs.Registers.{child-fits}
use Rattle.tracing_tree_spans.proofs.registry.spans.push_below.Goals as goal

pub add_child-requires : goal.add_child-requires
add_child-requires c =
    child-fits c.args.nodes.now c.push.new.self c.args.node _ c.requires.counted c.requires.childless c.in_ok-push.ensures.ok c.in_ok-push.ensures.few
