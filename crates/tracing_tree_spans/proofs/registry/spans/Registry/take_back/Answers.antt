use Rattle.tracing_tree_spans.proofs.Registers.{newest-childless, kept-back}
use Rattle.tracing_tree_spans.proofs.registry.spans.Registry.take_back.Goals as goal

pub remove_leaf-self-inside-requires-clause-childless : goal.remove_leaf-self-inside-requires-clause-childless
remove_leaf-self-inside-requires-clause-childless c = newest-childless c.self.inside.nodes c.self.inside.next _ c.args.id c.self.view_is c.requires

pub invariant_of-self : goal.invariant_of-self
invariant_of-self c = (
  kept-back _ _ c.self.inside.next c.args.self.now c.args.id c.self.invariant.0 c.self.view_is c.requires c.remove_leaf-self-inside.ensures.spans,
  c.remove_leaf-self-inside.ensures.tied,
)
