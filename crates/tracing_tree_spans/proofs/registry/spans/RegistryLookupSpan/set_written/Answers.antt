use Rattle.std.proofs.Common.{refl}
use Rattle.tracing_tree_spans.specs.Registry.Spans.{kept_printed, printed_span}
use Rattle.tracing_tree_spans.proofs.Ties.{KeepsTies}
use Rattle.tracing_tree_spans.proofs.Registers.{kept-update, tied-update, forest-update}
use Rattle.tracing_tree_spans.proofs.registry.spans.RegistryLookupSpan.set_written.Goals as goal

printed-ties : KeepsTies kept_printed printed_span
printed-ties = record {
  spans = λ n. refl;
  same = record { ids = λ s. refl; parents = λ s. refl };
  paths = λ n. refl;
  children = λ n. refl;
}

pub invariant_of-self : goal.invariant_of-self
invariant_of-self c = (
  kept-update kept_printed printed_span printed-ties c.self.inside.nodes _ _ c.args.id c.self.invariant.0 c.set_written.ensures,
  tied-update c.self.inside.branches.branches.items kept_printed printed_span printed-ties c.self.inside.nodes _ c.args.id c.self.invariant.1 c.set_written.ensures,
)

pub returns : goal.returns
returns c =
    forest-update kept_printed printed_span (λ n. refl) c.self.inside.nodes _ c.self.inside.next _ c.args.id c.self.view_is c.set_written.ensures
