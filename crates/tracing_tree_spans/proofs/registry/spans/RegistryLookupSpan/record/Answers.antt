use Rattle.std.proofs.Common.{List, ◌++◌, refl}
use Rattle.tracing_tree_spans.specs.Registry.Spans.{Span, fields_more}
use Rattle.tracing_tree_base.specs.declared.field.Field.{Field}
use Rattle.tracing_tree_spans.proofs.Ties.{KeepsTies}
use Rattle.tracing_tree_spans.proofs.Registers.{kept-attempt, tied-attempt, forest-attempt, live-error}
use Rattle.tracing_tree_spans.proofs.registry.spans.RegistryLookupSpan.record.Goals as goal

-- the span with these fields after its own fields
abbrev longer : List Field → Span → Span
longer fields span = record span { kept = record span.kept { fields = span.kept.fields ++ fields } }

fields-ties : (fields : List Field) → KeepsTies (fields_more fields) (longer fields)
fields-ties fields = record {
  spans = λ n. refl;
  same = record { ids = λ s. refl; parents = λ s. refl };
  paths = λ n. refl;
  children = λ n. refl;
}

pub invariant_of-self : goal.invariant_of-self
invariant_of-self c = (
  kept-attempt (fields_more c.args.fields) (longer c.args.fields) (fields-ties c.args.fields) c.record.result c.self.inside.nodes _ _ c.args.id
      c.self.invariant.0 c.record.ensures.ok c.record.ensures.err,
  tied-attempt c.self.inside.branches.branches.items (fields_more c.args.fields) (longer c.args.fields) (fields-ties c.args.fields) c.record.result c.self.inside.nodes _ c.args.id
      c.self.invariant.1 c.record.ensures.ok c.record.ensures.err,
)

pub returns-clause-ok : goal.returns-clause-ok
returns-clause-ok c =
    forest-attempt (fields_more c.args.fields) (longer c.args.fields) (λ n. refl) c.record.result c.self.inside.nodes _ c.self.inside.next _ c.args.id
    c.self.view_is c.record.ensures.ok

pub returns-clause-live : goal.returns-clause-live
returns-clause-live c = live-error c.record.result c.self.inside.nodes c.self.inside.next c.args.self.now c.args.id c.self.view_is c.record.ensures.live
