-- What a look-up of spans shows.
use Rattle.std.specs.Prelude.{Option, option_map}
use Rattle.tracing_tree_spans.specs.Registry.Forest.{Forest, span_at}
use Rattle.tracing_tree_base.specs.declared.context.Id.{Id}
use Rattle.tracing_tree_spans.specs.declared.registry.node.Data.{Data}

-- the data that is kept with a live span
abbrev pub data_at : Forest → Id → Option Data
data_at forest i = option_map (λ span. span.kept) (span_at forest i)
