-- A live span, and what a look-up of it shows.
use Rattle.std.specs.Prelude.{ℕ, ◌+◌, ◌-◌, List, ◌++◌, Option, true}
use Rattle.tracing_tree_base.specs.declared.context.Id.{Id}
use Rattle.tracing_tree_base.specs.declared.field.Field.{Field}
use Rattle.tracing_tree_spans.specs.declared.registry.node.Data.{Data}
use Rattle.tracing_tree_spans.specs.declared.registry.path.SpanPath.{SpanPath}

-- a live span
pub record Span : Type 0 where
  pub id : Id
  pub parent : Option Id
  pub name : List ℕ
  pub target : List ℕ
  pub kept : Data
  pub handles : ℕ

-- what a look-up of a span shows: all but its handles
pub record ShownSpan : Type 0 where
  pub id : Id
  pub parent : Option Id
  pub name : List ℕ
  pub target : List ℕ
  pub kept : Data

abbrev pub shown_span : Span → ShownSpan
shown_span span = record {
  id = span.id;
  parent = span.parent;
  name = span.name;
  target = span.target;
  kept = span.kept;
}

-- the span, printed
abbrev pub printed_span : Span → Span
printed_span span = record span { kept = record span.kept { written = true } }

-- ---- spans in the form that a registry keeps

-- a live span with its path, and the number of its children
pub record KeptSpan : Type 0 where
  pub span : Span
  pub path : SpanPath
  pub children : ℕ

-- with one handle more
abbrev pub handle_more : KeptSpan → KeptSpan
handle_more node = record node { span = record node.span { handles = node.span.handles + 1 } }

-- with one handle less
abbrev pub handle_less : KeptSpan → KeptSpan
handle_less node = record node { span = record node.span { handles = node.span.handles - 1 } }

-- with one child more
abbrev pub child_more : KeptSpan → KeptSpan
child_more node = record node { children = node.children + 1 }

-- with one child less
abbrev pub child_less : KeptSpan → KeptSpan
child_less node = record node { children = node.children - 1 }

-- printed
abbrev pub kept_printed : KeptSpan → KeptSpan
kept_printed node = record node { span = printed_span node.span }

-- with these fields at the end of its own
abbrev pub fields_more : List Field → KeptSpan → KeptSpan
fields_more fields node =
    record node {
      span = record node.span
          { kept = record node.span.kept { fields = node.span.kept.fields ++ fields } };
    }
