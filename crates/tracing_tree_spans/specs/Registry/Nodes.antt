-- The list of spans that a registry keeps.
use Rattle.std.specs.Prelude.{◌≡◌, ℕ, nat_lt, Bool, not, if◌then◌else◌, IsTrue, List, map, filter, find, length, Option, Some, None}
use Rattle.std.specs.List.{list_all}
use Rattle.tracing_tree_spans.specs.Registry.Spans.{Span, KeptSpan, child_more}
use Rattle.tracing_tree_spans.specs.Registry.Forest.{has_id, path_of, children_of}
use Rattle.tracing_tree_spans.specs.Registry.Registered.{alone}
use Rattle.tracing_tree_spans.specs.Registry.Branches.{path_at}
use Rattle.tracing_tree_spans.specs.declared.registry.branches.Branch.{Branch}
use Rattle.tracing_tree_base.specs.declared.context.Id.{Id}

-- whether it is the span with this id
abbrev pub keeps_id : Id → KeptSpan → Bool
keeps_id i node = has_id i node.span

-- the span with this id, if it is live
abbrev pub node_at : List KeptSpan → Id → Option KeptSpan
node_at nodes i = find (keeps_id i) nodes

-- only the spans
abbrev pub spans_of : List KeptSpan → List Span
spans_of nodes = map (λ node. node.span) nodes

-- the list with the span of this id changed
abbrev pub change_node : (KeptSpan → KeptSpan) → Id → List KeptSpan → List KeptSpan
change_node change i nodes = map (λ node. if keeps_id i node then change node else node) nodes

-- the list without the span of this id
abbrev pub leave_out : Id → List KeptSpan → List KeptSpan
leave_out i nodes = filter (λ node. not (keeps_id i node)) nodes

-- the list with one child more counted at this parent
abbrev pub with_child : Option Id → List KeptSpan → List KeptSpan
with_child None nodes = nodes
with_child (Some parent) nodes = change_node child_more parent nodes

-- the spans without the one of this id
abbrev pub without_span : Id → List Span → List Span
without_span i spans = filter (λ span. not (has_id i span)) spans

-- all ids are below this number
abbrev pub AreBelow : ℕ → List KeptSpan → Type 0
AreBelow n nodes = IsTrue (list_all (λ node. nat_lt node.span.id.0 n) nodes)

-- each span is kept with the number of its children
abbrev pub CountsChildren : List KeptSpan → Type 0
CountsChildren nodes =
    (i : Id) (node : KeptSpan) → node_at nodes i ≡ Some node →
    node.children ≡ length (children_of (alone (spans_of nodes)) i)

-- each span is kept with its path, which these branches store, and with the number of its children
pub record IsTied (branches : List Branch) (nodes : List KeptSpan) : Type 0 where
  pub paths : (i : Id) (node : KeptSpan) → node_at nodes i ≡ Some node →
      path_at branches node.path ≡ Some (path_of (alone (spans_of nodes)) i)
  pub children : CountsChildren nodes
