-- The live spans, their paths, and what closes with a span.
use Rattle.std.specs.Prelude.{◌≡◌, ℕ, zero, suc, ◌+◌, ◌-◌, nat_lt, ◌==◌, ◌&&◌, Bool, true, false, not, if◌then◌else◌, IsTrue, List, [], ◌∷◌, ◌++◌, length, map, reverse, drop, filter, find, take_while, zip, Option, Some, None, is_some, option_map, option_and_then, ⊤, ◌^◌}
use Rattle.std.specs.Option.{option_map_or}
use Rattle.std.specs.Bool.{then_some}
use Rattle.std.specs.List.{list_all, list_any, last_or, common_prefix_len, IsDistinct}
use Rattle.tracing_tree_spans.specs.Registry.Ids.{id_of, same_id}
use Rattle.tracing_tree_spans.specs.Registry.Spans.{Span, printed_span}
use Rattle.tracing_tree_base.specs.declared.context.Id.{Id}
use Rattle.tracing_tree_base.specs.declared.field.Field.{Field}
use Rattle.tracing_tree_spans.specs.declared.registry.Parent.{Parent}
use Rattle.tracing_tree_spans.specs.declared.registry.Parent.TheVariants.{Root, Current, Of}
use Rattle.tracing_tree_spans.specs.declared.registry.Attributes.{Attributes}

-- the live spans, which a `Registry` lists oldest first, and the next id, which is `None` once the
-- greatest was used
pub record Forest : Type 0 where
  pub spans : List Span
  pub next : Option Id

abbrev pub empty_forest : Id → Forest
empty_forest first = record { spans = []; next = Some first }

-- ---- reading spans

abbrev pub has_id : Id → Span → Bool
has_id i span = same_id span.id i

-- the span with this id, if it is live
abbrev pub span_at : Forest → Id → Option Span
span_at forest i = find (has_id i) forest.spans

abbrev pub is_live : Forest → Id → Bool
is_live forest i = is_some (span_at forest i)

abbrev pub parent_of : Forest → Id → Option Id
parent_of forest i = option_and_then (λ span. span.parent) (span_at forest i)

-- 0 for a span that isn't live
abbrev pub handles_of : Forest → Id → ℕ
handles_of forest i = option_map_or (λ span. span.handles) (span_at forest i) 0

abbrev pub is_printed : Forest → Id → Bool
is_printed forest i = option_map_or (λ span. span.kept.written) (span_at forest i) false

-- the id, if it is there and live
abbrev pub if_live : Forest → Option Id → Option Id
if_live forest None = None
if_live forest (Some i) = if is_live forest i then Some i else None

-- the id, unless it is live
abbrev pub unless_live : Forest → Id → Option Id
unless_live forest i = then_some (not (is_live forest i)) i

-- an id that may be missing, unless it is live
abbrev pub any_unless_live : Forest → Option Id → Option Id
any_unless_live forest o = option_map_or (unless_live forest) o None

-- the id, unless a handle of it is left
abbrev pub unless_handle : Forest → Id → Option Id
unless_handle forest i = then_some (handles_of forest i == 0) i

-- the span has as many handles as can be counted
abbrev pub has_all_handles : Forest → Id → Bool
has_all_handles forest i = handles_of forest i == (2 ^ 64 - 1)

-- whether the id is the parent
abbrev pub is_child_of : Id → Span → Bool
is_child_of i span = option_map_or (same_id i) span.parent false

-- the spans whose parent this is
abbrev pub children_of : Forest → Id → List Span
children_of forest i = filter (is_child_of i) forest.spans

-- ---- paths

-- The ids of at most this many steps up from a span, the topmost first: the span's, before it its
-- parent's, and so on to its root.
abbrev pub path_up : ℕ → List Span → Id → List Id
path_up zero spans i = []
path_up (suc steps) spans i =
    option_map_or (λ span. option_map_or (λ parent. path_up steps spans parent) span.parent []
    ++ i ∷ []) (find (has_id i) spans) []

-- From the root down to the span; empty if it isn't live. As many steps as there are spans are
-- enough, since no id is twice on the path.
abbrev pub path_of : Forest → Id → List Id
path_of forest i = path_up (length forest.spans) forest.spans i

-- the path of an id that may be missing
abbrev pub path_of_any : Forest → Option Id → List Id
path_of_any forest o = option_map_or (path_of forest) o []

-- how far below its root a span is
abbrev pub level_of : Forest → Id → ℕ
level_of forest i = length (path_of forest i) - 1

-- each is live, the first has this parent, and each is the parent of the next
abbrev pub Descends : Forest → Option Id → List Id → Type 0
Descends forest parent [] = ⊤
Descends forest parent (i ∷ below) =
    (option_map (λ span. span.parent) (span_at forest i) ≡ Some parent)
    × Descends forest (Some i) below

-- a list from a root down to the span, each the parent of the next
pub record IsPath (forest : Forest) (i : Id) (path : List Id) : Type 0 where
  pub descends : Descends forest None path
  pub ends : last_or None path ≡ Some i

-- the path of a live span; empty if the span isn't live
pub record IsPathIfLive (forest : Forest) (i : Id) (path : List Id) : Type 0 where
  pub live : IsTrue (is_live forest i) → IsPath forest i path
  pub gone : is_live forest i ≡ false → path ≡ []

-- ---- well-formed forests

-- among these spans, newest first, each has a distinct id, and its parent is older
abbrev pub IsGrown : List Span → Type 0
IsGrown [] = ⊤
IsGrown (span ∷ older) =
    IsTrue (not (list_any (has_id span.id) older))
    × IsTrue (option_map_or (λ parent. list_any (has_id parent) older) span.parent true)
    × IsGrown older

-- the ids are below the next one
abbrev pub IsBelowNext : Forest → Type 0
IsBelowNext forest =
    IsTrue (option_map_or (λ next. list_all (λ span. nat_lt span.id.0 next.0) forest.spans)
    forest.next true)

-- the first is above the second: a path down from a child of the first leads to the second
abbrev pub IsAncestor : Forest → Id → Id → Type 0
IsAncestor forest ancestor i =
    (way : List Id) × Descends forest (Some ancestor) way × (last_or None way ≡ Some i)

-- Each span has a distinct id, each parent is live, and no span is its own ancestor. The order of
-- the list and the next id are arbitrary.
pub record IsForest (forest : Forest) : Type 0 where
  pub distinct : IsDistinct same_id (map (λ span. span.id) forest.spans)
  pub parents : (i parent : Id) → parent_of forest i ≡ Some parent → IsTrue (is_live forest parent)
  pub loopless : (i : Id) → IsAncestor forest i i → ⊥

-- a forest whose spans are in the order in which they were made: each after its parent, and all
-- below the next id
pub record IsGrownForest (forest : Forest) : Type 0 where
  pub grown : IsGrown (reverse forest.spans)
  pub below_next : IsBelowNext forest

-- ---- changes

-- the forest with the span of this id changed
abbrev pub update_span : (Span → Span) → Id → Forest → Forest
update_span change i forest =
    record forest { spans = map (λ span. if has_id i span then change span else span) forest.spans }

abbrev pub add_handle : Id → Forest → Forest
add_handle = update_span (λ span. record span { handles = span.handles + 1 })

abbrev pub take_handle : Id → Forest → Forest
take_handle = update_span (λ span. record span { handles = span.handles - 1 })

-- the fields are appended to the span's
abbrev pub add_fields : List Field → Id → Forest → Forest
add_fields fields =
    update_span (λ it. record it { kept = record it.kept { fields = it.kept.fields ++ fields } })

-- the span of this id becomes printed
abbrev pub mark_printed : Id → Forest → Forest
mark_printed = update_span printed_span

-- all of these become printed
abbrev pub mark_all : List Id → Forest → Forest
mark_all ids forest =
    record forest {
      spans = map (λ it. if list_any (same_id it.id) ids then printed_span it else it) forest.spans;
    }

-- the forest without these spans
abbrev pub without_spans : List Id → Forest → Forest
without_spans ids forest =
    record forest { spans = filter (λ span. not (list_any (same_id span.id) ids)) forest.spans }

-- ---- new spans

-- the parent that is meant, whether it is live or not
abbrev pub named_parent : Parent → Option Id → Option Id
named_parent Root current = None
named_parent Current current = current
named_parent (Of i) current = Some i

-- the id after this one, if there is one
abbrev pub id_after : Id → Option Id
id_after i = if i.0 == (2 ^ 64 - 1) then None else Some (id_of (i.0 + 1))

-- a new span: one handle, and not printed
abbrev pub new_span : Id → Attributes → Option Id → ℕ → Span
new_span i attributes current start = record {
  id = i;
  parent = named_parent attributes.parent current;
  name = attributes.name;
  target = attributes.target;
  kept = record { start = start; fields = attributes.fields; written = false };
  handles = 1;
}

-- the forest with this span as its newest
abbrev pub add_span : Span → Forest → Forest
add_span span forest = record { spans = forest.spans ++ span ∷ []; next = id_after span.id }

-- the forest before its newest span was made
abbrev pub take_back : Id → Forest → Forest
take_back i forest =
    record { spans = filter (λ span. not (has_id i span)) forest.spans; next = Some i }

-- ---- closing

-- no handle is left, and no child except the one that closes before it
abbrev pub goes_after : Forest → Option Id → Id → Bool
goes_after forest before i =
    (handles_of forest i == 0)
    && list_all (λ child. option_map_or (same_id child.id) before false) (children_of forest i)

-- a list in which each element is paired with the one before it
abbrev pub with_previous : List Id → List (Option Id × Id)
with_previous ids = zip (None ∷ map (λ i. Some i) ids) ids

-- the first of these ids, if there is one, doesn't close after the one before it
abbrev pub FirstStays : Forest → Option Id → List Id → Type 0
FirstStays forest before [] = ⊤
FirstStays forest before (i ∷ more) = goes_after forest before i ≡ false

-- the longest prefix of a list of ids in which each span closes after the one before it
pub record IsLongestGoing (forest : Forest) (ids going : List Id) : Type 0 where
  pub rest : List Id
  pub whole : ids ≡ going ++ rest
  pub each : IsTrue (list_all (λ step. goes_after forest step.0 step.1) (with_previous going))
  pub longest : FirstStays forest (last_or None going) rest

-- the span, its parent and so on upward, as far as each closes after the one before it
abbrev pub going_up : Forest → Id → List Id
going_up forest i =
    let steps = with_previous (reverse (path_of forest i)) in
    map (λ step. step.1) (take_while (λ step. goes_after forest step.0 step.1) steps)

-- what leaves the forest when one handle of a span is dropped: the span first, then its parent, and
-- so on upward
abbrev pub closing_of : Forest → Id → List Id
closing_of forest i = going_up (take_handle i forest) i

-- what leaves the forest when one handle of a span is dropped: the longest closing prefix of the
-- path from the span up to its root
unfoldable pub IsClosing : Forest → Id → List Id → Type 0
IsClosing forest i ids =
    (path : List Id) × IsPath forest i path
    × IsLongestGoing (take_handle i forest) (reverse path) ids

-- the forest after one handle of a span was dropped
abbrev pub after_close : Id → Forest → Forest
after_close i forest = without_spans (closing_of forest i) (take_handle i forest)

-- ---- what two paths share

-- the path of a span without its longest common prefix with the path of the last span
abbrev pub fresh_ids : Forest → Option Id → Id → List Id
fresh_ids forest last i =
    drop (common_prefix_len same_id (path_of_any forest last) (path_of forest i)) (path_of forest i)
