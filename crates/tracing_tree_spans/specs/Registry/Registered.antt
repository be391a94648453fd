-- The answers of the registry's calls, and what they leave.
use Rattle.std.specs.Prelude.{◌≡◌, ◌≢◌, ◌==◌, nat_lt, Bool, true, false, not, ◌&&◌, List, [], ◌∷◌, length, map, zip, take_while, Option, Some, None, Result, Ok, Err, IsTrue, ⊤, Vec, ◌^◌}
use Rattle.std.specs.declared.alloc.Global.{Global}
use Rattle.std.specs.List.{list_all}
use Rattle.std.specs.Option.{option_map_or}
use Rattle.tracing_tree_spans.specs.Registry.Ids.{same_id}
use Rattle.tracing_tree_spans.specs.Registry.Spans.{Span}
use Rattle.tracing_tree_spans.specs.Registry.Forest.{Forest, named_parent, any_unless_live, unless_live, unless_handle, has_all_handles, add_handle, is_live, handles_of, is_child_of, children_of, IsGrownForest, id_after, new_span, add_span, goes_after, closing_of, after_close}
use Rattle.tracing_tree_base.specs.declared.context.Id.{Id}
use Rattle.tracing_tree_base.specs.declared.context.Context.{Context}
use Rattle.tracing_tree_base.specs.declared.context.Refusal.{Refusal}
use Rattle.tracing_tree_base.specs.declared.context.Refusal.TheVariants.{NotHeld, TooMany, Memory}
use Rattle.tracing_tree_spans.specs.declared.registry.Attributes.{Attributes}

-- each span's id is below those of the spans after it
abbrev pub IsRising : List Span → Type 0
IsRising [] = ⊤
IsRising (span ∷ newer) =
    IsTrue (list_all (λ other. nat_lt span.id.0 other.id.0) newer) × IsRising newer

-- each span's id is below 2^64
abbrev pub IsInRange : List Span → Type 0
IsInRange spans = IsTrue (list_all (λ span. nat_lt span.id.0 (2 ^ 64)) spans)

-- the forest of these spans, with an arbitrary next id
abbrev pub alone : List Span → Forest
alone spans = record { spans = spans; next = None }

-- what a registry keeps of its spans and the next id
abbrev pub IsKept : List Span → Option Id → Type 0
IsKept spans next =
    IsGrownForest (record { spans = spans; next = next }) × IsRising spans × IsInRange spans

-- a child of this span, and not the one that closes before it
abbrev pub is_other_child : Id → Option Id → Span → Bool
is_other_child i before span =
    is_child_of i span && not (option_map_or (same_id span.id) before false)

-- each child of this span is the one that closes before it
abbrev pub lacks_others : List Span → Option Id → Id → Bool
lacks_others spans before i =
    list_all (λ child. option_map_or (same_id child.id) before false) (children_of (alone spans) i)

-- the longest prefix of these ids in which each closes after the one before it, and the first after
-- this one
abbrev pub going_after : Forest → Option Id → List Id → List Id
going_after forest before ids =
    map (λ step. step.1)
    (take_while (λ step. goes_after forest step.0 step.1)
    (zip (before ∷ map (λ i. Some i) ids) ids))

-- the parent that is meant and that isn't live
abbrev pub missing_parent : Forest → Attributes → Context → Option Id
missing_parent forest attributes context =
    any_unless_live forest (named_parent attributes.parent context.current)

-- A new span has the next id. A missing parent is its first cause of refusal, and then a missing
-- next id. Only a span that has both can be refused because memory ran out. A refusal changes
-- nothing.
abbrev pub IsNewSpan : Attributes → Context → Result Id Refusal → Forest → Forest → Type 0
IsNewSpan attributes context (Ok i) old new =
    (missing_parent old attributes context ≡ None) × (old.next ≡ Some i)
    × (new ≡ add_span (new_span i attributes context.current context.moment.mono) old)
IsNewSpan attributes context (Err (NotHeld i)) old new =
    (missing_parent old attributes context ≡ Some i) × (new ≡ old)
IsNewSpan attributes context (Err TooMany) old new =
    (missing_parent old attributes context ≡ None) × (old.next ≡ None) × (new ≡ old)
IsNewSpan attributes context (Err Memory) old new =
    (missing_parent old attributes context ≡ None) × (old.next ≢ None) × (new ≡ old)
IsNewSpan attributes context (Err refusal) old new = ⊥

-- a clone adds one handle; a span that isn't live and a full count are refused, and then nothing
-- changes
abbrev pub IsCloned : Id → Result Id Refusal → Forest → Forest → Type 0
IsCloned i (Ok j) old new =
    (unless_live old i ≡ None) × (has_all_handles old i ≡ false) × (j ≡ i)
    × (new ≡ add_handle i old)
IsCloned i (Err (NotHeld j)) old new = (unless_live old i ≡ Some j) × (new ≡ old)
IsCloned i (Err TooMany) old new =
    (unless_live old i ≡ None) × (has_all_handles old i ≡ true) × (new ≡ old)
IsCloned i (Err refusal) old new = ⊥

-- a close drops one handle and removes what closes with it; it is refused exactly if no handle is
-- left, and then changes nothing
abbrev pub IsClosed : Id → Result Bool Refusal → Forest → Forest → Type 0
IsClosed i (Ok went) old new =
    (unless_handle old i ≡ None) × (went ≡ not (length (closing_of old i) == 0))
    × (new ≡ after_close i old)
IsClosed i (Err (NotHeld j)) old new = (unless_handle old i ≡ Some j) × (new ≡ old)
IsClosed i (Err refusal) old new = ⊥

-- the list of what closes with a handle; memory can run out only if that list isn't empty
abbrev pub ListsClosing : Id → Result (Vec Id Global) Refusal → Forest → Type 0
ListsClosing i (Ok ids) forest = (unless_handle forest i ≡ None) × (ids.items ≡ closing_of forest i)
ListsClosing i (Err (NotHeld j)) forest = unless_handle forest i ≡ Some j
ListsClosing i (Err Memory) forest = (unless_handle forest i ≡ None) × (closing_of forest i ≢ [])
ListsClosing i (Err refusal) forest = ⊥

-- the list, unless there is a refusal
abbrev pub listed : Vec Id Global → Result (Unit {0}) Refusal → Result (Vec Id Global) Refusal
listed ids (Ok done) = Ok ids
listed ids (Err refusal) = Err refusal

-- a nonempty list, and running out of memory, occur only at the last handle
abbrev pub AsksLastHandle : Id → Result (Vec Id Global) Refusal → Forest → Type 0
AsksLastHandle i (Ok ids) forest = ids.items ≢ [] → handles_of forest i ≡ 1
AsksLastHandle i (Err Memory) forest = handles_of forest i ≡ 1
AsksLastHandle i (Err refusal) forest = ⊤

-- the newest span, live, with one handle and no child
pub record IsNewest (i : Id) (forest : Forest) : Type 0 where
  pub live : IsTrue (is_live forest i)
  pub newest : forest.next ≡ id_after i
  pub handle : handles_of forest i ≡ 1
  pub childless : children_of forest i ≡ []
