-- Each span is kept with its path and with the count of its children, while spans change, are added
-- and are removed.
use Rattle.std.proofs.Common.{◌≡◌, ℕ, ◌+◌, ◌-◌, ◌<◌, nat_lt, Bool, true, false, not, List, [], ◌∷◌, ◌++◌, length, map, reverse, find, filter, Option, Some, None, IfSome, if◌then◌else◌, arith, refl, sym, ap, ◌∙◌, subst, length-append}
use Rattle.std.specs.List.{list_any, last_or}
use Rattle.std.specs.Option.{option_map, option_map_or, option_and_then, option_or, is_some}
use Rattle.std.proofs.lemmas.Bool.{and_parts}
use Rattle.std.proofs.lemmas.Bool.Decides.{nat_tests}
use Rattle.std.proofs.lemmas.List.{map-append, reverse-append}
use Rattle.std.proofs.lemmas.List.Folds.{find-append}
use Rattle.std.proofs.lemmas.List.Elements.{filter-append}
use Rattle.std.proofs.lemmas.Option.{same_Some}
use Rattle.tracing_tree_spans.specs.Registry.Ids.{same_id}
use Rattle.tracing_tree_spans.specs.Registry.Spans.{Span, KeptSpan, child_less}
use Rattle.tracing_tree_spans.specs.Registry.Forest.{has_id, is_child_of, parent_of, path_of, path_of_any, children_of, IsGrown, IsGrownForest}
use Rattle.tracing_tree_spans.specs.Registry.Registered.{IsRising, alone}
use Rattle.tracing_tree_spans.specs.Registry.Nodes.{keeps_id, node_at, spans_of, change_node, leave_out, with_child, IsTied}
use Rattle.tracing_tree_spans.specs.Registry.Branches.{path_at, KeepsPaths, KeepsOthers}
use Rattle.tracing_tree_base.specs.declared.context.Id.{Id}
use Rattle.tracing_tree_spans.specs.declared.registry.branches.Branch.{Branch}
use Rattle.tracing_tree_spans.proofs.ForestLaws.{path_among, path-newest, path-older, is_some-find, same_id-eq, last_or-push}
use Rattle.tracing_tree_spans.proofs.PathLaws.{path_of-none, path_of-step, path_of-among, path_of_any-among}
use Rattle.tracing_tree_spans.proofs.RegistryLaws.{IsSame, changed, changed-same, without, any-reverse}
use Rattle.tracing_tree_spans.proofs.GrownForests.{as_forest, path_of-mapped}
use Rattle.tracing_tree_spans.proofs.SpanLists.{all_above}
use Rattle.tracing_tree_spans.proofs.NewestLaws.{filter-missing, no-child}
use Rattle.tracing_tree_spans.proofs.ClosingSteps.{path_of-without}
use Rattle.tracing_tree_spans.proofs.SlotLists.{leave-none}
use Rattle.tracing_tree_spans.proofs.KeptLists.{found-span, spans-changed, spans-same, spans-child, spans-left, spans-childless, found-before, found-left, times, counted-more, without_child, counted-less}

-- ---- a change

-- a change that shows only in the span, and keeps its id and its parent
pub record KeepsTies (change : KeptSpan → KeptSpan) (u : Span → Span) : Type 0 where
  pub spans : (n : KeptSpan) → (change n).span ≡ u n.span
  pub same : IsSame u
  pub paths : (n : KeptSpan) → (change n).path ≡ n.path
  pub children : (n : KeptSpan) → (change n).children ≡ n.children

-- changed spans have as many children
children-changed : (u : Span → Span) → IsSame u → (j : Id) (spans : List Span) → length (filter (is_child_of j) (map u spans)) ≡ length (filter (is_child_of j) spans)
children-changed u h j [] = refl
children-changed u h j (x ∷ spans) =
    ap (λ (o : Option Id). length (if option_map_or (same_id j) o false then u x ∷ filter (is_child_of j) (map u spans) else filter (is_child_of j) (map u spans))) (h.parents x)
    ∙ by (children-changed u h j spans) (is_child_of j x)
  where
    by : length (filter (is_child_of j) (map u spans)) ≡ length (filter (is_child_of j) spans) → (b : Bool) →
        length (if b then u x ∷ filter (is_child_of j) (map u spans) else filter (is_child_of j) (map u spans))
        ≡ length (if b then x ∷ filter (is_child_of j) spans else filter (is_child_of j) spans)
    by ih true = omega (arith, ih)
    by ih false = ih

-- changed spans have the same paths
pub path_of-changed : (u : Span → Span) → IsSame u → (spans : List Span) (j : Id) → path_of (alone (map u spans)) j ≡ path_of (alone spans) j
path_of-changed u h spans j = path_of-mapped u h spans None None j

pub tied-change : (branches : List Branch) (change : KeptSpan → KeptSpan) (u : Span → Span) → KeepsTies change u → (i : Id) (nodes : List KeptSpan) → IsTied branches nodes →
    IsTied branches (change_node change i nodes)
tied-change branches change u h i nodes tied = record { paths = paths; children = children }
  where
    one : KeptSpan → KeptSpan
    one n = if keeps_id i n then change n else n

    ids : (n : KeptSpan) → (if keeps_id i n then change n else n).span.id ≡ n.span.id
    ids n = elim (keeps_id i n) as (λ b. (if b then change n else n).span.id ≡ n.span.id) [
      | true ↦ ap (λ (s : Span). s.id) (h.spans n) ∙ h.same.ids n.span
      | false ↦ refl
    ]

    same-path : (n : KeptSpan) → (if keeps_id i n then change n else n).path ≡ n.path
    same-path n = elim (keeps_id i n) as (λ b. (if b then change n else n).path ≡ n.path) [ true ↦ h.paths n | false ↦ refl ]

    same-children : (n : KeptSpan) → (if keeps_id i n then change n else n).children ≡ n.children
    same-children n = elim (keeps_id i n) as (λ b. (if b then change n else n).children ≡ n.children) [ true ↦ h.children n | false ↦ refl ]

    spans : spans_of (change_node change i nodes) ≡ map (changed u i) (spans_of nodes)
    spans = spans-changed change u h.spans i nodes

    paths : (j : Id) (node : KeptSpan) → node_at (change_node change i nodes) j ≡ Some node →
        path_at branches node.path ≡ Some (path_of (alone (spans_of (change_node change i nodes))) j)
    paths j node e =
        let m = found-before (λ n. if keeps_id i n then change n else n) ids nodes j node e in
        ap (path_at branches) (sym (ap (λ (n : KeptSpan). n.path) m.2) ∙ same-path m.0) ∙ tied.paths j m.0 m.1
        ∙ ap (λ (ids : List Id). Some ids) (sym (path_of-changed (changed u i) (changed-same u i h.same) (spans_of nodes) j)
        ∙ ap (λ xs. path_of (alone xs) j) (sym spans))

    children : (j : Id) (node : KeptSpan) → node_at (change_node change i nodes) j ≡ Some node →
        node.children ≡ length (children_of (alone (spans_of (change_node change i nodes))) j)
    children j node e =
        let m = found-before (λ n. if keeps_id i n then change n else n) ids nodes j node e in
        sym (ap (λ (n : KeptSpan). n.children) m.2) ∙ same-children m.0 ∙ tied.children j m.0 m.1
        ∙ sym (children-changed (changed u i) (changed-same u i h.same) j (spans_of nodes))
        ∙ ap (λ (xs : List Span). length (children_of (alone xs) j)) (sym spans)

-- ---- stored paths

-- branches that keep each path serve as well
pub tied-kept : (branches new : List Branch) (nodes : List KeptSpan) → KeepsPaths branches new → IsTied branches nodes → IsTied new nodes
tied-kept branches new nodes keeps tied = record {
  paths = λ j n e. keeps n.path (path_of (alone (spans_of nodes)) j) (tied.paths j n e);
  children = tied.children;
}

-- the path of a parent
pub path-above : (branches : List Branch) (nodes : List KeptSpan) → IsTied branches nodes → (o : Option Id) (node : KeptSpan) →
    option_and_then (node_at nodes) o ≡ Some node → path_at branches node.path ≡ Some (path_of_any (alone (spans_of nodes)) o)
path-above branches nodes tied None node e = absurd cc
path-above branches nodes tied (Some p) node e = tied.paths p node e

pub no-path-above : (nodes : List KeptSpan) (o : Option Id) → option_and_then (node_at nodes) o ≡ None → path_of_any (alone (spans_of nodes)) o ≡ []
no-path-above nodes None e = refl
no-path-above nodes (Some p) e =
    let gone : find (has_id p) (spans_of nodes) ≡ None = found-span nodes p ∙ ap (λ o. option_map (λ (node : KeptSpan). node.span) o) e in
    path_of-none (alone (spans_of nodes)) p (ap (λ (o : Option Span). is_some o) gone)

-- ---- a span is added

-- an id that is among the spans is not the new one
old-not : (spans : List Span) (s : Span) (j : Id) (t : Span) → list_any (has_id s.id) spans ≡ false → find (has_id j) spans ≡ Some t → has_id j s ≡ false
old-not spans s j t fresh found = by (has_id j s) refl
  where
    by : (b : Bool) → has_id j s ≡ b → b ≡ false
    by false e = refl
    by true e =
        let same : s.id ≡ j = same_id-eq s.id j e in
        let here : list_any (has_id j) spans ≡ true = sym (is_some-find (has_id j) spans) ∙ ap (λ (o : Option Span). is_some o) found in
        absurd (let both : true ≡ false = sym here ∙ subst (λ k. list_any (has_id k) spans ≡ false) same fresh in cc)

-- the newest span is before all others, once they are reversed
path_of-pushed : (spans : List Span) (s : Span) → IsGrown (s ∷ reverse spans) → (j : Id) → path_of (alone (spans ++ s ∷ [])) j ≡ path_among (s ∷ reverse spans) j
path_of-pushed spans s grown j =
    let turned : reverse (spans ++ s ∷ []) ≡ s ∷ reverse spans = reverse-append spans (s ∷ []) in
    path_of-among (alone (spans ++ s ∷ [])) (subst IsGrown (sym turned) grown) j ∙ ap (λ xs. path_among xs j) turned

-- the newest span changes no older path
pub path_of-more : (spans : List Span) (s : Span) → IsGrown (s ∷ reverse spans) → (j : Id) → has_id j s ≡ false →
    path_of (alone (spans ++ s ∷ [])) j ≡ path_of (alone spans) j
path_of-more spans s grown j other =
    path_of-pushed spans s grown j ∙ path-older s (reverse spans) j other ∙ sym (path_of-among (alone spans) grown.2 j)

-- its own path is its parent's and itself
pub path_of-new : (spans : List Span) (s : Span) → IsGrown (s ∷ reverse spans) → (j : Id) → has_id j s ≡ true →
    path_of (alone (spans ++ s ∷ [])) j ≡ path_of_any (alone spans) s.parent ++ j ∷ []
path_of-new spans s grown j own =
    path_of-pushed spans s grown j ∙ path-newest s (reverse spans) j own
    ∙ ap (λ (path : List Id). path ++ j ∷ []) (sym (path_of_any-among (alone spans) grown.2 s.parent))

-- it is one more child of its parent
children-more : (spans : List Span) (s : Span) (j : Id) → length (children_of (alone (spans ++ s ∷ [])) j) ≡ length (children_of (alone spans) j) + times j s.parent
children-more spans s j =
    ap (λ (xs : List Span). length xs) (filter-append (is_child_of j) spans (s ∷ []))
    ∙ length-append (filter (is_child_of j) spans) (filter (is_child_of j) (s ∷ []))
    ∙ elim (is_child_of j s) as (λ b. length (filter (is_child_of j) spans) + length (if b then s ∷ [] else [])
    ≡ length (filter (is_child_of j) spans) + (if b then 1 else 0)) [ true ↦ refl | false ↦ refl ]

-- an id that no span has isn't a parent
children-none : (spans : List Span) (j : Id) → IsGrownForest (alone spans) → list_any (has_id j) spans ≡ false → length (children_of (alone spans) j) ≡ 0
children-none spans j formed fresh =
    let none : list_any (is_child_of j) spans ≡ false =
    sym (any-reverse (is_child_of j) spans) ∙ no-child j (reverse spans) formed.grown (any-reverse (has_id j) spans ∙ fresh) in
    ap (λ (xs : List Span). length xs) (filter-missing (is_child_of j) spans none)

-- what is known of a new span
pub record IsNext (branches : List Branch) (nodes : List KeptSpan) (node : KeptSpan) : Type 0 where
  pub fresh : list_any (has_id node.span.id) (spans_of nodes) ≡ false
  pub parent : option_map_or (λ above. list_any (has_id above) (spans_of nodes)) node.span.parent true ≡ true
  pub path : path_at branches node.path ≡ Some (path_of_any (alone (spans_of nodes)) node.span.parent ++ node.span.id ∷ [])
  pub childless : node.children ≡ 0

pub tied-push : (branches : List Branch) (nodes : List KeptSpan) (node : KeptSpan) → IsGrownForest (alone (spans_of nodes)) → IsTied branches nodes → IsNext branches nodes node →
    IsTied branches (with_child node.span.parent (nodes ++ node ∷ []))
tied-push branches nodes node formed tied new = record {
  paths = λ j n e. let m = counted-more node.span.parent (nodes ++ node ∷ []) j n e in
      ap (path_at branches) m.1.path ∙ path j m.0 m.1.before ∙ ap (λ xs. Some (path_of (alone xs) j)) (sym spans);
  children = λ j n e. let m = counted-more node.span.parent (nodes ++ node ∷ []) j n e in
      m.2 ∙ count j m.0 m.1.before ∙ ap (λ (xs : List Span). length (children_of (alone xs) j)) (sym spans);
}
  where
    spans : spans_of (with_child node.span.parent (nodes ++ node ∷ [])) ≡ spans_of nodes ++ node.span ∷ []
    spans = spans-child node.span.parent (nodes ++ node ∷ []) ∙ map-append (λ (n : KeptSpan). n.span) nodes (node ∷ [])

    among : (o : Option Id) → option_map_or (λ above. list_any (has_id above) (spans_of nodes)) o true ≡ true →
        option_map_or (λ above. list_any (has_id above) (reverse (spans_of nodes))) o true ≡ true
    among None h = refl
    among (Some above) h = any-reverse (has_id above) (spans_of nodes) ∙ h

    grown : IsGrown (node.span ∷ reverse (spans_of nodes))
    grown =
        let fresh : list_any (has_id node.span.id) (reverse (spans_of nodes)) ≡ false = any-reverse (has_id node.span.id) (spans_of nodes) ∙ new.fresh in
        (ap (λ b. not b) fresh, among node.span.parent new.parent, formed.grown)

    found : (j : Id) (m : KeptSpan) → node_at (nodes ++ node ∷ []) j ≡ Some m → option_or (node_at nodes j) (node_at (node ∷ []) j) ≡ Some m
    found j m e = sym (find-append (keeps_id j) nodes (node ∷ [])) ∙ e

    old : (j : Id) (k : KeptSpan) → node_at nodes j ≡ Some k → has_id j node.span ≡ false
    old j k e = old-not (spans_of nodes) node.span j k.span new.fresh (found-span nodes j ∙ ap (λ o. option_map (λ (n : KeptSpan). n.span) o) e)

    own : (j : Id) (m : KeptSpan) → node_at (node ∷ []) j ≡ Some m → (keeps_id j node ≡ true) × (node ≡ m)
    own j m e = by (keeps_id j node) refl
      where
        by : (b : Bool) → keeps_id j node ≡ b → (b ≡ true) × (node ≡ m)
        by true g = (refl, same_Some node m (subst (λ b. (if b then Some node else None) ≡ Some m) g e))
        by false g = absurd (let none : None ≡ Some m = subst (λ b. (if b then Some node else None) ≡ Some m) g e in cc)

    path-by : (j : Id) (m : KeptSpan) (o : Option KeptSpan) → node_at nodes j ≡ o → option_or o (node_at (node ∷ []) j) ≡ Some m →
        path_at branches m.path ≡ Some (path_of (alone (spans_of nodes ++ node.span ∷ [])) j)
    path-by j m (Some k) e h =
        let same : k ≡ m = same_Some k m h in
        sym (ap (λ (n : KeptSpan). path_at branches n.path) same) ∙ tied.paths j k e
        ∙ ap (λ (ids : List Id). Some ids) (sym (path_of-more (spans_of nodes) node.span grown j (old j k e)))
    path-by j m None e h =
        let here = own j m h in
        let id : node.span.id ≡ j = same_id-eq node.span.id j here.0 in
        sym (ap (λ (n : KeptSpan). path_at branches n.path) here.1) ∙ new.path
        ∙ ap (λ (ids : List Id). Some ids) (ap (λ k. path_of_any (alone (spans_of nodes)) node.span.parent ++ k ∷ []) id
        ∙ sym (path_of-new (spans_of nodes) node.span grown j here.0))

    path : (j : Id) (m : KeptSpan) → node_at (nodes ++ node ∷ []) j ≡ Some m → path_at branches m.path ≡ Some (path_of (alone (spans_of nodes ++ node.span ∷ [])) j)
    path j m e = path-by j m (node_at nodes j) refl (found j m e)

    count-by : (j : Id) (m : KeptSpan) (o : Option KeptSpan) → node_at nodes j ≡ o → option_or o (node_at (node ∷ []) j) ≡ Some m →
        m.children + times j node.span.parent ≡ length (children_of (alone (spans_of nodes ++ node.span ∷ [])) j)
    count-by j m (Some k) e h =
        let same : k ≡ m = same_Some k m h in
        ap (λ (n : KeptSpan). n.children + times j node.span.parent) (sym same) ∙ ap (λ n. n + times j node.span.parent) (tied.children j k e)
        ∙ sym (children-more (spans_of nodes) node.span j)
    count-by j m None e h =
        let here = own j m h in
        let id : node.span.id ≡ j = same_id-eq node.span.id j here.0 in
        let fresh : list_any (has_id j) (spans_of nodes) ≡ false = subst (λ k. list_any (has_id k) (spans_of nodes) ≡ false) id new.fresh in
        ap (λ (n : KeptSpan). n.children + times j node.span.parent) (sym here.1) ∙ ap (λ n. n + times j node.span.parent) new.childless
        ∙ ap (λ n. n + times j node.span.parent) (sym (children-none (spans_of nodes) j formed fresh))
        ∙ sym (children-more (spans_of nodes) node.span j)

    count : (j : Id) (m : KeptSpan) → node_at (nodes ++ node ∷ []) j ≡ Some m →
        m.children + times j node.span.parent ≡ length (children_of (alone (spans_of nodes ++ node.span ∷ [])) j)
    count j m e = count-by j m (node_at nodes j) refl (found j m e)

-- ---- a span is removed

-- above an id no span has it
above-all : (i : Id) (spans : List Span) → all_above i.0 spans ≡ true → without i spans ≡ spans
above-all i [] h = refl
above-all i (x ∷ spans) h =
    let parts = and_parts (nat_lt i.0 x.id.0) (all_above i.0 spans) h in
    let other : has_id i x ≡ false = grind (arith, nat_tests, parts.0) in
    rw other (ap (λ xs. x ∷ xs) (above-all i spans parts.1))

-- the parent of the span has one child less
pub children-without : (i : Id) (spans : List Span) (s : Span) → IsRising spans → find (has_id i) spans ≡ Some s → (j : Id) →
    length (filter (is_child_of j) spans) ≡ length (filter (is_child_of j) (without i spans)) + times j s.parent
children-without i [] s rising h j = absurd cc
children-without i (x ∷ spans) s rising h j = by (λ k. children-without i spans s rising.1 k j) (has_id i x) refl
  where
    more : (b : Bool) (xs ys : List Span) (n : ℕ) → length xs ≡ length ys + n → length (if b then x ∷ xs else xs) ≡ length (if b then x ∷ ys else ys) + n
    more true xs ys n e = omega (arith, e)
    more false xs ys n e = e

    first : (b : Bool) (xs : List Span) → length (if b then x ∷ xs else xs) ≡ length xs + (if b then 1 else 0)
    first true xs = omega arith
    first false xs = omega arith

    by : (find (has_id i) spans ≡ Some s → length (filter (is_child_of j) spans) ≡ length (filter (is_child_of j) (without i spans)) + times j s.parent) →
        (b : Bool) → has_id i x ≡ b →
        length (filter (is_child_of j) (x ∷ spans)) ≡ length (filter (is_child_of j) (without i (x ∷ spans))) + times j s.parent
    by ih true e =
        let same : x ≡ s = same_Some x s (subst (λ b. (if b then Some x else find (has_id i) spans) ≡ Some s) e h) in
        let own : x.id ≡ i = same_id-eq x.id i e in
        let rest : without i spans ≡ spans = above-all i spans (subst (λ (k : Id). all_above k.0 spans ≡ true) own rising.0) in
        rw e (first (is_child_of j x) (filter (is_child_of j) spans)
        ∙ ap (λ (xs : List Span). length (filter (is_child_of j) xs) + times j x.parent) (sym rest)
        ∙ ap (λ (y : Span). length (filter (is_child_of j) (without i spans)) + times j y.parent) same)
    by ih false e =
        rw e (more (is_child_of j x) (filter (is_child_of j) spans) (filter (is_child_of j) (without i spans)) (times j s.parent)
        (ih (subst (λ b. (if b then Some x else find (has_id i) spans) ≡ Some s) e h)))

-- two lists with one end have one last element
same-last : (xs ys : List Id) (i j : Id) → xs ++ i ∷ [] ≡ ys ++ j ∷ [] → i ≡ j
same-last xs ys i j e = same_Some i j (sym (last_or-push None xs i) ∙ ap (last_or None) e ∙ last_or-push None ys j)

-- so two live spans with one path are one span
one-span : (spans : List Span) → IsGrown (reverse spans) → (i j : Id) (s t : Span) → find (has_id i) spans ≡ Some s → find (has_id j) spans ≡ Some t →
    path_of (alone spans) i ≡ path_of (alone spans) j → i ≡ j
one-span spans grown i j s t here there e =
    let formed = as_forest (alone spans) (record { grown = grown; below_next = refl }) in
    same-last (path_of_any (alone spans) s.parent) (path_of_any (alone spans) t.parent) i j
    (sym (path_of-step (alone spans) formed i s here) ∙ e ∙ path_of-step (alone spans) formed j t there)

pub tied-remove : (branches less : List Branch) (nodes : List KeptSpan) (i : Id) (node : KeptSpan) → IsGrown (reverse (spans_of nodes)) → IsRising (spans_of nodes) →
    IsTied branches nodes → KeepsOthers node.path branches less → node_at nodes i ≡ Some node →
    list_any (is_child_of i) (spans_of nodes) ≡ false → IsTied less (without_child node.span.parent (leave_out i nodes))
tied-remove branches less nodes i node grown rising tied keeps here childless = record {
  paths = λ j n e. let m = counted-less node.span.parent (leave_out i nodes) j n e in
      let there = found-left i nodes j m.0 m.1.before in
      ap (path_at less) m.1.path
      ∙ keeps m.0.path (path_of (alone (spans_of nodes)) j) (tied.paths j m.0 there.1) (other j m.0 there.0 there.1)
      ∙ ap (λ (ids : List Id). Some ids) (sym (path_of-without i (spans_of nodes) grown childless j there.0)
      ∙ ap (λ xs. path_of (alone xs) j) (sym spans));
  children = λ j n e. let m = counted-less node.span.parent (leave_out i nodes) j n e in
      let there = found-left i nodes j m.0 m.1.before in
      let fewer = children-without i (spans_of nodes) node.span rising found j in
      m.2 ∙ ap (λ k. k - times j node.span.parent) (tied.children j m.0 there.1 ∙ fewer) ∙ omega arith
      ∙ ap (λ (xs : List Span). length (children_of (alone xs) j)) (sym spans);
}
  where
    found : find (has_id i) (spans_of nodes) ≡ Some node.span
    found = found-span nodes i ∙ ap (λ o. option_map (λ (n : KeptSpan). n.span) o) here

    other : (j : Id) (m : KeptSpan) → same_id i j ≡ false → node_at nodes j ≡ Some m → path_at branches node.path ≡ Some (path_of (alone (spans_of nodes)) j) → ⊥
    other j m apart there e =
        let same : i ≡ j = one-span (spans_of nodes) grown i j node.span m.span found (found-span nodes j ∙ ap (λ o. option_map (λ (n : KeptSpan). n.span) o) there)
        (same_Some (path_of (alone (spans_of nodes)) i) (path_of (alone (spans_of nodes)) j) (sym (tied.paths i node here) ∙ e)) in
        let own : same_id j j ≡ true = grind (arith, nat_tests) in
        let both : true ≡ false = sym own ∙ subst (λ k. same_id k j ≡ false) same apart in cc

    spans : spans_of (without_child node.span.parent (leave_out i nodes)) ≡ without i (spans_of nodes)
    spans = spans-childless node.span.parent (leave_out i nodes) ∙ spans-left i nodes

-- the parent of the span that the code removes
pub parent-read : (nodes : List KeptSpan) (i : Id) (o : Option KeptSpan) → node_at nodes i ≡ o →
    parent_of (alone (spans_of nodes)) i ≡ option_and_then (λ (n : KeptSpan). n.span.parent) o
parent-read nodes i o here =
    ap (λ s. option_and_then (λ (span : Span). span.parent) s) (found-span nodes i ∙ ap (λ o. option_map (λ (n : KeptSpan). n.span) o) here) ∙ by o
  where
    by : (o : Option KeptSpan) → option_and_then (λ (span : Span). span.parent) (option_map (λ (n : KeptSpan). n.span) o)
        ≡ option_and_then (λ (n : KeptSpan). n.span.parent) o
    by None = refl
    by (Some n) = refl

-- an id that isn't live changes nothing
pub tied-nothing : (branches : List Branch) (nodes new : List KeptSpan) (i : Id) → IsTied branches nodes → node_at nodes i ≡ None → new ≡ leave_out i nodes → IsTied branches new
tied-nothing branches nodes new i tied none e = subst (IsTied branches) (leave-none i nodes none ∙ sym e) tied

-- the parent counts the span that was removed
pub child-counted : (branches : List Branch) (nodes new : List KeptSpan) (i p : Id) (node : KeptSpan) → IsRising (spans_of nodes) → IsTied branches nodes → node_at nodes i ≡ Some node →
    node.span.parent ≡ Some p → new ≡ leave_out i nodes → IfSome (node_at new p) (λ k. 0 < k.children)
child-counted branches nodes new i p node rising tied here parent e = by (node_at new p) refl
  where
    found : find (has_id i) (spans_of nodes) ≡ Some node.span
    found = found-span nodes i ∙ ap (λ o. option_map (λ (n : KeptSpan). n.span) o) here

    one : times p node.span.parent ≡ 1
    one =
        let own : same_id p p ≡ true = grind (arith, nat_tests) in
        ap (times p) parent ∙ ap (λ b. if b then 1 else 0) own

    by : (o : Option KeptSpan) → node_at new p ≡ o → IfSome o (λ k. 0 < k.children)
    by None g = tt
    by (Some k) g =
        let there = found-left i nodes p k (ap (λ xs. node_at xs p) (sym e) ∙ g) in
        let count = tied.children p k there.1 in
        let fewer = children-without i (spans_of nodes) node.span rising found p in
        omega (arith, count, fewer, one)

-- a span is removed that counts at its parent
pub tied-leaf : (branches less : List Branch) (nodes left new : List KeptSpan) (i p : Id) (node : KeptSpan) → IsGrown (reverse (spans_of nodes)) → IsRising (spans_of nodes) →
    IsTied branches nodes → KeepsOthers node.path branches less → node_at nodes i ≡ Some node →
    list_any (is_child_of i) (spans_of nodes) ≡ false → node.span.parent ≡ Some p → left ≡ leave_out i nodes → new ≡ change_node child_less p left → IsTied less new
tied-leaf branches less nodes left new i p node grown rising tied keeps here childless parent e e' =
    let whole : new ≡ without_child node.span.parent (leave_out i nodes) =
    e' ∙ ap (change_node child_less p) e ∙ ap (λ o. without_child o (leave_out i nodes)) (sym parent) in
    subst (IsTied less) (sym whole) (tied-remove branches less nodes i node grown rising tied keeps here childless)

-- a root is removed
pub tied-root : (branches less : List Branch) (nodes new : List KeptSpan) (i : Id) (node : KeptSpan) → IsGrown (reverse (spans_of nodes)) → IsRising (spans_of nodes) →
    IsTied branches nodes → KeepsOthers node.path branches less → node_at nodes i ≡ Some node →
    list_any (is_child_of i) (spans_of nodes) ≡ false → node.span.parent ≡ None → new ≡ leave_out i nodes → IsTied less new
tied-root branches less nodes new i node grown rising tied keeps here childless parent e =
    let whole : new ≡ without_child node.span.parent (leave_out i nodes) = e ∙ ap (λ o. without_child o (leave_out i nodes)) (sym parent) in
    subst (IsTied less) (sym whole) (tied-remove branches less nodes i node grown rising tied keeps here childless)

-- the spans that are left
pub spans-leaf : (nodes left new : List KeptSpan) (i p : Id) → left ≡ leave_out i nodes → new ≡ change_node child_less p left →
    spans_of new ≡ without i (spans_of nodes)
spans-leaf nodes left new i p e e' =
    ap spans_of (e' ∙ ap (change_node child_less p) e) ∙ spans-same child_less (λ n. refl) p (leave_out i nodes) ∙ spans-left i nodes
