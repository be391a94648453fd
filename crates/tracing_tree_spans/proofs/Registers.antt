-- A registry over the list of spans that it keeps: what is read of a span, and what is left when
-- one changes, is added or is removed.
use Rattle.std.proofs.Common.{◌≡◌, ◌≢◌, ℕ, zero, suc, ◌-◌, ◌<◌, ◌≤◌, nat_lt, ◌==◌, Bool, true, false, ◌&&◌, not, List, [], ◌∷◌, ◌++◌, length, map, reverse, find, filter, Option, Some, None, IfSome, IfOk, Result, Ok, Err, Bor, if◌then◌else◌, arith, refl, sym, ap, ◌∙◌, subst, length-append}
use Rattle.std.specs.List.{list_all, list_any}
use Rattle.std.specs.Option.{option_map, option_map_or, option_or, option_copied, is_some}
use Rattle.std.specs.Bool.{then_some}
use Rattle.std.specs.Result.{OnOk, OnErr}
use Rattle.std.specs.Prelude.{Vec}
use Rattle.std.specs.declared.alloc.Global.{Global}
use Rattle.std.proofs.lemmas.Bool.{eqb-true}
use Rattle.std.proofs.lemmas.Bool.Decides.{nat_tests}
use Rattle.std.proofs.lemmas.List.{map-append, length-reverse, reverse-reverse}
use Rattle.std.proofs.lemmas.List.Folds.{find-append}
use Rattle.tracing_tree_spans.specs.Registry.Spans.{Span, KeptSpan, handle_less}
use Rattle.tracing_tree_spans.specs.Registry.Forest.{Forest, has_id, is_child_of, span_at, handles_of, unless_live, unless_handle, has_all_handles, any_unless_live, update_span, closing_of, children_of, path_of, path_of_any, IsPathIfLive, IsClosing, IsGrownForest}
use Rattle.tracing_tree_spans.specs.Registry.Registered.{IsKept, IsNewest, alone, going_after, lacks_others}
use Rattle.tracing_tree_spans.specs.Registry.Nodes.{keeps_id, node_at, spans_of, change_node, with_child, AreBelow, CountsChildren, IsTied}
use Rattle.tracing_tree_spans.specs.Registry.Branches.{path_at}
use Rattle.tracing_tree_base.specs.declared.context.Id.{Id}
use Rattle.tracing_tree_spans.specs.declared.registry.branches.Branch.{Branch}
use Rattle.tracing_tree_spans.specs.declared.registry.path.SpanPath.{SpanPath}
use Rattle.tracing_tree_spans.proofs.GrownForests.{as_forest}
use Rattle.tracing_tree_spans.proofs.ForestLaws.{is_some-find}
use Rattle.tracing_tree_spans.proofs.PathLaws.{path_of-none, path_of-whole}
use Rattle.tracing_tree_spans.proofs.RegistryLaws.{forest_of, changed, changed-same, forest-updated, rising-changed, below-changed, all_below, without, parent-live, taken-back}
use Rattle.tracing_tree_spans.proofs.NewestLaws.{fresh-next}
use Rattle.tracing_tree_spans.proofs.ClosingSteps.{one_less, closing-first, kept-none, closing_of-is}
use Rattle.tracing_tree_spans.proofs.ClosingWalk.{way_up}
use Rattle.tracing_tree_spans.proofs.KeptLists.{found-span, kept-id, spans-changed, spans-child}
use Rattle.tracing_tree_spans.proofs.Ties.{KeepsTies, tied-change, tied-push}

-- ---- what is read

-- the span of an id, in the form that is kept
pub seen : (nodes : List KeptSpan) (next : Option Id) (now : Forest) (i : Id) (o : Option KeptSpan) → forest_of (spans_of nodes) next ≡ now →
    node_at nodes i ≡ o → span_at now i ≡ option_map (λ n. n.span) o
seen nodes next now i o view h =
    ap (λ (forest : Forest). span_at forest i) (sym view) ∙ found-span nodes i ∙ ap (λ o. option_map (λ (n : KeptSpan). n.span) o) h

-- an id that isn't live
pub not-live : (now : Forest) (i : Id) → span_at now i ≡ None → unless_live now i ≡ Some i
not-live now i none = ap (λ (o : Option Span). then_some (not (is_some o)) i) none

pub no-handle : (now : Forest) (i : Id) → span_at now i ≡ None → unless_handle now i ≡ Some i
no-handle now i none = ap (λ o. then_some (option_map_or (λ (span : Span). span.handles) o 0 == 0) i) none

-- a live span
pub one-live : (now : Forest) (i : Id) (s : Span) → span_at now i ≡ Some s → unless_live now i ≡ None
one-live now i s here = ap (λ (o : Option Span). then_some (not (is_some o)) i) here

pub all-handles : (now : Forest) (i : Id) (s : Span) (b : Bool) → span_at now i ≡ Some s → (s.handles == 18_446_744_073_709_551_615) ≡ b → has_all_handles now i ≡ b
all-handles now i s b here e = ap (λ o. option_map_or (λ (span : Span). span.handles) o 0 == 18_446_744_073_709_551_615) here ∙ e

-- a live span without a handle
pub zero-handles : (now : Forest) (i : Id) (s : Span) → span_at now i ≡ Some s → s.handles ≡ 0 → unless_handle now i ≡ Some i
zero-handles now i s here zero-left =
    ap (λ o. then_some (option_map_or (λ (span : Span). span.handles) o 0 == 0) i) here ∙ ap (λ n. then_some (n == 0) i) zero-left

-- a live span with a handle
pub some-handles : (now : Forest) (i : Id) (s : Span) → span_at now i ≡ Some s → (s.handles ≢ 0) → unless_handle now i ≡ None
some-handles now i s here some =
    let first : (s.handles == 0) ≡ false = grind (arith, nat_tests) in
    ap (λ o. then_some (option_map_or (λ (span : Span). span.handles) o 0 == 0) i) here ∙ ap (λ b. then_some b i) first

-- a span with a handle left has one at least
some-left : (now : Forest) (i : Id) (s : Span) → span_at now i ≡ Some s → unless_handle now i ≡ None → (n : ℕ) → s.handles ≡ n → 0 < n
some-left now i s here held zero e = let clash = sym (zero-handles now i s here e) ∙ held in cc
some-left now i s here held (suc n) e = omega arith

pub handle-left : (nodes : List KeptSpan) (next : Option Id) (now : Forest) (i : Id) → forest_of (spans_of nodes) next ≡ now → unless_handle now i ≡ None →
    IfSome (node_at nodes i) (λ node. 0 < node.span.handles)
handle-left nodes next now i view held =
    elim (node_at nodes i) as (λ o. node_at nodes i ≡ o → IfSome o (λ node. 0 < node.span.handles)) [
      | None ↦ (λ e. tt)
      | Some node ↦ (λ e. some-left now i node.span (seen nodes next now i (Some node) view e) held node.span.handles refl)
    ] refl

-- a kept span is the one of its own id
pub kept-own : (nodes : List KeptSpan) (i : Id) (node : KeptSpan) → node_at nodes i ≡ Some node → node_at nodes node.span.id ≡ Some node
kept-own nodes i node h = ap (λ j. node_at nodes j) (kept-id nodes i node h) ∙ h

-- ---- a span changes

-- the registry keeps its invariant
pub kept-update : (change : KeptSpan → KeptSpan) (u : Span → Span) → KeepsTies change u → (nodes new : List KeptSpan) (next : Option Id) (i : Id) →
    IsKept (spans_of nodes) next → new ≡ change_node change i nodes → IsKept (spans_of new) next
kept-update change u h nodes new next i kept e =
    let spans : spans_of new ≡ map (changed u i) (spans_of nodes) = ap spans_of e ∙ spans-changed change u h.spans i nodes in
    subst (λ xs. IsKept xs next) (sym spans) (
      forest-updated u h.same i (forest_of (spans_of nodes) next) kept.0,
      rising-changed (changed u i) (changed-same u i h.same) (spans_of nodes) kept.1,
      below-changed (changed u i) (changed-same u i h.same) 18_446_744_073_709_551_616 (spans_of nodes) ∙ kept.2,
    )

pub tied-update : (branches : List Branch) (change : KeptSpan → KeptSpan) (u : Span → Span) → KeepsTies change u → (nodes new : List KeptSpan) (i : Id) →
    IsTied branches nodes → new ≡ change_node change i nodes → IsTied branches new
tied-update branches change u h nodes new i tied e = subst (IsTied branches) (sym e) (tied-change branches change u h i nodes tied)

-- and its forest is the one with this change
pub forest-update : (change : KeptSpan → KeptSpan) (u : Span → Span) → ((n : KeptSpan) → (change n).span ≡ u n.span) → (nodes new : List KeptSpan)
    (next : Option Id) (now : Forest) (i : Id) → forest_of (spans_of nodes) next ≡ now → new ≡ change_node change i nodes →
    forest_of (spans_of new) next ≡ update_span u i now
forest-update change u same nodes new next now i view e =
    let spans : spans_of new ≡ map (changed u i) (spans_of nodes) = ap spans_of e ∙ spans-changed change u same i nodes in
    (λ k. forest_of (spans k) next) ∙ ap (update_span u i) view

pub less-ties : KeepsTies handle_less one_less
less-ties = record {
  spans = λ n. refl;
  same = record { ids = λ s. refl; parents = λ s. refl };
  paths = λ n. refl;
  children = λ n. refl;
}

-- ---- a span is added

-- all spans are below the next id
pub below-next : (nodes : List KeptSpan) (next : Option Id) (i : Id) → IsKept (spans_of nodes) next → next ≡ Some i → AreBelow i.0 nodes
below-next nodes next i kept e =
    let kept' : IsKept (spans_of nodes) (Some i) = subst (λ o. IsKept (spans_of nodes) o) e kept in
    below nodes i.0 ∙ kept'.0.below_next
  where
    below : (xs : List KeptSpan) (n : ℕ) → list_all (λ node. nat_lt node.span.id.0 n) xs ≡ all_below n (spans_of xs)
    below [] n = refl
    below (x ∷ xs) n = ap (λ b. nat_lt x.span.id.0 n && b) (below xs n)

-- the spans after a new one
pub spans-new : (nodes same new : List KeptSpan) (node : KeptSpan) (o : Option Id) → same ≡ nodes → new ≡ with_child o (same ++ node ∷ []) →
    spans_of new ≡ spans_of nodes ++ node.span ∷ []
spans-new nodes same new node o e e' =
    ap spans_of e' ∙ spans-child o (same ++ node ∷ []) ∙ map-append (λ (n : KeptSpan). n.span) same (node ∷ [])
    ∙ ap (λ xs. spans_of xs ++ node.span ∷ []) e

-- each is kept with its path and its children
pub tied-new : (branches : List Branch) (nodes new : List KeptSpan) (next : Option Id) (i : Id) (node : KeptSpan) → IsKept (spans_of nodes) next → IsTied branches nodes → next ≡ Some i →
    node.span.id ≡ i → any_unless_live (alone (spans_of nodes)) node.span.parent ≡ None →
    path_at branches node.path ≡ Some (path_of_any (alone (spans_of nodes)) node.span.parent ++ node.span.id ∷ []) →
    node.children ≡ 0 → new ≡ with_child node.span.parent (nodes ++ node ∷ []) → IsTied branches new
tied-new branches nodes new next i node kept tied here same found path none e =
    let fresh : list_any (has_id node.span.id) (spans_of nodes) ≡ false =
    ap (λ j. list_any (has_id j) (spans_of nodes)) same ∙ fresh-next (spans_of nodes) next i kept here in
    subst (IsTied branches) (sym e) (tied-push branches nodes node (kept-none (spans_of nodes) next kept).0 tied (record {
      fresh = fresh;
      parent = live node.span.parent (parent-live (spans_of nodes) node.span.parent found);
      path = path;
      childless = none;
    }))
  where
    live : (o : Option Id) → option_map_or (λ above. is_some (find (has_id above) (spans_of nodes))) o true ≡ true →
        option_map_or (λ above. list_any (has_id above) (spans_of nodes)) o true ≡ true
    live None h = refl
    live (Some above) h = sym (is_some-find (has_id above) (spans_of nodes)) ∙ h

-- a part is no longer than the whole
part-le : (p : Span → Bool) (nodes : List KeptSpan) → length (filter p (spans_of nodes)) ≤ length nodes
part-le p [] = omega arith
part-le p (x ∷ nodes) = by (part-le p nodes) (p x.span)
  where
    by : length (filter p (spans_of nodes)) ≤ length nodes → (b : Bool) → length (if b then x.span ∷ filter p (spans_of nodes) else filter p (spans_of nodes)) ≤ length (x ∷ nodes)
    by ih true = omega arith
    by ih false = omega arith

-- its parent's children can be counted further
pub child-fits : (nodes new : List KeptSpan) (node : KeptSpan) (p : Id) → CountsChildren nodes → node.children ≡ 0 → new ≡ nodes ++ node ∷ [] →
    length new < 9_223_372_036_854_775_808 → IfSome (node_at new p) (λ k. k.children < 18_446_744_073_709_551_615)
child-fits nodes new node p counts none e few =
    subst (λ o. IfSome o (λ k. k.children < 18_446_744_073_709_551_615))
    (sym (ap (λ xs. node_at xs p) e ∙ find-append (keeps_id p) nodes (node ∷ []))) (by (node_at nodes p) refl)
  where
    by : (o : Option KeptSpan) → node_at nodes p ≡ o → IfSome (option_or o (node_at (node ∷ []) p)) (λ k. k.children < 18_446_744_073_709_551_615)
    by (Some k) h =
        let count = counts p k h in
        let most = part-le (is_child_of p) nodes in
        let n = ap (λ (xs : List KeptSpan). length xs) e ∙ length-append nodes (node ∷ []) in
        let fits : k.children < 18_446_744_073_709_551_615 = omega (arith, count, most, n, few) in fits
    by None h = elim (keeps_id p node) as (λ b. IfSome (if b then Some node else None) (λ k. k.children < 18_446_744_073_709_551_615)) [
      | true ↦ (let fits : node.children < 18_446_744_073_709_551_615 = omega (arith, none) in fits)
      | false ↦ tt
    ]

-- ---- a new span is taken back

-- if no span is chosen, no span passes
none-passes : (p : Span → Bool) (spans : List Span) → filter p spans ≡ [] → list_any p spans ≡ false
none-passes p [] h = refl
none-passes p (x ∷ spans) h = by (λ k. none-passes p spans k) (p x) refl
  where
    by : (filter p spans ≡ [] → list_any p spans ≡ false) → (b : Bool) → p x ≡ b → list_any p (x ∷ spans) ≡ false
    by ih true e = absurd (let some : x ∷ filter p spans ≡ [] = subst (λ b. (if b then x ∷ filter p spans else filter p spans) ≡ []) e h in cc)
    by ih false e = rw e (ih (subst (λ b. (if b then x ∷ filter p spans else filter p spans) ≡ []) e h))

pub newest-childless : (nodes : List KeptSpan) (next : Option Id) (now : Forest) (i : Id) → forest_of (spans_of nodes) next ≡ now → IsNewest i now →
    list_any (is_child_of i) (spans_of nodes) ≡ false
newest-childless nodes next now i view newest =
    none-passes (is_child_of i) (spans_of nodes) (ap (λ (forest : Forest). children_of forest i) view ∙ newest.childless)

-- spans with a first have a last
last-of : (x : Span) (xs : List Span) → (init : List Span) × (last : Span) × (x ∷ xs ≡ init ++ last ∷ [])
last-of x [] = ([], x, refl)
last-of x (y ∷ ys) = let rest = last-of y ys in (x ∷ rest.0, rest.1, ap (λ zs. x ∷ zs) rest.2)

-- without its newest span the registry keeps its invariant
pub kept-back : (spans new : List Span) (next : Option Id) (now : Forest) (i : Id) → IsKept spans next → forest_of spans next ≡ now → IsNewest i now →
    new ≡ without i spans → IsKept new (Some i)
kept-back spans new next now i kept view newest e = by spans refl
  where
    newest' : IsNewest i (forest_of spans next)
    newest' = subst (IsNewest i) (sym view) newest

    by : (xs : List Span) → xs ≡ spans → IsKept new (Some i)
    by [] h =
        let dead : is_some (find (has_id i) spans) ≡ false = ap (λ ys. is_some (find (has_id i) ys)) (sym h) in
        absurd (let both : true ≡ false = sym newest'.live ∙ dead in cc)
    by (x ∷ xs) h =
        let last = last-of x xs in
        let both = taken-back spans last.0 (Some last.1) next i kept newest' (sym h ∙ last.2) (λ never. absurd (let f : Some last.1 ≡ None = never in cc)) in
        let same : last.0 ≡ new = ap (λ (forest : Forest). forest.spans) both.1 ∙ sym e in
        subst (λ ys. IsKept ys (Some i)) same both.0

-- ---- a close

-- what closes has one handle
pub closing-one : (now : Forest) → IsGrownForest now → (i : Id) (s : Span) → span_at now i ≡ Some s → (s.handles ≢ 0) → (closing_of now i ≢ []) → handles_of now i ≡ 1
closing-one now formed i s here some closes =
    ap (λ o. option_map_or (λ (span : Span). span.handles) o 0) here ∙ by (s.handles - 1 == 0) refl
  where
    by : (b : Bool) → (s.handles - 1 == 0) ≡ b → s.handles ≡ 1
    by true e = let zero-left : s.handles - 1 ≡ 0 = eqb-true (s.handles - 1) 0 e in omega (arith, zero-left, positive some)
      where
        positive : (s.handles ≢ 0) → 0 < s.handles
        positive h = grind (arith, h)
    by false e =
        let goes : ((s.handles - 1 == 0) && lacks_others now.spans None i) ≡ false = rw e refl in
        absurd (closes (closing-first now formed i s here
        ∙ ap (λ b. if b then i ∷ going_after now (Some i) (way_up now s.parent) else []) goes))

-- whether it is more than 0
pub more-none : (n : ℕ) → nat_lt 0 n ≡ not (n == 0)
more-none n = grind (arith, nat_tests)

-- the list of what closes, of the whole registry
pub closing-whole : (nodes : List KeptSpan) (next : Option Id) (now : Forest) (i j : Id) (part : List Id) → forest_of (spans_of nodes) next ≡ now → j ≡ i →
    reverse part ≡ closing_of (alone (spans_of nodes)) j → reverse part ≡ closing_of now i
closing-whole nodes next now i j part view same closes =
    closes ∙ ap (closing_of (alone (spans_of nodes))) same ∙ ap (λ (forest : Forest). closing_of forest i) view

-- ---- a change that may fail and change nothing

pub kept-attempt : {X E : Type 0} (change : KeptSpan → KeptSpan) (u : Span → Span) → KeepsTies change u → (r : Result X E) (nodes new : List KeptSpan)
    (next : Option Id) (i : Id) → IsKept (spans_of nodes) next → OnOk r (new ≡ change_node change i nodes) → OnErr r (new ≡ nodes) → IsKept (spans_of new) next
kept-attempt change u h (Ok x) nodes new next i kept ok err = kept-update change u h nodes new next i kept ok
kept-attempt change u h (Err e) nodes new next i kept ok err = subst (λ xs. IsKept (spans_of xs) next) (sym err) kept

pub tied-attempt : {X E : Type 0} (branches : List Branch) (change : KeptSpan → KeptSpan) (u : Span → Span) → KeepsTies change u → (r : Result X E) (nodes new : List KeptSpan)
    (i : Id) → IsTied branches nodes → OnOk r (new ≡ change_node change i nodes) → OnErr r (new ≡ nodes) → IsTied branches new
tied-attempt branches change u h (Ok x) nodes new i tied ok err = tied-update branches change u h nodes new i tied ok
tied-attempt branches change u h (Err e) nodes new i tied ok err = subst (IsTied branches) (sym err) tied

pub forest-attempt : {X E : Type 0} (change : KeptSpan → KeptSpan) (u : Span → Span) → ((n : KeptSpan) → (change n).span ≡ u n.span) → (r : Result X E)
    (nodes new : List KeptSpan) (next : Option Id) (now : Forest) (i : Id) → forest_of (spans_of nodes) next ≡ now →
    OnOk r (new ≡ change_node change i nodes) → OnOk r (forest_of (spans_of new) next ≡ update_span u i now)
forest-attempt change u same (Ok x) nodes new next now i view ok = forest-update change u same nodes new next now i view ok
forest-attempt change u same (Err e) nodes new next now i view ok = tt

pub live-error : {X E : Type 0} (r : Result X E) (nodes : List KeptSpan) (next : Option Id) (now : Forest) (i : Id) → forest_of (spans_of nodes) next ≡ now →
    OnErr r (node_at nodes i ≡ None → ⊥) → OnErr r (span_at now i ≡ None → ⊥)
live-error (Ok x) nodes next now i view h = tt
live-error (Err e) nodes next now i view h = λ none. by (node_at nodes i) refl none
  where
    by : (o : Option KeptSpan) → node_at nodes i ≡ o → span_at now i ≡ None → ⊥
    by None g none = h g
    by (Some k) g none = let found : Some k.span ≡ None = sym (seen nodes next now i (Some k) view g) ∙ none in cc

-- an error at a live span
pub error-live : {X E : Type 0} (r : Result X E) (now : Forest) (i : Id) (s : Span) → span_at now i ≡ Some s → OnErr r (span_at now i ≡ None → ⊥)
error-live (Ok x) now i s h = tt
error-live (Err e) now i s h = λ none. (let found : Some s ≡ None = sym h ∙ none in cc)

-- ---- paths

-- the stored path of a span is its path
pub stored-path : (branches : List Branch) (nodes : List KeptSpan) → IsTied branches nodes → (i : Id) (node : KeptSpan) → node_at nodes i ≡ Some node →
    (path : SpanPath) → path ≡ node.path → (slice : List Id) → ((ids : List Id) → path_at branches path ≡ Some ids → slice ≡ ids) →
    slice ≡ path_of (alone (spans_of nodes)) i
stored-path branches nodes tied i node here path same slice reads =
    reads (path_of (alone (spans_of nodes)) i) (ap (path_at branches) same ∙ tied.paths i node here)

pub stored-whole : (branches : List Branch) (nodes : List KeptSpan) (next : Option Id) (now : Forest) → forest_of (spans_of nodes) next ≡ now → IsTied branches nodes →
    (i : Id) (node : KeptSpan) → node_at nodes i ≡ Some node → (path : SpanPath) → path ≡ node.path → (slice : List Id) →
    ((ids : List Id) → path_at branches path ≡ Some ids → slice ≡ ids) → slice ≡ path_of now i
stored-whole branches nodes next now view tied i node here path same slice reads =
    stored-path branches nodes tied i node here path same slice reads ∙ ap (λ (forest : Forest). path_of forest i) view

-- and the path of an id that isn't live is empty
pub path-gone : (now : Forest) (i : Id) → span_at now i ≡ None → path_of now i ≡ []
path-gone now i h = path_of-none now i (ap (λ (o : Option Span). is_some o) h)

-- the answer for a live span is its path
pub if-whole : {E : Type 0} (now : Forest) → IsGrownForest now → (i : Id) (r : Result (Vec Id Global) E) → IfOk r (λ path. path.items ≡ path_of now i) →
    IfOk r (λ path. IsPathIfLive now i path.items)
if-whole now formed i (Ok path) h = path_of-whole now (as_forest now formed) i path.items h
if-whole now formed i (Err e) h = tt

pub if-turned : {E : Type 0} (now : Forest) → IsGrownForest now → (i : Id) (r : Result (Vec Id Global) E) → IfOk r (λ path. path.items ≡ reverse (path_of now i)) →
    IfOk r (λ path. IsPathIfLive now i (reverse path.items))
if-turned now formed i (Ok path) h =
    path_of-whole now (as_forest now formed) i (reverse path.items) (ap (λ (ids : List Id). reverse ids) h ∙ reverse-reverse (path_of now i))
if-turned now formed i (Err e) h = tt

-- ---- a parent that may be missing

-- an id that is not found is missing
pub missing-is : (nodes : List KeptSpan) (o : Option Id) (i : Id) (r : Option (Bor KeptSpan)) (b : Bool) → o ≡ Some i →
    option_copied r ≡ node_at nodes i → is_some r ≡ not b → then_some b i ≡ any_unless_live (alone (spans_of nodes)) o
missing-is nodes o i r b e found test =
    ap (λ c. then_some c i) (turned b ∙ ap (λ c. not c) (sym test ∙ copied r ∙ ap (λ (p : Option KeptSpan). is_some p) found ∙ kept))
    ∙ sym (ap (any_unless_live (alone (spans_of nodes))) e)
  where
    turned : (c : Bool) → c ≡ not (not c)
    turned true = refl
    turned false = refl

    copied : (p : Option (Bor KeptSpan)) → is_some p ≡ is_some (option_copied p)
    copied None = refl
    copied (Some x) = refl

    mapped : (p : Option KeptSpan) → is_some p ≡ is_some (option_map (λ (n : KeptSpan). n.span) p)
    mapped None = refl
    mapped (Some x) = refl

    kept : is_some (node_at nodes i) ≡ is_some (find (has_id i) (spans_of nodes))
    kept = mapped (node_at nodes i) ∙ ap (λ (p : Option Span). is_some p) (sym (found-span nodes i))

-- ---- the list of what closes

pub empty-part : (part closing : List Id) → length part ≡ 0 → reverse part ≡ closing → closing ≡ []
empty-part [] closing none e = sym e
empty-part (x ∷ part) closing none e = absurd (omega arith)

pub some-part : (part closing : List Id) → (length part ≡ 0 → ⊥) → reverse part ≡ closing → closing ≡ [] → ⊥
some-part part closing some e none =
    let n = ap (λ (ids : List Id). length ids) (e ∙ none) in some (sym (length-reverse part) ∙ n)

-- what closes is what a closing is
pub closing-whole-is : (now : Forest) → IsGrownForest now → (i : Id) (s : Span) (ids : List Id) → span_at now i ≡ Some s → ids ≡ closing_of now i → IsClosing now i ids
closing-whole-is now formed i s ids here e = closing_of-is now (as_forest now formed) i (ap (λ (o : Option Span). is_some o) here) ids e
