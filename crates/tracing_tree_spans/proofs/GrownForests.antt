-- A forest whose spans are in the order in which they were made is well-formed.
use Rattle.std.proofs.Common.{◌≡◌, ℕ, zero, suc, false, List, [], ◌∷◌, ◌++◌, length, map, reverse, Option, Some, None, option_map, refl, sym, ap, ◌∙◌, subst}
use Rattle.std.specs.List.{list_any, AllByRecursion, IsDistinct}
use Rattle.std.proofs.lemmas.Bool.{not-true, or_parts}
use Rattle.std.proofs.lemmas.List.{map-append, reverse-append, reverse-reverse, length-map}
use Rattle.tracing_tree_spans.specs.Registry.Ids.{same_id}
use Rattle.tracing_tree_spans.specs.Registry.Spans.{Span}
use Rattle.tracing_tree_spans.specs.Registry.Forest.{Forest, has_id, span_at, path_up, path_of, IsGrown, IsForest, IsGrownForest}
use Rattle.tracing_tree_base.specs.declared.context.Id.{Id}
use Rattle.tracing_tree_spans.proofs.ForestLaws.{path_among, among-is_path}
use Rattle.tracing_tree_spans.proofs.PathsUp.{any_up, up-step, up-none, id_laws, ids_of, on-ids, forest-by_paths}
use Rattle.tracing_tree_spans.proofs.RegistryLaws.{IsSame, any-reverse, find-same}

-- ---- ids

all-push : (P : Id → Type 0) (ids : List Id) (i : Id) → AllByRecursion P ids → P i → AllByRecursion P (ids ++ i ∷ [])
all-push P [] i all own = (own, tt)
all-push P (j ∷ ids) i all own = (all.0, all-push P ids i all.1 own)

-- ids stay distinct with an id that isn't one of them
distinct-push : (ids : List Id) (i : Id) → IsDistinct same_id ids → list_any (same_id i) ids ≡ false → IsDistinct same_id (ids ++ i ∷ [])
unfolding IsDistinct
distinct-push [] i h fresh = (tt, tt)
distinct-push (j ∷ ids) i h fresh =
    let parts = or_parts (same_id i j) (list_any (same_id i) ids) fresh in
    (all-push (λ k. same_id j k ≡ false) ids i h.0 (id_laws.symm j i ∙ parts.0), distinct-push ids i h.1 parts.1)

distinct-none : IsDistinct same_id []
unfolding IsDistinct
distinct-none = tt

-- spans that have grown have distinct ids
distinct-turned : (spans : List Span) → IsGrown spans → IsDistinct same_id (ids_of (reverse spans))
distinct-turned [] grown = distinct-none
distinct-turned (x ∷ older) grown =
    let fresh : list_any (same_id x.id) (ids_of (reverse older)) ≡ false =
    on-ids (reverse older) x.id ∙ any-reverse (has_id x.id) older ∙ not-true (list_any (has_id x.id) older) grown.0 in
    let ids : ids_of (reverse (x ∷ older)) ≡ ids_of (reverse older) ++ x.id ∷ [] =
    ap ids_of (reverse-append (x ∷ []) older) ∙ map-append (λ (span : Span). span.id) (reverse older) (x ∷ []) in
    subst (IsDistinct same_id) (sym ids) (distinct-push (ids_of (reverse older)) x.id (distinct-turned older grown.2) fresh)

-- ---- the forest

pub as_forest : (forest : Forest) → IsGrownForest forest → IsForest forest
as_forest forest formed =
    forest-by_paths forest
    (subst (λ spans. IsDistinct same_id (ids_of spans)) (reverse-reverse forest.spans) (distinct-turned (reverse forest.spans) formed.grown))
    (λ i live. (path_among (reverse forest.spans) i, among-is_path forest formed.grown i live))

-- ---- changes that keep ids and parents

-- if spans look changed, as many steps up find the same
up-same : (u : Span → Span) → IsSame u → (old new : Forest) → ((j : Id) → span_at new j ≡ option_map u (span_at old j)) → (n : ℕ) (i : Id) →
    path_up n new.spans i ≡ path_up n old.spans i
up-same u h old new seen zero i = refl
up-same u h old new seen (suc n) i = by (λ j. up-same u h old new seen n j) (span_at old i) refl
  where
    ups : ((j : Id) → path_up n new.spans j ≡ path_up n old.spans j) → (o : Option Id) → any_up n new o ≡ any_up n old o
    ups ih None = refl
    ups ih (Some above) = ih above

    by : ((j : Id) → path_up n new.spans j ≡ path_up n old.spans j) → (o : Option Span) → span_at old i ≡ o → path_up (suc n) new.spans i ≡ path_up (suc n) old.spans i
    by ih None e = up-none (suc n) new i (seen i ∙ ap (λ o. option_map u o) e) ∙ sym (up-none (suc n) old i e)
    by ih (Some s) e =
        up-step n new i (u s) (seen i ∙ ap (λ o. option_map u o) e)
        ∙ ap (λ (ids : List Id). ids ++ i ∷ []) (ap (λ o. any_up n new o) (h.parents s) ∙ ups ih s.parent)
        ∙ sym (up-step n old i s e)

-- changed spans have the same paths
pub path_of-mapped : (u : Span → Span) → IsSame u → (spans : List Span) (next other : Option Id) (i : Id) →
    path_of (record { spans = map u spans; next = next }) i ≡ path_of (record { spans = spans; next = other }) i
path_of-mapped u h spans next other i =
    let new : Forest = record { spans = map u spans; next = next } in
    let old : Forest = record { spans = spans; next = other } in
    ap (λ n. path_up n new.spans i) (length-map spans u) ∙ up-same u h old new (λ j. find-same u h j spans) (length spans) i
