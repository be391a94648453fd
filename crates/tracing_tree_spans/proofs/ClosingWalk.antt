-- The path from a span up to its root, and what closes on it.
use Rattle.std.proofs.Common.{◌≡◌, ◌<◌, Bool, true, false, ◌&&◌, ◌||◌, List, [], ◌∷◌, ◌++◌, length, reverse, Option, Some, None, arith, refl, sym, ap, ◌∙◌, subst, append_assoc, length-append}
use Rattle.std.specs.List.{list_all, list_any}
use Rattle.std.proofs.lemmas.Bool.{not-true, and_parts, or_parts}
use Rattle.std.proofs.lemmas.Option.{same_Some}
use Rattle.std.proofs.lemmas.List.Folds.{list_any-append, list_all-append}
use Rattle.std.proofs.lemmas.List.{reverse-append}
use Rattle.tracing_tree_spans.specs.Registry.Ids.{same_id}
use Rattle.tracing_tree_spans.specs.Registry.Spans.{Span}
use Rattle.tracing_tree_spans.specs.Registry.Forest.{Forest, has_id, span_at, path_of, path_of_any, IsGrown, IsForest, IsGrownForest}
use Rattle.tracing_tree_base.specs.declared.context.Id.{Id}
use Rattle.tracing_tree_spans.proofs.PathLaws.{path_above, look-by, parent-among, above-older, path_of-step, path_of-none, path_of_any-among}
use Rattle.tracing_tree_spans.proofs.ForestLaws.{path_among, look, look-turned, look-newest, path-newest, path-older, same_id-eq}

-- ---- the path upward

-- from an id that may be missing up to its root
abbrev pub way_up : Forest → Option Id → List Id
way_up forest o = reverse (path_of_any forest o)

-- the path upward begins at the span, and continues at its parent
pub way-step : (forest : Forest) → IsForest forest → (i : Id) (s : Span) → span_at forest i ≡ Some s →
    way_up forest (Some i) ≡ i ∷ way_up forest s.parent
way-step forest formed i s h =
    ap (λ (path : List Id). reverse path) (path_of-step forest formed i s h) ∙ reverse-append (path_of_any forest s.parent) (i ∷ [])

-- from a span that isn't live the path upward is empty
pub way-none : (forest : Forest) (i : Id) → span_at forest i ≡ None → way_up forest (Some i) ≡ []
way-none forest i h = ap (λ (path : List Id). reverse path) (path_of-none forest i (rw h refl))

-- a parent has a shorter path
pub path-falls : (forest : Forest) → IsForest forest → (i : Id) (s : Span) → span_at forest i ≡ Some s →
    length (path_of_any forest s.parent) < length (path_of forest i)
path-falls forest formed i s h =
    let e = ap (λ (path : List Id). length path) (path_of-step forest formed i s h) ∙ length-append (path_of_any forest s.parent) (i ∷ []) in
    omega (arith, e)

-- one step up: the ids so far gain the span
pub one-up : (forest : Forest) → IsForest forest → (i : Id) (s : Span) (ids whole : List Id) → span_at forest i ≡ Some s →
    ids ++ way_up forest (Some i) ≡ whole → (ids ++ i ∷ []) ++ way_up forest s.parent ≡ whole
one-up forest formed i s ids whole h way =
    append_assoc ids (i ∷ []) (way_up forest s.parent) ∙ ap (λ xs. ids ++ xs) (sym (way-step forest formed i s h)) ∙ way

-- a list with an element in it isn't empty
holds_one : {A : Type 0} (before after : List A) (x : A) → ¬ (before ++ x ∷ after ≡ [])
holds_one [] after x e = cc
holds_one (y ∷ before) after x e = cc

-- an id is live if a live span is on its path upward
pub way-live : (forest : Forest) → IsForest forest → (i first : Id) (s : Span) (ids : List Id) → span_at forest i ≡ Some s →
    ids ++ way_up forest (Some i) ≡ way_up forest (Some first) → ¬ (span_at forest first ≡ None)
way-live forest formed i first s ids h way gone =
    holds_one ids (way_up forest s.parent) i (ap (λ xs. ids ++ xs) (sym (way-step forest formed i s h)) ∙ way ∙ way-none forest first gone)

-- ---- an id appears once on its path upward

-- each of these ids is among these spans
abbrev all_live : List Span → List Id → Bool
all_live spans ids = list_all (λ j. list_any (has_id j) spans) ids

-- what is among the spans is among them with one more
live-more : (x : Span) (spans : List Span) (ids : List Id) → all_live spans ids ≡ true → all_live (x ∷ spans) ids ≡ true
live-more x spans [] h = refl
live-more x spans (j ∷ ids) h =
    let parts = and_parts (list_any (has_id j) spans) (all_live spans ids) h in
    rw (parts.0, live-more x spans ids parts.1) (elim (has_id j x) as (λ b. ((b || true) && true) ≡ true) [ true ↦ refl | false ↦ refl ])

-- a path has only live spans
path-live : (spans : List Span) (i : Id) → all_live spans (path_among spans i) ≡ true
path-live [] i = refl
path-live (x ∷ older) i = by x.parent (λ j. path-live older j) (has_id i x) refl
  where
    up : (o : Option Id) → ((j : Id) → all_live older (path_among older j) ≡ true) → all_live older (path_above older o) ≡ true
    up None ih = refl
    up (Some above) ih = ih above

    by : (o : Option Id) → ((j : Id) → all_live older (path_among older j) ≡ true) → (b : Bool) → has_id i x ≡ b →
        all_live (x ∷ older) (path_among (x ∷ older) i) ≡ true
    by o ih true e =
        let here : list_any (has_id i) (x ∷ older) ≡ true = rw e refl in
        ap (λ ids. all_live (x ∷ older) ids) (path-newest x older i e)
        ∙ list_all-append (λ j. list_any (has_id j) (x ∷ older)) (path_above older x.parent) (i ∷ [])
        ∙ rw (live-more x older (path_above older x.parent) (up x.parent ih), here) refl
    by o ih false e =
        ap (λ ids. all_live (x ∷ older) ids) (path-older x older i e) ∙ live-more x older (path_among older i) (ih i)

-- the path above a span has only live spans
above-live : (spans : List Span) (o : Option Id) → all_live spans (path_above spans o) ≡ true
above-live spans None = refl
above-live spans (Some above) = path-live spans above

-- an id that isn't among the spans isn't one of these
fresh-none : (spans : List Span) (i : Id) (ids : List Id) → all_live spans ids ≡ true → list_any (has_id i) spans ≡ false →
    list_any (same_id i) ids ≡ false
fresh-none spans i [] h fresh = refl
fresh-none spans i (j ∷ ids) h fresh =
    let parts = and_parts (list_any (has_id j) spans) (all_live spans ids) h in
    by (fresh-none spans i ids parts.1 fresh) parts.0 (same_id i j) refl
  where
    by : list_any (same_id i) ids ≡ false → list_any (has_id j) spans ≡ true → (b : Bool) → same_id i j ≡ b → list_any (same_id i) (j ∷ ids) ≡ false
    by ih live true e =
        let dead : list_any (has_id j) spans ≡ false = subst (λ k. list_any (has_id k) spans ≡ false) (same_id-eq i j e) fresh in
        absurd (let both : true ≡ false = sym live ∙ dead in cc)
    by ih live false e = rw e ih

-- a span's id isn't on the path above it
above-fresh : (spans : List Span) → IsGrown spans → (i : Id) (s : Span) → look spans i ≡ Some s → list_any (same_id i) (path_above spans s.parent) ≡ false
above-fresh [] grown i s h = cc
above-fresh (x ∷ older) grown i s h = by (λ k. above-fresh older grown.2 i s k) (has_id i x) refl
  where
    fresh : list_any (has_id x.id) older ≡ false
    fresh = not-true (list_any (has_id x.id) older) grown.0

    by : (look older i ≡ Some s → list_any (same_id i) (path_above older s.parent) ≡ false) → (b : Bool) → has_id i x ≡ b →
        list_any (same_id i) (path_above (x ∷ older) s.parent) ≡ false
    by ih true e =
        let same : x ≡ s = same_Some x s (sym (look-newest x older i e) ∙ h) in
        let own : x.id ≡ i = same_id-eq x.id i e in
        let none : list_any (same_id i) (path_above older x.parent) ≡ false =
        fresh-none older i (path_above older x.parent) (above-live older x.parent) (subst (λ j. list_any (has_id j) older ≡ false) own fresh) in
        subst (λ (y : Span). list_any (same_id i) (path_above (x ∷ older) y.parent) ≡ false) same
        (ap (λ ids. list_any (same_id i) ids) (above-older x older fresh x.parent grown.1) ∙ none)
    by ih false e =
        let below : look older i ≡ Some s = sym (look-by x older i e) ∙ h in
        ap (λ ids. list_any (same_id i) ids) (above-older x older fresh s.parent (parent-among older grown.2 i s below)) ∙ ih below

-- what no id of a list has, no id of its reverse has
any-turned : (p : Id → Bool) (ids : List Id) → list_any p ids ≡ false → list_any p (reverse ids) ≡ false
any-turned p [] h = refl
any-turned p (j ∷ ids) h =
    let parts = or_parts (p j) (list_any p ids) h in
    ap (λ js. list_any p js) (reverse-append (j ∷ []) ids) ∙ list_any-append p (reverse ids) (j ∷ [])
    ∙ rw (any-turned p ids parts.1, parts.0) refl

-- a span's id isn't on the path upward from its parent
pub way-fresh : (forest : Forest) → IsGrownForest forest → (i : Id) (s : Span) → span_at forest i ≡ Some s →
    list_any (same_id i) (way_up forest s.parent) ≡ false
way-fresh forest formed i s h =
    let fresh : list_any (same_id i) (path_above (reverse forest.spans) s.parent) ≡ false =
    above-fresh (reverse forest.spans) formed.grown i s (look-turned forest formed.grown i ∙ h) in
    any-turned (same_id i) (path_of_any forest s.parent)
    (ap (λ ids. list_any (same_id i) ids) (path_of_any-among forest formed.grown s.parent) ∙ fresh)
