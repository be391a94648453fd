-- The path of a live span is its parent's path and the span, and it has no other path. A span that
-- isn't live has the empty path.
use Rattle.std.proofs.Common.{◌≡◌, ℕ, suc, ◌≤◌, Bool, true, false, ◌||◌, List, [], ◌∷◌, ◌++◌, length, reverse, Option, Some, None, is_some, arith, refl, sym, ap, ◌∙◌, subst}
use Rattle.std.specs.Option.{option_map_or}
use Rattle.std.specs.List.{list_any}
use Rattle.std.proofs.lemmas.Bool.{or_parts}
use Rattle.tracing_tree_spans.specs.Registry.Spans.{Span}
use Rattle.tracing_tree_spans.specs.Registry.Forest.{Forest, has_id, span_at, is_live, path_up, path_of, path_of_any, IsPath, IsPathIfLive, IsGrown, IsForest}
use Rattle.tracing_tree_base.specs.declared.context.Id.{Id}
use Rattle.tracing_tree_spans.proofs.ForestLaws.{path_among, look, look-turned, look-newest, older-not, path-older, is_some-find, among-is_path}
use Rattle.tracing_tree_spans.proofs.PathsUp.{any_up, up-step, up-none, path-up, path-short, path_of-one, live-path, none-found}

-- the path of a parent that may be missing
abbrev pub path_above : List Span → Option Id → List Id
path_above spans o = option_map_or (λ above. path_among spans above) o []

pub look-by : (span : Span) (older : List Span) (i : Id) → has_id i span ≡ false → look (span ∷ older) i ≡ look older i
look-by span older i e = rw e refl

some-eq : {A : Type 0} (a b : A) → Some a ≡ Some b → a ≡ b
some-eq a b e = cc

-- the parent of a span is among them
pub parent-among : (spans : List Span) → IsGrown spans → (i : Id) (s : Span) → look spans i ≡ Some s →
    option_map_or (λ a. list_any (has_id a) spans) s.parent true ≡ true
parent-among [] grown i s h = cc
parent-among (span ∷ older) grown i s h = by (λ k. parent-among older grown.2 i s k) (has_id i span) refl
  where
    widen : (o : Option Id) → option_map_or (λ a. list_any (has_id a) older) o true ≡ true →
        option_map_or (λ a. list_any (has_id a) (span ∷ older)) o true ≡ true
    widen None e = refl
    widen (Some a) e = elim (has_id a span) as (λ b. (b || list_any (has_id a) older) ≡ true) [ true ↦ refl | false ↦ e ]

    by : (look older i ≡ Some s → option_map_or (λ a. list_any (has_id a) older) s.parent true ≡ true) →
        (b : Bool) → has_id i span ≡ b → option_map_or (λ a. list_any (has_id a) (span ∷ older)) s.parent true ≡ true
    by ih true e =
        let same : span ≡ s = some-eq span s (sym (look-newest span older i e) ∙ h) in
        widen s.parent (subst (λ x. option_map_or (λ a. list_any (has_id a) older) x.parent true ≡ true) same grown.1)
    by ih false e = widen s.parent (ih (sym (look-by span older i e) ∙ h))

-- a newer span changes no path of a parent among the older ones
pub above-older : (span : Span) (older : List Span) → list_any (has_id span.id) older ≡ false → (o : Option Id) →
    option_map_or (λ a. list_any (has_id a) older) o true ≡ true → path_above (span ∷ older) o ≡ path_above older o
above-older span older fresh None e = refl
above-older span older fresh (Some a) e =
    path-older span older a (older-not span older a fresh (is_some-find (has_id a) older ∙ e))

path_among-none : (spans : List Span) (i : Id) → list_any (has_id i) spans ≡ false → path_among spans i ≡ []
path_among-none [] i h = refl
path_among-none (span ∷ older) i h =
    let parts = or_parts (has_id i span) (list_any (has_id i) older) h in
    path-older span older i parts.0 ∙ path_among-none older i parts.1

-- ---- one path

-- a span has one path
pub path_of-only : (forest : Forest) (i : Id) (path : List Id) → IsPath forest i path → path ≡ path_of forest i
path_of-only forest i path h = sym (path_of-one forest i path h)

-- the path of a span that isn't live is empty
pub path_of-none : (forest : Forest) (i : Id) → is_live forest i ≡ false → path_of forest i ≡ []
path_of-none forest i h = up-none (length forest.spans) forest i (none-found (span_at forest i) h)

-- ---- in a well-formed forest

-- the path of a live span is a path
pub path_of-is_path : (forest : Forest) → IsForest forest → (i : Id) → is_live forest i ≡ true → IsPath forest i (path_of forest i)
path_of-is_path forest formed i live =
    let there = live-path forest formed i live in
    subst (IsPath forest i) (sym (path_of-one forest i there.0 there.1)) there.1

-- more steps up than there are spans find the path too
path_of-far : (forest : Forest) → IsForest forest → (n : ℕ) → length forest.spans ≤ n → (o : Option Id) → any_up n forest o ≡ path_of_any forest o
path_of-far forest formed n enough None = refl
path_of-far forest formed n enough (Some i) = by (is_live forest i) refl
  where
    by : (b : Bool) → is_live forest i ≡ b → path_up n forest.spans i ≡ path_of forest i
    by true live =
        let there = live-path forest formed i live in
        let short = path-short forest i there.0 there.1 in
        path-up forest i there.0 there.1 n (omega (arith, enough, short)) ∙ sym (path_of-one forest i there.0 there.1)
    by false gone = up-none n forest i (none-found (span_at forest i) gone) ∙ sym (path_of-none forest i gone)

-- the path of a live span is its parent's and the span
pub path_of-step : (forest : Forest) → IsForest forest → (i : Id) (s : Span) → span_at forest i ≡ Some s →
    path_of forest i ≡ path_of_any forest s.parent ++ i ∷ []
path_of-step forest formed i s h =
    let whole : IsPath forest i (path_of forest i) = path_of-is_path forest formed i (ap (λ o. is_some o) h) in
    let short = path-short forest i (path_of forest i) whole in
    sym (path-up forest i (path_of forest i) whole (suc (length forest.spans)) (omega (arith, short)))
    ∙ up-step (length forest.spans) forest i s h
    ∙ ap (λ (ids : List Id). ids ++ i ∷ []) (path_of-far forest formed (length forest.spans) (omega arith) s.parent)

-- the path is what a path is, and it is empty for a span that isn't live
pub path_of-whole : (forest : Forest) → IsForest forest → (i : Id) (path : List Id) → path ≡ path_of forest i → IsPathIfLive forest i path
path_of-whole forest formed i path h = record {
  live = λ live. subst (IsPath forest i) (sym h) (path_of-is_path forest formed i live);
  gone = λ gone. h ∙ path_of-none forest i gone;
}

-- ---- if each span comes after its parent

-- the path is the one among the reversed spans
pub path_of-among : (forest : Forest) → IsGrown (reverse forest.spans) → (i : Id) → path_of forest i ≡ path_among (reverse forest.spans) i
path_of-among forest grown i = by (is_live forest i) refl
  where
    by : (b : Bool) → is_live forest i ≡ b → path_of forest i ≡ path_among (reverse forest.spans) i
    by true live = path_of-one forest i (path_among (reverse forest.spans) i) (among-is_path forest grown i live)
    by false gone =
        let none : list_any (has_id i) (reverse forest.spans) ≡ false =
        sym (is_some-find (has_id i) (reverse forest.spans)) ∙ ap (λ o. is_some o) (look-turned forest grown i) ∙ gone in
        path_of-none forest i gone ∙ sym (path_among-none (reverse forest.spans) i none)

pub path_of_any-among : (forest : Forest) → IsGrown (reverse forest.spans) → (o : Option Id) → path_of_any forest o ≡ path_above (reverse forest.spans) o
path_of_any-among forest grown None = refl
path_of_any-among forest grown (Some i) = path_of-among forest grown i
