-- What is found by going up from a span is its path, if it has a path. A path is no longer than the
-- list of spans. In a well-formed forest each live span has a path.
use Rattle.std.proofs.Common.{◌≡◌, ℕ, zero, suc, ◌+◌, ◌≤◌, Bool, true, false, ◌||◌, List, [], ◌∷◌, ◌++◌, length, map, append_assoc, length-append, Option, Some, None, is_some, option_map, arith, refl, sym, ap, ◌∙◌, subst}
use Rattle.std.specs.Cmp.{IsEquivalence}
use Rattle.std.specs.Option.{option_map_or, option_and_then}
use Rattle.std.specs.List.{list_any, last_or, AllByRecursion, IsDistinct}
use Rattle.std.proofs.lemmas.Cmp.{nat_eq_equiv}
use Rattle.std.proofs.lemmas.Option.{same_Some}
use Rattle.std.proofs.lemmas.Map.Made.{length-le_from_is_member}
use Rattle.std.proofs.lemmas.List.{append-nil, length-map}
use Rattle.tracing_tree_spans.specs.Registry.Ids.{same_id}
use Rattle.tracing_tree_spans.specs.Registry.Spans.{Span}
use Rattle.tracing_tree_spans.specs.Registry.Forest.{Forest, has_id, span_at, is_live, parent_of, path_up, path_of, Descends, IsPath, IsAncestor, IsForest}
use Rattle.tracing_tree_base.specs.declared.context.Id.{Id}
use Rattle.tracing_tree_spans.proofs.ForestLaws.{is_some-find, same_id-eq, last_or-push}

-- ---- steps up

-- the same from an id that may be missing
abbrev pub any_up : ℕ → Forest → Option Id → List Id
any_up steps forest o = option_map_or (λ above. path_up steps forest.spans above) o []

-- one step up from a live span
pub up-step : (n : ℕ) (forest : Forest) (i : Id) (s : Span) → span_at forest i ≡ Some s →
    path_up (suc n) forest.spans i ≡ any_up n forest s.parent ++ i ∷ []
up-step n forest i s h = ap (λ o. option_map_or (λ (span : Span). any_up n forest span.parent ++ i ∷ []) o []) h

-- nothing from a span that isn't live
pub up-none : (n : ℕ) (forest : Forest) (i : Id) → span_at forest i ≡ None → path_up n forest.spans i ≡ []
up-none zero forest i h = refl
up-none (suc n) forest i h = ap (λ o. option_map_or (λ (span : Span). any_up n forest span.parent ++ i ∷ []) o []) h

pub some-parent : (o : Option Span) (above : Option Id) → option_map (λ span. span.parent) o ≡ Some above →
    (s : Span) × (o ≡ Some s) × (s.parent ≡ above)
some-parent None above h = absurd (none-some h)
  where
    none-some : {A : Type 0} {a : A} → None ≡ Some a → ⊥
    none-some e = cc
some-parent (Some s) above h = (s, refl, some-eq s.parent above h)
  where
    some-eq : {A : Type 0} (a b : A) → Some a ≡ Some b → a ≡ b
    some-eq a b e = cc

-- below what enough steps up find, a downward path is found by as many steps more
down-up : (forest : Forest) (above : Option Id) (front path : List Id) (m : ℕ) → ((n : ℕ) → m ≤ n → any_up n forest above ≡ front) →
    Descends forest above path → (n : ℕ) → m + length path ≤ n → any_up n forest (last_or above path) ≡ front ++ path
down-up forest above front [] m up h n enough = up n (omega (arith, enough)) ∙ sym (append-nil front)
down-up forest above front (i ∷ below) m up h n enough =
    down-up forest (Some i) (front ++ i ∷ []) below (m + 1) here h.1 n (omega (arith, enough)) ∙ append_assoc front (i ∷ []) below
  where
    found : (s : Span) × (span_at forest i ≡ Some s) × (s.parent ≡ above)
    found = some-parent (span_at forest i) above h.0

    here : (k : ℕ) → m + 1 ≤ k → any_up k forest (Some i) ≡ front ++ i ∷ []
    here zero le = absurd (omega (arith, le))
    here (suc k) le =
        up-step k forest i found.0 found.1 ∙ ap (λ o. any_up k forest o ++ i ∷ []) found.2
        ∙ ap (λ (ids : List Id). ids ++ i ∷ []) (up k (omega (arith, le)))

-- as many steps up as a path is long, or more, find it
pub path-up : (forest : Forest) (i : Id) (path : List Id) → IsPath forest i path → (n : ℕ) → length path ≤ n → path_up n forest.spans i ≡ path
path-up forest i path h n enough =
    sym (ap (λ o. any_up n forest o) h.ends) ∙ down-up forest None [] path 0 (λ k le. refl) h.descends n (omega (arith, enough))

-- a span has one path
pub one-path : (forest : Forest) (i : Id) (left right : List Id) → IsPath forest i left → IsPath forest i right → left ≡ right
one-path forest i left right h k =
    sym (path-up forest i left h (length left + length right) (omega arith)) ∙ path-up forest i right k (length left + length right) (omega arith)

-- ---- the length of a path

-- a prefix of a downward path is a downward path
pub descends-front : (forest : Forest) (above : Option Id) (front : List Id) (i : Id) (back : List Id) → Descends forest above (front ++ i ∷ back) →
    Descends forest above (front ++ i ∷ [])
descends-front forest above [] i back h = (h.0, tt)
descends-front forest above (j ∷ front) i back h = (h.0, descends-front forest (Some j) front i back h.1)

pub front-path : (forest : Forest) (front : List Id) (i : Id) (back : List Id) → Descends forest None (front ++ i ∷ back) → IsPath forest i (front ++ i ∷ [])
front-path forest front i back h = record { descends = descends-front forest None front i back h; ends = last_or-push None front i }

descends-append : (forest : Forest) (above : Option Id) (front back : List Id) → Descends forest above front → Descends forest (last_or above front) back →
    Descends forest above (front ++ back)
descends-append forest above [] back h k = k
descends-append forest above (i ∷ front) back h k = (h.0, descends-append forest (Some i) front back h.1 k)

last_or-append : (above : Option Id) (front back : List Id) → last_or above (front ++ back) ≡ last_or (last_or above front) back
last_or-append above [] back = refl
last_or-append above (i ∷ front) back = last_or-append (Some i) front back

-- what has a path isn't its own ancestor: it would have a longer path too
pub path-loopless : (forest : Forest) (i : Id) (path : List Id) → IsPath forest i path → IsAncestor forest i i → ⊥
path-loopless forest i path h loop =
    by loop.0 loop.2 (longer loop.0 loop.1 loop.2)
  where
    longer : (way : List Id) → Descends forest (Some i) way → last_or None way ≡ Some i → path ≡ path ++ way
    longer way down ends = one-path forest i path (path ++ way) h (record {
      descends = descends-append forest None path way h.descends (subst (λ o. Descends forest o way) (sym h.ends) down);
      ends = last_or-append None path way ∙ ap (λ o. last_or o way) h.ends ∙ same way ends;
    })
      where
        same : (way : List Id) → last_or None way ≡ Some i → last_or (Some i) way ≡ Some i
        same [] e = refl
        same (j ∷ way) e = e

    by : (way : List Id) → last_or None way ≡ Some i → path ≡ path ++ way → ⊥
    by [] ends e = cc
    by (j ∷ way) ends e = let n = ap (λ (ids : List Id). length ids) e ∙ length-append path (j ∷ way) in omega (arith, n)

-- on a downward path from an id that isn't its own ancestor, the id doesn't occur again
apart : (forest : Forest) (i : Id) → (IsAncestor forest i i → ⊥) → (mid back : List Id) → Descends forest (Some i) (mid ++ back) →
    AllByRecursion (λ j. same_id i j ≡ false) back
apart forest i loopless mid [] h = tt
apart forest i loopless mid (j ∷ back) h =
    (by (same_id i j) refl, apart forest i loopless (mid ++ j ∷ []) back (subst (λ ids. Descends forest (Some i) ids) (sym (append_assoc mid (j ∷ []) back)) h))
  where
    by : (b : Bool) → same_id i j ≡ b → b ≡ false
    by false e = refl
    by true e =
        absurd (loopless (mid ++ j ∷ [], descends-front forest (Some i) mid j back h, last_or-push None mid j ∙ ap (λ k. Some k) (sym (same_id-eq i j e))))

-- so the ids of a path differ
distinct-path : (forest : Forest) (front path : List Id) → Descends forest None (front ++ path) → IsDistinct same_id path
unfolding IsDistinct
distinct-path forest front [] h = tt
distinct-path forest front (i ∷ back) h = (
  apart forest i (path-loopless forest i (front ++ i ∷ []) (front-path forest front i back h)) [] back (below None front h),
  distinct-path forest (front ++ i ∷ []) back (subst (λ ids. Descends forest None ids) (sym (append_assoc front (i ∷ []) back)) h),
)
  where
    below : (above : Option Id) (front : List Id) → Descends forest above (front ++ i ∷ back) → Descends forest (Some i) back
    below above [] h = h.1
    below above (j ∷ front) h = below (Some j) front h.1

-- and those of any downward path, if no span is its own ancestor
distinct-down : (forest : Forest) → ((i : Id) → IsAncestor forest i i → ⊥) → (above : Option Id) (way : List Id) → Descends forest above way →
    IsDistinct same_id way
unfolding IsDistinct
distinct-down forest loopless above [] h = tt
distinct-down forest loopless above (i ∷ back) h = (apart forest i (loopless i) [] back h.1, distinct-down forest loopless (Some i) back h.1)

found : {A B : Type 0} (f : A → B) (o : Option A) (b : B) → option_map f o ≡ Some b → is_some o ≡ true
found f None b h = cc
found f (Some a) b h = refl

-- a downward path has only live spans
down-live : (forest : Forest) (above : Option Id) (path : List Id) → Descends forest above path → (i : Id) → list_any (same_id i) path ≡ true →
    is_live forest i ≡ true
down-live forest above [] h i on = cc
down-live forest above (j ∷ below) h i on = by (down-live forest (Some j) below h.1 i) (same_id i j) refl
  where
    by : (list_any (same_id i) below ≡ true → is_live forest i ≡ true) → (b : Bool) → same_id i j ≡ b → is_live forest i ≡ true
    by ih true e =
        subst (λ k. is_live forest k ≡ true) (sym (same_id-eq i j e)) (found (λ (span : Span). span.parent) (span_at forest j) above h.0)
    by ih false e = ih (subst (λ b. (b || list_any (same_id i) below) ≡ true) e on)

-- ids are compared as their numbers are
pub id_laws : IsEquivalence same_id
id_laws = record {
  refl = λ i. nat_eq_equiv.refl i.0;
  symm = λ i j. nat_eq_equiv.symm i.0 j.0;
  congr = λ i j k e. nat_eq_equiv.congr i.0 j.0 k.0 e;
}

abbrev pub ids_of : List Span → List Id
ids_of spans = map (λ span. span.id) spans

pub on-ids : (spans : List Span) (i : Id) → list_any (same_id i) (ids_of spans) ≡ list_any (has_id i) spans
on-ids [] i = refl
on-ids (x ∷ spans) i =
    ap (λ b. b || list_any (same_id i) (ids_of spans)) (id_laws.symm i x.id) ∙ ap (λ b. has_id i x || b) (on-ids spans i)

-- a downward path with different ids is no longer than the list of spans
way-short : (forest : Forest) (above : Option Id) (way : List Id) → Descends forest above way → IsDistinct same_id way → length way ≤ length forest.spans
way-short forest above way h distinct =
    let within : (j : Id) → list_any (same_id j) way ≡ true → list_any (same_id j) (ids_of forest.spans) ≡ true =
    (λ j on. on-ids forest.spans j ∙ sym (is_some-find (has_id j) forest.spans) ∙ down-live forest above way h j on) in
    let short = length-le_from_is_member id_laws way (ids_of forest.spans) distinct within in
    let many : length (ids_of forest.spans) ≡ length forest.spans = length-map forest.spans (λ (span : Span). span.id) in
    omega (arith, short, many)

-- a path isn't longer either
pub path-short : (forest : Forest) (i : Id) (path : List Id) → IsPath forest i path → length path ≤ length forest.spans
path-short forest i path h = way-short forest None path h.descends (distinct-path forest [] path h.descends)

-- so as many steps as there are spans find it
pub path_of-one : (forest : Forest) (i : Id) (path : List Id) → IsPath forest i path → path_of forest i ≡ path
path_of-one forest i path h = path-up forest i path h (length forest.spans) (path-short forest i path h)

-- ---- in a well-formed forest

live-span : (o : Option Span) → is_some o ≡ true → (s : Span) × (o ≡ Some s)
live-span None h = absurd cc
live-span (Some s) h = (s, refl)

-- a downward path with the span before it
down-more : (forest : Forest) (i : Id) (s : Span) (below : List Id) → span_at forest i ≡ Some s → Descends forest (Some i) below → Descends forest s.parent (i ∷ below)
down-more forest i s below h down = (ap (λ (o : Option Span). option_map (λ (t : Span). t.parent) o) h, down)

-- from a live span with a downward path there is a path to its end, if the downward path lacks at
-- most `k` ids
abbrev Climbs : Forest → Id → ℕ → Type 0
Climbs forest end k =
    (i : Id) → is_live forest i ≡ true → (below : List Id) → Descends forest (Some i) below → last_or (Some i) below ≡ Some end →
    length forest.spans ≤ length below + k → (path : List Id) × IsPath forest end path

-- the path grows with each step up, and is no longer than the list of spans
climb : (forest : Forest) → IsForest forest → (end : Id) (k : ℕ) → Climbs forest end k
climb forest formed end zero i live below down ends enough =
    let s = live-span (span_at forest i) live in
    let more = down-more forest i s.0 below s.1 down in
    let short = way-short forest s.0.parent (i ∷ below) more (distinct-down forest formed.loopless s.0.parent (i ∷ below) more) in
    absurd (omega (arith, short, enough))
climb forest formed end (suc k) i live below down ends enough =
    let s = live-span (span_at forest i) live in
    by (climb forest formed end k) s.0.parent (down-more forest i s.0 below s.1 down)
    (ap (λ (o : Option Span). option_and_then (λ (t : Span). t.parent) o) s.1)
  where
    by : Climbs forest end k → (o : Option Id) → Descends forest o (i ∷ below) → parent_of forest i ≡ o → (path : List Id) × IsPath forest end path
    by ih None more p = (i ∷ below, record { descends = more; ends = ends })
    by ih (Some above) more p = ih above (formed.parents i above p) (i ∷ below) more ends (omega (arith, enough))

-- each live span has a path
pub live-path : (forest : Forest) → IsForest forest → (i : Id) → is_live forest i ≡ true → (path : List Id) × IsPath forest i path
live-path forest formed i live = climb forest formed i (length forest.spans) i live [] tt refl (omega arith)

-- ---- and the converse

pub none-found : (o : Option Span) → is_some o ≡ false → o ≡ None
none-found None h = refl
none-found (Some s) h = cc

-- the parent of a span with a path is live
path-parent : (forest : Forest) (i above : Id) (path : List Id) → IsPath forest i path → parent_of forest i ≡ Some above → is_live forest above ≡ true
path-parent forest i above path h up = by (is_live forest above) refl
  where
    own : (o : Option Span) → span_at forest i ≡ o → option_and_then (λ (t : Span). t.parent) o ≡ Some above → (s : Span) × (span_at forest i ≡ Some s) × (s.parent ≡ Some above)
    own None e p = absurd cc
    own (Some s) e p = (s, e, p)

    by : (b : Bool) → is_live forest above ≡ b → b ≡ true
    by true e = refl
    by false e =
        let s = own (span_at forest i) refl up in
        let alone : path ≡ i ∷ [] =
        sym (path-up forest i path h (suc (length path)) (omega arith)) ∙ up-step (length path) forest i s.0 s.1
        ∙ ap (λ o. any_up (length path) forest o ++ i ∷ []) s.2
        ∙ ap (λ (ids : List Id). ids ++ i ∷ []) (up-none (length path) forest above (none-found (span_at forest above) e)) in
        let down : Descends forest None (i ∷ []) = subst (λ ids. Descends forest None ids) alone h.descends in
        let root : Some (Some above) ≡ Some None =
        sym (ap (λ (o : Option Span). option_map (λ (t : Span). t.parent) o) s.1 ∙ ap (λ (o : Option Id). Some o) s.2) ∙ down.0 in
        absurd cc

-- a span with one above it is live
below-live : (forest : Forest) (above : Option Id) (way : List Id) (i : Id) → Descends forest above way → last_or None way ≡ Some i → is_live forest i ≡ true
below-live forest above [] i h e = absurd cc
below-live forest above (j ∷ []) i h e =
    subst (λ k. is_live forest k ≡ true) (same_Some j i e) (found (λ (span : Span). span.parent) (span_at forest j) above h.0)
below-live forest above (j ∷ k ∷ way) i h e = below-live forest (Some j) (k ∷ way) i h.1 e

-- if each live span has a path, the forest is well-formed, provided that the ids differ
pub forest-by_paths : (forest : Forest) → IsDistinct same_id (ids_of forest.spans) →
    ((i : Id) → is_live forest i ≡ true → (path : List Id) × IsPath forest i path) → IsForest forest
forest-by_paths forest distinct paths = record {
  distinct = distinct;
  parents = λ i above up. let there = paths i (has-parent (span_at forest i) up) in path-parent forest i above there.0 there.1 up;
  loopless = λ i loop. let there = paths i (below-live forest (Some i) loop.0 i loop.1 loop.2) in path-loopless forest i there.0 there.1 loop;
}
  where
    has-parent : {above : Id} (o : Option Span) → option_and_then (λ (t : Span). t.parent) o ≡ Some above → is_some o ≡ true
    has-parent None h = absurd cc
    has-parent (Some s) h = refl
