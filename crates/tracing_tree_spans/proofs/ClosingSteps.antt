-- What closes with a span, span by span: read from an unchanged registry, and while one span after
-- the other is removed.
use Rattle.std.proofs.Common.{◌≡◌, ℕ, suc, nat_lt, ◌-◌, ◌<◌, ◌==◌, Bool, true, false, ◌&&◌, ◌||◌, not, List, [], ◌∷◌, ◌++◌, length, map, reverse, find, filter, get_or, slice_get, Option, Some, None, IfSome, if◌then◌else◌, arith, refl, sym, ap, ◌∙◌, subst}
use Rattle.std.specs.Option.{option_map_or}
use Rattle.std.specs.List.{list_all, list_any, remove}
use Rattle.std.specs.Bool.{⊤, then_some}
use Rattle.std.proofs.lemmas.Bool.{and_parts, or_parts}
use Rattle.std.proofs.lemmas.Bool.Decides.{nat_tests}
use Rattle.std.proofs.lemmas.Option.{same_Some, MatchOption-at_some}
use Rattle.tracing_tree_spans.specs.Registry.Ids.{same_id}
use Rattle.tracing_tree_spans.specs.Registry.Spans.{Span}
use Rattle.tracing_tree_spans.specs.Registry.Forest.{Forest, has_id, is_child_of, span_at, handles_of, update_span, take_handle, path_of, is_live, IsGrown, IsForest, IsGrownForest, IsClosing, IsLongestGoing, goes_after, going_up, closing_of, after_close, unless_handle, without_spans}
use Rattle.tracing_tree_spans.specs.Registry.Registered.{IsRising, IsKept, alone, going_after, is_other_child, lacks_others}
use Rattle.tracing_tree_base.specs.declared.context.Id.{Id}
use Rattle.tracing_tree_spans.proofs.ForestLaws.{path_among, same_id-eq}
use Rattle.tracing_tree_spans.proofs.PathLaws.{path_above, path_of-is_path, path_of-among}
use Rattle.tracing_tree_spans.proofs.ClosingLaws.{going-cons, closing_of-longest}
use Rattle.tracing_tree_spans.proofs.SpanLists.{all_above, higher_not, find-id}
use Rattle.tracing_tree_spans.proofs.RegistryLaws.{forest_of, place, IsPlace, IsSame, changed, changed-same, without, other-id, reverse-filter, any-reverse, grown-without}
use Rattle.tracing_tree_spans.proofs.GrownForests.{as_forest, path_of-mapped}
use Rattle.tracing_tree_spans.proofs.Children.{all-filter}
use Rattle.tracing_tree_spans.proofs.ClosingWalk.{way_up, way-step, way-none, way-fresh}

-- ---- one step of what closes

-- from a live span on: the span and what closes above it, or nothing
pub going-step : (forest : Forest) → IsForest forest → (before : Option Id) (i : Id) (s : Span) → span_at forest i ≡ Some s →
    going_after forest before (way_up forest (Some i)) ≡ (if goes_after forest before i then i ∷ going_after forest (Some i) (way_up forest s.parent) else [])
going-step forest formed before i s h =
    ap (λ ids. going_after forest before ids) (way-step forest formed i s h) ∙ going-cons forest before i (way_up forest s.parent)

-- ---- with a handle less

-- another span is found unchanged
find-other : (change : Span → Span) → IsSame change → (i j : Id) (spans : List Span) → same_id i j ≡ false →
    find (has_id j) (map (changed change i) spans) ≡ find (has_id j) spans
find-other change same i j [] h = refl
find-other change same i j (x ∷ spans) h = by (find-other change same i j spans h) (has_id i x) refl
  where
    by : find (has_id j) (map (changed change i) spans) ≡ find (has_id j) spans → (b : Bool) → has_id i x ≡ b →
        find (has_id j) (map (changed change i) (x ∷ spans)) ≡ find (has_id j) (x ∷ spans)
    by ih true e =
        let other : has_id j x ≡ false = other-id i j x h e in
        let changed-other : has_id j (change x) ≡ false = ap (λ k. same_id k j) (same.ids x) ∙ other in
        rw (e, other, changed-other) ih
    by ih false e = rw e (ap (λ o. if has_id j x then Some x else o) ih)

-- the span itself is found changed
find-own : (change : Span → Span) → IsSame change → (i : Id) (spans : List Span) (s : Span) → find (has_id i) spans ≡ Some s →
    find (has_id i) (map (changed change i) spans) ≡ Some (change s)
find-own change same i [] s h = cc
find-own change same i (x ∷ spans) s h = by (λ k. find-own change same i spans s k) (has_id i x) refl
  where
    by : (find (has_id i) spans ≡ Some s → find (has_id i) (map (changed change i) spans) ≡ Some (change s)) → (b : Bool) → has_id i x ≡ b →
        find (has_id i) (map (changed change i) (x ∷ spans)) ≡ Some (change s)
    by ih true e =
        let here : x ≡ s = same_Some x s (subst (λ b. (if b then Some x else find (has_id i) spans) ≡ Some s) e h) in
        let own : has_id i (change x) ≡ true = ap (λ k. same_id k i) (same.ids x) ∙ e in
        rw (e, own) (ap (λ (y : Span). Some (change y)) here)
    by ih false e = rw (e, e) (ih (subst (λ b. (if b then Some x else find (has_id i) spans) ≡ Some s) e h))

-- a change of spans makes no other child
other-changed : (u : Span → Span) → IsSame u → (i : Id) (before : Option Id) (spans : List Span) →
    list_any (is_other_child i before) (map u spans) ≡ list_any (is_other_child i before) spans
other-changed u h i before [] = refl
other-changed u h i before (x ∷ spans) =
    ap (λ (k : Id). (is_child_of i (u x) && not (option_map_or (same_id k) before false)) || list_any (is_other_child i before) (map u spans)) (h.ids x)
    ∙ ap (λ (o : Option Id). (option_map_or (same_id i) o false && not (option_map_or (same_id x.id) before false)) || list_any (is_other_child i before) (map u spans)) (h.parents x)
    ∙ ap (λ b. is_other_child i before x || b) (other-changed u h i before spans)

-- a change of spans keeps the children of each
lacks-changed : (u : Span → Span) → IsSame u → (before : Option Id) (i : Id) (spans : List Span) →
    lacks_others (map u spans) before i ≡ lacks_others spans before i
lacks-changed u h before i spans =
    all-filter (is_child_of i) (λ child. option_map_or (same_id child.id) before false) (map u spans)
    ∙ ap (λ b. not b) (other-changed u h i before spans)
    ∙ sym (all-filter (is_child_of i) (λ child. option_map_or (same_id child.id) before false) spans)

-- and each its path upward
pub way-changed : (change : Span → Span) → IsSame change → (i : Id) (forest : Forest) (o : Option Id) →
    way_up (update_span change i forest) o ≡ way_up forest o
way-changed change same i forest None = refl
way-changed change same i forest (Some j) =
    ap (λ (path : List Id). reverse path)
    (path_of-mapped (changed change i) (changed-same change i same) forest.spans forest.next forest.next j)

-- the span with a handle less
abbrev pub one_less : Span → Span
one_less span = record span { handles = span.handles - 1 }

-- dropping a handle changes neither id nor parent
pub less-same : IsSame one_less
less-same = record { ids = λ s. refl; parents = λ s. refl }

-- the handle of a span doesn't matter at another span
goes-other : (forest : Forest) (i : Id) (before : Option Id) (j : Id) → same_id i j ≡ false →
    goes_after (take_handle i forest) before j ≡ goes_after forest before j
goes-other forest i before j h =
    ap (λ o. (option_map_or (λ (span : Span). span.handles) o 0 == 0) && lacks_others (map (changed one_less i) forest.spans) before j)
    (find-other one_less less-same i j forest.spans h)
    ∙ ap (λ b. (handles_of forest j == 0) && b) (lacks-changed (changed one_less i) (changed-same one_less i less-same) before j forest.spans)

-- it doesn't matter either for what closes on a path without the span
going-other : (forest : Forest) (i : Id) (before : Option Id) (ids : List Id) → list_any (same_id i) ids ≡ false →
    going_after (take_handle i forest) before ids ≡ going_after forest before ids
going-other forest i before [] h = refl
going-other forest i before (j ∷ ids) h =
    let parts = or_parts (same_id i j) (list_any (same_id i) ids) h in
    going-cons (take_handle i forest) before j ids
    ∙ ap (λ b. if b then j ∷ going_after (take_handle i forest) (Some j) ids else []) (goes-other forest i before j parts.0)
    ∙ ap (λ rest. if goes_after forest before j then j ∷ rest else []) (going-other forest i (Some j) ids parts.1)
    ∙ sym (going-cons forest before j ids)

-- the first that closes with a handle of a span, and the rest, read from the forest before
pub closing-first : (forest : Forest) → IsGrownForest forest → (i : Id) (s : Span) → span_at forest i ≡ Some s →
    closing_of forest i
    ≡ (if (s.handles - 1 == 0) && lacks_others forest.spans None i then i ∷ going_after forest (Some i) (way_up forest s.parent) else [])
closing-first forest formed i s h =
    let less : Forest = take_handle i forest in
    let goes : goes_after less None i ≡ ((s.handles - 1 == 0) && lacks_others forest.spans None i) =
    ap (λ o. (option_map_or (λ (span : Span). span.handles) o 0 == 0) && lacks_others less.spans None i)
    (find-own one_less less-same i forest.spans s h)
    ∙ ap (λ b. (s.handles - 1 == 0) && b) (lacks-changed (changed one_less i) (changed-same one_less i less-same) None i forest.spans) in
    ap (λ ids. going_after less None ids) (way-changed one_less less-same i forest (Some i) ∙ way-step forest (as_forest forest formed) i s h)
    ∙ going-cons less None i (way_up forest s.parent)
    ∙ ap (λ b. if b then i ∷ going_after less (Some i) (way_up forest s.parent) else []) goes
    ∙ ap (λ rest. if (s.handles - 1 == 0) && lacks_others forest.spans None i then i ∷ rest else [])
    (going-other forest i (Some i) (way_up forest s.parent) (way-fresh forest formed i s h))

-- what closes is the longest closing part of the span's path upward
pub closing_of-is : (forest : Forest) → IsForest forest → (i : Id) → is_live forest i ≡ true → (ids : List Id) → ids ≡ closing_of forest i →
    IsClosing forest i ids
unfolding IsClosing
closing_of-is forest formed i live ids h = (
  path_of forest i,
  path_of-is_path forest formed i live,
  subst (IsLongestGoing (take_handle i forest) (reverse (path_of forest i))) (sym h)
      (subst (λ way. IsLongestGoing (take_handle i forest) way (closing_of forest i)) (way-changed one_less less-same i forest (Some i)) (closing_of-longest forest i)),
)

-- ---- one removal after the other

-- a span without children keeps nothing
pub childless : (i : Id) (spans : List Span) → lacks_others spans None i ≡ true → list_any (is_child_of i) spans ≡ false
childless i [] h = refl
childless i (x ∷ spans) h = by (λ k. childless i spans k) (is_child_of i x) refl
  where
    by : (lacks_others spans None i ≡ true → list_any (is_child_of i) spans ≡ false) → (b : Bool) → is_child_of i x ≡ b →
        list_any (is_child_of i) (x ∷ spans) ≡ false
    by ih true e =
        let none : list_all (λ (child : Span). false) (x ∷ filter (is_child_of i) spans) ≡ true =
        subst (λ b. list_all (λ (child : Span). false) (if b then x ∷ filter (is_child_of i) spans else filter (is_child_of i) spans) ≡ true) e h in
        absurd (let both : false ≡ true = none in cc)
    by ih false e =
        rw e (ih (subst (λ b. list_all (λ (child : Span). false) (if b then x ∷ filter (is_child_of i) spans else filter (is_child_of i) spans) ≡ true) e h))

-- a removal of a span without children keeps the path of each other span
pub path-without : (i : Id) (spans : List Span) → list_any (is_child_of i) spans ≡ false → (j : Id) → same_id i j ≡ false →
    path_among (without i spans) j ≡ path_among spans j
path-without i [] h j other = refl
path-without i (x ∷ older) h j other =
    let parts = or_parts (is_child_of i x) (list_any (is_child_of i) older) h in
    by (λ k e. path-without i older parts.1 k e) x.parent parts.0 (has_id i x) refl
  where
    up : ((k : Id) → same_id i k ≡ false → path_among (without i older) k ≡ path_among older k) → (o : Option Id) →
        option_map_or (same_id i) o false ≡ false → path_above (without i older) o ≡ path_above older o
    up ih None e = refl
    up ih (Some above) e = ih above e

    by : ((k : Id) → same_id i k ≡ false → path_among (without i older) k ≡ path_among older k) → (o : Option Id) →
        is_child_of i x ≡ false → (b : Bool) → has_id i x ≡ b → path_among (without i (x ∷ older)) j ≡ path_among (x ∷ older) j
    by ih o parent true e = rw (e, other-id i j x other e) (ih j other)
    by ih o parent false e =
        rw e (ap (λ (path : List Id). if has_id j x then path ++ j ∷ [] else path_among (without i older) j) (up ih x.parent parent)
        ∙ ap (λ (path : List Id). if has_id j x then path_above older x.parent ++ j ∷ [] else path) (ih j other))

-- in a forest too
pub path_of-without : (i : Id) (spans : List Span) → IsGrown (reverse spans) → list_any (is_child_of i) spans ≡ false → (j : Id) → same_id i j ≡ false →
    path_of (alone (without i spans)) j ≡ path_of (alone spans) j
path_of-without i spans grown h j e =
    let none : list_any (is_child_of i) (reverse spans) ≡ false = any-reverse (is_child_of i) spans ∙ h in
    let turned : reverse (without i spans) ≡ without i (reverse spans) = reverse-filter (λ span. not (has_id i span)) spans in
    path_of-among (alone (without i spans)) (subst IsGrown (sym turned) (grown-without i (reverse spans) grown none)) j
    ∙ ap (λ xs. path_among xs j) turned ∙ path-without i (reverse spans) none j e ∙ sym (path_of-among (alone spans) grown j)

-- and its path upward
pub way-without : (i : Id) (spans : List Span) → IsGrown (reverse spans) → list_any (is_child_of i) spans ≡ false → (o : Option Id) →
    option_map_or (same_id i) o false ≡ false → way_up (alone (without i spans)) o ≡ way_up (alone spans) o
way-without i spans grown h None e = refl
way-without i spans grown h (Some j) e = ap (λ (path : List Id). reverse path) (path_of-without i spans grown h j e)

-- another span is found without it, unchanged
find-without : (i j : Id) (spans : List Span) → same_id i j ≡ false → find (has_id j) (without i spans) ≡ find (has_id j) spans
find-without i j [] h = refl
find-without i j (x ∷ spans) h = by (find-without i j spans h) (has_id i x) refl
  where
    by : find (has_id j) (without i spans) ≡ find (has_id j) spans → (b : Bool) → has_id i x ≡ b →
        find (has_id j) (without i (x ∷ spans)) ≡ find (has_id j) (x ∷ spans)
    by ih true e = rw (e, other-id i j x h e) ih
    by ih false e = rw e (ap (λ o. if has_id j x then Some x else o) ih)

-- above an id no span has it
none-above : (i : Id) (q : Span → Bool) (spans : List Span) → all_above i.0 spans ≡ true → list_any (λ x. has_id i x && q x) spans ≡ false
none-above i q [] h = refl
none-above i q (x ∷ spans) h =
    let parts = and_parts (nat_lt i.0 x.id.0) (all_above i.0 spans) h in
    let other : has_id i x ≡ false = higher_not x i (grind (arith, nat_tests, parts.0)) in
    rw other (none-above i q spans parts.1)

-- only the span that is found has its id
only-one : (i : Id) (s : Span) (q : Span → Bool) (spans : List Span) → IsRising spans → find (has_id i) spans ≡ Some s → q s ≡ false →
    list_any (λ x. has_id i x && q x) spans ≡ false
only-one i s q [] rising h unlike = cc
only-one i s q (x ∷ spans) rising h unlike = by (λ k. only-one i s q spans rising.1 k unlike) (has_id i x) refl
  where
    by : (find (has_id i) spans ≡ Some s → list_any (λ x. has_id i x && q x) spans ≡ false) → (b : Bool) → has_id i x ≡ b →
        list_any (λ x. has_id i x && q x) (x ∷ spans) ≡ false
    by ih true e =
        let here : x ≡ s = same_Some x s (subst (λ b. (if b then Some x else find (has_id i) spans) ≡ Some s) e h) in
        let first : q x ≡ false = subst (λ y. q y ≡ false) (sym here) unlike in
        let own : x.id ≡ i = same_id-eq x.id i e in
        rw (e, first) (none-above i q spans (subst (λ (j : Id). all_above j.0 spans ≡ true) own rising.0))
    by ih false e = rw e (ih (subst (λ b. (if b then Some x else find (has_id i) spans) ≡ Some s) e h))

-- a choice without the span is the same in the list without the span
filter-without : (i : Id) (q : Span → Bool) (spans : List Span) → list_any (λ x. has_id i x && q x) spans ≡ false →
    filter q (without i spans) ≡ filter q spans
filter-without i q [] h = refl
filter-without i q (x ∷ spans) h =
    let parts = or_parts (has_id i x && q x) (list_any (λ x. has_id i x && q x) spans) h in
    by (filter-without i q spans parts.1) parts.0 (has_id i x) refl
  where
    by : filter q (without i spans) ≡ filter q spans → (has_id i x && q x) ≡ false → (b : Bool) → has_id i x ≡ b →
        filter q (without i (x ∷ spans)) ≡ filter q (x ∷ spans)
    by ih unlike true e =
        let first : q x ≡ false = subst (λ b. (b && q x) ≡ false) e unlike in
        rw (e, first) ih
    by ih unlike false e = rw e (ap (λ xs. if q x then x ∷ xs else xs) ih)

-- a span that is neither this one nor its parent still closes
goes-without : (i : Id) (s : Span) (spans : List Span) → IsRising spans → find (has_id i) spans ≡ Some s → (before : Option Id) (r : Id) →
    same_id i r ≡ false → is_child_of r s ≡ false → goes_after (alone (without i spans)) before r ≡ goes_after (alone spans) before r
goes-without i s spans rising found before r other parent =
    ap (λ o. (option_map_or (λ (span : Span). span.handles) o 0 == 0) && lacks_others (without i spans) before r) (find-without i r spans other)
    ∙ ap (λ xs. (handles_of (alone spans) r == 0) && list_all (λ (child : Span). option_map_or (same_id child.id) before false) xs)
    (filter-without i (is_child_of r) spans (only-one i s (is_child_of r) spans rising found parent))

-- and so does what closes over such spans
going-without : (i : Id) (s : Span) (spans : List Span) → IsRising spans → find (has_id i) spans ≡ Some s → (before : Option Id) (ids : List Id) →
    list_any (same_id i) ids ≡ false → list_any (λ r. is_child_of r s) ids ≡ false →
    going_after (alone (without i spans)) before ids ≡ going_after (alone spans) before ids
going-without i s spans rising found before [] h k = refl
going-without i s spans rising found before (r ∷ ids) h k =
    let others = or_parts (same_id i r) (list_any (same_id i) ids) h in
    let parents = or_parts (is_child_of r s) (list_any (λ r. is_child_of r s) ids) k in
    going-cons (alone (without i spans)) before r ids
    ∙ ap (λ b. if b then r ∷ going_after (alone (without i spans)) (Some r) ids else []) (goes-without i s spans rising found before r others.0 parents.0)
    ∙ ap (λ rest. if goes_after (alone spans) before r then r ∷ rest else []) (going-without i s spans rising found (Some r) ids others.1 parents.1)
    ∙ sym (going-cons (alone spans) before r ids)

-- with the span removed, its parent has no children if it had only that one
lacks-parent : (i p : Id) (spans : List Span) → lacks_others (without i spans) None p ≡ lacks_others spans (Some i) p
lacks-parent i p [] = refl
lacks-parent i p (x ∷ spans) = by (lacks-parent i p spans) (has_id i x) (is_child_of p x) refl refl
  where
    by : lacks_others (without i spans) None p ≡ lacks_others spans (Some i) p → (a b : Bool) → has_id i x ≡ a → is_child_of p x ≡ b →
        lacks_others (without i (x ∷ spans)) None p ≡ lacks_others (x ∷ spans) (Some i) p
    by ih true true e h = rw (e, h) (let own : same_id x.id i ≡ true = e in rw own ih)
    by ih true false e h = rw (e, h) ih
    by ih false true e h = rw (e, h) (let own : same_id x.id i ≡ false = e in rw own refl)
    by ih false false e h = rw (e, h) ih

-- with the span removed, its parent closes if it closed after the span
goes-parent : (i p : Id) (spans : List Span) → same_id i p ≡ false → goes_after (alone (without i spans)) None p ≡ goes_after (alone spans) (Some i) p
goes-parent i p spans other =
    ap (λ o. (option_map_or (λ (span : Span). span.handles) o 0 == 0) && lacks_others (without i spans) None p) (find-without i p spans other)
    ∙ ap (λ b. (handles_of (alone spans) p == 0) && b) (lacks-parent i p spans)

-- ---- what is left to close

-- what closes from this id on upward, if no handle and no other child holds it
abbrev pub rest_of : List Span → Option Id → List Id
rest_of spans o = going_after (alone spans) None (way_up (alone spans) o)

-- the spans without these
abbrev pub left : List Id → List Span → List Span
left ids spans = filter (λ span. not (list_any (same_id span.id) ids)) spans

-- what no span has, the one that is found doesn't have
not-found : (p q : Span → Bool) (spans : List Span) (s : Span) → find p spans ≡ Some s → list_any q spans ≡ false → q s ≡ false
not-found p q [] s h none = cc
not-found p q (x ∷ spans) s h none =
    let parts = or_parts (q x) (list_any q spans) none in
    by (λ k. not-found p q spans s k parts.1) parts.0 (p x) refl
  where
    by : (find p spans ≡ Some s → q s ≡ false) → q x ≡ false → (b : Bool) → p x ≡ b → q s ≡ false
    by ih unlike true e =
        subst (λ y. q y ≡ false) (same_Some x s (subst (λ b. (if b then Some x else find p spans) ≡ Some s) e h)) unlike
    by ih unlike false e = ih (subst (λ b. (if b then Some x else find p spans) ≡ Some s) e h)

-- the same of ids that are compared in the other direction
turned-none : (p : Id) (ids : List Id) → list_any (same_id p) ids ≡ false → list_any (λ r. same_id r p) ids ≡ false
turned-none p [] h = refl
turned-none p (r ∷ ids) h =
    let parts = or_parts (same_id p r) (list_any (same_id p) ids) h in
    let first : same_id r p ≡ false = grind (arith, nat_tests, parts.0) in
    rw first (turned-none p ids parts.1)

-- once the span is removed, what closes above it is what closes from its parent on
above-gone : (spans : List Span) → IsKept spans None → (i : Id) (s : Span) → find (has_id i) spans ≡ Some s →
    list_any (is_child_of i) spans ≡ false → (o : Option Id) → s.parent ≡ o →
    going_after (alone spans) (Some i) (way_up (alone spans) o) ≡ rest_of (without i spans) o
above-gone spans kept i s found children None e = refl
above-gone spans kept i s found children (Some p) e = by (find (has_id p) spans) refl
  where
    fresh : list_any (same_id i) (way_up (alone spans) (Some p)) ≡ false
    fresh = subst (λ o. list_any (same_id i) (way_up (alone spans) o) ≡ false) e (way-fresh (alone spans) kept.0 i s found)

    other : same_id i p ≡ false
    other = subst (λ o. option_map_or (same_id i) o false ≡ false) e (not-found (has_id i) (is_child_of i) spans s found children)

    same : way_up (alone (without i spans)) (Some p) ≡ way_up (alone spans) (Some p)
    same = way-without i spans kept.0.grown children (Some p) other

    by : (o : Option Span) → find (has_id p) spans ≡ o →
        going_after (alone spans) (Some i) (way_up (alone spans) (Some p)) ≡ rest_of (without i spans) (Some p)
    by None h =
        let none : way_up (alone spans) (Some p) ≡ [] = way-none (alone spans) p h in
        ap (λ ids. going_after (alone spans) (Some i) ids) none ∙ sym (ap (λ ids. going_after (alone (without i spans)) None ids) (same ∙ none))
    by (Some t) h =
        let up : List Id = way_up (alone spans) t.parent in
        let step : way_up (alone spans) (Some p) ≡ p ∷ up = way-step (alone spans) (as_forest (alone spans) kept.0) p t h in
        let others = or_parts (same_id i p) (list_any (same_id i) up) (subst (λ ids. list_any (same_id i) ids ≡ false) step fresh) in
        let parents : list_any (λ r. is_child_of r s) up ≡ false =
        subst (λ o. list_any (λ r. option_map_or (same_id r) o false) up ≡ false) (sym e)
        (turned-none p up (way-fresh (alone spans) kept.0 p t h)) in
        ap (λ ids. going_after (alone spans) (Some i) ids) step
        ∙ going-cons (alone spans) (Some i) p up
        ∙ ap (λ b. if b then p ∷ going_after (alone spans) (Some p) up else []) (sym (goes-parent i p spans other))
        ∙ ap (λ rest. if goes_after (alone (without i spans)) None p then p ∷ rest else [])
        (sym (going-without i s spans kept.1 found (Some p) up others.1 parents))
        ∙ sym (going-cons (alone (without i spans)) None p up)
        ∙ sym (ap (λ ids. going_after (alone (without i spans)) None ids) (same ∙ step))

-- what is left to close from a live span on: the span and what is left once it is removed, or
-- nothing
pub rest-goes : (spans : List Span) → IsKept spans None → (i : Id) (s : Span) → find (has_id i) spans ≡ Some s →
    s.handles ≡ 0 → lacks_others spans None i ≡ true → rest_of spans (Some i) ≡ i ∷ rest_of (without i spans) s.parent
rest-goes spans kept i s found handles none =
    let goes : goes_after (alone spans) None i ≡ true = rw (found, handles) none in
    going-step (alone spans) (as_forest (alone spans) kept.0) None i s found
    ∙ ap (λ b. if b then i ∷ going_after (alone spans) (Some i) (way_up (alone spans) s.parent) else []) goes
    ∙ ap (λ rest. i ∷ rest) (above-gone spans kept i s found (childless i spans none) s.parent refl)

-- nothing is left to close from a span that stays
pub rest-stays : (spans : List Span) → IsKept spans None → (i : Id) (s : Span) → find (has_id i) spans ≡ Some s →
    ((s.handles == 0) && lacks_others spans None i) ≡ false → rest_of spans (Some i) ≡ []
rest-stays spans kept i s found stays =
    let goes : goes_after (alone spans) None i ≡ false = rw found stays in
    going-step (alone spans) (as_forest (alone spans) kept.0) None i s found
    ∙ ap (λ b. if b then i ∷ going_after (alone spans) (Some i) (way_up (alone spans) s.parent) else []) goes

-- nothing from an id that isn't live
pub rest-lost : (spans : List Span) → IsKept spans None → (i : Id) → find (has_id i) spans ≡ None → rest_of spans (Some i) ≡ []
rest-lost spans kept i none = ap (λ ids. going_after (alone spans) None ids) (way-none (alone spans) i none)

-- a span is removed, then the others
pub left-cons : (i : Id) (ids : List Id) (spans : List Span) → left (i ∷ ids) spans ≡ left ids (without i spans)
left-cons i ids [] = refl
left-cons i ids (x ∷ spans) = by (left-cons i ids spans) (has_id i x) refl
  where
    by : left (i ∷ ids) spans ≡ left ids (without i spans) → (b : Bool) → has_id i x ≡ b → left (i ∷ ids) (x ∷ spans) ≡ left ids (without i (x ∷ spans))
    by ih true e = let own : same_id x.id i ≡ true = e in rw own ih
    by ih false e =
        let own : same_id x.id i ≡ false = e in
        rw own (ap (λ xs. if not (list_any (same_id x.id) ids) then x ∷ xs else xs) ih)

-- if nothing is removed, all stay
pub left-none : (spans : List Span) → left [] spans ≡ spans
left-none [] = refl
left-none (x ∷ spans) = ap (λ xs. x ∷ xs) (left-none spans)

-- ---- a loop that removes them

-- a test of the span at a place of a slice of the spans
pub tested : (slice spans : List Span) (at : ℕ) (s : Span) (before : Option Id) (answer : Bool) → slice ≡ spans → slice_get spans at ≡ Some s →
    IfSome (slice_get slice at) (λ span. answer ≡ ((span.handles == 0) && lacks_others slice before span.id)) →
    answer ≡ ((s.handles == 0) && lacks_others spans before s.id)
tested slice spans at s before answer same read test =
    let here : IfSome (slice_get spans at) (λ span. answer ≡ ((span.handles == 0) && lacks_others spans before span.id)) =
    subst (λ xs. IfSome (slice_get xs at) (λ span. answer ≡ ((span.handles == 0) && lacks_others xs before span.id))) same test in
    MatchOption-at_some ⊤ (λ span. answer ≡ ((span.handles == 0) && lacks_others spans before span.id)) s read here

-- it stops at a span that stays
pub stops : (slice again spans : List Span) → IsKept spans None → (i : Id) (at : ℕ) (o : Option Id) (answer : Bool) → slice ≡ spans → again ≡ spans →
    (at < length slice) × (find (has_id i) slice ≡ slice_get slice at) → o ≡ Some i →
    IfSome (slice_get again at) (λ span. answer ≡ ((span.handles == 0) && lacks_others again None span.id)) → answer ≡ false → rest_of spans o ≡ []
stops slice again spans kept i at o answer same same' h e test stays = by (slice_get spans at) refl
  where
    found : find (has_id i) spans ≡ slice_get spans at
    found = subst (λ xs. find (has_id i) xs ≡ slice_get xs at) same h.1

    by : (p : Option Span) → slice_get spans at ≡ p → rest_of spans o ≡ []
    by None read = ap (rest_of spans) e ∙ rest-lost spans kept i (found ∙ read)
    by (Some s) read =
        let own : s.id ≡ i = find-id spans i s (found ∙ read) in
        let answers = tested again spans at s None answer same' read test in
        ap (rest_of spans) e
        ∙ rest-stays spans kept i s (found ∙ read)
        (ap (λ j. (s.handles == 0) && lacks_others spans None j) (sym own) ∙ sym answers ∙ stays)

-- and at an id that isn't live
pub lost : (slice spans : List Span) → IsKept spans None → (i : Id) (o : Option Id) → slice ≡ spans → find (has_id i) slice ≡ None →
    o ≡ Some i → rest_of spans o ≡ []
lost slice spans kept i o same none e = ap (rest_of spans) e ∙ rest-lost spans kept i (ap (λ xs. find (has_id i) xs) (sym same) ∙ none)

-- a span that closes, with what is left once it is removed
pub record Goes (spans : List Span) (i : Id) (at : ℕ) (s : Span) : Type 0 where
  pub kept : (next : Option Id) → IsKept spans next → IsKept (remove spans at) next
  pub fewer : length (remove spans at) < length spans
  pub closes : rest_of spans (Some i) ≡ i ∷ rest_of (remove spans at) s.parent
  pub leaves : left (rest_of spans (Some i)) spans ≡ left (rest_of (remove spans at) s.parent) (remove spans at)

-- a list with a first id is not empty
pub not-empty : (i : Id) (rest : List Id) → not (length (i ∷ rest) == 0) ≡ true
not-empty i rest = let first : (suc (length rest) == 0) ≡ false = grind (arith, nat_tests) in ap (λ b. not b) first

-- ---- a close

-- a handle of a span is left
pub handle-left : (old : Forest) (spans : List Span) (next : Option Id) (i : Id) (s : Span) → forest_of spans next ≡ old →
    find (has_id i) spans ≡ Some s → (s.handles ≡ 0 → ⊥) → unless_handle old i ≡ None
handle-left old spans next i s view found some =
    let count : handles_of old i ≡ s.handles =
    ap (λ (forest : Forest). handles_of forest i) (sym view) ∙ ap (λ o. option_map_or (λ (span : Span). span.handles) o 0) found in
    let first : (s.handles == 0) ≡ false = grind (arith, nat_tests) in
    ap (λ n. then_some (n == 0) i) count ∙ ap (λ b. then_some b i) first

-- the forest after a close, if the spans with a handle less are left without what closes
pub closed : (old : Forest) (spans new : List Span) (next : Option Id) (i : Id) (went : Bool) → forest_of spans next ≡ take_handle i old →
    new ≡ (without_spans (going_up (alone spans) i) (alone spans)).spans → went ≡ not (length (going_up (alone spans) i) == 0) →
    (went ≡ not (length (closing_of old i) == 0)) × (forest_of new next ≡ after_close i old)
closed old spans new next i went view removed answer = (
  answer ∙ ap (λ (forest : Forest). not (length (going_up forest i) == 0)) view,
  (λ k. forest_of (removed k) next) ∙ ap (λ (forest : Forest). without_spans (going_up forest i) forest) view,
)

-- a registry's invariant also holds without a next id
pub kept-none : (spans : List Span) (next : Option Id) → IsKept spans next → IsKept spans None
kept-none spans next kept = (record { grown = kept.0.grown; below_next = refl }, kept.1, kept.2)

-- ---- a loop that lists them

-- a span closes after the one before it, or it stays
pub listed : (spans : List Span) → IsGrownForest (alone spans) → (before : Option Id) (i : Id) (at : ℕ) (s : Span) (answer : Bool) → IsPlace spans i at s →
    answer ≡ ((s.handles == 0) && lacks_others spans before s.id) →
    going_after (alone spans) before (way_up (alone spans) (Some i)) ≡ (if answer then i ∷ going_after (alone spans) (Some i) (way_up (alone spans) s.parent) else [])
listed spans formed before i at s answer here test =
    let goes : goes_after (alone spans) before i ≡ answer =
    ap (λ o. (option_map_or (λ (span : Span). span.handles) o 0 == 0) && lacks_others spans before i) here.found
    ∙ ap (λ j. (s.handles == 0) && lacks_others spans before j) (sym here.same) ∙ sym test in
    going-step (alone spans) (as_forest (alone spans) formed) before i s here.found
    ∙ ap (λ b. if b then i ∷ going_after (alone spans) (Some i) (way_up (alone spans) s.parent) else []) goes

-- ---- the list of what closes

-- a search for another child, of the span at a place
pub looked : (spans : List Span) (i : Id) (at : ℕ) (s : Span) (answer : Bool) → IsPlace spans i at s →
    IfSome (slice_get spans at) (λ span. answer ≡ not (lacks_others spans None span.id)) → answer ≡ not (lacks_others spans None i)
looked spans i at s answer here test =
    subst (λ j. answer ≡ not (lacks_others spans None j)) here.same
    (MatchOption-at_some ⊤ (λ span. answer ≡ not (lacks_others spans None span.id)) s here.read test)

-- memory is needed only if something closes
pub wanted : (i : Id) (closing rest : List Id) → closing ≡ i ∷ rest → closing ≡ [] → ⊥
wanted i closing rest e none = let both : [] ≡ i ∷ rest = sym none ∙ e in cc

-- what is known of a span with a handle, if a slice of the spans is read at the place that a search
-- returned
pub record IsHeld (old : Forest) (slice : List Span) (next : Option Id) (i : Id) (at : ℕ) (s : Span) : Type 0 where
  pub view : forest_of slice next ≡ old
  pub kept : IsKept slice next
  pub here : IsPlace slice i at s
  pub some : s.handles ≡ 0 → ⊥

-- what the code reads of such a span
pub held : (old : Forest) (slice spans : List Span) (next : Option Id) (i : Id) (at : ℕ) (s : Span) (count : ℕ) →
    forest_of spans next ≡ old → IsKept spans next → slice ≡ spans →
    (at < length slice) × (find (has_id i) slice ≡ slice_get slice at) → s ≡ get_or slice at s → count ≡ s.handles → (count ≡ 0 → ⊥) →
    IsHeld old slice next i at s
held old slice spans next i at s count view kept same h e handles some = record {
  view = ap (λ xs. forest_of xs next) same ∙ view;
  kept = subst (λ xs. IsKept xs next) (sym same) kept;
  here = place slice i at s h e;
  some = λ none. some (handles ∙ none);
}
