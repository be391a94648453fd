-- What removing the spans that close keeps of the paths.
use Rattle.std.proofs.Common.{◌≡◌, nat_lt, Bool, true, false, ◌||◌, not, List, [], ◌∷◌, ◌++◌, reverse, find, filter, Option, Some, None, is_some, if◌then◌else◌, arith, refl, sym, ap, ◌∙◌, subst}
use Rattle.std.specs.Option.{option_map_or}
use Rattle.std.specs.List.{list_all, list_any}
use Rattle.std.proofs.lemmas.Bool.{not-true, and_parts, or_parts}
use Rattle.std.proofs.lemmas.List.{reverse-append}
use Rattle.tracing_tree_spans.specs.Registry.Ids.{same_id}
use Rattle.tracing_tree_spans.specs.Registry.Spans.{Span}
use Rattle.tracing_tree_spans.specs.Registry.Forest.{Forest, has_id, path_of, IsGrown, IsGrownForest, is_child_of, goes_after, closing_of, take_handle, without_spans}
use Rattle.tracing_tree_spans.specs.Registry.Registered.{going_after}
use Rattle.tracing_tree_base.specs.declared.context.Id.{Id}
use Rattle.tracing_tree_spans.proofs.ForestLaws.{path_among, same_id-eq, is_some-find}
use Rattle.tracing_tree_spans.proofs.PathLaws.{path_above, path_of-among}
use Rattle.tracing_tree_spans.proofs.ClosingLaws.{going-cons}
use Rattle.tracing_tree_spans.proofs.RegistryLaws.{reverse-filter}
use Rattle.tracing_tree_layer.proofs.Reading.Changes.{no_both}

-- ---- each of some spans

abbrev pub Each : (Span → Type 0) → List Span → Type 0
Each P [] = Unit {0}
Each P (x ∷ xs) = P x × Each P xs

each-append : (P : Span → Type 0) (xs ys : List Span) → Each P xs → Each P ys → Each P (xs ++ ys)
each-append P [] ys h k = k
each-append P (x ∷ xs) ys h k = (h.0, each-append P xs ys h.1 k)

each-reverse : (P : Span → Type 0) (xs : List Span) → Each P xs → Each P (reverse xs)
each-reverse P [] h = tt
each-reverse P (x ∷ xs) h = subst (Each P) (sym (reverse-append (x ∷ []) xs)) (each-append P (reverse xs) (x ∷ []) (each-reverse P xs h.1) (h.0, tt))

each-both : (P Q R : Span → Type 0) → ((x : Span) → P x → Q x → R x) → (xs : List Span) → Each P xs → Each Q xs → Each R xs
each-both P Q R f [] h k = tt
each-both P Q R f (x ∷ xs) h k = (f x h.0 k.0, each-both P Q R f xs h.1 k.1)

each-filter : (p q : Span → Bool) (xs : List Span) → list_all q (filter p xs) ≡ true → Each (λ x. p x ≡ true → q x ≡ true) xs
each-filter p q [] h = tt
each-filter p q (x ∷ xs) h = by (λ k. each-filter p q xs k) (p x) refl
  where
    by : (list_all q (filter p xs) ≡ true → Each (λ x. p x ≡ true → q x ≡ true) xs) → (b : Bool) → p x ≡ b → Each (λ x. p x ≡ true → q x ≡ true) (x ∷ xs)
    by ih true e =
        let parts = and_parts (q x) (list_all q (filter p xs)) (subst (λ b. list_all q (if b then x ∷ filter p xs else filter p xs) ≡ true) e h) in
        ((λ k. parts.0), ih parts.1)
    by ih false e = (
      (λ k. no_both (sym k ∙ e)),
      ih (subst (λ b. list_all q (if b then x ∷ filter p xs else filter p xs) ≡ true) e h),
    )

-- ---- the children of what closes also close

-- whether the id is one of these
abbrev pub is_gone : List Id → Id → Bool
is_gone ids i = list_any (same_id i) ids

-- a child of one of these is one of these, or the one before them
abbrev Follows : Option Id → List Id → Span → Type 0
Follows before ids x = (above : Id) → x.parent ≡ Some above → is_gone ids above ≡ true →
    (option_map_or (same_id x.id) before false || is_gone ids x.id) ≡ true

-- a child of one of these is one of these
abbrev pub GoesAlong : List Id → Span → Type 0
GoesAlong ids x = (above : Id) → x.parent ≡ Some above → is_gone ids above ≡ true → is_gone ids x.id ≡ true

or-first : (a b : Bool) → a ≡ true → (a || b) ≡ true
or-first a b e = rw e refl

follows-cons : (before : Option Id) (i : Id) (going : List Id) (x : Span) →
    (is_child_of i x ≡ true → option_map_or (same_id x.id) before false ≡ true) → Follows (Some i) going x → Follows before (i ∷ going) x
follows-cons before i going x first rest above up gone = by (same_id above i) refl
  where
    by : (b : Bool) → same_id above i ≡ b → (option_map_or (same_id x.id) before false || is_gone (i ∷ going) x.id) ≡ true
    by true e =
        let child : is_child_of i x ≡ true = ap (λ o. option_map_or (same_id i) o false) up ∙ subst (λ k. same_id k above ≡ true) (same_id-eq above i e) (grind (arith)) in
        or-first (option_map_or (same_id x.id) before false) (is_gone (i ∷ going) x.id) (first child)
    by false e =
        let behind : is_gone going above ≡ true = subst (λ b. (b || is_gone going above) ≡ true) e gone in
        let more : is_gone (i ∷ going) x.id ≡ true = rest above up behind in
        elim (option_map_or (same_id x.id) before false) as (λ b. (b || is_gone (i ∷ going) x.id) ≡ true) [ true ↦ refl | false ↦ more ]

going-follows : (forest : Forest) (before : Option Id) (ids : List Id) → Each (Follows before (going_after forest before ids)) forest.spans
going-follows forest before [] = none forest.spans
  where
    none : (xs : List Span) → Each (Follows before []) xs
    none [] = tt
    none (x ∷ xs) = ((λ above up gone. no_both (sym gone)), none xs)
going-follows forest before (i ∷ more) =
    subst (λ going. Each (Follows before going) forest.spans) (sym (going-cons forest before i more))
    (by (going-follows forest (Some i) more) (goes_after forest before i) refl)
  where
    none : (xs : List Span) → Each (Follows before []) xs
    none [] = tt
    none (x ∷ xs) = ((λ above up gone. no_both (sym gone)), none xs)

    by : Each (Follows (Some i) (going_after forest (Some i) more)) forest.spans → (b : Bool) → goes_after forest before i ≡ b →
        Each (Follows before (if b then i ∷ going_after forest (Some i) more else [])) forest.spans
    by ih true e =
        let parts = and_parts _ _ e in
        each-both (λ x. is_child_of i x ≡ true → option_map_or (same_id x.id) before false ≡ true) (Follows (Some i) (going_after forest (Some i) more))
        (Follows before (i ∷ going_after forest (Some i) more)) (follows-cons before i (going_after forest (Some i) more)) forest.spans
        (each-filter (is_child_of i) (λ x. option_map_or (same_id x.id) before false) forest.spans parts.1) ih
    by ih false e = none forest.spans

-- the children of what closes also close
pub closing-along : (forest : Forest) (i : Id) → Each (GoesAlong (closing_of forest i)) (take_handle i forest).spans
closing-along forest i = going-follows (take_handle i forest) None (reverse (path_of (take_handle i forest) i))

-- ---- what is left

-- the spans that aren't among these
abbrev pub left : List Id → List Span → List Span
left ids spans = filter (λ span. not (is_gone ids span.id)) spans

other-kept : (ids : List Id) (i : Id) (x : Span) → is_gone ids i ≡ false → is_gone ids x.id ≡ true → has_id i x ≡ false
other-kept ids i x here gone = by (has_id i x) refl
  where
    by : (b : Bool) → has_id i x ≡ b → b ≡ false
    by false e = refl
    by true e = no_both (sym gone ∙ ap (is_gone ids) (same_id-eq x.id i e) ∙ here)

pub find-kept : (ids : List Id) (i : Id) → is_gone ids i ≡ false → (spans : List Span) → find (has_id i) (left ids spans) ≡ find (has_id i) spans
find-kept ids i here [] = refl
find-kept ids i here (x ∷ spans) = by (find-kept ids i here spans) (is_gone ids x.id) refl
  where
    by : find (has_id i) (left ids spans) ≡ find (has_id i) spans → (b : Bool) → is_gone ids x.id ≡ b → find (has_id i) (left ids (x ∷ spans)) ≡ find (has_id i) (x ∷ spans)
    by ih true e = rw (e, other-kept ids i x here e) ih
    by ih false e = rw e (ap (λ o. if has_id i x then Some x else o) ih)

pub find-gone : (ids : List Id) (i : Id) → is_gone ids i ≡ true → (spans : List Span) → find (has_id i) (left ids spans) ≡ None
find-gone ids i here [] = refl
find-gone ids i here (x ∷ spans) = by (find-gone ids i here spans) (is_gone ids x.id) refl
  where
    by : find (has_id i) (left ids spans) ≡ None → (b : Bool) → is_gone ids x.id ≡ b → find (has_id i) (left ids (x ∷ spans)) ≡ None
    by ih true e = rw e ih
    by ih false e = rw (e, other) ih
      where
        other : has_id i x ≡ false
        other = elim (has_id i x) as (λ b. has_id i x ≡ b → b ≡ false) [
          | true ↦ (λ k. no_both (sym here ∙ ap (is_gone ids) (sym (same_id-eq x.id i k)) ∙ e))
          | false ↦ (λ k. refl)
        ] refl

any-left : (ids : List Id) (i : Id) → is_gone ids i ≡ false → (spans : List Span) → list_any (has_id i) (left ids spans) ≡ list_any (has_id i) spans
any-left ids i here spans =
    sym (is_some-find (has_id i) (left ids spans)) ∙ ap (λ o. is_some o) (find-kept ids i here spans) ∙ is_some-find (has_id i) spans

any-filter : (p q : Span → Bool) (spans : List Span) → list_any p spans ≡ false → list_any p (filter q spans) ≡ false
any-filter p q [] h = refl
any-filter p q (x ∷ spans) h =
    let parts = or_parts (p x) (list_any p spans) h in
    let rest = any-filter p q spans parts.1 in
    elim (q x) as (λ b. list_any p (if b then x ∷ filter q spans else filter q spans) ≡ false) [ true ↦ rw parts.0 rest | false ↦ rest ]

all-filter : (p q : Span → Bool) (spans : List Span) → list_all p spans ≡ true → list_all p (filter q spans) ≡ true
all-filter p q [] h = refl
all-filter p q (x ∷ spans) h =
    let parts = and_parts (p x) (list_all p spans) h in
    let rest = all-filter p q spans parts.1 in
    elim (q x) as (λ b. list_all p (if b then x ∷ filter q spans else filter q spans) ≡ true) [ true ↦ rw parts.0 rest | false ↦ rest ]

-- a span that stays has a parent that stays
parent-stays : (ids : List Id) (x : Span) → GoesAlong ids x → is_gone ids x.id ≡ false → (above : Id) → x.parent ≡ Some above → is_gone ids above ≡ false
parent-stays ids x along here above up = by (is_gone ids above) refl
  where
    by : (b : Bool) → is_gone ids above ≡ b → b ≡ false
    by false e = refl
    by true e = no_both (sym (along above up e) ∙ here)

grown-left : (ids : List Id) (spans : List Span) → Each (GoesAlong ids) spans → IsGrown spans → IsGrown (left ids spans)
grown-left ids [] along grown = tt
grown-left ids (x ∷ spans) along grown = by (grown-left ids spans along.1 grown.2) (is_gone ids x.id) refl
  where
    parent : is_gone ids x.id ≡ false → (o : Option Id) → x.parent ≡ o → option_map_or (λ above. list_any (has_id above) spans) o true ≡ true →
        option_map_or (λ above. list_any (has_id above) (left ids spans)) o true ≡ true
    parent here None up h = refl
    parent here (Some above) up h = any-left ids above (parent-stays ids x along.0 here above up) spans ∙ h

    by : IsGrown (left ids spans) → (b : Bool) → is_gone ids x.id ≡ b → IsGrown (left ids (x ∷ spans))
    by ih true e = rw e ih
    by ih false e =
        let fresh : list_any (has_id x.id) (left ids spans) ≡ false =
        any-filter (has_id x.id) (λ span. not (is_gone ids span.id)) spans (not-true (list_any (has_id x.id) spans) grown.0) in
        let all : IsGrown (x ∷ left ids spans) = (rw fresh refl, parent e x.parent refl grown.1, ih) in
        rw e all

path-left : (ids : List Id) (spans : List Span) → Each (GoesAlong ids) spans → (i : Id) → is_gone ids i ≡ false → path_among (left ids spans) i ≡ path_among spans i
path-left ids [] along i here = refl
path-left ids (x ∷ spans) along i here = by (λ j k. path-left ids spans along.1 j k) (is_gone ids x.id) refl (has_id i x) refl
  where
    up : ((j : Id) → is_gone ids j ≡ false → path_among (left ids spans) j ≡ path_among spans j) → is_gone ids x.id ≡ false → (o : Option Id) → x.parent ≡ o →
        path_above (left ids spans) o ≡ path_above spans o
    up ih kept None e = refl
    up ih kept (Some above) e = ih above (parent-stays ids x along.0 kept above e)

    by : ((j : Id) → is_gone ids j ≡ false → path_among (left ids spans) j ≡ path_among spans j) →
        (b : Bool) → is_gone ids x.id ≡ b → (c : Bool) → has_id i x ≡ c → path_among (left ids (x ∷ spans)) i ≡ path_among (x ∷ spans) i
    by ih true e c own = rw (e, other-kept ids i x here e) (ih i here)
    by ih false e true own = rw (e, own) (ap (λ path. path ++ i ∷ []) (up ih e x.parent refl))
    by ih false e false own = rw (e, own) (ih i here)

next-filter : (p : Span → Bool) (spans : List Span) (o : Option Id) → option_map_or (λ (next : Id). list_all (λ (span : Span). nat_lt span.id.0 next.0) spans) o true ≡ true →
    option_map_or (λ (next : Id). list_all (λ (span : Span). nat_lt span.id.0 next.0) (filter p spans)) o true ≡ true
next-filter p spans None h = refl
next-filter p spans (Some next) h = all-filter (λ span. nat_lt span.id.0 next.0) p spans h

-- what is left is well-formed
pub forest-left : (ids : List Id) (forest : Forest) → IsGrownForest forest → Each (GoesAlong ids) forest.spans → IsGrownForest (without_spans ids forest)
forest-left ids forest formed along = record {
  grown = subst IsGrown (sym (reverse-filter (λ span. not (is_gone ids span.id)) forest.spans))
      (grown-left ids (reverse forest.spans) (each-reverse (GoesAlong ids) forest.spans along) formed.grown);
  below_next = next-filter (λ span. not (is_gone ids span.id)) forest.spans forest.next formed.below_next;
}

-- what stays keeps its path
pub path_of-kept : (ids : List Id) (forest : Forest) → IsGrownForest forest → Each (GoesAlong ids) forest.spans → (i : Id) → is_gone ids i ≡ false →
    path_of (without_spans ids forest) i ≡ path_of forest i
path_of-kept ids forest formed along i here =
    path_of-among (without_spans ids forest) ((forest-left ids forest formed along).grown) i
    ∙ ap (λ xs. path_among xs i) (reverse-filter (λ span. not (is_gone ids span.id)) forest.spans)
    ∙ path-left ids (reverse forest.spans) (each-reverse (GoesAlong ids) forest.spans along) i here
    ∙ sym (path_of-among forest formed.grown i)
