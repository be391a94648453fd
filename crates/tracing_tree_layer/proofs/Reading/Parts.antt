-- Places and parts of lists of ids, and of the paths of a forest.
use Rattle.std.proofs.Common.{◌≡◌, ℕ, zero, suc, ◌<◌, ◌≤◌, ◌+◌, Bool, true, false, ◌||◌, List, [], ◌∷◌, ◌++◌, length, get_or, take, slice_get, Contains, Some, if◌then◌else◌, arith, refl, sym, ap, ◌∙◌, subst, length-append}
use Rattle.std.specs.List.{common_prefix_len}
use Rattle.std.proofs.lemmas.List.{append_assoc}
use Rattle.std.proofs.lemmas.List.Folds.{list_any-append}
use Rattle.tracing_tree_spans.specs.Registry.Ids.{same_id}
use Rattle.tracing_tree_spans.specs.Registry.Spans.{Span}
use Rattle.tracing_tree_spans.specs.Registry.Forest.{Forest, path_of, path_of_any, span_at, IsForest}
use Rattle.tracing_tree_base.specs.declared.context.Id.{Id}
use Rattle.tracing_tree_spans.proofs.ForestLaws.{same_id-eq}
use Rattle.tracing_tree_spans.proofs.PathLaws.{path_of-step}
use Rattle.tracing_tree_layer.proofs.Reading.Changes.{same-refl, no_both, path-front}
use Rattle.tracing_tree_layer.proofs.Reading.Left.{is_gone}

-- ---- ids in lists

-- an id in a list splits it
pub record Parts (ids : List Id) (i : Id) : Type 0 where
  pub front : List Id
  pub back : List Id
  pub whole : ids ≡ front ++ i ∷ back

pub parts_at : (ids : List Id) (i : Id) → is_gone ids i ≡ true → Parts ids i
parts_at [] i h = no_both (sym h)
parts_at (x ∷ ids) i h = by (λ k. parts_at ids i k) (same_id i x) refl
  where
    by : (is_gone ids i ≡ true → Parts ids i) → (b : Bool) → same_id i x ≡ b → Parts (x ∷ ids) i
    by ih true e = record { front = []; back = ids; whole = ap (λ j. j ∷ ids) (sym (same_id-eq i x e)) }
    by ih false e =
        let rest : Parts ids i = ih (subst (λ b. (b || is_gone ids i) ≡ true) e h) in
        record { front = x ∷ rest.front; back = rest.back; whole = ap (λ js. x ∷ js) rest.whole }

-- what is in a prefix is in the list
pub in_left : (xs ys : List Id) (i : Id) → is_gone xs i ≡ true → is_gone (xs ++ ys) i ≡ true
in_left xs ys i h = list_any-append (same_id i) xs ys ∙ rw h refl

pub in_right : (xs ys : List Id) (i : Id) → is_gone ys i ≡ true → is_gone (xs ++ ys) i ≡ true
in_right xs ys i h = list_any-append (same_id i) xs ys ∙ rw h (elim (is_gone xs i) as (λ b. (b || true) ≡ true) [ true ↦ refl | false ↦ refl ])

-- what is in the list is in one of the two
pub in_either : {P : Type 0} (xs ys : List Id) (i : Id) → is_gone (xs ++ ys) i ≡ true → (is_gone xs i ≡ true → P) → (is_gone ys i ≡ true → P) → P
in_either {P} xs ys i h f g = by (is_gone xs i) refl (sym (list_any-append (same_id i) xs ys) ∙ h)
  where
    by : (b : Bool) → is_gone xs i ≡ b → (is_gone xs i || is_gone ys i) ≡ true → P
    by true e k = f e
    by false e k = g (subst (λ b. (b || is_gone ys i) ≡ true) e k)

-- what is at a place is in the list
at-any : (xs : List Id) (k : ℕ) (i : Id) → k < length xs → get_or xs k i ≡ i → is_gone xs i ≡ true
at-any [] k i lt e = absurd (omega arith)
at-any (x ∷ xs) zero i lt e = rw (ap (λ j. same_id i j) e ∙ same-refl i) refl
at-any (x ∷ xs) (suc k) i lt e = in_right (x ∷ []) xs i (at-any xs k i (omega arith) e)

pub contains-any : (xs : List Id) (i : Id) → Contains xs i → is_gone xs i ≡ true
contains-any xs i h = at-any xs h.0 i h.1 h.2

-- ---- places

pub at_seam : {A : Type 0} (front back : List A) (i : A) → slice_get (front ++ i ∷ back) (length front) ≡ Some i
at_seam [] back i = refl
at_seam (x ∷ front) back i = at_seam front back i

pub at_left : (xs ys : List Id) (k : ℕ) → k < length xs → slice_get (xs ++ ys) k ≡ slice_get xs k
at_left [] ys k lt = absurd (omega arith)
at_left (x ∷ xs) ys zero lt = refl
at_left (x ∷ xs) ys (suc k) lt = at_left xs ys k (omega arith)

-- ---- common prefixes

pub common-left : (xs ys : List Id) → common_prefix_len same_id xs ys ≤ length xs
common-left [] ys = omega arith
common-left (x ∷ xs) [] = omega arith
common-left (x ∷ xs) (y ∷ ys) =
    elim (same_id x y) as (λ b. (if b then 1 + common_prefix_len same_id xs ys else 0) ≤ length (x ∷ xs)) [
      | true ↦ let ih = common-left xs ys in omega arith
      | false ↦ omega arith
    ]

pub common-right : (xs ys : List Id) → common_prefix_len same_id xs ys ≤ length ys
common-right [] ys = omega arith
common-right (x ∷ xs) [] = omega arith
common-right (x ∷ xs) (y ∷ ys) =
    elim (same_id x y) as (λ b. (if b then 1 + common_prefix_len same_id xs ys else 0) ≤ length (y ∷ ys)) [
      | true ↦ let ih = common-right xs ys in omega arith
      | false ↦ omega arith
    ]

-- up to there the lists are the same
pub common-same : (xs ys : List Id) → take (common_prefix_len same_id xs ys) ys ≡ take (common_prefix_len same_id xs ys) xs
common-same [] ys = refl
common-same (x ∷ xs) [] = refl
common-same (x ∷ xs) (y ∷ ys) = by (common-same xs ys) (same_id x y) refl
  where
    by : take (common_prefix_len same_id xs ys) ys ≡ take (common_prefix_len same_id xs ys) xs → (b : Bool) → same_id x y ≡ b →
        take (common_prefix_len same_id (x ∷ xs) (y ∷ ys)) (y ∷ ys) ≡ take (common_prefix_len same_id (x ∷ xs) (y ∷ ys)) (x ∷ xs)
    by ih true e =
        let n = common_prefix_len same_id xs ys in
        let s : 1 + n ≡ suc n = omega arith in
        ap (λ b. take (if b then 1 + n else 0) (y ∷ ys)) e
        ∙ ap (λ m. take m (y ∷ ys)) s
        ∙ (λ k. sym (same_id-eq x y e) k ∷ ih k)
        ∙ ap (λ m. take m (x ∷ xs)) (sym s)
        ∙ ap (λ b. take (if b then 1 + n else 0) (x ∷ xs)) (sym e)
    by ih false e = rw e refl

-- ---- paths in paths

-- the path of a span on a path is within it
pub path-within : (forest : Forest) → IsForest forest → (i j k : Id) → is_gone (path_of forest i) j ≡ true → is_gone (path_of forest j) k ≡ true →
    is_gone (path_of forest i) k ≡ true
path-within forest formed i j k here there =
    let parts : Parts (path_of forest i) j = parts_at (path_of forest i) j here in
    let own : path_of forest j ≡ parts.front ++ j ∷ [] = path-front forest formed i j parts.front parts.back parts.whole in
    let longer : (parts.front ++ j ∷ []) ++ parts.back ≡ path_of forest i = append_assoc parts.front (j ∷ []) parts.back ∙ sym parts.whole in
    subst (λ path. is_gone path k ≡ true) longer (in_left (parts.front ++ j ∷ []) parts.back k (subst (λ path. is_gone path k ≡ true) own there))

-- at its places it has what the longer path has there
pub path-places : (forest : Forest) → IsForest forest → (i j : Id) → is_gone (path_of forest i) j ≡ true → (level : ℕ) → level < length (path_of forest j) →
    (level < length (path_of forest i)) × (slice_get (path_of forest i) level ≡ slice_get (path_of forest j) level)
path-places forest formed i j here level lt =
    let parts : Parts (path_of forest i) j = parts_at (path_of forest i) j here in
    let own : path_of forest j ≡ parts.front ++ j ∷ [] = path-front forest formed i j parts.front parts.back parts.whole in
    let longer : path_of forest i ≡ (parts.front ++ j ∷ []) ++ parts.back = parts.whole ∙ sym (append_assoc parts.front (j ∷ []) parts.back) in
    let le : level < length (parts.front ++ j ∷ []) = subst (λ (path : List Id). level < length path) own lt in (
      subst (λ (path : List Id). level < length path) (sym longer) (omega (arith, length-append (parts.front ++ j ∷ []) parts.back)),
      ap (λ path. slice_get path level) longer ∙ at_left (parts.front ++ j ∷ []) parts.back level le ∙ ap (λ path. slice_get path level) (sym own),
    )

-- a span is on its own path, if that isn't empty
pub own-path : (forest : Forest) → IsForest forest → (i : Id) (s : Span) → span_at forest i ≡ Some s → is_gone (path_of forest i) i ≡ true
own-path forest formed i s at =
    ap (λ path. is_gone path i) (path_of-step forest formed i s at) ∙ in_right (path_of_any forest s.parent) (i ∷ []) i (rw (same-refl i) refl)
