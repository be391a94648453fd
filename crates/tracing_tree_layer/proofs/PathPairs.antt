-- Two paths of one forest agree downward, and what the second has beyond the first is what differs.
use Rattle.std.proofs.Common.{◌≡◌, ℕ, zero, suc, ◌+◌, ◌<◌, Bool, true, false, List, [], ◌∷◌, drop, Option, Some, None, option_map, refl, sym, ap, ◌∙◌, subst, if◌then◌else◌, arith}
use Rattle.std.specs.Prelude.{slice_get}
use Rattle.std.specs.Option.{option_map_or}
use Rattle.std.specs.List.{common_prefix_len}
use Rattle.tracing_tree_spans.specs.Registry.Ids.{same_id}
use Rattle.tracing_tree_spans.specs.Registry.Spans.{Span}
use Rattle.tracing_tree_spans.specs.Registry.Forest.{Forest, span_at, is_live, path_of, path_of_any, Descends, IsForest}
use Rattle.tracing_tree_base.specs.declared.context.Id.{Id}
use Rattle.tracing_tree_spans.proofs.ForestLaws.{same_id-eq}
use Rattle.tracing_tree_spans.proofs.PathLaws.{path_of-is_path, path_of-none}
use Rattle.tracing_tree_layer.proofs.DifferingLaws.{differing-no_left, differing-equal, differing-unequal}
use Rattle.tracing_tree_layer.specs.Difference.Items.{differing, has_equal_at, PathsDifferFreshly}

-- ---- places that agree

-- both lists have the place, and the same id there
abbrev same_at : List Id → List Id → ℕ → Bool
same_at old new place = option_map_or (λ i. has_equal_at same_id old place i) (slice_get new place) false

-- if two places agree, so do all before them
abbrev AgreeDownward : List Id → List Id → Type 0
AgreeDownward old new = (low high : ℕ) → low < high → same_at old new high ≡ true → same_at old new low ≡ true

same-refl : (i : Id) → same_id i i ≡ true
same-refl i = grind (arith)

no-false : {A : Type 0} → false ≡ true → A
no-false e = cc

agree-left_none : (new : List Id) (place : ℕ) → same_at [] new place ≡ false
agree-left_none new place = elim (slice_get new place) as (λ o. option_map_or (λ i. false) o false ≡ false) [ None ↦ refl | Some i ↦ refl ]

some-eq : {A : Type 0} (a b : A) → Some a ≡ Some b → a ≡ b
some-eq a b e = cc

-- a span has one parent
one-above : (forest : Forest) (above other : Option Id) (i j : Id) → i ≡ j →
    option_map (λ span. span.parent) (span_at forest i) ≡ Some above →
    option_map (λ span. span.parent) (span_at forest j) ≡ Some other → above ≡ other
one-above forest above other i j e h k =
    some-eq above other (sym h ∙ ap (λ n. option_map (λ (span : Span). span.parent) (span_at forest n)) e ∙ k)

-- lists that descend and agree somewhere descend from the same
same-above : (forest : Forest) (above other : Option Id) (old new : List Id) (place : ℕ) →
    Descends forest above old → Descends forest other new → same_at old new place ≡ true → above ≡ other
same-above forest above other [] new place h k e = no-false (sym (agree-left_none new place) ∙ e)
same-above forest above other (i ∷ old) [] place h k e = no-false e
same-above forest above other (i ∷ old) (j ∷ new) zero h k e = one-above forest above other i j (same_id-eq i j e) h.0 k.0
same-above forest above other (i ∷ old) (j ∷ new) (suc place) h k e =
    one-above forest above other i j (some-eq i j (same-above forest (Some i) (Some j) old new place h.1 k.1 e)) h.0 k.0

agree-below : (forest : Forest) (above other : Option Id) (old new : List Id) → Descends forest above old → Descends forest other new →
    (low high : ℕ) → low < high → same_at old new high ≡ true → same_at old new low ≡ true
agree-below forest above other [] new h k low high l e = no-false (sym (agree-left_none new high) ∙ e)
agree-below forest above other (i ∷ old) [] h k low high l e = no-false e
agree-below forest above other (i ∷ old) (j ∷ new) h k low zero l e = absurd (omega arith)
agree-below forest above other (i ∷ old) (j ∷ new) h k zero (suc high) l e =
    let same : i ≡ j = some-eq i j (same-above forest (Some i) (Some j) old new high h.1 k.1 e) in
    subst (λ n. same_id i n ≡ true) same (same-refl i)
agree-below forest above other (i ∷ old) (j ∷ new) h k (suc low) (suc high) l e =
    agree-below forest (Some i) (Some j) old new h.1 k.1 low high (omega arith) e

path-descends : (forest : Forest) → IsForest forest → (i : Id) → Descends forest None (path_of forest i)
path-descends forest formed i = elim (is_live forest i) as (λ b. is_live forest i ≡ b → Descends forest None (path_of forest i)) [
  | true ↦ (λ e. (path_of-is_path forest formed i e).descends)
  | false ↦ (λ e. subst (λ path. Descends forest None path) (sym (path_of-none forest i e)) tt)
] refl

any-descends : (forest : Forest) → IsForest forest → (o : Option Id) → Descends forest None (path_of_any forest o)
any-descends forest formed None = tt
any-descends forest formed (Some i) = path-descends forest formed i

-- if two paths of one forest agree at a place, so do all places before
paths-agree_downward : (forest : Forest) → IsForest forest → (last : Option Id) (i : Id) → AgreeDownward (path_of_any forest last) (path_of forest i)
paths-agree_downward forest formed last i =
    agree-below forest None None (path_of_any forest last) (path_of forest i) (any-descends forest formed last) (path-descends forest formed i)

-- ---- items that differ

-- if no place agrees, all items differ
differing-none : (left right : List Id) → ((place : ℕ) → same_at left right place ≡ false) → differing same_id left right ≡ right
differing-none [] right h = differing-no_left same_id right
differing-none (i ∷ left) [] h = refl
differing-none (i ∷ left) (j ∷ right) h =
    differing-unequal same_id i left j right (h 0) ∙ ap (λ ids. j ∷ ids) (differing-none left right (λ place. h (suc place)))

pub drop-next : (n : ℕ) (j : Id) (right : List Id) → drop (1 + n) (j ∷ right) ≡ drop n right
drop-next n j right = let e : 1 + n ≡ suc n = omega arith in ap (λ m. drop m (j ∷ right)) e

-- if lists agree downward, what differs is what follows their common prefix
differing-agreeing : (left right : List Id) → AgreeDownward left right →
    differing same_id left right ≡ drop (common_prefix_len same_id left right) right
differing-agreeing [] right h = differing-no_left same_id right
differing-agreeing (i ∷ left) [] h = refl
differing-agreeing (i ∷ left) (j ∷ right) h =
    by (differing-agreeing left right (λ low high l. h (suc low) (suc high) (omega arith))) (same_id i j) refl
  where
    none : same_id i j ≡ false → (place : ℕ) → same_at (i ∷ left) (j ∷ right) place ≡ false
    none e zero = e
    none e (suc place) = elim (same_at (i ∷ left) (j ∷ right) (suc place)) as (λ b. same_at (i ∷ left) (j ∷ right) (suc place) ≡ b → b ≡ false) [
      | true ↦ (λ k. no-false (sym e ∙ h 0 (suc place) (omega arith) k))
      | false ↦ (λ k. refl)
    ] refl

    by : differing same_id left right ≡ drop (common_prefix_len same_id left right) right → (b : Bool) → same_id i j ≡ b →
        differing same_id (i ∷ left) (j ∷ right) ≡ drop (common_prefix_len same_id (i ∷ left) (j ∷ right)) (j ∷ right)
    by rest true e =
        differing-equal same_id i left j right e ∙ rest ∙ sym (drop-next (common_prefix_len same_id left right) j right)
        ∙ sym (ap (λ b. drop (if b then 1 + common_prefix_len same_id left right else 0) (j ∷ right)) e)
    by rest false e =
        differing-none (i ∷ left) (j ∷ right) (none e)
        ∙ sym (ap (λ b. drop (if b then 1 + common_prefix_len same_id left right else 0) (j ∷ right)) e)

-- on the paths of the last span and of another these are the fresh spans
pub differing-fresh_ids : (forest : Forest) → IsForest forest → PathsDifferFreshly forest
differing-fresh_ids forest formed last i =
    differing-agreeing (path_of_any forest last) (path_of forest i) (paths-agree_downward forest formed last i)
