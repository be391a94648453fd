-- What a new span keeps of the paths, and its own path.
use Rattle.std.proofs.Common.{◌≡◌, ℕ, nat_lt, ◌<◌, ◌+◌, ◌==◌, Bool, true, false, List, [], ◌∷◌, ◌++◌, reverse, find, Option, option_map, Some, None, is_some, if◌then◌else◌, arith, refl, sym, ap, ◌∙◌, subst}
use Rattle.std.specs.Option.{option_map_or, option_or}
use Rattle.std.specs.List.{list_all, list_any}
use Rattle.std.proofs.lemmas.Bool.{and_parts}
use Rattle.std.proofs.lemmas.Bool.Decides.{nat_tests}
use Rattle.std.proofs.lemmas.List.Folds.{find-append, list_all-append}
use Rattle.std.proofs.lemmas.List.{reverse-append}
use Rattle.tracing_tree_spans.specs.Registry.Ids.{id_of, same_id}
use Rattle.tracing_tree_spans.specs.Registry.Spans.{Span}
use Rattle.tracing_tree_spans.specs.Registry.Forest.{Forest, has_id, span_at, is_live, path_of, path_of_any, Descends, IsGrown, IsForest, IsGrownForest, id_after, add_span, any_unless_live}
use Rattle.tracing_tree_base.specs.declared.context.Id.{Id}
use Rattle.tracing_tree_spans.proofs.ForestLaws.{is_some-find}
use Rattle.tracing_tree_spans.proofs.PathLaws.{path_of-is_path, path_of-step, path_of-none}
use Rattle.tracing_tree_spans.proofs.Ties.{path_of-more}
use Rattle.tracing_tree_spans.proofs.Ties as tied
use Rattle.tracing_tree_spans.proofs.RegistryLaws.{any-reverse, fresh-below, below-more, parent-live}

-- ---- paths

turned : (s : Span) (forest : Forest) → IsGrownForest (add_span s forest) → IsGrown (s ∷ reverse forest.spans)
turned s forest new = subst IsGrown (reverse-append forest.spans (s ∷ [])) new.grown

-- the path of any other span is unchanged
pub path_of-other : (s : Span) (forest : Forest) → IsGrownForest (add_span s forest) → (j : Id) → has_id j s ≡ false → path_of (add_span s forest) j ≡ path_of forest j
path_of-other s forest new j e = path_of-more forest.spans s (turned s forest new) j e

-- the new span is below its parent
pub path_of-new : (s : Span) (forest : Forest) → IsGrownForest (add_span s forest) → (i : Id) → has_id i s ≡ true →
    path_of (add_span s forest) i ≡ path_of_any forest s.parent ++ i ∷ []
path_of-new s forest new i e = tied.path_of-new forest.spans s (turned s forest new) i e

-- a span is found unchanged, or is the new one
pub find-new : (s : Span) (forest : Forest) (j : Id) → span_at (add_span s forest) j ≡ option_or (span_at forest j) (if has_id j s then Some s else None)
find-new s forest j = find-append (has_id j) forest.spans (s ∷ [])

-- ---- ids that were used

-- the id was used: it is below the next one
abbrev pub is_given : Forest → Id → Bool
is_given forest i = option_map_or (λ next. nat_lt i.0 next.0) forest.next true

-- among spans below a number each is below it
below-found : (n : ℕ) (spans : List Span) (i : Id) → list_all (λ (span : Span). nat_lt span.id.0 n) spans ≡ true →
    is_some (find (has_id i) spans) ≡ true → nat_lt i.0 n ≡ true
below-found n [] i h live = cc
below-found n (x ∷ spans) i h live =
    let parts = and_parts (nat_lt x.id.0 n) (list_all (λ (span : Span). nat_lt span.id.0 n) spans) h in
    by (λ k. below-found n spans i parts.1 k) parts.0 (has_id i x) refl
  where
    by : (is_some (find (has_id i) spans) ≡ true → nat_lt i.0 n ≡ true) → nat_lt x.id.0 n ≡ true → (b : Bool) → has_id i x ≡ b → nat_lt i.0 n ≡ true
    by ih first true e = grind (arith, nat_tests)
    by ih first false e = ih (subst (λ b. is_some (if b then Some x else find (has_id i) spans) ≡ true) e live)

-- a live span's id was used
pub live-given : (forest : Forest) → IsGrownForest forest → (i : Id) → is_live forest i ≡ true → is_given forest i ≡ true
live-given forest formed i live = by forest.next formed.below_next
  where
    by : (o : Option Id) → option_map_or (λ (next : Id). list_all (λ (span : Span). nat_lt span.id.0 next.0) forest.spans) o true ≡ true →
        option_map_or (λ (next : Id). nat_lt i.0 next.0) o true ≡ true
    by None h = refl
    by (Some next) h = below-found next.0 forest.spans i h live

-- an id that was used isn't the next id
pub given-other : (forest : Forest) (i next : Id) → forest.next ≡ Some next → is_given forest i ≡ true → same_id next i ≡ false
given-other forest i next here h =
    let lower : nat_lt i.0 next.0 ≡ true = subst (λ o. option_map_or (λ (n : Id). nat_lt i.0 n.0) o true ≡ true) here h in
    grind (arith, nat_tests)

-- a used id stays used, and the new id is used too
pub given-after : (i j : Id) → nat_lt j.0 (i.0 + 1) ≡ true → option_map_or (λ (next : Id). nat_lt j.0 next.0) (id_after i) true ≡ true
given-after i j h = elim (i.0 == 18_446_744_073_709_551_615) as (λ b.
    option_map_or (λ (next : Id). nat_lt j.0 next.0) (if b then None else Some (id_of (i.0 + 1))) true ≡ true) [ true ↦ refl | false ↦ h ]

pub given-more : (forest : Forest) (s : Span) (next j : Id) → forest.next ≡ Some next → s.id ≡ next → is_given forest j ≡ true → is_given (add_span s forest) j ≡ true
given-more forest s next j here same h =
    let lower : nat_lt j.0 next.0 ≡ true = subst (λ o. option_map_or (λ (n : Id). nat_lt j.0 n.0) o true ≡ true) here h in
    let more : nat_lt j.0 (next.0 + 1) ≡ true = grind (arith, nat_tests) in
    subst (λ k. option_map_or (λ (n : Id). nat_lt j.0 n.0) (id_after k) true ≡ true) (sym same) (given-after next j more)

-- ---- the forest stays well-formed

below-push : (n : ℕ) (spans : List Span) (s : Span) → list_all (λ (span : Span). nat_lt span.id.0 n) spans ≡ true → s.id.0 < n →
    list_all (λ (span : Span). nat_lt span.id.0 n) (spans ++ s ∷ []) ≡ true
below-push n spans s h lt =
    let last : nat_lt s.id.0 n ≡ true = grind (arith, nat_tests) in
    list_all-append (λ (span : Span). nat_lt span.id.0 n) spans (s ∷ []) ∙ rw (h, last) refl

below-after : (i : Id) (spans : List Span) (s : Span) → list_all (λ (span : Span). nat_lt span.id.0 i.0) spans ≡ true → s.id ≡ i →
    option_map_or (λ (next : Id). list_all (λ (span : Span). nat_lt span.id.0 next.0) (spans ++ s ∷ [])) (id_after i) true ≡ true
below-after i spans s h same = elim (i.0 == 18_446_744_073_709_551_615) as (λ b.
    option_map_or (λ (next : Id). list_all (λ (span : Span). nat_lt span.id.0 next.0) (spans ++ s ∷ [])) (if b then None else Some (id_of (i.0 + 1))) true ≡ true) [
      | true ↦ refl
      | false ↦
          let number = ap (λ (j : Id). j.0) same in
          below-push (i.0 + 1) spans s (below-more i.0 (i.0 + 1) spans h (omega arith)) (omega arith)
    ]

parent-turned : (spans : List Span) (o : Option Id) → option_map_or (λ above. is_some (find (has_id above) spans)) o true ≡ true →
    option_map_or (λ above. list_any (has_id above) (reverse spans)) o true ≡ true
parent-turned spans None h = refl
parent-turned spans (Some above) h = any-reverse (has_id above) spans ∙ sym (is_some-find (has_id above) spans) ∙ h

pub forest-grown : (forest : Forest) (next : Id) (s : Span) → IsGrownForest forest → forest.next ≡ Some next → s.id ≡ next →
    any_unless_live forest s.parent ≡ None → IsGrownForest (add_span s forest)
forest-grown forest next s formed here same found =
    let below : list_all (λ (span : Span). nat_lt span.id.0 next.0) forest.spans ≡ true =
    subst (λ o. option_map_or (λ (n : Id). list_all (λ (span : Span). nat_lt span.id.0 n.0) forest.spans) o true ≡ true) here formed.below_next in
    let number : s.id.0 ≡ next.0 = ap (λ (j : Id). j.0) same in
    let fresh : list_any (has_id s.id) (reverse forest.spans) ≡ false = any-reverse (has_id s.id) forest.spans ∙ fresh-below next.0 s.id forest.spans below (omega arith) in
    record {
      grown = subst IsGrown (sym (reverse-append forest.spans (s ∷ [])))
          (rw fresh refl, parent-turned forest.spans s.parent (parent-live forest.spans s.parent found), formed.grown);
      below_next = subst (λ k. option_map_or (λ (n : Id). list_all (λ (span : Span). nat_lt span.id.0 n.0) (forest.spans ++ s ∷ [])) (id_after k) true ≡ true) (sym same)
          (below-after next forest.spans s below same);
    }

-- ---- parents

-- the parent of a live span is live
pub parent-is_live : (forest : Forest) → IsForest forest → (i above : Id) (s : Span) → span_at forest i ≡ Some s → s.parent ≡ Some above → is_live forest above ≡ true
parent-is_live forest formed i above s at up = by (is_live forest above) refl
  where
    by : (b : Bool) → is_live forest above ≡ b → b ≡ true
    by true h = refl
    by false h =
        let own : path_of forest i ≡ i ∷ [] =
        path_of-step forest formed i s at ∙ ap (λ o. path_of_any forest o ++ i ∷ []) up ∙ ap (λ (path : List Id). path ++ i ∷ []) (path_of-none forest above h) in
        let whole = path_of-is_path forest formed i (ap (λ (o : Option Span). is_some o) at) in
        let down : Descends forest None (i ∷ []) = subst (λ path. Descends forest None path) own whole.descends in
        let root : Some (Some above) ≡ Some None =
        ap (λ (o : Option Id). Some o) (sym up) ∙ sym (ap (λ (o : Option Span). option_map (λ (t : Span). t.parent) o) at) ∙ down.0 in
        absurd cc
