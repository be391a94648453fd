-- A walk from a span up to its root, one look-up after the other.
use Rattle.std.proofs.Common.{◌≡◌, ℕ, ◌<◌, List, [], ◌∷◌, ◌++◌, length, Option, Some, None, arith, refl, sym, ap, ◌∙◌, subst}
use Rattle.std.specs.Option.{option_map, option_map_or, option_and_then}
use Rattle.std.proofs.lemmas.Option.{same_Some}
use Rattle.std.proofs.lemmas.List.{append-nil}
use Rattle.tracing_tree_spans.specs.Registry.Spans.{Span, ShownSpan, shown_span}
use Rattle.tracing_tree_spans.specs.Registry.Forest.{Forest, span_at, path_of, path_of_any, IsForest}
use Rattle.tracing_tree_base.specs.declared.context.Id.{Id}
use Rattle.tracing_tree_spans.proofs.SpanLists.{find-id}
use Rattle.tracing_tree_spans.proofs.ClosingWalk.{way_up, way-none, path-falls, one-up}

-- the look-up of an id that may be missing
abbrev pub look_at : Forest → Option Id → Option ShownSpan
look_at forest at = option_and_then (λ j. option_map shown_span (span_at forest j)) at

-- the ids so far, and the rest of the path upward
pub record IsWalked (forest : Forest) (i : Id) (ids : List Id) (span : Option ShownSpan) : Type 0 where
  pub formed : IsForest forest
  pub at : Option Id
  pub shown : span ≡ look_at forest at
  pub way : ids ++ way_up forest at ≡ way_up forest (Some i)

-- how much of the path is left
abbrev pub left_of : Forest → Option ShownSpan → ℕ
left_of forest span = option_map_or (λ shown. length (path_of forest shown.id)) span 0

pub walk-begins : (forest : Forest) (i : Id) (ids : List Id) (span : Option ShownSpan) → IsForest forest → ids ≡ [] →
    span ≡ option_map shown_span (span_at forest i) → IsWalked forest i ids span
walk-begins forest i ids span formed none shown = record {
  formed = formed;
  at = Some i;
  shown = shown;
  way = ap (λ xs. xs ++ way_up forest (Some i)) none;
}

-- a span that is found is live
pub record IsLooked (forest : Forest) (shown : ShownSpan) (at : Option Id) : Type 0 where
  pub id : Id
  pub span : Span
  pub here : at ≡ Some id
  pub found : span_at forest id ≡ Some span
  pub same : shown.id ≡ id
  pub parent : shown.parent ≡ span.parent

pub looked : (forest : Forest) (shown : ShownSpan) (at : Option Id) → Some shown ≡ look_at forest at → IsLooked forest shown at
looked forest shown None h = absurd cc
looked forest shown (Some j) h = by (span_at forest j) refl h
  where
    by : (o : Option Span) → span_at forest j ≡ o → Some shown ≡ option_map shown_span o → IsLooked forest shown (Some j)
    by None e g = absurd cc
    by (Some s) e g =
        let same : shown ≡ shown_span s = same_Some shown (shown_span s) g in
        record {
          id = j;
          span = s;
          here = refl;
          found = e;
          same = ap (λ (x : ShownSpan). x.id) same ∙ find-id forest.spans j s e;
          parent = ap (λ (x : ShownSpan). x.parent) same;
        }

-- one step up
pub walk-more : (forest : Forest) (i : Id) (ids more : List Id) (shown : ShownSpan) (at : Option Id) (span : Option ShownSpan) → IsForest forest →
    IsLooked forest shown at → ids ++ way_up forest at ≡ way_up forest (Some i) → more ≡ ids ++ shown.id ∷ [] →
    span ≡ look_at forest shown.parent → IsWalked forest i more span
walk-more forest i ids more shown at span formed h way e next = record {
  formed = formed;
  at = shown.parent;
  shown = next;
  way = ap (λ xs. xs ++ way_up forest shown.parent) (e ∙ ap (λ j. ids ++ j ∷ []) h.same)
      ∙ ap (λ o. (ids ++ h.id ∷ []) ++ way_up forest o) h.parent
      ∙ one-up forest formed h.id h.span ids (way_up forest (Some i)) h.found (ap (λ o. ids ++ way_up forest o) (sym h.here) ∙ way);
}

-- and less is left
pub walk-falls : (forest : Forest) (shown : ShownSpan) (at : Option Id) (span : Option ShownSpan) → IsForest forest → IsLooked forest shown at →
    span ≡ look_at forest shown.parent → left_of forest span < length (path_of forest shown.id)
walk-falls forest shown at span formed h next =
    let falls : length (path_of_any forest h.span.parent) < length (path_of forest shown.id) =
    subst (λ j. length (path_of_any forest h.span.parent) < length (path_of forest j)) (sym h.same) (path-falls forest formed h.id h.span h.found) in
    by h.span.parent (ap (look_at forest) h.parent) falls
  where
    left : (p : Id) (o : Option Span) → span_at forest p ≡ o → left_of forest (option_map shown_span o) ≡ option_map_or (λ (s : Span). length (path_of forest p)) o 0
    left p None e = refl
    left p (Some s) e = ap (λ j. length (path_of forest j)) (find-id forest.spans p s e)

    by : (o : Option Id) → look_at forest shown.parent ≡ look_at forest o → length (path_of_any forest o) < length (path_of forest shown.id) →
        left_of forest span < length (path_of forest shown.id)
    by None e falls = let n = ap (left_of forest) (next ∙ e) in omega (arith, n, falls)
    by (Some p) e falls = live (span_at forest p) refl
      where
        live : (o : Option Span) → span_at forest p ≡ o → left_of forest span < length (path_of forest shown.id)
        live None g =
            let n = ap (left_of forest) (next ∙ e) ∙ left p (span_at forest p) refl ∙ ap (λ o. option_map_or (λ (s : Span). length (path_of forest p)) o 0) g in
            omega (arith, n, falls)
        live (Some s) g =
            let n = ap (left_of forest) (next ∙ e) ∙ left p (span_at forest p) refl ∙ ap (λ o. option_map_or (λ (s : Span). length (path_of forest p)) o 0) g in
            omega (arith, n, falls)

-- it ends when no span is left
pub walk-ends : (forest : Forest) (i : Id) (ids : List Id) (at : Option Id) → IsForest forest → None ≡ look_at forest at →
    ids ++ way_up forest at ≡ way_up forest (Some i) → ids ≡ way_up forest (Some i)
walk-ends forest i ids None formed h way = sym (append-nil ids) ∙ way
walk-ends forest i ids (Some j) formed h way = by (span_at forest j) refl h
  where
    by : (o : Option Span) → span_at forest j ≡ o → None ≡ option_map shown_span o → ids ≡ way_up forest (Some i)
    by None e g = sym (append-nil ids) ∙ ap (λ xs. ids ++ xs) (sym (way-none forest j e)) ∙ way
    by (Some s) e g = absurd cc
