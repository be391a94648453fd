-- A new span is the newest, and taking it back undoes it.
use Rattle.std.proofs.Common.{◌≡◌, Bool, true, false, not, List, [], ◌∷◌, ◌++◌, reverse, find, filter, Option, Some, None, is_some, arith, refl, sym, ap, ◌∙◌, subst}
use Rattle.std.specs.Option.{option_map_or}
use Rattle.std.specs.List.{list_any}
use Rattle.std.proofs.lemmas.Bool.{or_parts}
use Rattle.std.proofs.lemmas.List.Folds.{find-append}
use Rattle.std.proofs.lemmas.List.Elements.{filter-append}
use Rattle.std.proofs.lemmas.List.{append-nil}
use Rattle.tracing_tree_spans.specs.Registry.Ids.{same_id}
use Rattle.tracing_tree_spans.specs.Registry.Spans.{Span}
use Rattle.tracing_tree_spans.specs.Registry.Forest.{Forest, has_id, is_child_of, any_unless_live, id_after, add_span, take_back, IsGrown}
use Rattle.tracing_tree_spans.specs.Registry.Registered.{IsKept, IsNewest, alone}
use Rattle.tracing_tree_base.specs.declared.context.Id.{Id}
use Rattle.tracing_tree_spans.proofs.SpanLists.{own_id}
use Rattle.tracing_tree_spans.proofs.ForestLaws.{is_some-find, same_id-eq}
use Rattle.tracing_tree_spans.proofs.RegistryLaws.{forest_of, any-reverse, fresh-below, all_kept-below, parent-live}

-- if no element passes, nothing is found
pub find-missing : (p : Span → Bool) (spans : List Span) → list_any p spans ≡ false → find p spans ≡ None
find-missing p [] h = refl
find-missing p (x ∷ spans) h = let parts = or_parts (p x) (list_any p spans) h in rw parts.0 (find-missing p spans parts.1)

-- and a filter leaves nothing
pub filter-missing : (p : Span → Bool) (spans : List Span) → list_any p spans ≡ false → filter p spans ≡ []
filter-missing p [] h = refl
filter-missing p (x ∷ spans) h = let parts = or_parts (p x) (list_any p spans) h in rw parts.0 (filter-missing p spans parts.1)

-- a parent that is among spans without this id is another span
pub other-parent : (i : Id) (spans : List Span) → list_any (has_id i) spans ≡ false → (o : Option Id) →
    option_map_or (λ above. list_any (has_id above) spans) o true ≡ true → option_map_or (same_id i) o false ≡ false
other-parent i spans fresh None h = refl
other-parent i spans fresh (Some above) h = by (same_id i above) refl
  where
    by : (b : Bool) → same_id i above ≡ b → b ≡ false
    by false e = refl
    by true e =
        let live : list_any (has_id i) spans ≡ true = subst (λ j. list_any (has_id j) spans ≡ true) (sym (same_id-eq i above e)) h in
        absurd (let both : true ≡ false = sym live ∙ fresh in cc)

-- a span that isn't there has no child
pub no-child : (i : Id) (spans : List Span) → IsGrown spans → list_any (has_id i) spans ≡ false → list_any (is_child_of i) spans ≡ false
no-child i [] grown h = refl
no-child i (x ∷ older) grown h =
    let parts = or_parts (has_id i x) (list_any (has_id i) older) h in
    rw (other-parent i older parts.1 x.parent grown.1) (no-child i older grown.2 parts.1)

-- no span has the next id
pub fresh-next : (spans : List Span) (next : Option Id) (i : Id) → IsKept spans next → next ≡ Some i → list_any (has_id i) spans ≡ false
fresh-next spans next i kept here =
    let kept' : IsKept spans (Some i) = subst (λ o. IsKept spans o) here kept in
    fresh-below i.0 i spans kept'.0.below_next (omega arith)

-- a span that was just made is the newest
pub newest-new : (spans : List Span) (next : Option Id) (i : Id) (s : Span) (old new : Forest) → IsKept spans next → next ≡ Some i → s.id ≡ i →
    s.handles ≡ 1 → any_unless_live (alone spans) s.parent ≡ None → forest_of spans next ≡ old → new ≡ add_span s old → IsNewest i new
newest-new spans next i s old new kept here same one found view made =
    let fresh = fresh-next spans next i kept here in
    let own : has_id i s ≡ true = subst (λ j. has_id j s ≡ true) same (own_id s) in
    let none = find-missing (has_id i) spans fresh in
    let at : find (has_id i) (spans ++ s ∷ []) ≡ Some s = find-append (has_id i) spans (s ∷ []) ∙ rw (none, own) refl in
    let turned : list_any (has_id i) (reverse spans) ≡ false = any-reverse (has_id i) spans ∙ fresh in
    let children : list_any (is_child_of i) spans ≡ false =
    sym (any-reverse (is_child_of i) spans) ∙ no-child i (reverse spans) kept.0.grown turned in
    let live : option_map_or (λ above. list_any (has_id above) spans) s.parent true ≡ true = parent-any spans s.parent (parent-live spans s.parent found) in
    let other : is_child_of i s ≡ false = other-parent i spans fresh s.parent live in
    let newest : IsNewest i (add_span s (forest_of spans next)) = record {
      live = ap (λ (o : Option Span). is_some o) at;
      newest = ap id_after same;
      handle = ap (λ (o : Option Span). option_map_or (λ span. span.handles) o 0) at ∙ one;
      childless = filter-append (is_child_of i) spans (s ∷ []) ∙ rw (filter-missing (is_child_of i) spans children, other) refl;
    } in
    subst (IsNewest i) (sym (made ∙ ap (add_span s) (sym view))) newest
  where
    parent-any : (xs : List Span) (o : Option Id) → option_map_or (λ above. is_some (find (has_id above) xs)) o true ≡ true →
        option_map_or (λ above. list_any (has_id above) xs) o true ≡ true
    parent-any xs None h = refl
    parent-any xs (Some above) h = sym (is_some-find (has_id above) xs) ∙ h

-- and taking it back restores what was there before
pub undone-new : (spans : List Span) (next : Option Id) (i : Id) (s : Span) (old new : Forest) → IsKept spans next → next ≡ Some i → s.id ≡ i →
    forest_of spans next ≡ old → new ≡ add_span s old → take_back i new ≡ old
undone-new spans next i s old new kept here same view made =
    let kept' : IsKept spans (Some i) = subst (λ o. IsKept spans o) here kept in
    let own : has_id i s ≡ true = subst (λ j. has_id j s ≡ true) same (own_id s) in
    let last : filter (λ span. not (has_id i span)) (s ∷ []) ≡ [] = rw own refl in
    let spans' : filter (λ span. not (has_id i span)) (spans ++ s ∷ []) ≡ spans =
    filter-append (λ span. not (has_id i span)) spans (s ∷ [])
    ∙ ap (λ xs. filter (λ span. not (has_id i span)) spans ++ xs) last
    ∙ append-nil (filter (λ span. not (has_id i span)) spans)
    ∙ all_kept-below i.0 i spans kept'.0.below_next (omega arith) in
    ap (take_back i) (made ∙ ap (add_span s) (sym view)) ∙ (λ k. forest_of (spans' k) (sym here k)) ∙ view
