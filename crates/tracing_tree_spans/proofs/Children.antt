-- The children of a span are newer than it, so only the newer spans have to be examined.
use Rattle.std.proofs.Common.{◌≡◌, Bool, true, false, ◌&&◌, not, List, [], ◌∷◌, ◌++◌, filter, Option, Some, None, refl, sym, ◌∙◌, subst}
use Rattle.std.specs.Option.{option_map_or}
use Rattle.std.specs.List.{list_all, list_any}
use Rattle.std.proofs.lemmas.Bool.{not-true, or_parts}
use Rattle.tracing_tree_spans.specs.Registry.Ids.{same_id}
use Rattle.tracing_tree_spans.specs.Registry.Spans.{Span}
use Rattle.tracing_tree_spans.specs.Registry.Forest.{has_id, is_child_of, IsGrown}
use Rattle.tracing_tree_spans.specs.Registry.Registered.{is_other_child}
use Rattle.tracing_tree_base.specs.declared.context.Id.{Id}
use Rattle.tracing_tree_spans.proofs.ForestLaws.{same_id-eq}

-- a test of what a filter leaves
pub all-filter : {X : Type 0} (p q : X → Bool) (xs : List X) → list_all q (filter p xs) ≡ not (list_any (λ x. p x && not (q x)) xs)
all-filter p q [] = refl
all-filter p q (x ∷ xs) = by (all-filter p q xs) (p x) (q x) refl refl
  where
    by : list_all q (filter p xs) ≡ not (list_any (λ x. p x && not (q x)) xs) → (a b : Bool) → p x ≡ a → q x ≡ b → list_all q (filter p (x ∷ xs)) ≡ not (list_any (λ x. p x && not (q x)) (x ∷ xs))
    by ih true true e h = rw (e, h) ih
    by ih true false e h = rw (e, h) refl
    by ih false b e h = rw e ih

-- an id that no older span has isn't the parent, which an older span has
not-parent : (older : List Span) (i : Id) (o : Option Id) → list_any (has_id i) older ≡ false →
    option_map_or (λ above. list_any (has_id above) older) o true ≡ true → option_map_or (same_id i) o false ≡ false
not-parent older i None fresh live = refl
not-parent older i (Some above) fresh live = by (same_id i above) refl
  where
    by : (b : Bool) → same_id i above ≡ b → b ≡ false
    by true e =
        let none : list_any (has_id above) older ≡ false = subst (λ j. list_any (has_id j) older ≡ false) (same_id-eq i above e) fresh in
        absurd (let both : true ≡ false = sym live ∙ none in cc)
    by false e = refl

-- an id that no span has isn't a parent
fresh-childless : (spans : List Span) (i : Id) → IsGrown spans → list_any (has_id i) spans ≡ false → list_any (is_child_of i) spans ≡ false
fresh-childless [] i grown fresh = refl
fresh-childless (x ∷ older) i grown fresh =
    let parts = or_parts (has_id i x) (list_any (has_id i) older) fresh in
    let first : is_child_of i x ≡ false = not-parent older i x.parent parts.1 grown.1 in
    rw first (fresh-childless older i grown.2 parts.1)

-- the newest of some spans isn't the parent of any of them
newest-childless : (s : Span) (older : List Span) → IsGrown (s ∷ older) → list_any (is_child_of s.id) (s ∷ older) ≡ false
newest-childless s older grown =
    let fresh = not-true (list_any (has_id s.id) older) grown.0 in
    let first : is_child_of s.id s ≡ false = not-parent older s.id s.parent fresh grown.1 in
    rw first (fresh-childless older s.id grown.2 fresh)

-- what is older than a well-formed list of spans is well-formed
grown-older : (newer older : List Span) → IsGrown (newer ++ older) → IsGrown older
grown-older [] older grown = grown
grown-older (x ∷ newer) older grown = grown-older newer older grown.2

-- without a child there is no other child
no-other : (i : Id) (before : Option Id) (spans : List Span) → list_any (is_child_of i) spans ≡ false → list_any (is_other_child i before) spans ≡ false
no-other i before [] h = refl
no-other i before (x ∷ spans) h =
    let parts = or_parts (is_child_of i x) (list_any (is_child_of i) spans) h in
    rw parts.0 (no-other i before spans parts.1)
