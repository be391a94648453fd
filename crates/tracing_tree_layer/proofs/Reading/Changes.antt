-- What changes of a forest keep of its paths.
use Rattle.std.proofs.Common.{◌≡◌, ℕ, nat_lt, Bool, true, false, ◌&&◌, List, [], ◌∷◌, ◌++◌, map, reverse, Option, Some, None, arith, refl, sym, ap, ◌∙◌, subst}
use Rattle.std.specs.Option.{option_map_or}
use Rattle.std.specs.List.{list_all, last_or}
use Rattle.tracing_tree_spans.specs.Registry.Ids.{same_id}
use Rattle.tracing_tree_spans.specs.Registry.Spans.{Span}
use Rattle.tracing_tree_spans.specs.Registry.Forest.{Forest, is_live, path_of, path_of_any, Descends, IsGrown, IsForest, IsGrownForest}
use Rattle.tracing_tree_base.specs.declared.context.Id.{Id}
use Rattle.tracing_tree_spans.proofs.PathLaws.{path_of-is_path, path_of-only, path_of-none}
use Rattle.tracing_tree_spans.proofs.RegistryLaws.{IsSame, grown-changed, reverse-map}
use Rattle.tracing_tree_spans.proofs.GrownForests.{path_of-mapped}

-- ---- parts of a path

pub same-refl : (i : Id) → same_id i i ≡ true
same-refl i = grind (arith)

pub no_both : {A : Type 0} → true ≡ false → A
no_both e = cc

-- a descending list descends up to each of its places
descends-front : (forest : Forest) (above : Option Id) (front back : List Id) (j : Id) →
    Descends forest above (front ++ j ∷ back) → Descends forest above (front ++ j ∷ [])
descends-front forest above [] back j h = (h.0, tt)
descends-front forest above (x ∷ front) back j h = (h.0, descends-front forest (Some x) front back j h.1)

last-front : (above : Option Id) (front : List Id) (j : Id) → last_or above (front ++ j ∷ []) ≡ Some j
last-front above [] j = refl
last-front above (x ∷ front) j = last-front (Some x) front j

not-empty : {A : Type 0} (front back : List Id) (j : Id) → [] ≡ front ++ j ∷ back → A
not-empty [] back j e = cc
not-empty (x ∷ front) back j e = cc

-- a span that has a path is live
pub path-is_live : (forest : Forest) (i j : Id) (front back : List Id) → path_of forest i ≡ front ++ j ∷ back → is_live forest i ≡ true
path-is_live forest i j front back e = by (is_live forest i) refl
  where
    by : (b : Bool) → is_live forest i ≡ b → b ≡ true
    by true h = refl
    by false h = not-empty front back j (sym (path_of-none forest i h) ∙ e)

-- the path of a span on a path is the path up to it
pub path-front : (forest : Forest) → IsForest forest → (i j : Id) (front back : List Id) → path_of forest i ≡ front ++ j ∷ back →
    path_of forest j ≡ front ++ j ∷ []
path-front forest formed i j front back e =
    let live = path-is_live forest i j front back e in
    let whole : Descends forest None (front ++ j ∷ back) = subst (λ path. Descends forest None path) e ((path_of-is_path forest formed i live).descends) in
    sym (path_of-only forest j (front ++ j ∷ []) (record {
      descends = descends-front forest None front back j whole;
      ends = last-front None front j;
    }))

-- ---- changes that keep ids and parents

-- the forest with each span changed
abbrev pub changed_all : (Span → Span) → Forest → Forest
changed_all u forest = record forest { spans = map u forest.spans }

pub path_of-same : (u : Span → Span) → IsSame u → (forest : Forest) (i : Id) → path_of (changed_all u forest) i ≡ path_of forest i
path_of-same u h forest i = path_of-mapped u h forest.spans forest.next forest.next i

pub path_of_any-same : (u : Span → Span) → IsSame u → (forest : Forest) (o : Option Id) → path_of_any (changed_all u forest) o ≡ path_of_any forest o
path_of_any-same u h forest None = refl
path_of_any-same u h forest (Some i) = path_of-same u h forest i

-- the same ids are below a number
below-same : (u : Span → Span) → IsSame u → (n : ℕ) (spans : List Span) →
    list_all (λ (span : Span). nat_lt span.id.0 n) (map u spans) ≡ list_all (λ (span : Span). nat_lt span.id.0 n) spans
below-same u h n [] = refl
below-same u h n (x ∷ spans) =
    ap (λ (j : Id). nat_lt j.0 n && list_all (λ (span : Span). nat_lt span.id.0 n) (map u spans)) (h.ids x)
    ∙ ap (λ b. nat_lt x.id.0 n && b) (below-same u h n spans)

next-same : (u : Span → Span) → IsSame u → (spans : List Span) (o : Option Id) →
    option_map_or (λ (next : Id). list_all (λ (span : Span). nat_lt span.id.0 next.0) (map u spans)) o true
    ≡ option_map_or (λ (next : Id). list_all (λ (span : Span). nat_lt span.id.0 next.0) spans) o true
next-same u h spans None = refl
next-same u h spans (Some next) = below-same u h next.0 spans

pub forest-same : (u : Span → Span) → IsSame u → (forest : Forest) → IsGrownForest forest → IsGrownForest (changed_all u forest)
forest-same u h forest formed = record {
  grown = subst IsGrown (sym (reverse-map u forest.spans)) (grown-changed u h (reverse forest.spans) formed.grown);
  below_next = next-same u h forest.spans forest.next ∙ formed.below_next;
}
