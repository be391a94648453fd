-- Small forests of custom registries are well-formed.
use Rattle.std.proofs.Common.{◌≡◌, ℕ, Bool, true, false, List, [], ◌∷◌, Option, Some, None, option_map, refl, sym, ap, ◌∙◌}
use Rattle.std.specs.List.{IsDistinct}
use Rattle.tracing_tree_spans.specs.Registry.Ids.{id_of, same_id}
use Rattle.tracing_tree_spans.specs.Registry.Spans.{Span}
use Rattle.tracing_tree_spans.specs.Registry.Forest.{Forest, has_id, span_at, is_live, IsPath, IsForest}
use Rattle.tracing_tree.specs.declared.format.Id.{Id}
use Rattle.tracing_tree_spans.specs.declared.registry.node.Data.{Data}
use Rattle.tracing_tree_spans.proofs.PathsUp.{forest-by_paths, id_laws}

-- the span that is found under its own id has this parent
found : (forest : Forest) (i : Id) (s : Span) (o : Option Id) → span_at forest i ≡ Some s → s.parent ≡ o → option_map (λ span. span.parent) (span_at forest i) ≡ Some o
found forest i s o at parent = ap (λ (o : Option Span). option_map (λ (span : Span). span.parent) o) at ∙ ap (λ (o : Option Id). Some o) parent

-- only a root
pub one_root : (root : Span) (next : Option Id) → root.parent ≡ None → IsForest (record { spans = root ∷ []; next = next })
unfolding IsDistinct
one_root root next top = forest-by_paths forest (tt, tt) paths
  where
    forest : Forest
    forest = record { spans = root ∷ []; next = next }

    paths : (i : Id) → is_live forest i ≡ true → (ids : List Id) × IsPath forest i ids
    paths i live = by (has_id i root) refl
      where
        by : (b : Bool) → has_id i root ≡ b → (ids : List Id) × IsPath forest i ids
        by true e = (i ∷ [], record { descends = (found forest i root None (rw e refl) top, tt); ends = refl })
        by false e = let none : is_live forest i ≡ false = rw e refl in absurd (let both : true ≡ false = sym live ∙ none in cc)

-- a child and its root, the child first
pub child_first : (child root : Span) (next : Option Id) → same_id child.id root.id ≡ false → child.parent ≡ Some root.id → root.parent ≡ None →
    IsForest (record { spans = child ∷ root ∷ []; next = next })
unfolding IsDistinct
child_first child root next apart below top = forest-by_paths forest ((apart, tt), (tt, tt)) paths
  where
    forest : Forest
    forest = record { spans = child ∷ root ∷ []; next = next }

    root_at : span_at forest root.id ≡ Some root
    root_at = rw (apart, id_laws.refl root.id) refl

    paths : (i : Id) → is_live forest i ≡ true → (ids : List Id) × IsPath forest i ids
    paths i live = first (has_id i child) refl
      where
        second : has_id i child ≡ false → (b : Bool) → has_id i root ≡ b → (ids : List Id) × IsPath forest i ids
        second n true e = (i ∷ [], record { descends = (found forest i root None (rw (n, e) refl) top, tt); ends = refl })
        second n false e = let none : is_live forest i ≡ false = rw (n, e) refl in absurd (let both : true ≡ false = sym live ∙ none in cc)

        first : (b : Bool) → has_id i child ≡ b → (ids : List Id) × IsPath forest i ids
        first true e = (
          root.id ∷ i ∷ [],
          record {
            descends = (found forest root.id root None root_at top, (found forest i child (Some root.id) (rw e refl) below, tt));
            ends = refl;
          },
        )
        first false e = second e (has_id i root) refl

-- a registry with only a root
pub lone_forest : (name target : List ℕ) (kept : Data) → IsForest (record {
  spans = record { id = id_of 1; parent = None; name = name; target = target; kept = kept; handles = 1 } ∷ [];
  next = None;
})
lone_forest name target kept = one_root (record { id = id_of 1; parent = None; name = name; target = target; kept = kept; handles = 1 }) None refl

-- the child and the root of a reversed forest
pub turned_forest : (name target : List ℕ) (child root : Data) → IsForest (record {
  spans = record { id = id_of 3; parent = Some (id_of 7); name = name; target = target; kept = child; handles = 1 }
      ∷ record { id = id_of 7; parent = None; name = name; target = target; kept = root; handles = 1 } ∷ [];
  next = Some (id_of 1);
})
turned_forest name target child root =
    child_first (record { id = id_of 3; parent = Some (id_of 7); name = name; target = target; kept = child; handles = 1 })
    (record { id = id_of 7; parent = None; name = name; target = target; kept = root; handles = 1 }) (Some (id_of 1)) refl refl refl
