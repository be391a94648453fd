-- Forests in any order: which are well-formed, and the paths in them, computed.
use Rattle.std.proofs.Common.{◌≡◌, ℕ, Bool, true, false, List, [], ◌∷◌, Option, Some, None, refl, sym, ◌∙◌, subst}
use Rattle.std.specs.List.{IsDistinct}
use Rattle.tracing_tree_spans.specs.Registry.Ids.{id_of, same_id}
use Rattle.tracing_tree_spans.specs.Registry.Spans.{Span}
use Rattle.tracing_tree_spans.specs.Registry.Forest.{Forest, is_live, path_of, level_of, IsPath, IsForest, IsGrownForest}
use Rattle.tracing_tree_base.specs.declared.context.Id.{Id}
use Rattle.tracing_tree_spans.proofs.ForestLaws.{same_id-eq}
use Rattle.tracing_tree_spans.proofs.PathsUp.{ids_of, forest-by_paths}

-- a span of this id below this parent
abbrev span : ℕ → Option Id → Span
span i above = record { id = id_of i; parent = above; name = []; target = []; kept = record { start = 0; fields = []; written = false }; handles = 1 }

-- the youngest first, each before its parent, and all above the next id
abbrev turned : Forest
turned = record {
  spans = span 7 (Some (id_of 9)) ∷ span 9 (Some (id_of 4)) ∷ span 4 None ∷ [];
  next = Some (id_of 1);
}

path : path_of turned (id_of 7) ≡ id_of 4 ∷ id_of 9 ∷ id_of 7 ∷ []
path = refl

path-above : path_of turned (id_of 9) ≡ id_of 4 ∷ id_of 9 ∷ []
path-above = refl

path-root : path_of turned (id_of 4) ≡ id_of 4 ∷ []
path-root = refl

path-gone : path_of turned (id_of 5) ≡ []
path-gone = refl

level : level_of turned (id_of 7) ≡ 2
level = refl

distinct : IsDistinct same_id (ids_of turned.spans)
unfolding IsDistinct
distinct = ((refl, (refl, tt)), ((refl, tt), (tt, tt)))

paths : (i : Id) → is_live turned i ≡ true → (ids : List Id) × IsPath turned i ids
paths i live = first (same_id (id_of 7) i) refl
  where
    third : same_id (id_of 7) i ≡ false → same_id (id_of 9) i ≡ false → (b : Bool) → same_id (id_of 4) i ≡ b → (ids : List Id) × IsPath turned i ids
    third n m true e =
        (id_of 4 ∷ [], subst (λ j. IsPath turned j (id_of 4 ∷ [])) (same_id-eq (id_of 4) i e) (record { descends = (refl, tt); ends = refl }))
    third n m false e =
        let none : is_live turned i ≡ false = rw (n, m, e) refl in
        absurd (let both : true ≡ false = sym live ∙ none in cc)

    second : same_id (id_of 7) i ≡ false → (b : Bool) → same_id (id_of 9) i ≡ b → (ids : List Id) × IsPath turned i ids
    second n true e = (
      id_of 4 ∷ id_of 9 ∷ [],
      subst (λ j. IsPath turned j (id_of 4 ∷ id_of 9 ∷ [])) (same_id-eq (id_of 9) i e) (record { descends = (refl, (refl, tt)); ends = refl }),
    )
    second n false e = third n e (same_id (id_of 4) i) refl

    first : (b : Bool) → same_id (id_of 7) i ≡ b → (ids : List Id) × IsPath turned i ids
    first true e = (
      id_of 4 ∷ id_of 9 ∷ id_of 7 ∷ [],
      subst (λ j. IsPath turned j (id_of 4 ∷ id_of 9 ∷ id_of 7 ∷ [])) (same_id-eq (id_of 7) i e) (record { descends = (refl, (refl, (refl, tt))); ends = refl }),
    )
    first false e = second e (same_id (id_of 9) i) refl

-- it is well-formed
formed : IsForest turned
formed = forest-by_paths turned distinct paths

-- but hasn't grown in this order
ungrown : IsGrownForest turned → ⊥
ungrown h = let none : false ≡ true = h.grown.2.1 in cc

-- two spans that are each other's parent
abbrev looped : Forest
looped = record { spans = span 1 (Some (id_of 2)) ∷ span 2 (Some (id_of 1)) ∷ []; next = None }

-- aren't a forest
loops : IsForest looped → ⊥
loops h = h.loopless (id_of 1) (id_of 2 ∷ id_of 1 ∷ [], (refl, (refl, tt)), refl)

-- a span without its parent isn't a forest either
abbrev lost : Forest
lost = record { spans = span 1 (Some (id_of 2)) ∷ []; next = None }

orphaned : IsForest lost → ⊥
orphaned h = let none : false ≡ true = h.parents (id_of 1) (id_of 2) refl in cc

-- and two spans of one id aren't
abbrev twice : Forest
twice = record { spans = span 1 None ∷ span 1 None ∷ []; next = None }

doubled : IsForest twice → ⊥
unfolding IsDistinct
doubled h = let one : true ≡ false = h.distinct.0.0 in cc
