-- What a map does by its keys, it does by their bytes.
use Rattle.std.proofs.Common.{◌≡◌, ℕ, List, [], ◌∷◌, Bool, true, false, Some, refl, sym, ap, subst, ◌∙◌, true≢false, Vec}
use Rattle.std.specs.Prelude.{cond, is_some, IsSome}
use Rattle.std.specs.Global.{Global}
use Rattle.std.specs.List.{AllByRecursion}
use Rattle.std.specs.List.Sorted.{IsStrictlySortedBy}
use Rattle.std.specs.Map.{keys_of, lookup, remove_entry, set_value}
use Rattle.std.specs.BTreeMap.{insert_entry, is_at}
use Rattle.std.specs.Cmp.Lexicographic.{slice_cmp}
use Rattle.std.specs.Ordering.{nat_cmp, is_eq, match_ordering}
use Rattle.std.specs.declared.cmp.Ordering.{Ordering}
use Rattle.std.specs.declared.cmp.Ordering.TheVariants.{Less, Equal, Greater}
use Rattle.ttree_otlp.specs.Keyed.{by_bytes, kept_at, with_kept, without_kept}
use Rattle.ttree_otlp.proofs.Order.Keys.{AreKeysSorted, further, kept_below}

abbrev bytes_cmp : Vec ℕ Global → Vec ℕ Global → Ordering
bytes_cmp x y = slice_cmp nat_cmp x.items y.items

module _ {V : Type 0} where
  pub looked_up : (key : List ℕ) (es : List (Vec ℕ Global × V)) → lookup (is_at (λ k. slice_cmp nat_cmp key k.items)) es ≡ kept_at key (by_bytes es)
  looked_up key [] = refl
  looked_up key (e ∷ es) = ap (cond (is_eq (slice_cmp nat_cmp key e.0.items)) (Some e.1)) (looked_up key es)

  pub inserted : (es : List (Vec ℕ Global × V)) (key : Vec ℕ Global) (value : V) → by_bytes (insert_entry bytes_cmp es key value) ≡ with_kept key.items value (by_bytes es)
  inserted [] key value = refl
  inserted (e ∷ es) key value = by (slice_cmp nat_cmp key.items e.0.items) (inserted es key value) where
    by : (at : Ordering) → by_bytes (insert_entry bytes_cmp es key value) ≡ with_kept key.items value (by_bytes es)
        → by_bytes (match_ordering at ((key, value) ∷ e ∷ es) ((e.0, value) ∷ es) (e ∷ insert_entry bytes_cmp es key value))
        ≡ match_ordering at ((key.items, value) ∷ (e.0.items, e.1) ∷ by_bytes es) ((e.0.items, value) ∷ by_bytes es) ((e.0.items, e.1) ∷ with_kept key.items value (by_bytes es))
    by Less others = refl
    by Equal others = refl
    by Greater others = ap (λ rest. (e.0.items, e.1) ∷ rest) others

  pub removed : (key : List ℕ) (es : List (Vec ℕ Global × V)) → by_bytes (remove_entry (is_at (λ k. slice_cmp nat_cmp key k.items)) es) ≡ without_kept key (by_bytes es)
  removed key [] = refl
  removed key (e ∷ es) = by (is_eq (slice_cmp nat_cmp key e.0.items)) (removed key es) where
    by : (at : Bool) → by_bytes (remove_entry (is_at (λ k. slice_cmp nat_cmp key k.items)) es) ≡ without_kept key (by_bytes es)
        → by_bytes (cond at es (e ∷ remove_entry (is_at (λ k. slice_cmp nat_cmp key k.items)) es))
        ≡ cond at (by_bytes es) ((e.0.items, e.1) ∷ without_kept key (by_bytes es))
    by true others = refl
    by false others = ap (λ rest. (e.0.items, e.1) ∷ rest) others

  below_bytes : (key : List ℕ) (es : List (Vec ℕ Global × V)) → AllByRecursion (λ y. slice_cmp nat_cmp key y.items ≡ Less) (keys_of es) → AllByRecursion (λ y. slice_cmp nat_cmp key y ≡ Less) (keys_of (by_bytes es))
  below_bytes key [] h = tt
  below_bytes key (e ∷ es) h = (h.0, below_bytes key es h.1)

  pub sorted_bytes : (es : List (Vec ℕ Global × V)) → IsStrictlySortedBy bytes_cmp (keys_of es) → AreKeysSorted (by_bytes es)
  unfolding IsStrictlySortedBy
  sorted_bytes [] h = tt
  sorted_bytes (e ∷ es) h = (below_bytes e.0.items es h.0, sorted_bytes es h.1)

  set_bytes : (key : List ℕ) (es : List (Vec ℕ Global × V)) (value : V) → by_bytes (set_value (is_at (λ k. slice_cmp nat_cmp key k.items)) es value) ≡ set_value (is_at (slice_cmp nat_cmp key)) (by_bytes es) value
  set_bytes key [] value = refl
  set_bytes key (e ∷ es) value = by (is_eq (slice_cmp nat_cmp key e.0.items)) (set_bytes key es value) where
    by : (at : Bool) → by_bytes (set_value (is_at (λ k. slice_cmp nat_cmp key k.items)) es value) ≡ set_value (is_at (slice_cmp nat_cmp key)) (by_bytes es) value
        → by_bytes (cond at ((e.0, value) ∷ es) (e ∷ set_value (is_at (λ k. slice_cmp nat_cmp key k.items)) es value))
        ≡ cond at ((e.0.items, value) ∷ by_bytes es) ((e.0.items, e.1) ∷ set_value (is_at (slice_cmp nat_cmp key)) (by_bytes es) value)
    by true others = refl
    by false others = ap (λ rest. (e.0.items, e.1) ∷ rest) others

  set_there : (key : List ℕ) (es : List (List ℕ × V)) (value : V) → AreKeysSorted es → IsSome (kept_at key es) → set_value (is_at (slice_cmp nat_cmp key)) es value ≡ with_kept key value es
  unfolding IsStrictlySortedBy
  set_there key [] value sorted there = absurd (true≢false (sym there))
  set_there key (e ∷ es) value sorted there = by (slice_cmp nat_cmp key e.0) refl there (set_there key es value sorted.1) where
    by : (at : Ordering) → slice_cmp nat_cmp key e.0 ≡ at → IsSome (cond (is_eq at) (Some e.1) (kept_at key es))
        → (IsSome (kept_at key es) → set_value (is_at (slice_cmp nat_cmp key)) es value ≡ with_kept key value es)
        → cond (is_eq at) ((e.0, value) ∷ es) (e ∷ set_value (is_at (slice_cmp nat_cmp key)) es value)
        ≡ match_ordering at ((key, value) ∷ e ∷ es) ((e.0, value) ∷ es) (e ∷ with_kept key value es)
    by Less is some others = absurd (true≢false (sym some ∙ ap is_some (kept_below key es (further key e.0 (keys_of es) is sorted.0))))
    by Equal is some others = refl
    by Greater is some others = ap (λ rest. e ∷ rest) (others some)

  -- a value that is put through what was found is put at its key
  pub found_set : (key : List ℕ) (es : List (Vec ℕ Global × V)) (value : V) → IsStrictlySortedBy bytes_cmp (keys_of es) → IsSome (kept_at key (by_bytes es))
      → by_bytes (set_value (is_at (λ k. slice_cmp nat_cmp key k.items)) es value) ≡ with_kept key value (by_bytes es)
  found_set key es value sorted there = set_bytes key es value ∙ set_there key (by_bytes es) value (sorted_bytes es sorted) there
