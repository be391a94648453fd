-- What a map does by its keys, it does by their bytes.
use Rattle.std.proofs.Common.{◌≡◌, ℕ, List, [], ◌∷◌, Some, refl, ap, Vec}
use Rattle.std.specs.Prelude.{cond}
use Rattle.std.specs.Global.{Global}
use Rattle.std.specs.Map.{lookup}
use Rattle.std.specs.BTreeMap.{insert_entry, is_at}
use Rattle.std.specs.Cmp.Lexicographic.{slice_cmp}
use Rattle.std.specs.Ordering.{nat_cmp, is_eq, match_ordering}
use Rattle.std.specs.declared.cmp.Ordering.{Ordering}
use Rattle.std.specs.declared.cmp.Ordering.TheVariants.{Less, Equal, Greater}
use Rattle.tracing_tree_base.specs.declared.context.Id.{Id}
use Rattle.ttree_logs.specs.Groups.{by_bytes, group_span, with_group_span}

abbrev bytes_cmp : Vec ℕ Global → Vec ℕ Global → Ordering
bytes_cmp x y = slice_cmp nat_cmp x.items y.items

pub looked_up : (key : List ℕ) (es : List (Vec ℕ Global × Id)) → lookup (is_at (λ k. slice_cmp nat_cmp key k.items)) es ≡ group_span key (by_bytes es)
looked_up key [] = refl
looked_up key (e ∷ es) = ap (cond (is_eq (slice_cmp nat_cmp key e.0.items)) (Some e.1)) (looked_up key es)

pub inserted : (es : List (Vec ℕ Global × Id)) (key : Vec ℕ Global) (id : Id) → by_bytes (insert_entry bytes_cmp es key id) ≡ with_group_span key.items id (by_bytes es)
inserted [] key id = refl
inserted (e ∷ es) key id = by (slice_cmp nat_cmp key.items e.0.items) (inserted es key id) where
  by : (at : Ordering) → by_bytes (insert_entry bytes_cmp es key id) ≡ with_group_span key.items id (by_bytes es)
      → by_bytes (match_ordering at ((key, id) ∷ e ∷ es) ((e.0, id) ∷ es) (e ∷ insert_entry bytes_cmp es key id))
      ≡ match_ordering at ((key.items, id) ∷ (e.0.items, e.1) ∷ by_bytes es) ((e.0.items, id) ∷ by_bytes es) ((e.0.items, e.1) ∷ with_group_span key.items id (by_bytes es))
  by Less others = refl
  by Equal others = refl
  by Greater others = ap (λ rest. (e.0.items, e.1) ∷ rest) others
