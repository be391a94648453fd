-- What a map does by its keys, it does by their bytes.
use Rattle.std.proofs.Common.{◌≡◌, ℕ, suc, List, [], ◌∷◌, length, Some, refl, ap, Vec}
use Rattle.std.specs.Prelude.{cond}
use Rattle.std.specs.Global.{Global}
use Rattle.std.specs.Map.{lookup}
use Rattle.std.specs.BTreeMap.{insert_entry, is_at}
use Rattle.std.specs.Cmp.Lexicographic.{slice_cmp}
use Rattle.std.specs.Ordering.{nat_cmp, is_eq, match_ordering}
use Rattle.std.specs.declared.cmp.Ordering.{Ordering}
use Rattle.std.specs.declared.cmp.Ordering.TheVariants.{Less, Equal, Greater}
use Rattle.ttree_chrome.specs.Keys.{by_bytes, found_key, key_added}

abbrev bytes_cmp : Vec ℕ Global → Vec ℕ Global → Ordering
bytes_cmp x y = slice_cmp nat_cmp x.items y.items

pub looked_up : (key : List ℕ) (es : List (Vec ℕ Global × ℕ)) → lookup (is_at (λ k. slice_cmp nat_cmp key k.items)) es ≡ found_key key (by_bytes es)
looked_up key [] = refl
looked_up key (e ∷ es) = ap (cond (is_eq (slice_cmp nat_cmp key e.0.items)) (Some e.1)) (looked_up key es)

pub as_many : (es : List (Vec ℕ Global × ℕ)) → length es ≡ length (by_bytes es)
as_many [] = refl
as_many (e ∷ es) = ap suc (as_many es)

pub inserted : (es : List (Vec ℕ Global × ℕ)) (key : Vec ℕ Global) (number : ℕ) → by_bytes (insert_entry bytes_cmp es key number) ≡ key_added key.items number (by_bytes es)
inserted [] key number = refl
inserted (e ∷ es) key number = by (slice_cmp nat_cmp key.items e.0.items) (inserted es key number) where
  by : (at : Ordering) → by_bytes (insert_entry bytes_cmp es key number) ≡ key_added key.items number (by_bytes es)
      → by_bytes (match_ordering at ((key, number) ∷ e ∷ es) ((e.0, number) ∷ es) (e ∷ insert_entry bytes_cmp es key number))
      ≡ match_ordering at ((key.items, number) ∷ (e.0.items, e.1) ∷ by_bytes es) ((e.0.items, number) ∷ by_bytes es) ((e.0.items, e.1) ∷ key_added key.items number (by_bytes es))
  by Less others = refl
  by Equal others = refl
  by Greater others = ap (λ rest. (e.0.items, e.1) ∷ rest) others
