-- Rows are grouped by their spans, whatever the order between rows of different spans is.
use Rattle.std.proofs.Common.{◌≡◌, ℕ, ◌+◌, length, arith, Bool, true, false, cond, List, [], ◌∷◌, filter, Option, Some, None, unwrap_or, refl, sym, ap, subst, ◌∙◌}
use Rattle.std.specs.List.Sorted.{IsStrictlySortedBy}
use Rattle.std.specs.Ordering.{is_eq, match_ordering}
use Rattle.std.specs.declared.cmp.Ordering.{Ordering}
use Rattle.std.specs.declared.cmp.Ordering.TheVariants.{Less, Equal, Greater}
use Rattle.std.specs.Map.{keys_of}
use Rattle.ttree_otlp.specs.Keyed.{kept_at, with_kept}
use Rattle.ttree_otlp.specs.declared.item.Item.{Item}
use Rattle.ttree_otlp.specs.Walk.{grouped, key_in}
use Rattle.ttree_otlp.proofs.Order.Keys.{AreKeysSorted, cmp, further, is_key, kept_below, kept_with, one_key, same_kept, sorted_with}

-- a row is in the span with this key
abbrev pub is_in : List ℕ → Item → Bool
is_in key row = is_key key (key_in row)

abbrev group_of : List Item → Option (List Item)
group_of [] = None
group_of (row ∷ rows) = Some (row ∷ rows)

rows_of_group : (rows : List Item) → unwrap_or (group_of rows) [] ≡ rows
rows_of_group [] = refl
rows_of_group (row ∷ rows) = refl

pub group_at : (q : List ℕ) (rows : List Item) → kept_at q (grouped rows) ≡ group_of (filter (is_in q) rows)
group_at q [] = refl
group_at q (row ∷ rows) =
    let key = key_in row in
    let groups = grouped rows in
    kept_with q key (row ∷ unwrap_or (kept_at key groups) []) groups ∙ by (is_key q key) refl (group_at q rows) where
      by : (b : Bool) → is_key q (key_in row) ≡ b → kept_at q (grouped rows) ≡ group_of (filter (is_in q) rows)
          → cond b (Some (row ∷ unwrap_or (kept_at (key_in row) (grouped rows)) [])) (kept_at q (grouped rows))
          ≡ group_of (cond b (row ∷ filter (is_in q) rows) (filter (is_in q) rows))
      by true is others =
          subst (λ k. Some (row ∷ unwrap_or (kept_at k (grouped rows)) []) ≡ Some (row ∷ filter (is_in q) rows)) (one_key q (key_in row) is)
          (ap (λ (l : List Item). Some (row ∷ l)) (ap (λ g. unwrap_or g []) others ∙ rows_of_group (filter (is_in q) rows)))
      by false is others = others

pub groups_sorted : (rows : List Item) → AreKeysSorted (grouped rows)
unfolding IsStrictlySortedBy
groups_sorted [] = tt
groups_sorted (row ∷ rows) = sorted_with _ _ _ (groups_sorted rows)

pub same_groups : (xs ys : List Item) → ((q : List ℕ) → filter (is_in q) xs ≡ filter (is_in q) ys) → grouped xs ≡ grouped ys
same_groups xs ys h = same_kept (grouped xs) (grouped ys) (groups_sorted xs) (groups_sorted ys) (λ q. group_at q xs ∙ ap group_of (h q) ∙ sym (group_at q ys))

-- ---- how many rows there are

abbrev total : List (List ℕ × List Item) → ℕ
total [] = 0
total (e ∷ es) = length e.1 + total es

not_here : (row : Item) (key : List ℕ) (e : List ℕ × List Item) (es : List (List ℕ × List Item)) → AreKeysSorted (e ∷ es) → cmp key e.0 ≡ Less → kept_at key (e ∷ es) ≡ None
unfolding IsStrictlySortedBy
not_here row key e es h less = kept_below key (e ∷ es) (less, further key e.0 (keys_of es) less h.0)

total_put : (key : List ℕ) (row : Item) (es : List (List ℕ × List Item)) → AreKeysSorted es → total (with_kept key (row ∷ unwrap_or (kept_at key es) []) es) ≡ 1 + total es
unfolding IsStrictlySortedBy
total_put key row [] h = refl
total_put key row (e ∷ es) h = by (cmp key e.0) refl (total_put key row es h.1) where
  group : Option (List Item) → List Item
  group found = row ∷ unwrap_or found []

  by : (o : Ordering) → cmp key e.0 ≡ o → total (with_kept key (group (kept_at key es)) es) ≡ 1 + total es
      → total (match_ordering o ((key, group (kept_at key (e ∷ es))) ∷ e ∷ es) ((e.0, group (kept_at key (e ∷ es))) ∷ es) (e ∷ with_kept key (group (kept_at key (e ∷ es))) es)) ≡ 1 + (length e.1 + total es)
  by Less is others = omega (arith, ap (λ found. length (group found) + (length e.1 + total es)) (not_here row key e es h is))
  by Equal is others = omega (arith, ap (λ o. length (group (cond (is_eq o) (Some e.1) (kept_at key es))) + total es) is)
  by Greater is others =
      omega (arith, ap (λ o. length e.1 + total (with_kept key (group (cond (is_eq o) (Some e.1) (kept_at key es))) es)) is, others)

length_grouped : (rows : List Item) → total (grouped rows) ≡ length rows
length_grouped [] = refl
length_grouped (row ∷ rows) = omega (arith, total_put (key_in row) row (grouped rows) (groups_sorted rows), length_grouped rows)

pub same_length : (xs ys : List Item) → ((q : List ℕ) → filter (is_in q) xs ≡ filter (is_in q) ys) → length xs ≡ length ys
same_length xs ys h = sym (length_grouped xs) ∙ ap total (same_groups xs ys h) ∙ length_grouped ys
