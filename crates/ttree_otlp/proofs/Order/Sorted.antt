-- Rows in order are drawn in the same way if the rows of each span at each place are the same but for
-- their numbers in the input.
use Rattle.std.proofs.Common.{◌≡◌, ℕ, ◌+◌, ◌<◌, Bool, true, false, cond, not, ◌&&◌, nat_lt, List, [], ◌∷◌, map, filter, IsPermutation, IsSorted, refl, sym, ap, ◌∙◌, arith, rules, true≢false}
use Rattle.std.specs.Prelude.{⊤}
use Rattle.std.specs.Cmp.{IsStrictWeakOrder, IsTotalOrder}
use Rattle.std.specs.List.{AllByRecursion}
use Rattle.std.specs.List.Sorted.{ties}
use Rattle.std.specs.Ordering.{is_lt, nat_cmp, ordering_reverse, ordering_then}
use Rattle.std.specs.declared.cmp.Ordering.{Ordering}
use Rattle.std.specs.declared.cmp.Ordering.TheVariants.{Less, Equal, Greater}
use Rattle.std.proofs.lemmas.Cmp.{nat_cmp_total, then_total}
use Rattle.std.proofs.lemmas.List.Sorted.{ranks_by}
use Rattle.std.proofs.lemmas.Map.Lookups.{exact_unsigned}
use Rattle.ttree_otlp.specs.Gather.{item_cmp}
use Rattle.ttree_otlp.specs.Ties.{unnumbered}
use Rattle.ttree_otlp.specs.declared.item.Item.{Item}
use Rattle.ttree_otlp.specs.Walk.{begun_walk, rows_in_order, step_count, stepped_times}
use Rattle.ttree_otlp.proofs.Order.Bare.{bare_row, in_order_bare}
use Rattle.ttree_otlp.proofs.Order.Classes.{Differ, Rises, by_number, class_as_read, differ_flips, filter_twice, rises_from_sorted, rises_kept, same_rising}
use Rattle.ttree_otlp.proofs.Order.Groups.{is_in, same_groups, same_length}
use Rattle.ttree_otlp.proofs.Order.Turns.{EachTwo}

-- ---- places

on_total : (f : Item → ℕ) → IsTotalOrder (λ a b. nat_cmp (f a) (f b))
on_total f = record {
  antisymm = λ x y. nat_cmp_total.antisymm (f x) (f y);
  trans = λ x y z. nat_cmp_total.trans (f x) (f y) (f z);
  congr = λ x y z. nat_cmp_total.congr (f x) (f y) (f z);
}

abbrev pub place_cmp : Item → Item → Ordering
place_cmp a b = ordering_then (ordering_then (nat_cmp a.place.time b.place.time) (nat_cmp a.place.rank b.place.rank)) (nat_cmp a.place.number b.place.number)

place_total : IsTotalOrder place_cmp
place_total = then_total (then_total (on_total (λ a. a.place.time)) (on_total (λ a. a.place.rank))) (on_total (λ a. a.place.number))

item_total : IsTotalOrder item_cmp
item_total = then_total place_total (on_total (λ a. a.place.index))

abbrev pub is_before : Item → Item → Bool
is_before a b = is_lt (place_cmp a b)

abbrev is_earlier : Item → Item → Bool
is_earlier a b = is_lt (item_cmp a b)

before_order : IsStrictWeakOrder is_before
before_order = ranks_by place_total (λ a. a)

earlier_order : IsStrictWeakOrder is_earlier
earlier_order = ranks_by item_total (λ a. a)

-- in this span, at the place of this row
abbrev pub is_at : List ℕ → Item → Item → Bool
is_at key at row = is_in key row && ties is_before at row

second_of : (a b : Bool) → a && b ≡ true → b ≡ true
second_of true b h = h
second_of false b h = absurd (true≢false (sym h))

pub first_of_two : (a b : Bool) → a && b ≡ true → a ≡ true
first_of_two true b h = refl
first_of_two false b h = h

tie_equal : (a b : Item) → ties is_before a b ≡ true → place_cmp a b ≡ Equal
tie_equal a b h = by (place_cmp a b) (place_cmp b a) refl refl where
  by : (o p : Ordering) → place_cmp a b ≡ o → place_cmp b a ≡ p → o ≡ Equal
  by Equal p is back = refl
  by Less p is back = absurd (true≢false (sym h ∙ ap (λ o. not (is_lt o) && not (is_lt (place_cmp b a))) is))
  by Greater Less is back = absurd (true≢false (sym h ∙ (λ i. not (is_lt (is i)) && not (is_lt (back i)))))
  by Greater Equal is back = absurd (let no_back : Greater ≡ Equal = sym is ∙ place_total.antisymm a b ∙ ap ordering_reverse back in cc)
  by Greater Greater is back = absurd (let no_back : Greater ≡ Less = sym is ∙ place_total.antisymm a b ∙ ap ordering_reverse back in cc)

pub tied_at : (key : List ℕ) (at row : Item) → is_at key at row ≡ true → place_cmp at row ≡ Equal
tied_at key at row h = tie_equal at row (second_of (is_in key row) (ties is_before at row) h)

both_equal : (a b : Ordering) → ordering_then a b ≡ Equal → (a ≡ Equal) × (b ≡ Equal)
both_equal Less b h = absurd (let no_less : Less ≡ Equal = h in cc)
both_equal Equal b h = (refl, h)
both_equal Greater b h = absurd (let no_greater : Greater ≡ Equal = h in cc)

-- rows that tie are at the same place except for their numbers
pub tied_places : (a b : Item) → place_cmp a b ≡ Equal → (unnumbered a).place ≡ (unnumbered b).place
tied_places a b h =
    let first = both_equal (ordering_then (nat_cmp a.place.time b.place.time) (nat_cmp a.place.rank b.place.rank)) (nat_cmp a.place.number b.place.number) h in
    let times = both_equal (nat_cmp a.place.time b.place.time) (nat_cmp a.place.rank b.place.rank) first.0 in
    let t = exact_unsigned a.place.time b.place.time times.0 in
    let r = exact_unsigned a.place.rank b.place.rank times.1 in
    let n = exact_unsigned a.place.number b.place.number first.1 in
    (λ i. record { time = t i; rank = r i; number = n i; index = 0 })

pub tied_all : (at a b : Item) → place_cmp at a ≡ Equal → place_cmp at b ≡ Equal → place_cmp a b ≡ Equal
tied_all at a b h k = sym (place_total.congr at a b h) ∙ k

not_less : (a b : ℕ) → is_lt (nat_cmp a b) ≡ false → nat_lt a b ≡ false
not_less a b h = grind (arith, rules)

-- rows at one place are in order if their numbers are
numbers_rise : (key : List ℕ) (at x y : Item) → is_at key at x ≡ true → is_at key at y ≡ true → is_earlier y x ≡ false → by_number (λ (a : Item). a.place.index) y x ≡ false
numbers_rise key at x y h k l =
    let tie = tied_all at y x (tied_at key at y k) (tied_at key at x h) in
    not_less y.place.index x.place.index (ap (λ o. is_lt (ordering_then o (nat_cmp y.place.index x.place.index))) (sym tie) ∙ l)

first_not_less : (a b : Ordering) → is_lt (ordering_then a b) ≡ false → is_lt a ≡ false
first_not_less Less b h = h
first_not_less Equal b h = refl
first_not_less Greater b h = refl

-- ---- lists

filter_bare : (c : Item → Bool) → ((row : Item) → c (unnumbered row) ≡ c row) → (rows : List Item) → filter c (map unnumbered rows) ≡ map unnumbered (filter c rows)
filter_bare c same [] = refl
filter_bare c same (row ∷ rows) =
    ap (λ b. cond b (unnumbered row ∷ filter c (map unnumbered rows)) (filter c (map unnumbered rows))) (same row) ∙ by (c row) (filter_bare c same rows)
  where
    by : (b : Bool) → filter c (map unnumbered rows) ≡ map unnumbered (filter c rows)
        → cond b (unnumbered row ∷ filter c (map unnumbered rows)) (filter c (map unnumbered rows)) ≡ map unnumbered (cond b (row ∷ filter c rows) (filter c rows))
    by true others = ap (λ (l : List Item). unnumbered row ∷ l) others
    by false others = others

abbrev index_of : Item → ℕ
index_of row = row.place.index

-- rows are numbered if each has its place in the list as its number, from this number on
abbrev pub AreNumbered : ℕ → List Item → Type 0
AreNumbered n [] = ⊤
AreNumbered n (row ∷ rows) = (row.place.index ≡ n) × AreNumbered (n + 1) rows

later_rise : (n : ℕ) (row : Item) (rows : List Item) → row.place.index < n → AreNumbered n rows → AllByRecursion (λ other. by_number index_of other row ≡ false) rows
later_rise n row [] h k = tt
later_rise n row (other ∷ rows) h k =
    let is = k.0 in
    (not_below other.place.index row.place.index (omega arith), later_rise (n + 1) row rows (omega arith) k.1)
  where
    not_below : (a b : ℕ) → b < a → nat_lt a b ≡ false
    not_below a b l = grind (arith, rules)

pub numbered_rise : (n : ℕ) (rows : List Item) → AreNumbered n rows → Rises (by_number index_of) rows
numbered_rise n [] h = tt
numbered_rise n (row ∷ rows) h = let is = h.0 in (later_rise (n + 1) row rows (omega arith) h.1, numbered_rise (n + 1) rows h.1)

later_differ : (n : ℕ) (row : Item) (rows : List Item) → row.place.index < n → AreNumbered n rows → AllByRecursion (Differ index_of row) rows
later_differ n row [] h k = tt
later_differ n row (other ∷ rows) h k = let is = k.0 in ((λ same. omega arith), later_differ (n + 1) row rows (omega arith) k.1)

numbered_differ : (n : ℕ) (rows : List Item) → AreNumbered n rows → EachTwo (Differ index_of) (differ_flips index_of) rows
numbered_differ n [] h = tt
numbered_differ n (row ∷ rows) h = let is = h.0 in (later_differ (n + 1) row rows (omega arith) h.1, numbered_differ (n + 1) rows h.1)

module _ (rows ordered : List Item) (same : IsPermutation rows ordered) (sorted : IsSorted item_cmp ordered) (numbered : AreNumbered 0 rows) where
  class_of_order : (key : List ℕ) (at : Item) → filter (ties is_before at) (map unnumbered (filter (is_in key) ordered)) ≡ filter (is_at key at) (map unnumbered rows)
  class_of_order key at =
      filter_bare (ties is_before at) (λ row. refl) (filter (is_in key) ordered)
      ∙ ap (map unnumbered) (filter_twice (is_in key) (ties is_before at) ordered
      ∙ class_as_read index_of is_earlier earlier_order (is_at key at) (numbers_rise key at) rows ordered same (numbered_differ 0 rows numbered) (numbered_rise 0 rows numbered) sorted)
      ∙ sym (filter_bare (is_at key at) (λ row. refl) rows)

  group_rises : (key : List ℕ) → Rises is_before (map unnumbered (filter (is_in key) ordered))
  group_rises key =
      rises_kept is_earlier is_before unnumbered (is_in key) (λ x y h k l. first_not_less (place_cmp y x) (nat_cmp y.place.index x.place.index) l) ordered
      (rises_from_sorted is_earlier earlier_order ordered sorted)

module _ (rows others ordered also_ordered : List Item) (same : IsPermutation rows ordered) (sorted : IsSorted item_cmp ordered) (numbered : AreNumbered 0 rows)
    (also_same : IsPermutation others also_ordered) (also_sorted : IsSorted item_cmp also_ordered) (also_numbered : AreNumbered 0 others)
    (classes : (key : List ℕ) (at : Item) → filter (is_at key at) (map unnumbered rows) ≡ filter (is_at key at) (map unnumbered others)) where
  groups_alike : (key : List ℕ) → filter (is_in key) (map unnumbered ordered) ≡ filter (is_in key) (map unnumbered also_ordered)
  groups_alike key =
      filter_bare (is_in key) (λ row. refl) ordered
      ∙ same_rising is_before before_order _ _ (group_rises rows ordered same sorted numbered key) (group_rises others also_ordered also_same also_sorted also_numbered key)
      (λ at. class_of_order rows ordered same sorted numbered key at ∙ classes key at ∙ sym (class_of_order others also_ordered also_same also_sorted also_numbered key at))
      ∙ sym (filter_bare (is_in key) (λ row. refl) also_ordered)

  bare_in_order : rows_in_order (map unnumbered ordered) ≡ rows_in_order (map unnumbered also_ordered)
  bare_in_order =
      let long = same_length (map unnumbered ordered) (map unnumbered also_ordered) groups_alike in
      let groups = same_groups (map unnumbered ordered) (map unnumbered also_ordered) groups_alike in
      (λ i. (stepped_times (step_count (long i)) (begun_walk (groups i))).rows)

  pub in_order_alike : map bare_row (rows_in_order ordered) ≡ map bare_row (rows_in_order also_ordered)
  in_order_alike = sym (in_order_bare ordered) ∙ bare_in_order ∙ in_order_bare also_ordered
