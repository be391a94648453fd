-- Lists in an order in which elements can tie: two such lists are equal if the elements that tie with
-- any one are the same in both.
use Rattle.std.proofs.Common.{◌≡◌, ◌<◌, ◌≤◌, ℕ, suc, Bool, true, false, cond, not, ◌&&◌, nat_lt, List, [], ◌∷◌, map, length, get_or, filter, IsPermutation, IsSortedBy, refl, sym, ap, subst, ◌∙◌, arith, rules, true≢false, map-id}
use Rattle.std.specs.Prelude.{⊤}
use Rattle.std.specs.Cmp.{IsStrictWeakOrder}
use Rattle.std.specs.List.{AllByRecursion}
use Rattle.std.specs.List.Sorted.{ties}
use Rattle.std.proofs.lemmas.List.Sorted.{IsStrictWeakOrder-by_number, sorted_far}
use Rattle.ttree_otlp.proofs.Order.Turns.{EachTwo, folded, folded_permuted}

-- ---- lists and tests

nil_not_cons : {X : Type 0} (x : X) (l : List X) → [] ≡ x ∷ l → ⊥
nil_not_cons x l h = cc

head_is : {X : Type 0} (x y : X) (l k : List X) → x ∷ l ≡ y ∷ k → x ≡ y
head_is x y l k h = cc

tail_is : {X : Type 0} (x y : X) (l k : List X) → x ∷ l ≡ y ∷ k → l ≡ k
tail_is x y l k h = cc

tail_if : {X : Type 0} (b : Bool) (x y : X) (l k : List X) → cond b (x ∷ l) l ≡ cond b (y ∷ k) k → l ≡ k
tail_if true x y l k h = tail_is x y l k h
tail_if false x y l k h = h

module _ {X : Type 0} where
  -- a filter of a filter
  pub filter_twice : (p q : X → Bool) (l : List X) → filter q (filter p l) ≡ filter (λ x. p x && q x) l
  filter_twice p q [] = refl
  filter_twice p q (x ∷ l) = by (p x) (filter_twice p q l) where
    by : (b : Bool) → filter q (filter p l) ≡ filter (λ x. p x && q x) l
        → filter q (cond b (x ∷ filter p l) (filter p l)) ≡ cond (b && q x) (x ∷ filter (λ x. p x && q x) l) (filter (λ x. p x && q x) l)
    by true others = ap (λ (r : List X). cond (q x) (x ∷ r) r) others
    by false others = others

  abbrev kept_in : (X → Bool) → X → List X → List X
  kept_in q x r = cond (q x) (x ∷ r) r

  module _ (R : X → X → Type 0) (flips : (x y : X) → R x y → R y x) (q : X → Bool) (one : (x y : X) → q x ≡ true → q y ≡ true → R x y → ⊥) where
    either : (x y : X) (r : List X) (a b : Bool) → q x ≡ a → q y ≡ b → R x y → cond a (x ∷ cond b (y ∷ r) r) (cond b (y ∷ r) r) ≡ cond b (y ∷ cond a (x ∷ r) r) (cond a (x ∷ r) r)
    either x y r true true h k apart = absurd (one x y h k apart)
    either x y r true false h k apart = refl
    either x y r false true h k apart = refl
    either x y r false false h k apart = refl

    as_folded : (l : List X) → folded R flips (kept_in q) [] (λ x y r. either x y r (q x) (q y) refl refl) l ≡ filter q l
    as_folded [] = refl
    as_folded (x ∷ l) = ap (kept_in q x) (as_folded l)

    -- at most one element passes, and it does in any order
    pub filter_one : (xs ys : List X) → IsPermutation xs ys → EachTwo R flips xs → filter q ys ≡ filter q xs
    filter_one xs ys p h =
        sym (as_folded ys) ∙ folded_permuted R flips (kept_in q) [] (λ x y r. either x y r (q x) (q y) refl refl) xs ys p h ∙ as_folded xs

-- ---- lists that rise

module _ {X : Type 0} (lt : X → X → Bool) where
  -- no element is before an earlier one
  abbrev pub Rises : List X → Type 0
  Rises [] = ⊤
  Rises (x ∷ l) = AllByRecursion (λ y. lt y x ≡ false) l × Rises l

  none_before : (x : X) (l : List X) → ((k : ℕ) → k < length l → lt (get_or l k x) x ≡ false) → AllByRecursion (λ y. lt y x ≡ false) l
  none_before x [] h = tt
  none_before x (y ∷ l) h = (h 0 (omega arith), none_before x l (λ k p. h (suc k) (omega arith)))

  rises_far : (l : List X) → ((i j : ℕ) (d : X) → i ≤ j → j < length l → lt (get_or l j d) (get_or l i d) ≡ false) → Rises l
  rises_far [] h = tt
  rises_far (x ∷ l) h = (none_before x l (λ k p. h 0 (suc k) x (omega arith) (omega arith)), rises_far l (λ i j d p q. h (suc i) (suc j) d (omega arith) (omega arith)))

  pub rises_from_sorted : IsStrictWeakOrder lt → (l : List X) → IsSortedBy lt l → Rises l
  rises_from_sorted o l h = rises_far l (sorted_far lt o l h)

-- those that pass a test rise in another order
module _ {X Y : Type 0} (lt : X → X → Bool) (by : Y → Y → Bool) (f : X → Y) (p : X → Bool) (keeps : (x y : X) → p x ≡ true → p y ≡ true → lt y x ≡ false → by (f y) (f x) ≡ false) where
  none_kept : (x : X) (l : List X) → p x ≡ true → AllByRecursion (λ y. lt y x ≡ false) l → AllByRecursion (λ y. by y (f x) ≡ false) (map f (filter p l))
  none_kept x [] e h = tt
  none_kept x (y ∷ l) e h = here (p y) refl (none_kept x l e h.1) where
    here : (b : Bool) → p y ≡ b → AllByRecursion (λ y. by y (f x) ≡ false) (map f (filter p l)) → AllByRecursion (λ y. by y (f x) ≡ false) (map f (cond b (y ∷ filter p l) (filter p l)))
    here true is others = (keeps x y e is h.0, others)
    here false is others = others

  pub rises_kept : (l : List X) → Rises lt l → Rises by (map f (filter p l))
  rises_kept [] h = tt
  rises_kept (x ∷ l) h = here (p x) refl (rises_kept l h.1) where
    here : (b : Bool) → p x ≡ b → Rises by (map f (filter p l)) → Rises by (map f (cond b (x ∷ filter p l) (filter p l)))
    here true is others = (none_kept x l is h.0, others)
    here false is others = others

module _ {X : Type 0} (lt : X → X → Bool) (o : IsStrictWeakOrder lt) where
  not_itself : (x : X) → lt x x ≡ false
  not_itself x = by (lt x x) refl where
    by : (b : Bool) → lt x x ≡ b → lt x x ≡ false
    by true h = o.one_way x x h
    by false h = h

  ties_itself : (x : X) → ties lt x x ≡ true
  ties_itself x = ap (λ b. not b && not b) (not_itself x)

  before_all : (x y z : X) → lt x y ≡ true → lt z y ≡ false → lt x z ≡ true
  before_all x y z h k = by (lt x z) refl where
    by : (b : Bool) → lt x z ≡ b → lt x z ≡ true
    by true e = e
    by false e = absurd (true≢false (sym h ∙ o.chain x z y e k))

  no_tie : (x z : X) → lt x z ≡ true → ties lt x z ≡ false
  no_tie x z h = ap (λ b. not b && not (lt z x)) h

  none_ties : (x y : X) (l : List X) → lt x y ≡ true → AllByRecursion (λ z. lt z y ≡ false) l → filter (ties lt x) l ≡ []
  none_ties x y [] h k = refl
  none_ties x y (z ∷ l) h k = ap (λ b. cond b (z ∷ filter (ties lt x) l) (filter (ties lt x) l)) (no_tie x z (before_all x y z h k.0)) ∙ none_ties x y l h k.1

  first_ties : (x : X) (l : List X) → filter (ties lt x) (x ∷ l) ≡ x ∷ filter (ties lt x) l
  first_ties x l = ap (λ b. cond b (x ∷ filter (ties lt x) l) (filter (ties lt x) l)) (ties_itself x)

  -- the first of a list isn't before all of another one
  not_before : (x y : X) (xs ys : List X) → lt x y ≡ true → AllByRecursion (λ z. lt z y ≡ false) ys → filter (ties lt x) (x ∷ xs) ≡ filter (ties lt x) (y ∷ ys) → ⊥
  not_before x y xs ys h k e =
      nil_not_cons x (filter (ties lt x) xs) (sym (none_ties x y (y ∷ ys) h (not_itself y, k)) ∙ sym e ∙ first_ties x xs)

  pub same_rising : (xs ys : List X) → Rises lt xs → Rises lt ys → ((z : X) → filter (ties lt z) xs ≡ filter (ties lt z) ys) → xs ≡ ys
  same_rising [] [] a b h = refl
  same_rising [] (y ∷ ys) a b h = absurd (nil_not_cons y _ (h y ∙ first_ties y ys))
  same_rising (x ∷ xs) [] a b h = absurd (nil_not_cons x _ (sym (h x) ∙ first_ties x xs))
  same_rising (x ∷ xs) (y ∷ ys) a b h = by (lt x y) (lt y x) refl refl (same_rising xs ys a.1 b.1) where
    by : (s t : Bool) → lt x y ≡ s → lt y x ≡ t → (((z : X) → filter (ties lt z) xs ≡ filter (ties lt z) ys) → xs ≡ ys) → x ∷ xs ≡ y ∷ ys
    by true t less more others = absurd (not_before x y xs ys less b.0 (h x))
    by false true less more others = absurd (not_before y x ys xs more a.0 (sym (h y)))
    by false false less more others =
        let tie : ties lt x y ≡ true = (λ i. not (less i) && not (more i)) in
        let both : x ∷ filter (ties lt x) xs ≡ y ∷ filter (ties lt x) ys =
        sym (first_ties x xs) ∙ h x ∙ ap (λ b. cond b (y ∷ filter (ties lt x) ys) (filter (ties lt x) ys)) tie in
        let first : x ≡ y = head_is _ _ _ _ both in
        let rest = others (λ z. tail_if (ties lt z y) x y _ _ (ap (λ (w : X). cond (ties lt z w) (x ∷ filter (ties lt z) xs) (filter (ties lt z) xs)) (sym first) ∙ h z)) in
        (λ i. first i ∷ rest i)

-- ---- numbered lists

same_number : (a b c : ℕ) (p q : Bool) → p && (not (nat_lt a b) && not (nat_lt b a)) ≡ true → q && (not (nat_lt a c) && not (nat_lt c a)) ≡ true → b ≡ c
same_number a b c p q h k = grind (arith, rules)

module _ {X : Type 0} (n : X → ℕ) where
  abbrev pub by_number : X → X → Bool
  by_number x y = nat_lt (n x) (n y)

  abbrev pub Differ : X → X → Type 0
  Differ x y = n x ≡ n y → ⊥

  pub differ_flips : (x y : X) → Differ x y → Differ y x
  differ_flips x y h = λ e. h (sym e)

  -- the elements of a class in the order of their numbers, also in a sorted list
  module _ (lt : X → X → Bool) (o : IsStrictWeakOrder lt) (p : X → Bool) (keeps : (x y : X) → p x ≡ true → p y ≡ true → lt y x ≡ false → by_number y x ≡ false) where
    pub class_as_read : (xs ys : List X) → IsPermutation xs ys → EachTwo Differ differ_flips xs → Rises by_number xs → IsSortedBy lt ys → filter p ys ≡ filter p xs
    class_as_read xs ys same apart up sorted =
        same_rising by_number (IsStrictWeakOrder-by_number n) (filter p ys) (filter p xs)
        (subst (Rises by_number) (map-id (filter p ys)) (rises_kept lt by_number (λ x. x) p keeps ys (rises_from_sorted lt o ys sorted)))
        (subst (Rises by_number) (map-id (filter p xs)) (rises_kept by_number by_number (λ x. x) p (λ x y a b h. h) xs up))
        (λ z. filter_twice p (ties by_number z) ys
        ∙ filter_one Differ differ_flips (λ x. p x && ties by_number z x) (λ x y a b apart. apart (same_number (n z) (n x) (n y) (p x) (p y) a b)) xs ys same apart
        ∙ sym (filter_twice p (ties by_number z) xs))
