-- Blocks of elements in any order: what passes a test is the same if elements of different blocks that
-- pass it are equal.
use Rattle.std.proofs.Common.{◌≡◌, Bool, true, false, cond, List, [], ◌∷◌, ◌++◌, filter, flat_map, IsPermutation, refl, sym, ap, ◌∙◌, append_assoc, append-nil}
use Rattle.std.specs.List.{AllByRecursion}
use Rattle.std.proofs.lemmas.List.Elements.{filter-append}
use Rattle.ttree_otlp.proofs.Order.Turns.{EachTwo, folded, folded_permuted}

module _ {X : Type 0} where
  slides : (x : X) (ys r : List X) → AllByRecursion (λ y. x ≡ y) ys → x ∷ (ys ++ r) ≡ ys ++ x ∷ r
  slides x [] r h = refl
  slides x (y ∷ ys) r h = (λ i. h.0 i ∷ sym h.0 i ∷ (ys ++ r)) ∙ ap (λ (l : List X). y ∷ l) (slides x ys r h.1)

  -- lists of one element each commute
  commute : (xs ys : List X) → AllByRecursion (λ x. AllByRecursion (λ y. x ≡ y) ys) xs → xs ++ ys ≡ ys ++ xs
  commute [] ys h = sym (append-nil ys)
  commute (x ∷ xs) ys h = ap (λ (l : List X). x ∷ l) (commute xs ys h.1) ∙ slides x ys xs h.0

  pub all_by : (P Q : X → Type 0) (f : (x : X) → P x → Q x) (xs : List X) → AllByRecursion P xs → AllByRecursion Q xs
  all_by P Q f [] h = tt
  all_by P Q f (x ∷ xs) h = (f x h.0, all_by P Q f xs h.1)

  pub all_kept : (P Q : X → Type 0) (c : X → Bool) (f : (x : X) → c x ≡ true → P x → Q x) (xs : List X) → AllByRecursion P xs → AllByRecursion Q (filter c xs)
  all_kept P Q c f [] h = tt
  all_kept P Q c f (x ∷ xs) h = by (c x) refl (all_kept P Q c f xs h.1) where
    by : (b : Bool) → c x ≡ b → AllByRecursion Q (filter c xs) → AllByRecursion Q (cond b (x ∷ filter c xs) (filter c xs))
    by true is others = (f x is h.0, others)
    by false is others = others

module _ {X Y : Type 0} (P : X → Y → Type 0) where
  none_of : (xs : List X) → AllByRecursion (λ x. AllByRecursion (P x) []) xs
  none_of [] = tt
  none_of (x ∷ xs) = (tt, none_of xs)

  -- if something holds of each pair, it holds of each pair
  pub all_of_all : (xs : List X) (ys : List Y) → AllByRecursion (λ x. AllByRecursion (P x) ys) xs → AllByRecursion (λ y. AllByRecursion (λ x. P x y) xs) ys
  all_of_all xs [] h = tt
  all_of_all xs (y ∷ ys) h = (
    all_by (λ x. AllByRecursion (P x) (y ∷ ys)) (λ x. P x y) (λ x h. h.0) xs h,
    all_of_all xs ys (all_by (λ x. AllByRecursion (P x) (y ∷ ys)) (λ x. AllByRecursion (P x) ys) (λ x h. h.1) xs h),
  )

module _ {X Y : Type 0} (rows : X → List Y) (Tie : Y → Y → Type 0) (flips : (a b : Y) → Tie a b → Tie b a) where
  -- this holds of each element of the one block and each of the other one
  abbrev pub OfBoth : X → X → Type 0
  OfBoth x y = AllByRecursion (λ a. AllByRecursion (Tie a) (rows y)) (rows x)

  pub of_both_flips : (x y : X) → OfBoth x y → OfBoth y x
  of_both_flips x y h =
      all_by (λ b. AllByRecursion (λ a. Tie a b) (rows x)) (λ b. AllByRecursion (Tie b) (rows x)) (λ b. all_by (λ a. Tie a b) (Tie b) (λ a. flips a b) (rows x)) (rows y)
      (all_of_all Tie (rows x) (rows y) h)

  module _ (c : Y → Bool) (alike : (a b : Y) → c a ≡ true → c b ≡ true → Tie a b → a ≡ b) where
    abbrev before : X → List Y → List Y
    before x r = filter c (rows x) ++ r

    kept_alike : (x y : X) → OfBoth x y → AllByRecursion (λ a. AllByRecursion (λ b. a ≡ b) (filter c (rows y))) (filter c (rows x))
    kept_alike x y h =
        all_kept (λ a. AllByRecursion (Tie a) (rows y)) (λ a. AllByRecursion (λ b. a ≡ b) (filter c (rows y))) c
        (λ a p. all_kept (Tie a) (λ b. a ≡ b) c (λ b q. alike a b p q) (rows y)) (rows x) h

    either_first : (x y : X) (r : List Y) → OfBoth x y → before x (before y r) ≡ before y (before x r)
    either_first x y r h =
        sym (append_assoc (filter c (rows x)) (filter c (rows y)) r) ∙ ap (λ (l : List Y). l ++ r) (commute _ _ (kept_alike x y h)) ∙ append_assoc (filter c (rows y)) (filter c (rows x)) r

    as_folded : (xs : List X) → filter c (flat_map rows xs) ≡ folded OfBoth of_both_flips before [] either_first xs
    as_folded [] = refl
    as_folded (x ∷ xs) = filter-append c (rows x) (flat_map rows xs) ∙ ap (before x) (as_folded xs)

    pub blocks_permuted : (xs ys : List X) → IsPermutation xs ys → EachTwo OfBoth of_both_flips xs → filter c (flat_map rows ys) ≡ filter c (flat_map rows xs)
    blocks_permuted xs ys p h =
        as_folded ys ∙ folded_permuted OfBoth of_both_flips before [] either_first xs ys p h ∙ sym (as_folded xs)
