-- A permutation is made of exchanges of neighbours. So a fold is the same over a permuted list if any
-- two neighbours can be exchanged.
use Rattle.std.proofs.Common.{◌≡◌, ℕ, zero, suc, ◌<◌, List, [], ◌∷◌, ◌++◌, map, length, get_or, set, IsPermutation, swap, refl, sym, ap, subst, ◌∙◌, le_of_suc-le-suc, not-suc-le-zero}
use Rattle.std.specs.Prelude.{⊤}
use Rattle.std.specs.List.{AllByRecursion}
use Rattle.std.proofs.lemmas.List.Sorted.{IsPermutation-keeps}
use Rattle.std.proofs.lemmas.List.Edits.{swap_is}

module _ {X : Type 0} where
  abbrev turned_first : X → List X → List X
  turned_first x [] = x ∷ []
  turned_first x (y ∷ l) = y ∷ x ∷ l

  -- with the element at this place and the next exchanged
  abbrev turned : ℕ → List X → List X
  turned n [] = []
  turned zero (x ∷ l) = turned_first x l
  turned (suc n) (x ∷ l) = x ∷ turned n l

  abbrev all_turned : List ℕ → List X → List X
  all_turned [] l = l
  all_turned (n ∷ ns) l = all_turned ns (turned n l)

  abbrev IsTurned : List X → List X → Type 0
  IsTurned xs ys = (ns : List ℕ) × (ys ≡ all_turned ns xs)

  turned_again : (ms ns : List ℕ) (l : List X) → all_turned (ms ++ ns) l ≡ all_turned ns (all_turned ms l)
  turned_again [] ns l = refl
  turned_again (m ∷ ms) ns l = turned_again ms ns (turned m l)

  turned_behind : (x : X) (ns : List ℕ) (l : List X) → all_turned (map suc ns) (x ∷ l) ≡ x ∷ all_turned ns l
  turned_behind x [] l = refl
  turned_behind x (n ∷ ns) l = turned_behind x ns (turned n l)

  unturned : (l : List X) → IsTurned l l
  unturned l = ([], refl)

  twice : (xs ys zs : List X) → IsTurned xs ys → IsTurned ys zs → IsTurned xs zs
  twice xs ys zs a b = (a.0 ++ b.0, b.1 ∙ ap (all_turned b.0) a.1 ∙ sym (turned_again a.0 b.0 xs))

  behind : (x : X) (xs ys : List X) → IsTurned xs ys → IsTurned (x ∷ xs) (x ∷ ys)
  behind x xs ys a = (map suc a.0, ap (λ (l : List X). x ∷ l) a.1 ∙ sym (turned_behind x a.0 xs))

  first_two : (x y : X) (l : List X) → IsTurned (x ∷ y ∷ l) (y ∷ x ∷ l)
  first_two x y l = (0 ∷ [], refl)

  with_first : (x : X) (l : List X) (k : ℕ) (d : X) → k < length l → IsTurned (x ∷ l) (get_or l k d ∷ set l k x)
  with_first x [] k d h = absurd (not-suc-le-zero h)
  with_first x (y ∷ l) zero d h = first_two x y l
  with_first x (y ∷ l) (suc k) d h =
      twice (x ∷ y ∷ l) (y ∷ x ∷ l) _ (first_two x y l)
      (twice (y ∷ x ∷ l) (y ∷ get_or l k d ∷ set l k x) _ (behind y _ _ (with_first x l k d (le_of_suc-le-suc h))) (first_two y (get_or l k d) (set l k x)))

  exchanged : (l : List X) (i j : ℕ) (d : X) → i < length l → j < length l → IsTurned l (set (set l i (get_or l j d)) j (get_or l i d))
  exchanged [] i j d p q = absurd (not-suc-le-zero p)
  exchanged (x ∷ l) zero zero d p q = unturned (x ∷ l)
  exchanged (x ∷ l) zero (suc j) d p q = with_first x l j d (le_of_suc-le-suc q)
  exchanged (x ∷ l) (suc i) zero d p q = with_first x l i d (le_of_suc-le-suc p)
  exchanged (x ∷ l) (suc i) (suc j) d p q = behind x _ _ (exchanged l i j d (le_of_suc-le-suc p) (le_of_suc-le-suc q))

  swapped : (l : List X) (i j : ℕ) → i < length l → j < length l → IsTurned l (swap l i j)
  swapped [] i j p q = absurd (not-suc-le-zero p)
  swapped (x ∷ l) i j p q = subst (IsTurned (x ∷ l)) (swap_is (x ∷ l) i j x p q) (exchanged (x ∷ l) i j x p q)

  as_turned : (xs ys : List X) → IsPermutation xs ys → IsTurned xs ys
  as_turned xs ys = IsPermutation-keeps xs (IsTurned xs) (unturned xs)
      (λ l i j p q h. twice xs l (swap l i j) h (swapped l i j p q)) ys

-- a fold, at whose elements a relation holds of each and each later one
module _ {X : Type 0} (R : X → X → Type 0) (flips : (x y : X) → R x y → R y x) where
  abbrev pub EachTwo : List X → Type 0
  EachTwo [] = ⊤
  EachTwo (x ∷ l) = AllByRecursion (R x) l × EachTwo l

  all_turned_by : (x : X) (n : ℕ) (l : List X) → AllByRecursion (R x) l → AllByRecursion (R x) (turned n l)
  all_turned_by x n [] h = tt
  all_turned_by x zero (y ∷ []) h = h
  all_turned_by x zero (y ∷ z ∷ l) h = (h.1.0, (h.0, h.1.1))
  all_turned_by x (suc n) (y ∷ l) h = (h.0, all_turned_by x n l h.1)

  each_two_turned : (n : ℕ) (l : List X) → EachTwo l → EachTwo (turned n l)
  each_two_turned n [] h = tt
  each_two_turned zero (y ∷ []) h = h
  each_two_turned zero (y ∷ z ∷ l) h = ((flips y z h.0.0, h.1.0), (h.0.1, h.1.1))
  each_two_turned (suc n) (y ∷ l) h = (all_turned_by y n l h.0, each_two_turned n l h.1)

  module _ {Y : Type 0} (step : X → Y → Y) (start : Y) (same : (x y : X) (r : Y) → R x y → step x (step y r) ≡ step y (step x r)) where
    abbrev pub folded : List X → Y
    folded [] = start
    folded (x ∷ l) = step x (folded l)

    folded_turned : (n : ℕ) (l : List X) → EachTwo l → folded (turned n l) ≡ folded l
    folded_turned n [] h = refl
    folded_turned zero (x ∷ []) h = refl
    folded_turned zero (x ∷ y ∷ l) h = sym (same x y (folded l) h.0.0)
    folded_turned (suc n) (x ∷ l) h = ap (step x) (folded_turned n l h.1)

    folded_all_turned : (ns : List ℕ) (l : List X) → EachTwo l → folded (all_turned ns l) ≡ folded l
    folded_all_turned [] l h = refl
    folded_all_turned (n ∷ ns) l h = folded_all_turned ns (turned n l) (each_two_turned n l h) ∙ folded_turned n l h

    pub folded_permuted : (xs ys : List X) → IsPermutation xs ys → EachTwo xs → folded ys ≡ folded xs
    folded_permuted xs ys p h = let t = as_turned xs ys p in ap folded t.1 ∙ folded_all_turned t.0 xs h
