-- What differs between two lists, an item at a time.
use Rattle.std.proofs.Common.{◌≡◌, ◌∙◌, refl, ap, arith, ℕ, suc, ◌+◌, Bool, true, false, if◌then◌else◌, List, [], ◌∷◌, Some, None, slice_get, filter_map}
use Rattle.std.specs.Option.{option_map_or}
use Rattle.std.specs.List.{enumerate_from, cons_option}
use Rattle.tracing_tree_layer.specs.Difference.Steps.{has_equal_at, differing}

module _ {L R : Type 0} (equal : L → R → Bool) where
  -- what differs, if the first right item is at this place
  abbrev from_place : List L → ℕ → List R → List R
  from_place left n right =
      filter_map (λ entry. if has_equal_at equal left entry.0 entry.1 then None else Some entry.1) (enumerate_from n right)

  get-next : (x : L) (left : List L) (n : ℕ) → slice_get (x ∷ left) (n + 1) ≡ slice_get left n
  get-next x left n = let e : n + 1 ≡ suc n = omega arith in ap (slice_get (x ∷ left)) e

  -- both sides one place further
  from_place-next : (x : L) (left : List L) (n : ℕ) (right : List R) → from_place (x ∷ left) (n + 1) right ≡ from_place left n right
  from_place-next x left n [] = refl
  from_place-next x left n (y ∷ right) =
      ap (λ o. cons_option (if option_map_or (λ other. equal other y) o false then None else Some y) (from_place (x ∷ left) (n + 1 + 1) right))
      (get-next x left n)
      ∙ ap (cons_option (if has_equal_at equal left n y then None else Some y)) (from_place-next x left (n + 1) right)

  from_place-nothing : (n : ℕ) (right : List R) → from_place [] n right ≡ right
  from_place-nothing n [] = refl
  from_place-nothing n (y ∷ right) = ap (λ ys. y ∷ ys) (from_place-nothing (n + 1) right)

  -- with no left items all right ones differ
  pub differing-no_left : (right : List R) → differing equal [] right ≡ right
  differing-no_left right = from_place-nothing 0 right

  -- the first pair, and what differs after it
  pub differing-equal : (x : L) (left : List L) (y : R) (right : List R) → equal x y ≡ true
      → differing equal (x ∷ left) (y ∷ right) ≡ differing equal left right
  differing-equal x left y right e = ap (λ b. cons_option (if b then None else Some y) (from_place (x ∷ left) 1 right)) e
      ∙ from_place-next x left 0 right

  pub differing-unequal : (x : L) (left : List L) (y : R) (right : List R) → equal x y ≡ false
      → differing equal (x ∷ left) (y ∷ right) ≡ y ∷ differing equal left right
  differing-unequal x left y right e =
      ap (λ b. cons_option (if b then None else Some y) (from_place (x ∷ left) 1 right)) e
      ∙ ap (λ ys. y ∷ ys) (from_place-next x left 0 right)
