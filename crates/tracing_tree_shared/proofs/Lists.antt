-- Members of lists, one by one.
use Rattle.std.proofs.Common.{◌≡◌, ℕ, zero, suc, ◌<◌, ◌≤◌, List, [], ◌∷◌, ◌++◌, ◌⊎◌, refl, sym, subst, inl, inr, arith, Option, Some, None, Any, flat_map, slice_get, min}
use Rattle.std.proofs.lemmas.Bool.{cases_lt}
use Rattle.tracing_tree_shared.specs.Finish.{smallest, lesser}

-- some element has it
abbrev pub Has : {A : Type 0} → (A → Type 0) → List A → Type 0
Has P [] = ⊥
Has P (x ∷ xs) = P x ⊎ Has P xs

module _ {A : Type 0} (P : A → Type 0) where
  pub has_any : (xs : List A) → Has P xs → Any P xs
  has_any [] h = absurd h
  has_any (x ∷ xs) (inl h) = (zero, x, omega arith, refl, h)
  has_any (x ∷ xs) (inr h) = let r = has_any xs h in (suc r.0, r.1, omega (arith, r.2), r.3, r.4)

  pub any_has : (xs : List A) → Any P xs → Has P xs
  any_has [] (k, x, lt, e, h) = absurd (omega (arith, lt))
  any_has (y ∷ xs) (zero, x, lt, e, h) = inl (subst P (sym e) h)
  any_has (y ∷ xs) (suc k, x, lt, e, h) = inr (any_has xs (k, x, omega (arith, lt), e, h))

  pub has_left : (xs ys : List A) → Has P xs → Has P (xs ++ ys)
  has_left [] ys h = absurd h
  has_left (x ∷ xs) ys (inl h) = inl h
  has_left (x ∷ xs) ys (inr h) = inr (has_left xs ys h)

  pub has_right : (xs ys : List A) → Has P ys → Has P (xs ++ ys)
  has_right [] ys h = h
  has_right (x ∷ xs) ys h = inr (has_right xs ys h)

  pub has_parts : (xs ys : List A) → Has P (xs ++ ys) → Has P xs ⊎ Has P ys
  has_parts [] ys h = inr h
  has_parts (x ∷ xs) ys (inl h) = inl (inl h)
  has_parts (x ∷ xs) ys (inr h) = part (has_parts xs ys h)
    where
      part : Has P xs ⊎ Has P ys → (P x ⊎ Has P xs) ⊎ Has P ys
      part (inl k) = inl (inr k)
      part (inr k) = inr k

  pub has_at : (xs : List A) (k : ℕ) (x : A) → slice_get xs k ≡ Some x → P x → Has P xs
  has_at [] k x e h = absurd (no_element e)
    where
      no_element : None ≡ Some x → ⊥
      no_element e = cc
  has_at (y ∷ xs) zero x e h = inl (subst P (sym (same e)) h)
    where
      same : Some y ≡ Some x → y ≡ x
      same e = cc
  has_at (y ∷ xs) (suc k) x e h = inr (has_at xs k x e h)

-- in one of the lists
module _ {A B : Type 0} (P : B → Type 0) (f : A → List B) where
  pub has_flat : (xs : List A) → Has (λ x. Has P (f x)) xs → Has P (flat_map f xs)
  has_flat [] h = absurd h
  has_flat (x ∷ xs) (inl h) = has_left P (f x) (flat_map f xs) h
  has_flat (x ∷ xs) (inr h) = has_right P (f x) (flat_map f xs) (has_flat xs h)

  pub flat_has : (xs : List A) → Has P (flat_map f xs) → Has (λ x. Has P (f x)) xs
  flat_has [] h = absurd h
  flat_has (x ∷ xs) h = part (λ k. flat_has xs k) (has_parts P (f x) (flat_map f xs) h)
    where
      part : (Has P (flat_map f xs) → Has (λ y. Has P (f y)) xs) → Has P (f x) ⊎ Has P (flat_map f xs) → Has (λ y. Has P (f y)) (x ∷ xs)
      part others (inl k) = inl k
      part others (inr k) = inr (others k)

-- what holds of each
pub has_map : {A : Type 0} (P Q : A → Type 0) → ((x : A) → P x → Q x) → (xs : List A) → Has P xs → Has Q xs
has_map P Q f [] h = absurd h
has_map P Q f (x ∷ xs) (inl h) = inl (f x h)
has_map P Q f (x ∷ xs) (inr h) = inr (has_map P Q f xs h)

-- ---- the smallest

abbrev pub In : ℕ → List ℕ → Type 0
In place places = Has (λ other. other ≡ place) places

pub smallest-append : (found : Option ℕ) (xs ys : List ℕ) → smallest found (xs ++ ys) ≡ smallest (smallest found xs) ys
smallest-append found [] ys = refl
smallest-append found (x ∷ xs) ys = smallest-append (lesser found x) xs ys

least_some : (found : ℕ) (xs : List ℕ) → smallest (Some found) xs ≡ None → ⊥
least_some found [] e = cc
least_some found (x ∷ xs) e = least_some (min found x) xs e

-- without a smallest place there is no place
pub least_none : (xs : List ℕ) → smallest None xs ≡ None → (place : ℕ) → In place xs → ⊥
least_none [] e place h = h
least_none (x ∷ xs) e place h = least_some x xs e

-- the smallest place is one of them, or the one that was found before, and no other is below
pub record IsSmallest (found : ℕ) (xs : List ℕ) (place : ℕ) : Type 0 where
  pub among : (found ≡ place) ⊎ In place xs
  pub found_above : place ≤ found
  pub above : (other : ℕ) → In other xs → place ≤ other

least_from : (found : ℕ) (xs : List ℕ) (place : ℕ) → smallest (Some found) xs ≡ Some place → IsSmallest found xs place
least_from found [] place e = of_same (same e)
  where
    same : Some found ≡ Some place → found ≡ place
    same e = cc

    of_same : found ≡ place → IsSmallest found [] place
    of_same s = record { among = inl s; found_above = omega (arith, s); above = λ other h. absurd h }
least_from found (x ∷ xs) place e =
    let r = least_from (min found x) xs place e in record {
      among = among (cases_lt x found) r.among;
      found_above = omega (arith, r.found_above);
      above = λ other. above r other;
    }
  where
    among : (x < found) ⊎ (found ≤ x) → (min found x ≡ place) ⊎ In place xs → (found ≡ place) ⊎ In place (x ∷ xs)
    among (inl lt) (inl s) = inr (inl (omega arith))
    among (inr le) (inl s) = inl (omega arith)
    among (inl lt) (inr h) = inr (inr h)
    among (inr le) (inr h) = inr (inr h)

    above : IsSmallest (min found x) xs place → (other : ℕ) → In other (x ∷ xs) → place ≤ other
    above r other (inl s) = omega (arith, r.found_above, s)
    above r other (inr h) = r.above other h

pub least_is : (xs : List ℕ) (place : ℕ) → smallest None xs ≡ Some place → In place xs × ((other : ℕ) → In other xs → place ≤ other)
least_is [] place e = cc
least_is (x ∷ xs) place e =
    let r = least_from x xs place e in (among r.among, λ other. above r other)
  where
    among : (x ≡ place) ⊎ In place xs → In place (x ∷ xs)
    among (inl s) = inl s
    among (inr h) = inr h

    above : IsSmallest x xs place → (other : ℕ) → In other (x ∷ xs) → place ≤ other
    above r other (inl s) = omega (arith, r.found_above, s)
    above r other (inr h) = r.above other h
