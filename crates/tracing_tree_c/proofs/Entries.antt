-- The place of an entry, and the entries without it.
use Rattle.std.proofs.Common.{◌≡◌, ◌+◌, ◌-◌, ◌<◌, ◌≤◌, ℕ, List, [], ◌∷◌, arith, refl, suc, subst, ap, length, Bool, true, false}
use Rattle.std.specs.Prelude.{Some, None, ◌==◌, ◌||◌, if◌then◌else◌}
use Rattle.std.specs.List.{remove}
use Rattle.tracing_tree_c.specs.Entered.{entry_place, is_among, without_last}

-- what is found with the first entry, by whether it is into this span
found_at : (id n last : ℕ) (before : List ℕ) (place : ℕ) (is : Bool) → (if is then Some n else entry_place id (n + 1) before) ≡ Some place →
    (entry_place id (n + 1) before ≡ Some place →
    (n + 1 ≤ place) × (place - (n + 1) < length before) × (remove before (place - (n + 1)) ≡ without_last id before) × (is_among id before ≡ true)) →
    (n ≤ place) × (place - n < suc (length before)) × (remove (last ∷ before) (place - n) ≡ (if is then before else last ∷ without_last id before))
    × ((is || is_among id before) ≡ true)
found_at id n last before place true e later =
    let same : n ≡ place = cc in
    let first : place - n ≡ 0 = omega (arith, same) in
    (omega (arith, same), omega (arith, first), rw first refl, refl)
found_at id n last before place false e later =
    let found = later e in
    let next : place - n ≡ suc (place - (n + 1)) = omega (arith, found.0) in
    (omega (arith, found.0), omega (arith, next, found.1), rw next (ap (λ entries. last ∷ entries) found.2), found.3)

found_after : (id n : ℕ) (ids : List ℕ) (place : ℕ) → entry_place id n ids ≡ Some place →
    (n ≤ place) × (place - n < length ids) × (remove ids (place - n) ≡ without_last id ids) × (is_among id ids ≡ true)
found_after id n [] place e = cc
found_after id n (last ∷ before) place e = found_at id n last before place (last == id) e (found_after id (n + 1) before place)

-- an entry that is found
pub found : (id : ℕ) (ids : List ℕ) (place : ℕ) → entry_place id 0 ids ≡ Some place →
    (place < length ids) × (remove ids place ≡ without_last id ids) × (is_among id ids ≡ true)
found id ids place e =
    let all = found_after id 0 ids place e in
    let same : place - 0 ≡ place = omega arith in
    (omega (arith, all.1), subst (λ (n : ℕ). remove ids n ≡ without_last id ids) same all.2, all.3)

missing_at : (id n last : ℕ) (before : List ℕ) (is : Bool) → (if is then Some n else entry_place id (n + 1) before) ≡ None →
    (entry_place id (n + 1) before ≡ None → (without_last id before ≡ before) × (is_among id before ≡ false)) →
    ((if is then before else last ∷ without_last id before) ≡ last ∷ before) × ((is || is_among id before) ≡ false)
missing_at id n last before true e later = cc
missing_at id n last before false e later = let none = later e in (ap (λ entries. last ∷ entries) none.0, none.1)

-- an entry that isn't there
pub missing : (id n : ℕ) (ids : List ℕ) → entry_place id n ids ≡ None → (without_last id ids ≡ ids) × (is_among id ids ≡ false)
missing id n [] e = (refl, refl)
missing id n (last ∷ before) e = missing_at id n last before (last == id) e (missing id (n + 1) before)
