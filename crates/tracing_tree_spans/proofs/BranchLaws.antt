-- The paths that branches store, while ids are appended and removed.
use Rattle.std.proofs.Common.{◌≡◌, ℕ, zero, suc, ◌+◌, ◌<◌, ◌≤◌, nat_le, ◌==◌, Bool, true, false, List, [], ◌∷◌, ◌++◌, length, take, Option, Some, None, if◌then◌else◌, arith, refl, sym, ap, ◌∙◌, subst, length-append}
use Rattle.std.specs.List.{slice_get}
use Rattle.std.specs.Option.{option_and_then}
use Rattle.std.proofs.Math.ListN.{set}
use Rattle.std.proofs.lemmas.Bool.{eqb-true}
use Rattle.std.proofs.lemmas.Bool.Decides.{nat_tests}
use Rattle.std.proofs.lemmas.List.{take-append-le, take_all}
use Rattle.std.proofs.lemmas.Option.{same_Some}
use Rattle.tracing_tree_spans.specs.Registry.Branches.{part_of, path_at, KeepsParts, KeepsShorterParts}
use Rattle.tracing_tree_base.specs.declared.context.Id.{Id}
use Rattle.tracing_tree_spans.specs.declared.registry.branches.Branch.{Branch}
use Rattle.tracing_tree_spans.specs.declared.registry.path.SpanPath.{SpanPath}
use Rattle.tracing_tree_spans.specs.declared.registry.path.SpanPath.TheVariants.{Short, Long}
use Rattle.tracing_tree_spans.specs.declared.registry.path.Place.{Place}

-- ---- an element of a list

pub get-set : {X : Type 0} (xs : List X) (at : ℕ) (x y : X) → slice_get xs at ≡ Some x → slice_get (set xs at y) at ≡ Some y
get-set [] at x y h = cc
get-set (z ∷ xs) zero x y h = refl
get-set (z ∷ xs) (suc at) x y h = get-set xs at x y h

get-other : {X : Type 0} (xs : List X) (at j : ℕ) (y : X) → (at ≡ j → ⊥) → slice_get (set xs at y) j ≡ slice_get xs j
get-other [] at j y h = refl
get-other (z ∷ xs) zero zero y h = absurd (h refl)
get-other (z ∷ xs) zero (suc j) y h = refl
get-other (z ∷ xs) (suc at) zero y h = refl
get-other (z ∷ xs) (suc at) (suc j) y h = get-other xs at j y (λ e. h (ap (λ n. suc n) e))

get-front : {X : Type 0} (xs ys : List X) (at : ℕ) (x : X) → slice_get xs at ≡ Some x → slice_get (xs ++ ys) at ≡ Some x
get-front [] ys at x h = cc
get-front (z ∷ xs) ys zero x h = h
get-front (z ∷ xs) ys (suc at) x h = get-front xs ys at x h

pub get-last : {X : Type 0} (xs : List X) (x : X) → slice_get (xs ++ x ∷ []) (length xs) ≡ Some x
get-last [] x = refl
get-last (z ∷ xs) x = get-last xs x

-- ---- the parts of a branch

-- the first ids of a branch
record IsPart (branch : Branch) (count : ℕ) (ids : List Id) : Type 0 where
  pub longer : branch.shared < count
  pub within : count ≤ length branch.ids.items
  pub whole : ids ≡ take count branch.ids.items

part-is : (branch : Branch) (count : ℕ) (ids : List Id) → part_of branch count ≡ Some ids → IsPart branch count ids
part-is branch count ids h = first (nat_le count branch.shared) refl
  where
    xs : List Id
    xs = branch.ids.items

    first : (c : Bool) → nat_le count branch.shared ≡ c → IsPart branch count ids
    first true e = absurd (let none : None ≡ Some ids = subst (λ c. (if c then None else (if nat_le count (length branch.ids.items) then Some (take count branch.ids.items) else None)) ≡ Some ids) e h in cc)
    first false e =
        second (subst (λ c. (if c then None else (if nat_le count (length branch.ids.items) then Some (take count branch.ids.items) else None)) ≡ Some ids) e h)
        (nat_le count (length branch.ids.items)) refl
      where
        second : (if nat_le count (length branch.ids.items) then Some (take count branch.ids.items) else None) ≡ Some ids → (c : Bool) →
            nat_le count (length branch.ids.items) ≡ c → IsPart branch count ids
        second g true f = record {
          longer = grind (arith, nat_tests, e);
          within = grind (arith, nat_tests, f);
          whole = sym (same_Some (take count branch.ids.items) ids (subst (λ c. (if c then Some (take count branch.ids.items) else None) ≡ Some ids) f g));
        }
        second g false f = absurd (let none : None ≡ Some ids = subst (λ c. (if c then Some (take count branch.ids.items) else None) ≡ Some ids) f g in cc)

part-from : (branch : Branch) (count : ℕ) (ids : List Id) → IsPart branch count ids → part_of branch count ≡ Some ids
part-from branch count ids p =
    let longer : branch.shared < count = p.longer in
    let within : count ≤ length branch.ids.items = p.within in
    let first : nat_le count branch.shared ≡ false = grind (arith, nat_tests) in
    let second : nat_le count (length branch.ids.items) ≡ true = grind (arith, nat_tests) in
    rw (first, second) (ap (λ xs. Some xs) (sym p.whole))

-- the whole branch
pub part-whole : (branch : Branch) → branch.shared < length branch.ids.items → part_of branch (length branch.ids.items) ≡ Some branch.ids.items
part-whole branch longer =
    part-from branch (length branch.ids.items) branch.ids.items
    (record { longer = longer; within = omega arith; whole = sym (take_all (length branch.ids.items) branch.ids.items (omega arith)) })

-- a branch without ids has no parts
pub part-none : (branch : Branch) (count : ℕ) (ids : List Id) → length branch.ids.items ≡ 0 → part_of branch count ≡ Some ids → ⊥
part-none branch count ids none h = let p = part-is branch count ids h in omega (arith, none, p.longer, p.within)

-- an id is appended
pub keeps-pushed : (old new : Branch) (i : Id) → new.shared ≡ old.shared → new.ids.items ≡ old.ids.items ++ i ∷ [] → KeepsParts old new
keeps-pushed old new i same items count ids h =
    let p = part-is old count ids h in
    let n = ap (λ (xs : List Id). length xs) items ∙ length-append old.ids.items (i ∷ []) in
    part-from new count ids (record {
      longer = omega (arith, same, p.longer);
      within = omega (arith, n, p.within);
      whole = p.whole ∙ sym (ap (λ (xs : List Id). take count xs) items ∙ take-append-le count old.ids.items (i ∷ []) p.within);
    })

pub longest-pushed : (old new : Branch) (i : Id) → new.shared ≡ old.shared → new.ids.items ≡ old.ids.items ++ i ∷ [] → (ids : List Id) →
    part_of old (length old.ids.items) ≡ Some ids → part_of new (length old.ids.items + 1) ≡ Some (ids ++ i ∷ [])
longest-pushed old new i same items ids h =
    let p = part-is old (length old.ids.items) ids h in
    let n = ap (λ (xs : List Id). length xs) items ∙ length-append old.ids.items (i ∷ []) in
    let all : ids ≡ old.ids.items = p.whole ∙ take_all (length old.ids.items) old.ids.items (omega arith) in
    part-from new (length old.ids.items + 1) (ids ++ i ∷ []) (record {
      longer = omega (arith, same, p.longer);
      within = omega (arith, n);
      whole = ap (λ xs. xs ++ i ∷ []) all ∙ sym items ∙ sym (take_all (length old.ids.items + 1) new.ids.items (omega (arith, n)));
    })

-- the last id is removed
pub keeps-popped : (old new : Branch) (rest : List Id) → new.shared ≡ old.shared → old.ids.items ≡ new.ids.items ++ rest → length rest ≤ 1 →
    KeepsShorterParts old new
keeps-popped old new rest same items few count ids h shorter =
    let p = part-is old count ids h in
    let n = ap (λ (xs : List Id). length xs) items ∙ length-append new.ids.items rest in
    let within : count ≤ length new.ids.items = below (length old.ids.items) p.within shorter (omega (arith, n, few)) in
    part-from new count ids (record {
      longer = omega (arith, same, p.longer);
      within = within;
      whole = p.whole ∙ ap (λ (xs : List Id). take count xs) items ∙ take-append-le count new.ids.items rest within;
    })
  where
    below : (whole : ℕ) → count ≤ whole → (count ≡ whole → ⊥) → whole ≤ length new.ids.items + 1 → count ≤ length new.ids.items
    below whole le other more = grind (arith, other)

-- no other path was stored in the branch
pub keeps-freed : (old new : Branch) (left rest : List Id) → old.ids.items ≡ left ++ rest → length rest ≤ 1 → length left ≤ old.shared →
    KeepsShorterParts old new
keeps-freed old new left rest items few short count ids h shorter =
    let p = part-is old count ids h in
    let n = ap (λ (xs : List Id). length xs) items ∙ length-append left rest in
    absurd (none (length old.ids.items) p.longer p.within shorter (omega (arith, n, few, short)))
  where
    none : (whole : ℕ) → old.shared < count → count ≤ whole → (count ≡ whole → ⊥) → whole ≤ old.shared + 1 → ⊥
    none whole longer le other more = grind (arith, other)

-- ---- the paths of branches

-- a path that is stored in a branch
read-path : (branches : List Branch) (place : Place) (branch : Branch) → slice_get branches place.branch ≡ Some branch →
    path_at branches (Long place) ≡ part_of branch place.length
read-path branches place branch read = ap (λ o. option_and_then (λ (b : Branch). part_of b place.length) o) read

-- a change of one branch keeps the paths of the others
elsewhere : (branches : List Branch) (at : ℕ) (new : Branch) (place : Place) → (at == place.branch) ≡ false →
    path_at (set branches at new) (Long place) ≡ path_at branches (Long place)
elsewhere branches at new place e =
    ap (λ o. option_and_then (λ (b : Branch). part_of b place.length) o) (get-other branches at place.branch new (λ same. apart same))
  where
    apart : at ≡ place.branch → ⊥
    apart same = let test : (at == place.branch) ≡ true = grind (arith, nat_tests, same) in let both : true ≡ false = sym test ∙ e in cc

-- a branch changes
pub paths-set : (branches : List Branch) (at : ℕ) (old new : Branch) → slice_get branches at ≡ Some old → KeepsParts old new →
    (path : SpanPath) (ids : List Id) → path_at branches path ≡ Some ids → path_at (set branches at new) path ≡ Some ids
paths-set branches at old new here keeps (Short path) ids h = h
paths-set branches at old new here keeps (Long place) ids h = by (at == place.branch) refl
  where
    by : (c : Bool) → (at == place.branch) ≡ c → path_at (set branches at new) (Long place) ≡ Some ids
    by true e =
        let same : at ≡ place.branch = eqb-true at place.branch e in
        let before : slice_get branches place.branch ≡ Some old = subst (λ k. slice_get branches k ≡ Some old) same here in
        let after : slice_get (set branches at new) place.branch ≡ Some new = subst (λ k. slice_get (set branches at new) k ≡ Some new) same (get-set branches at old new here) in
        read-path (set branches at new) place new after ∙ keeps place.length ids (sym (read-path branches place old before) ∙ h)
    by false e = elsewhere branches at new place e ∙ h

-- the last id of a branch is removed
pub others-set : (branches : List Branch) (removed : Place) (old new : Branch) → slice_get branches removed.branch ≡ Some old →
    length old.ids.items ≡ removed.length → KeepsShorterParts old new → (path : SpanPath) (ids : List Id) → path_at branches path ≡ Some ids →
    (path_at branches (Long removed) ≡ Some ids → ⊥) → path_at (set branches removed.branch new) path ≡ Some ids
others-set branches removed old new here ends keeps (Short path) ids h other = h
others-set branches removed old new here ends keeps (Long place) ids h other = by (removed.branch == place.branch) refl
  where
    by : (c : Bool) → (removed.branch == place.branch) ≡ c → path_at (set branches removed.branch new) (Long place) ≡ Some ids
    by true e =
        let same : removed.branch ≡ place.branch = eqb-true removed.branch place.branch e in
        let before : slice_get branches place.branch ≡ Some old = subst (λ k. slice_get branches k ≡ Some old) same here in
        let after : slice_get (set branches removed.branch new) place.branch ≡ Some new =
        subst (λ k. slice_get (set branches removed.branch new) k ≡ Some new) same (get-set branches removed.branch old new here) in
        let part : part_of old place.length ≡ Some ids = sym (read-path branches place old before) ∙ h in
        read-path (set branches removed.branch new) place new after ∙ keeps place.length ids part
        (λ whole. other (read-path branches removed old here ∙ ap (part_of old) (sym (whole ∙ ends)) ∙ part))
    by false e = elsewhere branches removed.branch new place e ∙ h

-- a branch is appended
pub paths-pushed : (branches : List Branch) (new : Branch) (path : SpanPath) (ids : List Id) → path_at branches path ≡ Some ids →
    path_at (branches ++ new ∷ []) path ≡ Some ids
paths-pushed branches new (Short path) ids h = h
paths-pushed branches new (Long place) ids h = by (slice_get branches place.branch) refl
  where
    by : (o : Option Branch) → slice_get branches place.branch ≡ o → path_at (branches ++ new ∷ []) (Long place) ≡ Some ids
    by None e = absurd (let none : None ≡ Some ids = sym (ap (λ o. option_and_then (λ (b : Branch). part_of b place.length) o) e) ∙ h in cc)
    by (Some branch) e =
        read-path (branches ++ new ∷ []) place branch (get-front branches (new ∷ []) place.branch branch e) ∙ sym (read-path branches place branch e) ∙ h

-- a branch that has just been stored
pub path-started : (branches : List Branch) (at : ℕ) (branch : Branch) (count : ℕ) → slice_get branches at ≡ Some branch → branch.shared < length branch.ids.items →
    count ≡ length branch.ids.items → path_at branches (Long (record { branch = at; length = count })) ≡ Some branch.ids.items
path-started branches at branch count here longer e =
    read-path branches (record { branch = at; length = count }) branch here ∙ ap (part_of branch) e ∙ part-whole branch longer

-- an id is appended to a branch
pub path-extended : (branches : List Branch) (above : Place) (old new : Branch) (i : Id) (count : ℕ) → slice_get branches above.branch ≡ Some old →
    length old.ids.items ≡ above.length → count ≡ above.length + 1 →
    ((ids : List Id) → part_of old (length old.ids.items) ≡ Some ids → part_of new (length old.ids.items + 1) ≡ Some (ids ++ i ∷ [])) →
    (ids : List Id) → path_at branches (Long above) ≡ Some ids →
    path_at (set branches above.branch new) (Long (record { branch = above.branch; length = count })) ≡ Some (ids ++ i ∷ [])
path-extended branches above old new i count here ends more longest ids h =
    read-path (set branches above.branch new) (record { branch = above.branch; length = count }) new (get-set branches above.branch old new here)
    ∙ ap (part_of new) (more ∙ ap (λ n. n + 1) (sym ends))
    ∙ longest ids (ap (part_of old) ends ∙ sym (read-path branches above old here) ∙ h)
