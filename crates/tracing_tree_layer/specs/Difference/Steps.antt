-- The steps of a `DifferenceIter`, and what it yields.
use Rattle.std.specs.Prelude.{◌≡◌, ◌+◌, ◌≤◌, Bool, true, false, if◌then◌else◌, MatchBool, List, [], ◌++◌, Option, Some, None, MatchOption, IsSomeAnd, IfSome, All, ⊤}
use Rattle.std.specs.Borrow.{Bor}
use Rattle.std.specs.Fn.{Shared, FnReturnsAt}
use Rattle.std.specs.Iterator.{Count, IsFinite, YieldsThen, AlwaysYields}
use Rattle.std.specs.Iterator.Adapters.{fuse_source, fuse_done, fuse_steps}
use Rattle.std.specs.Iterator.Runs.{Run, SomeRun, EachRunFrom}
use Rattle.std.specs.declared.iter.Fuse.{Fuse}
pub use Rattle.tracing_tree_layer.specs.Difference.Items.{has_equal_at, differing}
use Rattle.tracing_tree_layer.specs.declared.difference.DifferenceIter.{DifferenceIter}

-- ---- its parts

module _ {L R C : Type 0} where
  -- the left iterator, the right one, and the function that returns the keys
  abbrev pub difference_left : DifferenceIter L R C → Fuse L
  difference_left s = s.left

  abbrev pub difference_right : DifferenceIter L R C → R
  difference_right s = s.right

  abbrev pub difference_compare : DifferenceIter L R C → C
  difference_compare s = s.compare

  -- Both sides may be called, the left one unless it has ended. The right one ends. `compare` may
  -- be called at any item.
  abbrev pub CanCallDifference : (L → Type 0) → (R → Type 0) → (R → Count) → (C → Type 0)
      → DifferenceIter L R C → Type 0
  CanCallDifference left_can right_can right_left callable s =
      (fuse_done (difference_left s) ≡ false → left_can (fuse_source (difference_left s)))
      × right_can (difference_right s)
      × IsFinite (right_left (difference_right s))
      × callable (difference_compare s)

  -- no more items come than the right one has left
  abbrev pub difference_remaining : (R → Count) → DifferenceIter L R C → Count
  difference_remaining right_left s = right_left (difference_right s)

-- s is the iterator `from`, fused and not yet called
abbrev pub IsFresh : {S : Type 0} → Fuse S → S → Type 0
IsFresh s from = (fuse_source s ≡ from) × (fuse_done s ≡ false)

-- ---- its steps

module _ {C A U : Type 0} (calls : Shared C (Bor A × ⊤) U) (eq : U → U → Bool) (compare : C) where
  -- `eq` returns b for some keys that `compare` may return for x and y
  abbrev pub KeysCompare : A → A → Bool → Type 0
  KeysCompare x y b = (k : U) × (m : U) × FnReturnsAt calls compare x k
      × FnReturnsAt calls compare y m × (eq k m ≡ b)

  -- there is a left item, and it is equal to the right one under `compare`
  abbrev pub Matches : Option A → A → Type 0
  Matches left right = IsSomeAnd left (λ x. KeysCompare x right true)

  -- there is no left item, or it differs from the right one under `compare`
  abbrev pub Differs : Option A → A → Type 0
  Differs left right = IfSome left (λ x. KeysCompare x right false)

  -- each left item exists, and is equal to the right one of its pair
  abbrev pub AllMatch : List (Option A × A) → Type 0
  AllMatch pairs = All (λ p. Matches p.0 p.1) pairs

  -- r is the right item of o, which differs, or `None` if there are no more pairs
  abbrev pub GivesDiffering : Option (Option A × A) → Option A → Type 0
  GivesDiffering o r = MatchOption o (r ≡ None) (λ p. (r ≡ Some p.1) × Differs p.0 p.1)

module _ {L R C A : Type 0} (lefts : L → Option A → L → Type 0)
    (rights : R → Option A → R → Type 0) where
  -- The left one steps, unless it has ended, and then the right one. o has what they returned, or
  -- is `None` if the right one has ended.
  abbrev pub both_steps : DifferenceIter L R C → Option (Option A × A) → DifferenceIter L R C
      → Type 0
  both_steps s o t = (difference_compare t ≡ difference_compare s)
      × ((left : Option A) × fuse_steps lefts (difference_left s) left (difference_left t)
      × MatchOption o (rights (difference_right s) None (difference_right t))
      (λ p. (p.0 ≡ left) × rights (difference_right s) (Some p.1) (difference_right t)))

  -- the right items that are equal to the left ones are skipped, and the first that differs comes
  abbrev pub difference_steps : {U : Type 0} → Shared C (Bor A × ⊤) U → (U → U → Bool)
      → DifferenceIter L R C → Option A → DifferenceIter L R C → Type 0
  difference_steps calls eq s r t = (passed : List (Option A × A)) × (o : Option (Option A × A))
      × YieldsThen both_steps s passed o t
      × AllMatch calls eq (difference_compare s) passed
      × GivesDiffering calls eq (difference_compare s) o r

-- ---- all that it yields

-- each call of f at a `&` to x returns `key x`
abbrev pub ReturnsKey : {C A U : Type 0} → Shared C (Bor A × ⊤) U → C → (A → U) → Type 0
ReturnsKey {A = A} {U = U} calls f key = (x : A) (k : U) → FnReturnsAt calls f x k → k ≡ key x

module _ {L R C A U : Type 0} {lefts : L → Option A → L → Type 0}
    {rights : R → Option A → R → Type 0} (calls : Shared C (Bor A × ⊤) U) (eq : U → U → Bool)
    (compare : C) where
  -- A run p of a `DifferenceIter` has a run a of its left side and a run b of its right one. Both
  -- step together: a left side that continues returned an item at each call of the right one. If
  -- `compare` returns what `key` does, the items of p are those of b that differ from a and from
  -- `rest`, whatever else the left side returns later.
  abbrev pub IsDifferenceRun : Run (difference_steps lefts rights calls eq) → Run lefts
      → Run rights → Type 0
  IsDifferenceRun p a b = (b.whole ≡ p.whole)
      × MatchBool a.whole (a.len ≤ b.len) (a.len ≡ b.len + (if b.whole then 1 else 0))
      × ((key : A → U) (rest : List A) → ReturnsKey calls compare key
      → (a.whole ≡ true → rest ≡ [])
      → p.items ≡ differing (λ x y. eq (key x) (key y)) (a.items ++ rest) b.items)

module _ {L R C A U : Type 0} (lefts : L → Option A → L → Type 0)
    (rights : R → Option A → R → Type 0) (calls : Shared C (Bor A × ⊤) U) (eq : U → U → Bool)
    (left : L) (right : R) (compare : C) (s : DifferenceIter L R C) where
  -- each run of s has such runs of its two sides
  abbrev pub DifferenceRuns : Type 0
  DifferenceRuns = EachRunFrom (difference_steps lefts rights calls eq) s
      (λ p. SomeRun lefts left (λ a. SomeRun rights right (IsDifferenceRun calls eq compare p a)))

  -- If the left side always yields xs and the right one ys, and `compare` returns what `key` does,
  -- s always yields the items of ys that differ from xs. It is a record, so that antt infers its
  -- arguments.
  pub record YieldsDiffering : Type 0 where
    pub runs : (key : A → U) (xs ys : List A) → ReturnsKey calls compare key
        → AlwaysYields lefts (λ x. x) left xs → AlwaysYields rights (λ x. x) right ys
        → AlwaysYields (difference_steps lefts rights calls eq) (λ x. x) s
        (differing (λ x y. eq (key x) (key y)) xs ys)
