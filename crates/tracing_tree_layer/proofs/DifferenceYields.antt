-- What a `DifferenceIter` yields, if it is known what its two sides yield.
use Rattle.std.proofs.Common.{◌≡◌, ◌∙◌, refl, sym, ap, ap₂, subst, arith, length, get_or, drop, unwrap_or, is_some, Bool, true, false, true≢false, List, [], ◌∷◌, Option, Some, None, MatchBool, MatchOption, Bor}
use Rattle.std.proofs.lemmas.Iterator.{YieldsList}
use Rattle.std.proofs.lemmas.List.Elements.{All-head, All-tail}
use Rattle.std.proofs.iter.Next.{tell_yes, tell_no}
use Rattle.std.specs.Fn.{Shared}
use Rattle.std.specs.Iterator.{AlwaysYields, Yields}
use Rattle.std.specs.Iterator.Adapters.{fuse_source, fuse_done, fuse_steps}
use Rattle.std.specs.declared.iter.Fuse.{Fuse}
use Rattle.tracing_tree_layer.proofs.DifferenceLemmas.{KeysCompare-keys, AllMatch-same, GivesDiffering-same}
use Rattle.tracing_tree_layer.proofs.DifferingLaws.{differing-no_left, differing-equal, differing-unequal}
use Rattle.tracing_tree_layer.specs.declared.difference.DifferenceIter.{DifferenceIter}
use Rattle.tracing_tree_layer.specs.Difference.Steps.{difference_left, difference_right, difference_compare, both_steps, difference_steps, differing, IsFresh, ReturnsKey, YieldsDiffering, Matches, Differs, AllMatch, GivesDiffering}

module _ {L A V : Type 0} (lefts : L → Option A → L → Type 0) (v : A → V) where
  -- what a fused iterator still yields
  abbrev pub GivesFused : Fuse L → List V → Type 0
  GivesFused s xs = MatchBool (fuse_done s) (xs ≡ []) (AlwaysYields lefts v (fuse_source s) xs)

  -- o is the first of xs, and t yields the others
  abbrev Took : Option A → List V → Fuse L → Type 0
  Took o xs t = (rest : List V) × MatchOption o ((xs ≡ []) × (rest ≡ [])) (λ x. xs ≡ v x ∷ rest) × GivesFused t rest

  fused_by : (done : Bool) (u : L) (o : Option A) (t : Fuse L) (xs : List V)
      → MatchBool done (o ≡ None) (lefts u o (fuse_source t)) → MatchOption o (fuse_done t ≡ true) (λ _. fuse_done t ≡ false)
      → MatchBool done (xs ≡ []) (AlwaysYields lefts v u xs) → Took o xs t
  fused_by true u None t xs m d g = ([], (g, refl), tell_yes _ _ d refl)
  fused_by true u (Some x) t xs m d g = absurd (true≢false (ap is_some m))
  fused_by false u None t [] m d g = ([], (refl, refl), tell_yes _ _ d refl)
  fused_by false u None t (y ∷ ys) m d g = absurd (g.0 (fuse_source t) m)
  fused_by false u (Some x) t [] m d g = absurd (g x (fuse_source t) m)
  fused_by false u (Some x) t (y ∷ ys) m d g = let k = g.1 x (fuse_source t) m in (ys, ap (λ z. z ∷ ys) (sym k.0), tell_no _ _ d k.1)

  fused : (s : Fuse L) (o : Option A) (t : Fuse L) (xs : List V) → fuse_steps lefts s o t → GivesFused s xs → Took o xs t
  fused s o t xs h g = fused_by (fuse_done s) (fuse_source s) o t xs h.0 h.1 g

module _ {R A V : Type 0} (rights : R → Option A → R → Type 0) (v : A → V) where
  right_item : (s t : R) (x : A) (ys : List V) → rights s (Some x) t → AlwaysYields rights v s ys
      → (rest : List V) × (ys ≡ v x ∷ rest) × AlwaysYields rights v t rest
  right_item s t x [] h g = absurd (g x t h)
  right_item s t x (y ∷ ys) h g = let k = g.1 x t h in (ys, ap (λ z. z ∷ ys) (sym k.0), k.1)

  right_end : (s t : R) (ys : List V) → rights s None t → AlwaysYields rights v s ys → ys ≡ []
  right_end s t [] h g = refl
  right_end s t (y ∷ ys) h g = absurd (g.0 t h)

module _ {L R C A U V : Type 0} (lefts : L → Option A → L → Type 0) (rights : R → Option A → R → Type 0) (calls : Shared C (Bor A × Unit {0}) U) (eq : U → U → Bool)
    (v : A → V) (key : V → U) (compare : C) (known : ReturnsKey calls compare (λ x. key (v x))) where
  -- the left side still yields xs, and the right one ys
  record Sides (s : DifferenceIter L R C) (xs ys : List V) : Type 0 where
    left : GivesFused lefts v (difference_left s) xs
    right : AlwaysYields rights v (difference_right s) ys
    same : difference_compare s ≡ compare

  -- whether two items are equal by their keys
  abbrev same_key : V → V → Bool
  same_key x y = eq (key x) (key y)

  passed_over : (o : Option A) (y : A) (xs ys rest more : List V) → MatchOption o ((xs ≡ []) × (rest ≡ [])) (λ x. xs ≡ v x ∷ rest)
      → ys ≡ v y ∷ more → Matches calls eq compare o y
      → differing same_key xs ys ≡ differing same_key rest more
  passed_over None y xs ys rest more a e h = absurd h
  passed_over (Some x) y xs ys rest more a e h = ap₂ (differing same_key) a e
      ∙ differing-equal same_key (v x) rest (v y) more (KeysCompare-keys calls eq compare (λ x. key (v x)) known x y true h)

  given : (o : Option A) (y : A) (xs ys rest more : List V) → MatchOption o ((xs ≡ []) × (rest ≡ [])) (λ x. xs ≡ v x ∷ rest)
      → ys ≡ v y ∷ more → Differs calls eq compare o y
      → differing same_key xs ys ≡ v y ∷ differing same_key rest more
  given None y xs ys rest more a e h = ap₂ (differing same_key) a.0 e ∙ differing-no_left same_key (v y ∷ more)
      ∙ sym (ap (λ zs. v y ∷ zs) (ap (λ zs. differing same_key zs more) a.1 ∙ differing-no_left same_key more))
  given (Some x) y xs ys rest more a e h = ap₂ (differing same_key) a e
      ∙ differing-unequal same_key (v x) rest (v y) more (KeysCompare-keys calls eq compare (λ x. key (v x)) known x y false h)

  -- one step of both sides
  record Stepped (p : Option A × A) (t : DifferenceIter L R C) (xs ys : List V) : Type 0 where
    rest : List V
    more : List V
    left_item : MatchOption p.0 ((xs ≡ []) × (rest ≡ [])) (λ x. xs ≡ v x ∷ rest)
    right_item' : ys ≡ v p.1 ∷ more
    sides : Sides t rest more

  both_item : (s t : DifferenceIter L R C) (p : Option A × A) (xs ys : List V) → Sides s xs ys
      → both_steps lefts rights s (Some p) t → Stepped p t xs ys
  both_item s t p xs ys i h =
      let a = fused lefts v (difference_left s) p.0 (difference_left t) xs (subst (λ o. fuse_steps lefts (difference_left s) o (difference_left t)) (sym h.1.2.0) h.1.1) i.left in
      let b = right_item rights v (difference_right s) (difference_right t) p.1 ys h.1.2.1 i.right in
      record { rest = a.0; more = b.0; left_item = a.1; right_item' = b.1; sides = record { left = a.2; right = b.2; same = h.0 ∙ i.same } }

  -- the lists that are left at a state, and their difference zs
  record Leaves (t : DifferenceIter L R C) (zs : List V) : Type 0 where
    xs : List V
    ys : List V
    sides : Sides t xs ys
    is : zs ≡ differing same_key xs ys

  passes : (ps : List (Option A × A)) (s t : DifferenceIter L R C) (xs ys : List V) → Sides s xs ys
      → Yields (both_steps lefts rights) s ps t → AllMatch calls eq compare ps
      → Leaves t (differing same_key xs ys)
  passes [] s t xs ys i h a = record { xs = xs; ys = ys; sides = subst (λ u. Sides u xs ys) h i; is = refl }
  passes (p ∷ ps) s t xs ys i h a =
      let m = both_item s h.0 p xs ys i h.1 in
      let n = passes ps h.0 t m.rest m.more m.sides h.2 (All-tail (λ p. Matches calls eq compare p.0 p.1) p ps a) in
      record {
        xs = n.xs;
        ys = n.ys;
        sides = n.sides;
        is = passed_over p.0 p.1 xs ys m.rest m.more m.left_item m.right_item' (All-head (λ p. Matches calls eq compare p.0 p.1) p ps a) ∙ n.is;
      }

  -- an item that comes is the first of the difference, and the difference of what is left follows
  item_by : (o : Option (Option A × A)) (t u : DifferenceIter L R C) (z : A) (zs : List V) → Leaves t zs → both_steps lefts rights t o u
      → GivesDiffering calls eq compare o (Some z) → (rest : List V) × (zs ≡ v z ∷ rest) × Leaves u rest
  item_by None t u z zs i h a = absurd (true≢false (ap is_some a))
  item_by (Some p) t u z zs i h a =
      let m = both_item t u p i.xs i.ys i.sides h in (
        differing same_key m.rest m.more,
        i.is ∙ given p.0 p.1 i.xs i.ys m.rest m.more m.left_item m.right_item' a.1
            ∙ ap (λ o. v (unwrap_or o z) ∷ differing same_key m.rest m.more) (sym a.0),
        record { xs = m.rest; ys = m.more; sides = m.sides; is = refl },
      )

  -- if no item comes, there is no difference
  end_by : (o : Option (Option A × A)) (r : Option A) (t u : DifferenceIter L R C) (zs : List V) → r ≡ None → Leaves t zs
      → both_steps lefts rights t o u
      → GivesDiffering calls eq compare o r → zs ≡ []
  end_by None r t u zs n i h a = i.is
      ∙ ap (differing same_key i.xs) (right_end rights v (difference_right t) (difference_right u) i.ys h.1.2 i.sides.right)
  end_by (Some p) r t u zs n i h a = absurd (true≢false (sym (ap is_some (sym n ∙ a.0))))

  -- the pairs that are skipped leave the difference unchanged
  arrives : (s t : DifferenceIter L R C) (r : Option A) (zs : List V) → Leaves s zs
      → (h : difference_steps lefts rights calls eq s r t) → Leaves h.2.0 zs
  arrives s t r zs i h =
      let n = passes h.0 s h.2.0 i.xs i.ys i.sides h.2.1 (AllMatch-same calls eq compare (difference_compare s) h.0 i.sides.same h.3) in
      record { xs = n.xs; ys = n.ys; sides = n.sides; is = i.is ∙ n.is }

  item_step : (s t : DifferenceIter L R C) (z : A) (zs : List V) → Leaves s zs
      → difference_steps lefts rights calls eq s (Some z) t → (rest : List V) × (zs ≡ v z ∷ rest) × Leaves t rest
  item_step s t z zs i h = item_by h.1 h.2.0 t z zs (arrives s t (Some z) zs i h) h.2.2 (GivesDiffering-same calls eq compare (difference_compare s) h.1 (Some z) i.sides.same h.4)

  end_step : (s t : DifferenceIter L R C) (zs : List V) → Leaves s zs → difference_steps lefts rights calls eq s None t → zs ≡ []
  end_step s t zs i h = end_by h.1 None h.2.0 t zs refl (arrives s t None zs i h) h.2.2 (GivesDiffering-same calls eq compare (difference_compare s) h.1 None i.sides.same h.4)

  always_leaves : (zs : List V) (s : DifferenceIter L R C) → Leaves s zs → AlwaysYields (difference_steps lefts rights calls eq) v s zs
  always_leaves [] s i = λ x t h. let n = item_step s t x [] i h in omega (arith, ap length n.1)
  always_leaves (z ∷ zs) s i = (
    λ t h. omega (arith, ap length (end_step s t (z ∷ zs) i h)),
    λ x t h.
        let n = item_step s t x (z ∷ zs) i h in (
          sym (ap (λ l. get_or l 0 z) n.1),
          always_leaves zs t (record { xs = n.2.xs; ys = n.2.ys; sides = n.2.sides; is = ap (drop 1) n.1 ∙ n.2.is }),
        ),
  )

  -- from a new iterator, all of the two lists
  pub AlwaysYields-differing : (left : L) (right : R) (s : DifferenceIter L R C) (xs ys : List V)
      → IsFresh (difference_left s) left → difference_right s ≡ right → difference_compare s ≡ compare
      → AlwaysYields lefts v left xs → AlwaysYields rights v right ys
      → AlwaysYields (difference_steps lefts rights calls eq) v s (differing (λ x y. eq (key x) (key y)) xs ys)
  AlwaysYields-differing left right s xs ys fresh is same a b = always_leaves (differing (λ x y. eq (key x) (key y)) xs ys) s (record {
    xs = xs;
    ys = ys;
    sides = record {
      left = tell_no _ _ fresh.1 (subst (λ u. AlwaysYields lefts v u xs) (sym fresh.0) a);
      right = subst (λ u. AlwaysYields rights v u ys) (sym is) b;
      same = same;
    };
    is = refl;
  })

module _ {L R C A U : Type 0} {lefts : L → Option A → L → Type 0} {rights : R → Option A → R → Type 0} {calls : Shared C (Bor A × Unit {0}) U} {eq : U → U → Bool}
    {left : L} {right : R} {compare : C} {s : DifferenceIter L R C} where
  -- A chain proof through `DifferenceIter::new`. The first four facts are its clauses `yields`,
  -- `left`, `right` and `compare`; the first shows what is called. v reads the items.
  pub YieldsList-from_difference : {V : Type 0} {v : A → V} {xs ys : List V} (key : V → U)
      → YieldsDiffering lefts rights calls eq left right compare s
      → IsFresh (difference_left s) left → difference_right s ≡ right → difference_compare s ≡ compare
      → ReturnsKey calls compare (λ x. key (v x))
      → YieldsList lefts v left xs → YieldsList rights v right ys
      → YieldsList (difference_steps lefts rights calls eq) v s (differing (λ x y. eq (key x) (key y)) xs ys)
  YieldsList-from_difference {v = v} {xs = xs} {ys = ys} key law fresh is same known a b =
      record { runs = AlwaysYields-differing lefts rights calls eq v key compare known left right s xs ys fresh is same a.runs b.runs }

  -- the same at the items themselves, for which the clause `yields` is enough
  pub YieldsList-from_yields : {xs ys : List A} (key : A → U) → YieldsDiffering lefts rights calls eq left right compare s
      → ReturnsKey calls compare key
      → YieldsList lefts (λ x. x) left xs → YieldsList rights (λ x. x) right ys
      → YieldsList (difference_steps lefts rights calls eq) (λ x. x) s (differing (λ x y. eq (key x) (key y)) xs ys)
  YieldsList-from_yields {xs = xs} {ys = ys} key law known a b = record { runs = law.runs key xs ys known a.runs b.runs }
