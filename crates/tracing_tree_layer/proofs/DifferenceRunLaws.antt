-- The runs of the two sides of a run of a `DifferenceIter`.
use Rattle.std.proofs.Common.{◌≡◌, ◌∙◌, refl, sym, ap, ap₂, subst, arith, ℕ, ◌+◌, ◌≤◌, length, is_some, if◌then◌else◌, Bool, true, false, true≢false, List, [], ◌∷◌, ◌++◌, append_assoc, Option, Some, None, option_to_list, unwrap_or, MatchBool, MatchOption, Bor}
use Rattle.std.proofs.lemmas.List.Elements.{All-head, All-tail}
use Rattle.std.proofs.iter.Next.{tell_yes, tell_no}
use Rattle.std.proofs.iter.runs.Made.{run, took}
use Rattle.std.specs.Fn.{Shared}
use Rattle.std.specs.Iterator.{Yields, DrainsIf}
use Rattle.std.specs.Iterator.Adapters.{fuse_source, fuse_done, fuse_steps}
use Rattle.std.specs.declared.iter.Fuse.{Fuse}
use Rattle.tracing_tree_layer.proofs.DifferenceLemmas.{KeysCompare-keys, AllMatch-same, GivesDiffering-same}
use Rattle.tracing_tree_layer.proofs.DifferingLaws.{differing-no_left, differing-equal, differing-unequal}
use Rattle.tracing_tree_layer.specs.declared.difference.DifferenceIter.{DifferenceIter}
use Rattle.tracing_tree_layer.specs.Difference.Steps.{difference_left, difference_right, difference_compare, both_steps, difference_steps, differing, IsFresh, ReturnsKey, Matches, Differs, AllMatch, GivesDiffering, DifferenceRuns}

module _ {L A : Type 0} (lefts : L → Option A → L → Type 0) where
  -- calls led a fused iterator from s to t and returned xs; the flags say whether it had ended
  -- before and whether it has ended after; once it has ended, no call is made
  abbrev FusedRun : Bool → L → List A → Bool → Type 0
  FusedRun true s xs ended = (xs ≡ []) × (ended ≡ true)
  FusedRun false s xs ended = (t : L) × Yields lefts s xs t × (ended ≡ true → (u : L) × lefts t None u)

  -- one more call before the others
  abbrev More : Bool → L → Option A → List A → Bool → Type 0
  More done s o xs ended = FusedRun done s (option_to_list o ++ xs) ended × MatchOption o ((xs ≡ []) × (ended ≡ true)) (λ _. Unit {0})

  more_by : (done : Bool) (s : L) (o : Option A) (t : Fuse L) (xs : List A) (ended : Bool)
      → MatchBool done (o ≡ None) (lefts s o (fuse_source t)) → MatchOption o (fuse_done t ≡ true) (λ _. fuse_done t ≡ false)
      → FusedRun (fuse_done t) (fuse_source t) xs ended → More done s o xs ended
  more_by true s None t xs ended m d r = let k = subst (λ b. FusedRun b (fuse_source t) xs ended) d r in (k, k)
  more_by true s (Some x) t xs ended m d r = absurd (true≢false (ap is_some m))
  more_by false s None t xs ended m d r =
      let k = subst (λ b. FusedRun b (fuse_source t) xs ended) d r in ((s, subst (λ l. Yields lefts s l s) (sym k.0) refl, λ e. (fuse_source t, m)), k)
  more_by false s (Some x) t xs ended m d r = let k = subst (λ b. FusedRun b (fuse_source t) xs ended) d r in ((k.0, (fuse_source t, m, k.1), k.2), tt)

  more : (s t : Fuse L) (o : Option A) (xs : List A) (ended : Bool) → fuse_steps lefts s o t
      → FusedRun (fuse_done t) (fuse_source t) xs ended → More (fuse_done s) (fuse_source s) o xs ended
  more s t o xs ended h r = more_by (fuse_done s) (fuse_source s) o t xs ended h.0 h.1 r

  -- no call
  still : (s : Fuse L) → FusedRun (fuse_done s) (fuse_source s) [] (fuse_done s)
  still s = by (fuse_done s)
    where
      by : (done : Bool) → FusedRun done (fuse_source s) [] done
      by true = (refl, refl)
      by false = (fuse_source s, refl, λ e. absurd (true≢false (sym e)))

module _ {L R C A U : Type 0} (lefts : L → Option A → L → Type 0) (rights : R → Option A → R → Type 0) (calls : Shared C (Bor A × Unit {0}) U) (eq : U → U → Bool) (compare : C) where
  -- what both sides returned from s on, of which zs differ
  record Behind (s : DifferenceIter L R C) (zs : List A) (whole : Bool) : Type 0 where
    ended : Bool
    xs : List A
    ys : List A
    left : FusedRun lefts (fuse_done (difference_left s)) (fuse_source (difference_left s)) xs ended
    right : DrainsIf rights (whole ≡ true) (difference_right s) ys
    together : MatchBool ended (length xs ≤ length ys) (length xs ≡ length ys + (if whole then 1 else 0))
    gave : (key : A → U) (rest : List A) → ReturnsKey calls compare key → (ended ≡ true → rest ≡ [])
        → zs ≡ differing (λ x y. eq (key x) (key y)) (xs ++ rest) ys

  -- no step
  behind-none : (s : DifferenceIter L R C) → Behind s [] false
  behind-none s = record {
    ended = fuse_done (difference_left s);
    xs = [];
    ys = [];
    left = still lefts (difference_left s);
    right = (difference_right s, refl, λ e. absurd (true≢false (sym e)));
    together = by (fuse_done (difference_left s));
    gave = λ key rest known e. refl;
  }
    where
      by : (done : Bool) → MatchBool done (0 ≤ 0) (0 ≡ 0 + 0)
      by true = omega arith
      by false = refl

  -- the step at which the right one ends
  behind-end : (s t : DifferenceIter L R C) → both_steps lefts rights s None t → Behind s [] true
  behind-end s t h =
      let k = more lefts (difference_left s) (difference_left t) h.1.0 [] (fuse_done (difference_left t)) h.1.1 (still lefts (difference_left t)) in
      record {
        ended = fuse_done (difference_left t);
        xs = option_to_list h.1.0 ++ [];
        ys = [];
        left = k.0;
        right = (difference_right s, refl, λ e. (difference_right t, h.1.2));
        together = by h.1.0 (fuse_done (difference_left t)) h.1.1.1;
        gave = λ key rest known e. refl;
      }
    where
      by : (o : Option A) (done : Bool) → MatchOption o (done ≡ true) (λ _. done ≡ false)
          → MatchBool done (length (option_to_list o ++ []) ≤ 0) (length (option_to_list o ++ []) ≡ 0 + 1)
      by None done e = tell_yes _ _ e (omega arith)
      by (Some x) done e = tell_no _ _ e refl

  lengths_by : (o : Option A) (ended : Bool) (xs ys : List A) (y : A) (n : ℕ)
      → MatchOption o ((xs ≡ []) × (ended ≡ true)) (λ _. Unit {0}) → MatchBool ended (length xs ≤ length ys) (length xs ≡ length ys + n)
      → MatchBool ended (length (option_to_list o ++ xs) ≤ length (y ∷ ys)) (length (option_to_list o ++ xs) ≡ length (y ∷ ys) + n)
  lengths_by None ended xs ys y n k m = tell_yes _ _ k.1 (omega (arith, ap length k.0))
  lengths_by (Some x) true xs ys y n k m = omega (arith, m)
  lengths_by (Some x) false xs ys y n k m = omega (arith, m)

  nothing_by : (o : Option A) (ended : Bool) (xs rest : List A) → MatchOption o ((xs ≡ []) × (ended ≡ true)) (λ _. Unit {0})
      → (ended ≡ true → rest ≡ []) → MatchOption o (xs ++ rest ≡ []) (λ _. Unit {0})
  nothing_by None ended xs rest k e = ap₂ (λ a b. a ++ b) k.0 (e k.1)
  nothing_by (Some x) ended xs rest k e = tt

  -- with the pair p before them, zs become ws
  abbrev Adds : Option A × A → List A → List A → Type 0
  Adds p zs ws = (key : A → U) (rest ys : List A) → ReturnsKey calls compare key → MatchOption p.0 (rest ≡ []) (λ _. Unit {0})
      → zs ≡ differing (λ x y. eq (key x) (key y)) rest ys
      → ws ≡ differing (λ x y. eq (key x) (key y)) (option_to_list p.0 ++ rest) (p.1 ∷ ys)

  adds_none : (o : Option A) (y : A) (zs : List A) → Matches calls eq compare o y → Adds (o, y) zs zs
  adds_none None y zs h = absurd h
  adds_none (Some x) y zs h = λ key rest ys known n e. e
      ∙ sym (differing-equal (λ x y. eq (key x) (key y)) x rest y ys (KeysCompare-keys calls eq compare key known x y true h))

  adds_item : (o : Option A) (y : A) (zs : List A) → Differs calls eq compare o y → Adds (o, y) zs (y ∷ zs)
  adds_item None y zs h = λ key rest ys known n e.
      let same : A → A → Bool = λ x y. eq (key x) (key y) in
      let all = e ∙ ap (λ l. differing same l ys) n ∙ differing-no_left same ys in
      ap (λ l. y ∷ l) all ∙ sym (ap (λ l. differing same l (y ∷ ys)) n ∙ differing-no_left same (y ∷ ys))
  adds_item (Some x) y zs h = λ key rest ys known n e. ap (λ l. y ∷ l) e
      ∙ sym (differing-unequal (λ x y. eq (key x) (key y)) x rest y ys (KeysCompare-keys calls eq compare key known x y false h))

  -- one more pair before what both sides returned
  behind-more : (s t : DifferenceIter L R C) (p : Option A × A) (zs ws : List A) (whole : Bool)
      → both_steps lefts rights s (Some p) t → Adds p zs ws → Behind t zs whole → Behind s ws whole
  behind-more s t p zs ws whole h adds i =
      let k = more lefts (difference_left s) (difference_left t) p.0 i.xs i.ended (subst (λ o. fuse_steps lefts (difference_left s) o (difference_left t)) (sym h.1.2.0) h.1.1) i.left in
      record {
        ended = i.ended;
        xs = option_to_list p.0 ++ i.xs;
        ys = p.1 ∷ i.ys;
        left = k.0;
        right = (i.right.0, (difference_right t, h.1.2.1, i.right.1), i.right.2);
        together = lengths_by p.0 i.ended i.xs i.ys p.1 (if whole then 1 else 0) k.1 i.together;
        gave = λ key rest known e. adds key (i.xs ++ rest) i.ys known (nothing_by p.0 i.ended i.xs rest k.1 e) (i.gave key rest known e)
            ∙ sym (ap (λ l. differing (λ x y. eq (key x) (key y)) l (p.1 ∷ i.ys)) (append_assoc (option_to_list p.0) i.xs rest));
      }

  -- pairs that are skipped add nothing
  behind-passed : (ps : List (Option A × A)) (s t : DifferenceIter L R C) (zs : List A) (whole : Bool)
      → Yields (both_steps lefts rights) s ps t → AllMatch calls eq compare ps
      → Behind t zs whole → Behind s zs whole
  behind-passed [] s t zs whole h a i = subst (λ u. Behind u zs whole) (sym h) i
  behind-passed (p ∷ ps) s t zs whole h a i =
      behind-more s h.0 p zs zs whole h.1 (adds_none p.0 p.1 zs (All-head (λ p. Matches calls eq compare p.0 p.1) p ps a))
      (behind-passed ps h.0 t zs whole h.2 (All-tail (λ p. Matches calls eq compare p.0 p.1) p ps a) i)

  kept : (ps : List (Option A × A)) (s t : DifferenceIter L R C) → Yields (both_steps lefts rights) s ps t
      → difference_compare s ≡ compare → difference_compare t ≡ compare
  kept [] s t h e = subst (λ u. difference_compare u ≡ compare) h e
  kept (p ∷ ps) s t h e = kept ps h.0 t h.2 (h.1.0 ∙ e)

  item_by : (o : Option (Option A × A)) (s t : DifferenceIter L R C) (z : A) (zs : List A) (whole : Bool) → both_steps lefts rights s o t
      → GivesDiffering calls eq compare o (Some z) → Behind t zs whole → Behind s (z ∷ zs) whole
  item_by None s t z zs whole h a i = absurd (true≢false (ap is_some a))
  item_by (Some p) s t z zs whole h a i =
      subst (λ y. Behind s (y ∷ zs) whole) (ap (λ o. unwrap_or o z) (sym a.0)) (behind-more s t p zs (p.1 ∷ zs) whole h (adds_item p.0 p.1 zs a.1) i)

  end_by : (o : Option (Option A × A)) (r : Option A) (s t : DifferenceIter L R C) → r ≡ None → both_steps lefts rights s o t
      → GivesDiffering calls eq compare o r → Behind s [] true
  end_by None r s t e h a = behind-end s t h
  end_by (Some p) r s t e h a = absurd (true≢false (sym (ap is_some (sym e ∙ a.0))))

  after_by : (o : Option (Option A × A)) (s t : DifferenceIter L R C) → both_steps lefts rights s o t
      → difference_compare s ≡ compare → difference_compare t ≡ compare
  after_by o s t h e = h.0 ∙ e

  -- the steps of a `DifferenceIter`, one after another
  behind : (zs : List A) (s t : DifferenceIter L R C) (whole : Bool) → difference_compare s ≡ compare
      → Yields (difference_steps lefts rights calls eq) s zs t
      → (difference_compare t ≡ compare → Behind t [] whole) → Behind s zs whole
  behind [] s t whole e h last = subst (λ u. Behind u [] whole) (sym h) (last (subst (λ u. difference_compare u ≡ compare) h e))
  behind (z ∷ zs) s t whole e h last =
      let one = h.1 in
      let then_same = after_by one.1 one.2.0 h.0 one.2.2 (kept one.0 s one.2.0 one.2.1 e) in
      behind-passed one.0 s one.2.0 (z ∷ zs) whole one.2.1 (AllMatch-same calls eq compare (difference_compare s) one.0 e one.3)
      (item_by one.1 one.2.0 h.0 z zs whole one.2.2 (GivesDiffering-same calls eq compare (difference_compare s) one.1 (Some z) e one.4) (behind zs h.0 t whole then_same h.2 last))

  behind-last : (s t : DifferenceIter L R C) → difference_compare s ≡ compare → difference_steps lefts rights calls eq s None t
      → Behind s [] true
  behind-last s t e h = behind-passed h.0 s h.2.0 [] true h.2.1 (AllMatch-same calls eq compare (difference_compare s) h.0 e h.3) (end_by h.1 None h.2.0 t refl h.2.2 (GivesDiffering-same calls eq compare (difference_compare s) h.1 None e h.4))

  last_by : (whole : Bool) (t : DifferenceIter L R C)
      → (whole ≡ true → (u : DifferenceIter L R C) × difference_steps lefts rights calls eq t None u)
      → difference_compare t ≡ compare → Behind t [] whole
  last_by true t h e = behind-last t (h refl).0 e (h refl).1
  last_by false t h e = behind-none t

  -- the clause `runs` of `DifferenceIter::new`
  pub DifferenceRuns-from_parts : (left : L) (right : R) (s : DifferenceIter L R C) → IsFresh (difference_left s) left
      → difference_right s ≡ right → difference_compare s ≡ compare
      → DifferenceRuns lefts rights calls eq left right compare s
  DifferenceRuns-from_parts left right s fresh is same p on at =
      let d = subst (λ u. DrainsIf (difference_steps lefts rights calls eq) (p.whole ≡ true) u p.items) at (took p) in
      let i = behind p.items s d.0 p.whole same d.1 (last_by p.whole d.0 d.2) in
      let first = subst (λ (q : Bool × L). FusedRun lefts q.0 q.1 i.xs i.ended) (λ k. (fresh.1 k, fresh.0 k)) i.left in
      let second = subst (λ u. DrainsIf rights (p.whole ≡ true) u i.ys) is i.right in
      (run lefts left i.xs i.ended first, refl {a = left}, (run rights right i.ys p.whole second, refl {a = right}, (refl {a = p.whole}, i.together, i.gave)))
