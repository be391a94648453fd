-- What is kept at a key after a change at a key.
use Rattle.std.proofs.Common.{◌≡◌, ℕ, Bool, true, false, cond, List, [], ◌∷◌, Some, None, refl, sym, ap, subst, ◌∙◌, true≢false}
use Rattle.std.specs.Cmp.Lexicographic.{slice_cmp}
use Rattle.std.specs.List.{AllByRecursion}
use Rattle.std.specs.List.Sorted.{IsStrictlySortedBy}
use Rattle.std.specs.Map.{keys_of}
use Rattle.std.specs.Ordering.{is_eq, match_ordering, nat_cmp, ordering_reverse}
use Rattle.std.specs.declared.cmp.Ordering.{Ordering}
use Rattle.std.specs.declared.cmp.Ordering.TheVariants.{Less, Equal, Greater}
use Rattle.std.proofs.lemmas.Cmp.{nat_list_cmp_total}
use Rattle.std.proofs.lemmas.Map.Lookups.{exact_bytes}
use Rattle.ttree_otlp.specs.Keyed.{kept_at, with_kept, without_kept}

abbrev pub cmp : List ℕ → List ℕ → Ordering
cmp = slice_cmp nat_cmp

abbrev pub is_key : List ℕ → List ℕ → Bool
is_key key other = is_eq (cmp key other)

equal_is : (o : Ordering) → is_eq o ≡ true → o ≡ Equal
equal_is Less h = absurd (true≢false (sym h))
equal_is Equal h = refl
equal_is Greater h = absurd (true≢false (sym h))

pub one_key : (key other : List ℕ) → is_key key other ≡ true → key ≡ other
one_key key other h = exact_bytes key other (equal_is (cmp key other) h)

pub key_itself : (key : List ℕ) → cmp key key ≡ Equal
key_itself key = by (cmp key key) refl where
  by : (o : Ordering) → cmp key key ≡ o → cmp key key ≡ Equal
  by Less h = absurd (let back : Less ≡ Greater = sym h ∙ nat_list_cmp_total.antisymm key key ∙ ap ordering_reverse h in cc)
  by Equal h = h
  by Greater h = absurd (let back : Greater ≡ Less = sym h ∙ nat_list_cmp_total.antisymm key key ∙ ap ordering_reverse h in cc)

pub is_key_itself : (key : List ℕ) → is_key key key ≡ true
is_key_itself key = ap is_eq (key_itself key)

pub further : (key first : List ℕ) (keys : List (List ℕ)) → cmp key first ≡ Less → AllByRecursion (λ y. cmp first y ≡ Less) keys → AllByRecursion (λ y. cmp key y ≡ Less) keys
further key first [] h k = tt
further key first (y ∷ keys) h k = (nat_list_cmp_total.trans key first y h k.0, further key first keys h k.1)

greater_less : (a b : List ℕ) → cmp a b ≡ Greater → cmp b a ≡ Less
greater_less a b h = nat_list_cmp_total.antisymm b a ∙ ap ordering_reverse h

module _ {V : Type 0} where
  pub kept_with : (q key : List ℕ) (value : V) (es : List (List ℕ × V)) → kept_at q (with_kept key value es) ≡ cond (is_key q key) (Some value) (kept_at q es)
  kept_with q key value [] = refl
  kept_with q key value (e ∷ es) = by (cmp key e.0) refl (kept_with q key value es) where
    by : (o : Ordering) → cmp key e.0 ≡ o → kept_at q (with_kept key value es) ≡ cond (is_key q key) (Some value) (kept_at q es)
        → kept_at q (match_ordering o ((key, value) ∷ e ∷ es) ((e.0, value) ∷ es) (e ∷ with_kept key value es))
        ≡ cond (is_key q key) (Some value) (cond (is_key q e.0) (Some e.1) (kept_at q es))
    by Less is others = refl
    by Equal is others = let same : key ≡ e.0 = exact_bytes key e.0 is in
        subst (λ k. cond (is_key q e.0) (Some value) (kept_at q es) ≡ cond (is_key q k) (Some value) (cond (is_key q e.0) (Some e.1) (kept_at q es))) (sym same) (twice (is_key q e.0)) where
          twice : (b : Bool) → cond b (Some value) (kept_at q es) ≡ cond b (Some value) (cond b (Some e.1) (kept_at q es))
          twice true = refl
          twice false = refl
    by Greater is others = ap (λ r. cond (is_key q e.0) (Some e.1) r) others ∙ here (is_key q e.0) (is_key q key) refl refl where
      here : (a b : Bool) → is_key q e.0 ≡ a → is_key q key ≡ b → cond a (Some e.1) (cond b (Some value) (kept_at q es)) ≡ cond b (Some value) (cond a (Some e.1) (kept_at q es))
      here true true h k =
          absurd (let same : cmp key e.0 ≡ Equal = ap (λ z. cmp key z) (sym (one_key q e.0 h) ∙ one_key q key k) ∙ key_itself key in let no : Equal ≡ Greater = sym same ∙ is in cc)
      here true false h k = refl
      here false b h k = refl

  pub kept_without : (q key : List ℕ) (es : List (List ℕ × V)) → is_key q key ≡ false → kept_at q (without_kept key es) ≡ kept_at q es
  kept_without q key [] h = refl
  kept_without q key (e ∷ es) h = by (is_key key e.0) refl (kept_without q key es h) where
    by : (b : Bool) → is_key key e.0 ≡ b → kept_at q (without_kept key es) ≡ kept_at q es
        → kept_at q (cond b es (e ∷ without_kept key es)) ≡ cond (is_key q e.0) (Some e.1) (kept_at q es)
    by true is others = let apart : is_key q e.0 ≡ false = ap (is_key q) (sym (one_key key e.0 is)) ∙ h in ap (λ b. cond b (Some e.1) (kept_at q es)) (sym apart)
    by false is others = ap (λ r. cond (is_key q e.0) (Some e.1) r) others

  -- ---- keys in order

  abbrev pub AreKeysSorted : List (List ℕ × V) → Type 0
  AreKeysSorted es = IsStrictlySortedBy cmp (keys_of es)

  module _ (P : List ℕ → Type 0) where
    all_with : (key : List ℕ) (value : V) (es : List (List ℕ × V)) → P key → AllByRecursion P (keys_of es) → AllByRecursion P (keys_of (with_kept key value es))
    all_with key value [] p h = (p, tt)
    all_with key value (e ∷ es) p h = by (cmp key e.0) (all_with key value es p h.1) where
      by : (o : Ordering) → AllByRecursion P (keys_of (with_kept key value es)) → AllByRecursion P (keys_of (match_ordering o ((key, value) ∷ e ∷ es) ((e.0, value) ∷ es) (e ∷ with_kept key value es)))
      by Less others = (p, h)
      by Equal others = h
      by Greater others = (h.0, others)

    all_without : (key : List ℕ) (es : List (List ℕ × V)) → AllByRecursion P (keys_of es) → AllByRecursion P (keys_of (without_kept key es))
    all_without key [] h = tt
    all_without key (e ∷ es) h = by (is_key key e.0) (all_without key es h.1) where
      by : (b : Bool) → AllByRecursion P (keys_of (without_kept key es)) → AllByRecursion P (keys_of (cond b es (e ∷ without_kept key es)))
      by true others = h.1
      by false others = (h.0, others)

  pub sorted_with : (key : List ℕ) (value : V) (es : List (List ℕ × V)) → AreKeysSorted es → AreKeysSorted (with_kept key value es)
  unfolding IsStrictlySortedBy
  sorted_with key value [] h = (tt, tt)
  sorted_with key value (e ∷ es) h = by (cmp key e.0) refl (sorted_with key value es h.1) where
    by : (o : Ordering) → cmp key e.0 ≡ o → AreKeysSorted (with_kept key value es) → AreKeysSorted (match_ordering o ((key, value) ∷ e ∷ es) ((e.0, value) ∷ es) (e ∷ with_kept key value es))
    by Less is others = ((is, further key e.0 (keys_of es) is h.0), h)
    by Equal is others = h
    by Greater is others = (all_with (λ y. cmp e.0 y ≡ Less) key value es (greater_less key e.0 is) h.0, others)

  pub sorted_without : (key : List ℕ) (es : List (List ℕ × V)) → AreKeysSorted es → AreKeysSorted (without_kept key es)
  unfolding IsStrictlySortedBy
  sorted_without key [] h = tt
  sorted_without key (e ∷ es) h = by (is_key key e.0) (sorted_without key es h.1) where
    by : (b : Bool) → AreKeysSorted (without_kept key es) → AreKeysSorted (cond b es (e ∷ without_kept key es))
    by true others = h.1
    by false others = (all_without (λ y. cmp e.0 y ≡ Less) key es h.0, others)

  pub kept_below : (q : List ℕ) (es : List (List ℕ × V)) → AllByRecursion (λ y. cmp q y ≡ Less) (keys_of es) → kept_at q es ≡ None
  kept_below q [] h = refl
  kept_below q (e ∷ es) h = ap (λ o. cond (is_eq o) (Some e.1) (kept_at q es)) h.0 ∙ kept_below q es h.1

  kept_first : (e : List ℕ × V) (es : List (List ℕ × V)) → kept_at e.0 (e ∷ es) ≡ Some e.1
  kept_first e es = ap (λ b. cond b (Some e.1) (kept_at e.0 es)) (is_key_itself e.0)

  none_not_some : (v : V) → None ≡ Some v → ⊥
  none_not_some v h = cc

  some_is : (v w : V) → Some v ≡ Some w → v ≡ w
  some_is v w h = cc

  not_below : (e f : List ℕ × V) (es fs : List (List ℕ × V)) → cmp e.0 f.0 ≡ Less → AllByRecursion (λ y. cmp f.0 y ≡ Less) (keys_of fs) → kept_at e.0 (e ∷ es) ≡ kept_at e.0 (f ∷ fs) → ⊥
  not_below e f es fs less b h = none_not_some e.1 (sym (kept_below e.0 (f ∷ fs) (less, further e.0 f.0 (keys_of fs) less b)) ∙ sym h ∙ kept_first e es)

  pub same_kept : (es fs : List (List ℕ × V)) → AreKeysSorted es → AreKeysSorted fs → ((q : List ℕ) → kept_at q es ≡ kept_at q fs) → es ≡ fs
  unfolding IsStrictlySortedBy
  same_kept [] [] a b h = refl
  same_kept [] (f ∷ fs) a b h = absurd (none_not_some f.1 (h f.0 ∙ kept_first f fs))
  same_kept (e ∷ es) [] a b h = absurd (none_not_some e.1 (sym (h e.0) ∙ kept_first e es))
  same_kept (e ∷ es) (f ∷ fs) a b h = by (cmp e.0 f.0) refl (same_kept es fs a.1 b.1) where
    by : (o : Ordering) → cmp e.0 f.0 ≡ o → (((q : List ℕ) → kept_at q es ≡ kept_at q fs) → es ≡ fs) → e ∷ es ≡ f ∷ fs
    by Less is others = absurd (not_below e f es fs is b.0 (h e.0))
    by Greater is others = absurd (not_below f e fs es (greater_less e.0 f.0 is) a.0 (sym (h f.0)))
    by Equal is others =
        let key : e.0 ≡ f.0 = exact_bytes e.0 f.0 is in
        let value : e.1 ≡ f.1 = some_is e.1 f.1 (sym (kept_first e es) ∙ h e.0 ∙ ap (λ k. kept_at k (f ∷ fs)) key ∙ kept_first f fs) in
        let rest = others (λ q. later q (is_key q e.0) refl) in
        (λ i. (key i, value i) ∷ rest i)
      where
        later : (q : List ℕ) (c : Bool) → is_key q e.0 ≡ c → kept_at q es ≡ kept_at q fs
        later q true k =
            let here : q ≡ e.0 = one_key q e.0 k in
            let there : q ≡ f.0 = here ∙ exact_bytes e.0 f.0 is in
            ap (λ z. kept_at z es) here ∙ kept_below e.0 es a.0 ∙ sym (kept_below f.0 fs b.0) ∙ ap (λ z. kept_at z fs) (sym there)
        later q false k =
            ap (λ c. cond c (Some e.1) (kept_at q es)) (sym k) ∙ h q ∙ ap (λ c. cond c (Some f.1) (kept_at q fs)) (ap (is_key q) (sym (exact_bytes e.0 f.0 is)) ∙ k)
