-- What is stored by names: what is found after an entry is put or removed.
use Rattle.std.proofs.Common.{◌≡◌, ℕ, Bool, true, false, List, [], ◌∷◌, Option, Some, None, refl, sym, ap, subst, ◌∙◌}
use Rattle.std.proofs.lemmas.Map.Text.{is_eq-slice_cmp}
use Rattle.std.proofs.lemmas.Slice.Eq.{bytes_eq-Decides}
use Rattle.std.specs.Prelude.{⊤, bytes_eq, cond, if◌then◌else◌}
use Rattle.std.specs.Ordering.{is_eq, match_ordering, nat_cmp, ordering_reverse}
use Rattle.std.proofs.lemmas.Cmp.{nat_list_cmp_total}
use Rattle.std.specs.Cmp.Lexicographic.{slice_cmp}
use Rattle.std.specs.declared.cmp.Ordering.{Ordering}
use Rattle.std.specs.declared.cmp.Ordering.TheVariants.{Less, Equal, Greater}
use Rattle.ttree_go_test.specs.Names.{named, put, without}

abbrev pub cmp : List ℕ → List ℕ → Ordering
cmp = slice_cmp nat_cmp

pub bytes_same : (a b : List ℕ) → bytes_eq a b ≡ true → a ≡ b
bytes_same a b h = (bytes_eq-Decides a b).0 h

pub same_bytes : (a b : List ℕ) → a ≡ b → bytes_eq a b ≡ true
same_bytes a b h = (bytes_eq-Decides a b).1 h

equal_same : (a b : List ℕ) → cmp a b ≡ Equal → a ≡ b
equal_same a b h = bytes_same a b (sym (is_eq-slice_cmp a b) ∙ ap is_eq h)

not_same : (a b c : List ℕ) → cmp b c ≡ Greater → bytes_eq a c ≡ true → bytes_eq a b ≡ false
not_same a b c h e = by (bytes_eq a b) refl where
  by : (x : Bool) → bytes_eq a b ≡ x → x ≡ false
  by false is = refl
  by true is =
      let b_is_c : b ≡ c = sym (bytes_same a b is) ∙ bytes_same a c e in
      let one : is_eq (cmp b c) ≡ true = is_eq-slice_cmp b c ∙ same_bytes b c b_is_c in
      sym one ∙ ap is_eq h

module _ {X : Type 0} where
  pub found_put : (other name : List ℕ) (one : X) (es : List (List ℕ × X)) → named other (put name one es) ≡ (if bytes_eq other name then Some one else named other es)
  found_put other name one [] = ap (λ b. cond b (Some one) None) (is_eq-slice_cmp other name)
  found_put other name one (e ∷ es) = by (cmp name e.0) refl (found_put other name one es) where
    here : Option X → Option X
    here rest = cond (is_eq (cmp other e.0)) (Some e.1) rest

    past : (b c : Bool) → (b ≡ true → c ≡ false) → (rest : Option X) → cond b (Some e.1) (if c then Some one else rest) ≡ (if c then Some one else cond b (Some e.1) rest)
    past true true differs rest = let k : true ≡ false = differs refl in cc
    past true false differs rest = refl
    past false c differs rest = refl

    same : (b : Bool) → cond b (Some one) (named other es) ≡ (if b then Some one else cond b (Some e.1) (named other es))
    same true = refl
    same false = refl

    by : (at : Ordering) → cmp name e.0 ≡ at → named other (put name one es) ≡ (if bytes_eq other name then Some one else named other es) →
        named other (match_ordering at ((name, one) ∷ e ∷ es) ((e.0, one) ∷ es) (e ∷ put name one es)) ≡ (if bytes_eq other name then Some one else here (named other es))
    by Less is rest = ap (λ b. cond b (Some one) (here (named other es))) (is_eq-slice_cmp other name)
    by Equal is rest =
        let e0 : name ≡ e.0 = equal_same name e.0 is in
        ap (λ b. cond b (Some one) (named other es)) (is_eq-slice_cmp other e.0)
        ∙ same (bytes_eq other e.0)
        ∙ ap (λ b. if bytes_eq other e.0 then Some one else cond b (Some e.1) (named other es)) (sym (is_eq-slice_cmp other e.0))
        ∙ ap (λ n. if bytes_eq other n then Some one else here (named other es)) (sym e0)
    by Greater is rest =
        ap here rest
        ∙ past (is_eq (cmp other e.0)) (bytes_eq other name) (λ yes. not_same other name e.0 is (sym (is_eq-slice_cmp other e.0) ∙ yes)) (named other es)

  pub found_without : (other name : List ℕ) (es : List (List ℕ × X)) → bytes_eq other name ≡ false → named other (without name es) ≡ named other es
  found_without other name [] differs = refl
  found_without other name (e ∷ es) differs = by (is_eq (cmp name e.0)) refl (found_without other name es differs) where
    by : (here : Bool) → is_eq (cmp name e.0) ≡ here → named other (without name es) ≡ named other es →
        named other (cond here es (e ∷ without name es)) ≡ cond (is_eq (cmp other e.0)) (Some e.1) (named other es)
    by true is rest =
        let e0 : name ≡ e.0 = bytes_same name e.0 (sym (is_eq-slice_cmp name e.0) ∙ is) in
        sym (ap (λ b. cond b (Some e.1) (named other es)) (is_eq-slice_cmp other e.0 ∙ ap (bytes_eq other) (sym e0) ∙ differs))
    by false is rest = ap (λ found. cond (is_eq (cmp other e.0)) (Some e.1) found) rest

  -- an entry is replaced
  pub found_again : (other name : List ℕ) (one : X) (es : List (List ℕ × X)) → named other (put name one (without name es)) ≡ (if bytes_eq other name then Some one else named other es)
  found_again other name one es = found_put other name one (without name es) ∙ by (bytes_eq other name) refl where
    by : (b : Bool) → bytes_eq other name ≡ b → (if b then Some one else named other (without name es)) ≡ (if b then Some one else named other es)
    by true is = refl
    by false is = found_without other name es is

  -- ---- lists in the order of their names

  -- each name comes after this one
  abbrev pub AllAfter : List ℕ → List (List ℕ × X) → Type 0
  AllAfter name [] = ⊤
  AllAfter name (e ∷ es) = (cmp name e.0 ≡ Less) × AllAfter name es

  abbrev pub IsSorted : List (List ℕ × X) → Type 0
  IsSorted [] = ⊤
  IsSorted (e ∷ es) = AllAfter e.0 es × IsSorted es

  after_later : (a b : List ℕ) (es : List (List ℕ × X)) → cmp a b ≡ Less → AllAfter b es → AllAfter a es
  after_later a b [] is h = tt
  after_later a b (e ∷ es) is h = (nat_list_cmp_total.trans a b e.0 is h.0, after_later a b es is h.1)

  after_put : (a name : List ℕ) (one : X) (es : List (List ℕ × X)) → cmp a name ≡ Less → AllAfter a es → AllAfter a (put name one es)
  after_put a name one [] is h = (is, tt)
  after_put a name one (e ∷ es) is h = by (cmp name e.0) (after_put a name one es is h.1) where
    by : (at : Ordering) → AllAfter a (put name one es) → AllAfter a (match_ordering at ((name, one) ∷ e ∷ es) ((e.0, one) ∷ es) (e ∷ put name one es))
    by Less others = (is, h)
    by Equal others = (h.0, h.1)
    by Greater others = (h.0, others)

  pub sorted_put : (name : List ℕ) (one : X) (es : List (List ℕ × X)) → IsSorted es → IsSorted (put name one es)
  sorted_put name one [] h = (tt, tt)
  sorted_put name one (e ∷ es) h = by (cmp name e.0) refl (sorted_put name one es h.1) where
    by : (at : Ordering) → cmp name e.0 ≡ at → IsSorted (put name one es) → IsSorted (match_ordering at ((name, one) ∷ e ∷ es) ((e.0, one) ∷ es) (e ∷ put name one es))
    by Less is others = ((is, after_later name e.0 es is h.0), h)
    by Equal is others = (h.0, h.1)
    by Greater is others = (after_put e.0 name one es (nat_list_cmp_total.antisymm e.0 name ∙ ap ordering_reverse is) h.0, others)

  after_without : (a name : List ℕ) (es : List (List ℕ × X)) → AllAfter a es → AllAfter a (without name es)
  after_without a name [] h = tt
  after_without a name (e ∷ es) h = by (is_eq (cmp name e.0)) (after_without a name es h.1) where
    by : (here : Bool) → AllAfter a (without name es) → AllAfter a (cond here es (e ∷ without name es))
    by true others = h.1
    by false others = (h.0, others)

  pub sorted_without : (name : List ℕ) (es : List (List ℕ × X)) → IsSorted es → IsSorted (without name es)
  sorted_without name [] h = tt
  sorted_without name (e ∷ es) h = by (is_eq (cmp name e.0)) (sorted_without name es h.1) where
    by : (here : Bool) → IsSorted (without name es) → IsSorted (cond here es (e ∷ without name es))
    by true others = h.1
    by false others = (after_without e.0 name es h.0, others)

  pub none_after : (name : List ℕ) (es : List (List ℕ × X)) → AllAfter name es → named name es ≡ None
  none_after name [] h = refl
  none_after name (e ∷ es) h = ap (λ at. cond (is_eq at) (Some e.1) (named name es)) h.0 ∙ none_after name es h.1

  -- a name is there once
  pub none_without : (name : List ℕ) (es : List (List ℕ × X)) → IsSorted es → named name (without name es) ≡ None
  none_without name [] h = refl
  none_without name (e ∷ es) h = by (is_eq (cmp name e.0)) refl (none_without name es h.1) where
    by : (here : Bool) → is_eq (cmp name e.0) ≡ here → named name (without name es) ≡ None → named name (cond here es (e ∷ without name es)) ≡ None
    by true is others =
        let same : e.0 ≡ name = sym (bytes_same name e.0 (sym (is_eq-slice_cmp name e.0) ∙ is)) in
        none_after name es (let P : List ℕ → Type 0 = λ n. AllAfter n es in subst P same h.0)
    by false is others = ap (λ b. cond b (Some e.1) (named name (without name es))) is ∙ others
