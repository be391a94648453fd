-- Rows with each trace's row once: the first one.
use Rattle.std.proofs.Common.{◌≡◌, ℕ, Bool, true, false, cond, ◌||◌, List, [], ◌∷◌, filter, map, Option, Some, None, refl, sym, ap, subst, ◌∙◌, true≢false}
use Rattle.std.specs.Prelude.{⊤}
use Rattle.std.specs.List.{AllByRecursion}
use Rattle.ttree_otlp.specs.declared.item.Item.{Item}
use Rattle.ttree_otlp.specs.declared.item.Shape.{Shape}
use Rattle.ttree_otlp.specs.declared.item.Shape.TheVariants.{Trace, Span, Note, LeftOut}
use Rattle.ttree_otlp.proofs.Order.Blocks.{all_by, all_kept}
use Rattle.ttree_otlp.proofs.Order.Keys.{is_key, one_key}

abbrev pub trace_id : Shape → Option (List ℕ)
trace_id (Trace id) = Some id
trace_id (Span span) = None
trace_id (Note note) = None
trace_id (LeftOut count) = None

abbrev Seen : Type 0
Seen = List ℕ → Bool

abbrev pub also : List ℕ → (List ℕ → Bool) → List ℕ → Bool
also id seen other = is_key id other || seen other

abbrev pub put_once : Option (List ℕ) → Item → ((List ℕ → Bool) → List Item) → (List ℕ → Bool) → List Item
put_once None row rest seen = row ∷ rest seen
put_once (Some id) row rest seen = cond (seen id) (rest seen) (row ∷ rest (also id seen))

abbrev pub once : List Item → (List ℕ → Bool) → List Item
once [] seen = []
once (row ∷ rows) seen = put_once (trace_id row.shape) row (once rows) seen

abbrev AgreeAs : Option (List ℕ) → Seen → Seen → Type 0
AgreeAs None seen other = ⊤
AgreeAs (Some id) seen other = seen id ≡ other id

agree_also : (id : List ℕ) (seen other : Seen) (o : Option (List ℕ)) → AgreeAs o seen other → AgreeAs o (also id seen) (also id other)
agree_also id seen other None h = tt
agree_also id seen other (Some u) h = ap (λ b. is_key id u || b) h

agree : (rows : List Item) (seen other : Seen) → AllByRecursion (λ row. AgreeAs (trace_id row.shape) seen other) rows → once rows seen ≡ once rows other
agree [] seen other h = refl
agree (row ∷ rows) seen other h =
    by (trace_id row.shape) h.0 (agree rows seen other h.1)
    (λ id. agree rows (also id seen) (also id other) (all_by (λ r. AgreeAs (trace_id r.shape) seen other) (λ r. AgreeAs (trace_id r.shape) (also id seen) (also id other)) (λ r. agree_also id seen other (trace_id r.shape)) rows h.1))
  where
    by : (o : Option (List ℕ)) → AgreeAs o seen other → once rows seen ≡ once rows other → ((id : List ℕ) → once rows (also id seen) ≡ once rows (also id other))
        → put_once o row (once rows) seen ≡ put_once o row (once rows) other
    by None h same more = ap (λ (l : List Item). row ∷ l) same
    by (Some id) h same more = (λ i. cond (h i) (same i) (row ∷ more id i))

module _ (canon : List ℕ → Item) where
  abbrev pub CanonAs : Option (List ℕ) → Item → Type 0
  CanonAs None row = ⊤
  CanonAs (Some id) row = row ≡ canon id

  -- a trace's row is determined by its id
  abbrev pub IsCanon : Item → Type 0
  IsCanon row = CanonAs (trace_id row.shape) row

  module _ (c : Item → Bool) where
    unseen : (id : List ℕ) (seen : Seen) → c (canon id) ≡ false → (row : Item) → c row ≡ true → (o : Option (List ℕ)) → CanonAs o row → AgreeAs o (also id seen) seen
    unseen id seen fails row passes None is = tt
    unseen id seen fails row passes (Some u) is = by (is_key id u) refl where
      by : (b : Bool) → is_key id u ≡ b → b || seen u ≡ seen u
      by true same = absurd (true≢false (sym passes ∙ ap c (is ∙ ap canon (sym (one_key id u same))) ∙ fails))
      by false same = refl

    pub once_kept : (rows : List Item) (seen : List ℕ → Bool) → AllByRecursion IsCanon rows → filter c (once rows seen) ≡ once (filter c rows) seen
    once_kept [] seen h = refl
    once_kept (row ∷ rows) seen h =
        by (trace_id row.shape) (c row) refl refl h.0 (λ s. once_kept rows s h.1)
      where
        with_id : (id : List ℕ) (b s : Bool) → c row ≡ b → row ≡ canon id → ((seen : Seen) → filter c (once rows seen) ≡ once (filter c rows) seen)
            → filter c (cond s (once rows seen) (row ∷ once rows (also id seen)))
            ≡ cond b (cond s (once (filter c rows) seen) (row ∷ once (filter c rows) (also id seen))) (once (filter c rows) seen)
        with_id id true true passes is others = others seen
        with_id id false true passes is others = others seen
        with_id id true false passes is others =
            ap (λ b. cond b (row ∷ filter c (once rows (also id seen))) (filter c (once rows (also id seen)))) passes ∙ ap (λ (l : List Item). row ∷ l) (others (also id seen))
        with_id id false false fails is others =
            ap (λ b. cond b (row ∷ filter c (once rows (also id seen))) (filter c (once rows (also id seen)))) fails ∙ others (also id seen)
            ∙ agree (filter c rows) (also id seen) seen
            (all_kept IsCanon (λ r. AgreeAs (trace_id r.shape) (also id seen) seen) c (λ r passes k. unseen id seen (ap c (sym is) ∙ fails) r passes (trace_id r.shape) k) rows h.1)

        by : (o : Option (List ℕ)) (b : Bool) → trace_id row.shape ≡ o → c row ≡ b → CanonAs o row → ((seen : Seen) → filter c (once rows seen) ≡ once (filter c rows) seen)
            → filter c (put_once o row (once rows) seen) ≡ once (cond b (row ∷ filter c rows) (filter c rows)) seen
        by None true shape passes is others =
            ap (λ b. cond b (row ∷ filter c (once rows seen)) (filter c (once rows seen))) passes ∙ ap (λ (l : List Item). row ∷ l) (others seen)
            ∙ ap (λ o. put_once o row (once (filter c rows)) seen) (sym shape)
        by None false shape fails is others =
            ap (λ b. cond b (row ∷ filter c (once rows seen)) (filter c (once rows seen))) fails ∙ others seen
        by (Some id) true shape passes is others =
            with_id id true (seen id) passes is others ∙ ap (λ o. put_once o row (once (filter c rows)) seen) (sym shape)
        by (Some id) false shape fails is others = with_id id false (seen id) fails is others

  module _ (P : Item → Type 0) where
    -- what holds of each row that is left holds of each row
    pub all_once : (rows : List Item) (seen : List ℕ → Bool) → AllByRecursion IsCanon rows → ((id : List ℕ) → seen id ≡ true → P (canon id)) → AllByRecursion P (once rows seen) → AllByRecursion P rows
    all_once [] seen h k = λ p. tt
    all_once (row ∷ rows) seen h k = by (trace_id row.shape) h.0 (λ s. all_once rows s h.1) where
      by : (o : Option (List ℕ)) → CanonAs o row → ((s : Seen) → ((id : List ℕ) → s id ≡ true → P (canon id)) → AllByRecursion P (once rows s) → AllByRecursion P rows)
          → AllByRecursion P (put_once o row (once rows) seen) → P row × AllByRecursion P rows
      by None is others p = (p.0, others seen k p.1)
      by (Some id) is others p = here (seen id) refl p where
        here : (b : Bool) → seen id ≡ b → AllByRecursion P (cond b (once rows seen) (row ∷ once rows (also id seen))) → P row × AllByRecursion P rows
        here true passes q = (subst P (sym is) (k id passes), others seen k q)
        here false fails q = (q.0, others (also id seen) (λ u passes. later u (is_key id u) refl passes) q.1) where
          later : (u : List ℕ) (b : Bool) → is_key id u ≡ b → b || seen u ≡ true → P (canon u)
          later u true same passes = subst P (is ∙ ap canon (one_key id u same)) q.0
          later u false same passes = k u passes

module _ (f : Item → Item) (keeps : (row : Item) → trace_id (f row).shape ≡ trace_id row.shape) where
  pub once_mapped : (rows : List Item) (seen : List ℕ → Bool) → map f (once rows seen) ≡ once (map f rows) seen
  once_mapped [] seen = refl
  once_mapped (row ∷ rows) seen = by (trace_id row.shape) (λ s. once_mapped rows s) ∙ ap (λ o. put_once o (f row) (once (map f rows)) seen) (sym (keeps row)) where
    by : (o : Option (List ℕ)) → ((s : Seen) → map f (once rows s) ≡ once (map f rows) s) → map f (put_once o row (once rows) seen) ≡ put_once o (f row) (once (map f rows)) seen
    by None others = ap (λ (l : List Item). f row ∷ l) (others seen)
    by (Some id) others = here (seen id) where
      here : (b : Bool) → map f (cond b (once rows seen) (row ∷ once rows (also id seen))) ≡ cond b (once (map f rows) seen) (f row ∷ once (map f rows) (also id seen))
      here true = others seen
      here false = ap (λ (l : List Item). f row ∷ l) (others (also id seen))
