-- A registry stays well-formed when a span changes in all but its id and its parent, is added or is
-- removed.
use Rattle.std.proofs.Common.{◌≡◌, ℕ, ◌+◌, ◌<◌, ◌≤◌, nat_lt, ◌==◌, Bool, true, false, ◌&&◌, ◌||◌, not, List, [], ◌∷◌, ◌++◌, length, get_or, set, map, reverse, find, filter, slice_get, Option, option_map, Some, None, Result, Ok, Err, is_some, if◌then◌else◌, arith, rules, refl, sym, ap, ◌∙◌, subst}
use Rattle.std.specs.Option.{option_map_or, option_to_list}
use Rattle.std.specs.Result.{OnOk, OnErr}
use Rattle.std.specs.Bool.{then_some}
use Rattle.std.specs.List.{list_all, list_any}
use Rattle.std.proofs.lemmas.Bool.{eqb-true, not-true, and_parts, or_parts}
use Rattle.std.proofs.lemmas.List.Folds.{list_any-append, list_all-append}
use Rattle.std.proofs.lemmas.List.Elements.{filter-append}
use Rattle.std.proofs.lemmas.Bool.Decides.{nat_tests}
use Rattle.std.proofs.lemmas.Option.{slice_get_read}
use Rattle.std.proofs.lemmas.List.{reverse-append, map-append, append-nil}
use Rattle.tracing_tree_spans.specs.Registry.Ids.{id_of, same_id}
use Rattle.tracing_tree_spans.specs.Registry.Spans.{Span}
use Rattle.tracing_tree_spans.specs.Registry.Forest.{Forest, has_id, is_child_of, span_at, update_span, id_after, any_unless_live, add_span, take_back, IsGrown, IsGrownForest}
use Rattle.tracing_tree_spans.specs.Registry.Registered.{IsRising, IsKept, IsNewest, alone}
use Rattle.tracing_tree_base.specs.declared.context.Id.{Id}
use Rattle.tracing_tree_spans.proofs.SpanLists.{all_above, own_id, find-id, set_is_update}
use Rattle.tracing_tree_spans.proofs.ForestLaws.{is_some-find}

-- the forest of these spans and this next id
abbrev pub forest_of : List Span → Option Id → Forest
forest_of spans next = record { spans = spans; next = next }

-- ---- a span at its place

-- a span that is read at the place that a look-up returned, and its id
pub record IsPlace (spans : List Span) (i : Id) (at : ℕ) (s : Span) : Type 0 where
  pub read : slice_get spans at ≡ Some s
  pub found : find (has_id i) spans ≡ Some s
  pub same : s.id ≡ i

-- what is read at the place at which a search found the id is the span of this id
pub place : (spans : List Span) (i : Id) (at : ℕ) (s : Span) → (at < length spans) × (find (has_id i) spans ≡ slice_get spans at) →
    s ≡ get_or spans at s → IsPlace spans i at s
place spans i at s h e =
    let read : slice_get spans at ≡ Some s = slice_get_read spans (length spans) at s refl h.0 e in
    record { read = read; found = h.1 ∙ read; same = find-id spans i s (h.1 ∙ read) }

-- ---- a change of a span

-- the id and the parent stay
pub record IsSame (change : Span → Span) : Type 0 where
  pub ids : (s : Span) → (change s).id ≡ s.id
  pub parents : (s : Span) → (change s).parent ≡ s.parent

-- a change of the span with one id
abbrev pub changed : (Span → Span) → Id → Span → Span
changed change i span = if has_id i span then change span else span

-- a change of the span with one id keeps ids and parents, if the change does
pub changed-same : (change : Span → Span) (i : Id) → IsSame change → IsSame (changed change i)
changed-same change i h = record {
  ids = λ s. elim (has_id i s) as (λ b. (if b then change s else s).id ≡ s.id) [ true ↦ h.ids s | false ↦ refl ];
  parents = λ s. elim (has_id i s) as (λ b. (if b then change s else s).parent ≡ s.parent) [ true ↦ h.parents s | false ↦ refl ];
}

-- the same ids are among changed spans
pub any-changed : (u : Span → Span) → IsSame u → (i : Id) (spans : List Span) → list_any (has_id i) (map u spans) ≡ list_any (has_id i) spans
any-changed u h i [] = refl
any-changed u h i (x ∷ spans) =
    ap (λ (j : Id). same_id j i || list_any (has_id i) (map u spans)) (h.ids x) ∙ ap (λ b. has_id i x || b) (any-changed u h i spans)

-- changed spans are above the same numbers
above-changed : (u : Span → Span) → IsSame u → (n : ℕ) (spans : List Span) → all_above n (map u spans) ≡ all_above n spans
above-changed u h n [] = refl
above-changed u h n (x ∷ spans) =
    ap (λ (j : Id). nat_lt n j.0 && all_above n (map u spans)) (h.ids x) ∙ ap (λ b. nat_lt n x.id.0 && b) (above-changed u h n spans)

-- all of these ids are below this number
abbrev pub all_below : ℕ → List Span → Bool
all_below n spans = list_all (λ span. nat_lt span.id.0 n) spans

-- changed spans are below the same numbers
pub below-changed : (u : Span → Span) → IsSame u → (n : ℕ) (spans : List Span) → all_below n (map u spans) ≡ all_below n spans
below-changed u h n [] = refl
below-changed u h n (x ∷ spans) =
    ap (λ (j : Id). nat_lt j.0 n && all_below n (map u spans)) (h.ids x) ∙ ap (λ b. nat_lt x.id.0 n && b) (below-changed u h n spans)

-- changed spans still rise
pub rising-changed : (u : Span → Span) → IsSame u → (spans : List Span) → IsRising spans → IsRising (map u spans)
rising-changed u h [] rising = tt
rising-changed u h (x ∷ spans) rising =
    (ap (λ (j : Id). all_above j.0 (map u spans)) (h.ids x) ∙ above-changed u h x.id.0 spans ∙ rising.0, rising-changed u h spans rising.1)

-- a parent is still among changed spans
parent-changed : (u : Span → Span) → IsSame u → (spans : List Span) (o : Option Id) →
    option_map_or (λ above. list_any (has_id above) (map u spans)) o true ≡ option_map_or (λ above. list_any (has_id above) spans) o true
parent-changed u h spans None = refl
parent-changed u h spans (Some above) = any-changed u h above spans

-- changed spans are still well-formed
pub grown-changed : (u : Span → Span) → IsSame u → (spans : List Span) → IsGrown spans → IsGrown (map u spans)
grown-changed u h [] grown = tt
grown-changed u h (x ∷ spans) grown = (
  ap (λ (j : Id). not (list_any (has_id j) (map u spans))) (h.ids x) ∙ ap (λ b. not b) (any-changed u h x.id spans) ∙ grown.0,
  ap (λ o. option_map_or (λ above. list_any (has_id above) (map u spans)) o true) (h.parents x)
      ∙ parent-changed u h spans x.parent ∙ grown.1,
  grown-changed u h spans grown.2,
)

-- a span is found changed
pub find-same : (u : Span → Span) → IsSame u → (i : Id) (spans : List Span) → find (has_id i) (map u spans) ≡ option_map u (find (has_id i) spans)
find-same u h i [] = refl
find-same u h i (x ∷ spans) = ap (λ (k : Id). if same_id k i then Some (u x) else find (has_id i) (map u spans)) (h.ids x) ∙ by (find-same u h i spans) (has_id i x) refl
  where
    by : find (has_id i) (map u spans) ≡ option_map u (find (has_id i) spans) → (b : Bool) → has_id i x ≡ b →
        (if has_id i x then Some (u x) else find (has_id i) (map u spans)) ≡ option_map u (find (has_id i) (x ∷ spans))
    by ih true e = rw e refl
    by ih false e = rw e ih

-- a change of each span commutes with reversing
pub reverse-map : (u : Span → Span) (spans : List Span) → reverse (map u spans) ≡ map u (reverse spans)
reverse-map u [] = refl
reverse-map u (x ∷ spans) =
    reverse-append (u x ∷ []) (map u spans) ∙ ap (λ xs. xs ++ u x ∷ []) (reverse-map u spans)
    ∙ sym (map-append u (reverse spans) (x ∷ [])) ∙ ap (map u) (sym (reverse-append (x ∷ []) spans))

-- changed spans are still below the next id
next-changed : (u : Span → Span) → IsSame u → (spans : List Span) (o : Option Id) →
    option_map_or (λ (next : Id). all_below next.0 (map u spans)) o true ≡ option_map_or (λ (next : Id). all_below next.0 spans) o true
next-changed u h spans None = refl
next-changed u h spans (Some next) = below-changed u h next.0 spans

-- a forest in which a span has changed
pub forest-updated : (change : Span → Span) → IsSame change → (i : Id) (forest : Forest) → IsGrownForest forest → IsGrownForest (update_span change i forest)
forest-updated change same i forest formed =
    let h : IsSame (changed change i) = changed-same change i same in
    record {
      grown = subst IsGrown (sym (reverse-map (changed change i) forest.spans))
          (grown-changed (changed change i) h (reverse forest.spans) formed.grown);
      below_next = next-changed (changed change i) h forest.spans forest.next ∙ formed.below_next;
    }

-- the span at its place is overwritten by its changed self
pub kept-set : (change : Span → Span) → IsSame change → (spans : List Span) (next : Option Id) (at : ℕ) (s : Span) → IsKept spans next →
    slice_get spans at ≡ Some s → IsKept (set spans at (change s)) next
kept-set change same spans next at s kept read =
    subst (λ xs. IsKept xs next) (sym (set_is_update change spans at s kept.1 read)) (
      forest-updated change same s.id (record { spans = spans; next = next }) kept.0,
      rising-changed (changed change s.id) (changed-same change s.id same) spans kept.1,
      below-changed (changed change s.id) (changed-same change s.id same) 18_446_744_073_709_551_616 spans ∙ kept.2,
    )

-- the forest with the changed span at its place
pub forest-set : (change : Span → Span) (forest : Forest) (at : ℕ) (i : Id) (s : Span) → IsRising forest.spans →
    IsPlace forest.spans i at s → record { spans = set forest.spans at (change s); next = forest.next } ≡ update_span change i forest
forest-set change forest at i s rising h =
    let spans : set forest.spans at (change s) ≡ map (changed change i) forest.spans =
    set_is_update change forest.spans at s rising h.read ∙ ap (λ j. map (changed change j) forest.spans) h.same in
    λ k. record { spans = spans k; next = forest.next }

-- a change of an id that is not found changes nothing
unchanged : (change : Span → Span) (i : Id) (spans : List Span) → find (has_id i) spans ≡ None → map (changed change i) spans ≡ spans
unchanged change i [] h = refl
unchanged change i (x ∷ spans) h = by (λ k. unchanged change i spans k) (has_id i x) refl
  where
    by : (find (has_id i) spans ≡ None → map (changed change i) spans ≡ spans) → (b : Bool) → has_id i x ≡ b →
        map (changed change i) (x ∷ spans) ≡ x ∷ spans
    by ih true e = absurd (let g : Some x ≡ None = subst (λ b. (if b then Some x else find (has_id i) spans) ≡ None) e h in cc)
    by ih false e = rw e (ap (λ xs. x ∷ xs) (ih (subst (λ b. (if b then Some x else find (has_id i) spans) ≡ None) e h)))

-- a change of an id that isn't live changes nothing
pub forest-unchanged : (change : Span → Span) (i : Id) (forest : Forest) → span_at forest i ≡ None → forest ≡ update_span change i forest
forest-unchanged change i forest h =
    let spans : forest.spans ≡ map (changed change i) forest.spans = sym (unchanged change i forest.spans h) in
    λ k. record { spans = spans k; next = forest.next }

-- ---- a write at the place of a span

-- what holds anyway holds after an error
pub on_error : {A E P : Type 0} (result : Result A E) → P → OnErr result P
on_error (Ok answer) p = tt
on_error (Err error) p = p

-- the registry keeps its invariant if a span is overwritten by its changed self
pub kept-write : (change : Span → Span) → IsSame change → (spans : List Span) (next : Option Id) (i : Id) (at : ℕ) (s new : Span) →
    IsKept spans next → IsPlace spans i at s → new ≡ change s → IsKept (set spans at new) next
kept-write change same spans next i at s new kept h e = rw e (kept-set change same spans next at s kept h.read)

-- and its forest is the one with this change
pub forest-write : (change : Span → Span) (spans : List Span) (next : Option Id) (old : Forest) (i : Id) (at : ℕ) (s new : Span) →
    record { spans = spans; next = next } ≡ old → IsRising spans → IsPlace spans i at s → new ≡ change s →
    record { spans = set spans at new; next = next } ≡ update_span change i old
forest-write change spans next old i at s new view rising h e =
    subst (λ forest. record { spans = set spans at new; next = next } ≡ update_span change i forest) view
    (rw e (forest-set change (record { spans = spans; next = next }) at i s rising h))

-- the same of a change that may fail and keep the span
pub kept-attempt : {X E : Type 0} (change : Span → Span) → IsSame change → (r : Result X E) (spans : List Span) (next : Option Id)
    (i : Id) (at : ℕ) (s new : Span) → IsKept spans next → IsPlace spans i at s → OnOk r (new ≡ change s) → OnErr r (new ≡ s) →
    IsKept (set spans at new) next
kept-attempt change same (Ok x) spans next i at s new kept h ok err = kept-write change same spans next i at s new kept h ok
kept-attempt change same (Err e) spans next i at s new kept h ok err =
    kept-write (λ s. s) (record { ids = λ s. refl; parents = λ s. refl }) spans next i at s new kept h err

-- if it doesn't fail, the forest is the one with this change
pub forest-attempt : {X E : Type 0} (change : Span → Span) (r : Result X E) (spans : List Span) (next : Option Id) (old : Forest)
    (i : Id) (at : ℕ) (s new : Span) → record { spans = spans; next = next } ≡ old → IsRising spans → IsPlace spans i at s →
    OnOk r (new ≡ change s) → OnOk r (record { spans = set spans at new; next = next } ≡ update_span change i old)
forest-attempt change (Ok x) spans next old i at s new view rising h ok = forest-write change spans next old i at s new view rising h ok
forest-attempt change (Err e) spans next old i at s new view rising h ok = tt

-- only a live span's change can fail
pub live-attempt : {X E : Type 0} (r : Result X E) (spans : List Span) (next : Option Id) (old : Forest) (i : Id) (at : ℕ) (s : Span) →
    record { spans = spans; next = next } ≡ old → IsPlace spans i at s → OnErr r (span_at old i ≡ None → ⊥)
live-attempt (Ok x) spans next old i at s view h = tt
live-attempt (Err e) spans next old i at s view h =
    (λ none. let found : Some s ≡ None = sym h.found ∙ ap (λ (forest : Forest). span_at forest i) view ∙ none in cc)

-- ---- a new span

-- a test has the same result in reverse order
pub any-reverse : (p : Span → Bool) (spans : List Span) → list_any p (reverse spans) ≡ list_any p spans
any-reverse p [] = refl
any-reverse p (x ∷ spans) =
    ap (λ xs. list_any p xs) (reverse-append (x ∷ []) spans) ∙ list_any-append p (reverse spans) (x ∷ [])
    ∙ ap (λ b. b || list_any p (x ∷ [])) (any-reverse p spans) ∙ grind (arith, rules)

-- ids that are below a number are not above it
pub fresh-below : (n : ℕ) (i : Id) (spans : List Span) → all_below n spans ≡ true → n ≤ i.0 → list_any (has_id i) spans ≡ false
fresh-below n i [] h le = refl
fresh-below n i (x ∷ spans) h le =
    let parts = and_parts (nat_lt x.id.0 n) (all_below n spans) h in
    let other : has_id i x ≡ false = grind (arith, nat_tests, parts.0) in
    rw other (fresh-below n i spans parts.1 le)

-- what is below a number is below a greater one
pub below-more : (n m : ℕ) (spans : List Span) → all_below n spans ≡ true → n ≤ m → all_below m spans ≡ true
below-more n m [] h le = refl
below-more n m (x ∷ spans) h le =
    let parts = and_parts (nat_lt x.id.0 n) (all_below n spans) h in
    let first : nat_lt x.id.0 m ≡ true = grind (arith, nat_tests, parts.0) in
    rw first (below-more n m spans parts.1 le)

-- with one more below a number all are below it
below-push : (n : ℕ) (spans : List Span) (s : Span) → all_below n spans ≡ true → s.id.0 < n → all_below n (spans ++ s ∷ []) ≡ true
below-push n spans s h lt =
    let last : nat_lt s.id.0 n ≡ true = grind (arith, nat_tests) in
    list_all-append (λ (span : Span). nat_lt span.id.0 n) spans (s ∷ []) ∙ rw (h, last) refl

-- with one more above a number all are above it
above-push : (n : ℕ) (spans : List Span) (s : Span) → all_above n spans ≡ true → n < s.id.0 → all_above n (spans ++ s ∷ []) ≡ true
above-push n spans s h lt =
    let last : nat_lt n s.id.0 ≡ true = grind (arith, nat_tests) in
    list_all-append (λ (span : Span). nat_lt n span.id.0) spans (s ∷ []) ∙ rw (h, last) refl

-- with one more of a higher id spans rise
rising-push : (spans : List Span) (s : Span) → IsRising spans → all_below s.id.0 spans ≡ true → IsRising (spans ++ s ∷ [])
rising-push [] s rising h = (refl, tt)
rising-push (x ∷ spans) s rising h =
    let parts = and_parts (nat_lt x.id.0 s.id.0) (all_below s.id.0 spans) h in
    (above-push x.id.0 spans s rising.0 (grind (arith, nat_tests, parts.0)), rising-push spans s rising.1 parts.1)

-- a parent among the spans is among the reversed spans
parent-turned : (spans : List Span) (o : Option Id) → option_map_or (λ above. is_some (find (has_id above) spans)) o true ≡ true →
    option_map_or (λ above. list_any (has_id above) (reverse spans)) o true ≡ true
parent-turned spans None h = refl
parent-turned spans (Some above) h = any-reverse (has_id above) spans ∙ sym (is_some-find (has_id above) spans) ∙ h

-- with the span that has the next id all are below the id after it
below-after : (i : Id) (spans : List Span) (s : Span) → all_below i.0 spans ≡ true → s.id ≡ i →
    option_map_or (λ (next : Id). all_below next.0 (spans ++ s ∷ [])) (id_after i) true ≡ true
below-after i spans s h same = elim (i.0 == 18_446_744_073_709_551_615) as (λ b.
    option_map_or (λ (next : Id). all_below next.0 (spans ++ s ∷ [])) (if b then None else Some (id_of (i.0 + 1))) true ≡ true) [
      | true ↦ refl
      | false ↦
          let number = ap (λ (j : Id). j.0) same in
          below-push (i.0 + 1) spans s (below-more i.0 (i.0 + 1) spans h (omega arith)) (omega arith)
    ]

-- the registry keeps its invariant if a span is added that has the next id and a live parent
pub kept-push : (spans : List Span) (i : Id) (s : Span) → IsKept spans (Some i) → s.id ≡ i → i.0 < 18_446_744_073_709_551_616 →
    option_map_or (λ above. is_some (find (has_id above) spans)) s.parent true ≡ true → IsKept (spans ++ s ∷ []) (id_after i)
kept-push spans i s kept same range parent =
    let below : all_below i.0 spans ≡ true = kept.0.below_next in
    let number : s.id.0 ≡ i.0 = ap (λ (j : Id). j.0) same in
    let fresh : list_any (has_id s.id) (reverse spans) ≡ false = any-reverse (has_id s.id) spans ∙ fresh-below i.0 s.id spans below (omega arith) in (
      record {
        grown = subst IsGrown (sym (reverse-append spans (s ∷ []))) (rw fresh refl, parent-turned spans s.parent parent, kept.0.grown);
        below_next = below-after i spans s below same;
      },
      rising-push spans s kept.1 (below-more i.0 s.id.0 spans below (omega arith)),
      below-push 18_446_744_073_709_551_616 spans s kept.2 (omega arith),
    )

-- ---- the newest span is removed

-- without the last, rising spans rise, and are below it
rising-init : (spans : List Span) (s : Span) → IsRising (spans ++ s ∷ []) → IsRising spans × (all_below s.id.0 spans ≡ true)
rising-init [] s rising = (tt, refl)
rising-init (x ∷ spans) s rising =
    let rest = rising-init spans s rising.1 in
    let parts = and_parts (all_above x.id.0 spans) (all_above x.id.0 (s ∷ []))
    (sym (list_all-append (λ (span : Span). nat_lt x.id.0 span.id.0) spans (s ∷ [])) ∙ rising.0) in
    let first : nat_lt x.id.0 s.id.0 ≡ true = (and_parts (nat_lt x.id.0 s.id.0) true parts.1).0 in
    ((parts.0, rest.0), rw first rest.1)

-- without the last, spans are below the same number, and so is the last
below-init : (n : ℕ) (spans : List Span) (s : Span) → all_below n (spans ++ s ∷ []) ≡ true → (all_below n spans ≡ true) × (s.id.0 < n)
below-init n spans s h =
    let parts = and_parts (all_below n spans) (all_below n (s ∷ []))
    (sym (list_all-append (λ (span : Span). nat_lt span.id.0 n) spans (s ∷ [])) ∙ h) in
    let last = (and_parts (nat_lt s.id.0 n) true parts.1).0 in
    (parts.0, grind (arith, nat_tests))

-- the last of the spans is at most the last id that was used
last-below : (spans : List Span) (s : Span) (i : Id) (b : Bool) → (i.0 == 18_446_744_073_709_551_615) ≡ b →
    option_map_or (λ (next : Id). all_below next.0 (spans ++ s ∷ [])) (if b then None else Some (id_of (i.0 + 1))) true ≡ true →
    s.id.0 < 18_446_744_073_709_551_616 → s.id.0 ≤ i.0
last-below spans s i true e h range = let top = eqb-true i.0 18_446_744_073_709_551_615 e in omega arith
last-below spans s i false e h range = let parts = below-init (i.0 + 1) spans s h in omega (arith, parts.1)

-- if all ids are below this one, removing this id keeps all
pub all_kept-below : (n : ℕ) (i : Id) (spans : List Span) → all_below n spans ≡ true → n ≤ i.0 → filter (λ span. not (has_id i span)) spans ≡ spans
all_kept-below n i [] h le = refl
all_kept-below n i (x ∷ spans) h le =
    let parts = and_parts (nat_lt x.id.0 n) (all_below n spans) h in
    let other : has_id i x ≡ false = grind (arith, nat_tests, parts.0) in
    rw other (ap (λ xs. x ∷ xs) (all_kept-below n i spans parts.1 le))

-- the last of the spans has the last id that was used, if that is live
last-is : (spans : List Span) (s : Span) (i : Id) → IsKept (spans ++ s ∷ []) (id_after i) →
    is_some (find (has_id i) (spans ++ s ∷ [])) ≡ true → s.id ≡ i
last-is spans s i kept live =
    let range = below-init 18_446_744_073_709_551_616 spans s kept.2 in
    let most : s.id.0 ≤ i.0 = last-below spans s i (i.0 == 18_446_744_073_709_551_615) refl kept.0.below_next range.1 in
    let init = rising-init spans s kept.1 in
    by most init.1 (nat_lt s.id.0 i.0) refl
  where
    by : s.id.0 ≤ i.0 → all_below s.id.0 spans ≡ true → (b : Bool) → nat_lt s.id.0 i.0 ≡ b → s.id ≡ i
    by most below true e =
        let less : s.id.0 < i.0 = grind (arith, nat_tests) in
        let fresh : list_any (has_id i) (spans ++ s ∷ []) ≡ false =
        fresh-below i.0 i (spans ++ s ∷ []) (below-push i.0 spans s (below-more s.id.0 i.0 spans below most) less) (omega arith) in
        let found : list_any (has_id i) (spans ++ s ∷ []) ≡ true = sym (is_some-find (has_id i) (spans ++ s ∷ [])) ∙ live in
        absurd (let both : true ≡ false = sym found ∙ fresh in cc)
    by most below false e = let same : s.id.0 ≡ i.0 = grind (arith, nat_tests) in ap id_of same

-- without its newest span the registry keeps its invariant, and that span's id is the next one
pub kept-pop : (spans : List Span) (s : Span) (i : Id) → IsKept (spans ++ s ∷ []) (id_after i) →
    is_some (find (has_id i) (spans ++ s ∷ [])) ≡ true → IsKept spans (Some i)
kept-pop spans s i kept live =
    let same = last-is spans s i kept live in
    let init = rising-init spans s kept.1 in
    let grown : IsGrown (s ∷ reverse spans) = subst IsGrown (reverse-append spans (s ∷ [])) kept.0.grown in (
      record {
        grown = grown.2;
        below_next = subst (λ (j : Id). all_below j.0 spans ≡ true) same init.1;
      },
      init.0,
      (below-init 18_446_744_073_709_551_616 spans s kept.2).0,
    )

-- all spans but the newest are those of other ids
pub pop_is_filter : (spans : List Span) (s : Span) (i : Id) → IsKept (spans ++ s ∷ []) (id_after i) →
    is_some (find (has_id i) (spans ++ s ∷ [])) ≡ true → spans ≡ filter (λ span. not (has_id i span)) (spans ++ s ∷ [])
pop_is_filter spans s i kept live =
    let same = last-is spans s i kept live in
    let init = rising-init spans s kept.1 in
    let own : has_id i s ≡ true = subst (λ j. has_id j s ≡ true) same (own_id s) in
    let last : filter (λ span. not (has_id i span)) (s ∷ []) ≡ [] = rw own refl in
    let number : s.id.0 ≡ i.0 = ap (λ (j : Id). j.0) same in
    sym (filter-append (λ span. not (has_id i span)) spans (s ∷ [])
    ∙ ap (λ xs. filter (λ span. not (has_id i span)) spans ++ xs) last
    ∙ append-nil (filter (λ span. not (has_id i span)) spans)
    ∙ all_kept-below s.id.0 i spans init.1 (omega arith))

-- both laws, of what a pop leaves of spans with a live one
pub taken-back : (old new : List Span) (taken : Option Span) (next : Option Id) (i : Id) → IsKept old next →
    IsNewest i (forest_of old next) → old ≡ new ++ option_to_list taken → (taken ≡ None → length old ≡ 0) →
    IsKept new (Some i) × (forest_of new (Some i) ≡ take_back i (forest_of old next))
taken-back old new None next i kept newest e none =
    let empty : old ≡ [] = nothing old (none refl) in
    let dead : is_some (find (has_id i) old) ≡ false = rw empty refl in
    absurd (let both : true ≡ false = sym newest.live ∙ dead in cc)
  where
    nothing : (xs : List Span) → length xs ≡ 0 → xs ≡ []
    nothing [] h = refl
    nothing (x ∷ xs) h = absurd (omega arith)
taken-back old new (Some s) next i kept newest e none =
    let kept' : IsKept (new ++ s ∷ []) (id_after i) = subst (λ xs. IsKept xs (id_after i)) e (subst (λ o. IsKept old o) newest.newest kept) in
    let live : is_some (find (has_id i) (new ++ s ∷ [])) ≡ true = subst (λ xs. is_some (find (has_id i) xs) ≡ true) e newest.live in
    let spans : new ≡ filter (λ span. not (has_id i span)) old =
    pop_is_filter new s i kept' live ∙ ap (λ xs. filter (λ span. not (has_id i span)) xs) (sym e) in
    (kept-pop new s i kept' live, λ k. forest_of (spans k) (Some i))

-- ---- a new span, as the code makes it

-- a parent that isn't missing is live, if there is one
pub parent-live : (spans : List Span) (o : Option Id) → any_unless_live (alone spans) o ≡ None →
    option_map_or (λ above. is_some (find (has_id above) spans)) o true ≡ true
parent-live spans None h = refl
parent-live spans (Some above) h = by (is_some (find (has_id above) spans)) h
  where
    by : (b : Bool) → then_some (not b) above ≡ None → b ≡ true
    by true e = refl
    by false e = absurd (let some : Some above ≡ None = e in cc)

-- the spans after a push of a span with the next id
pub kept-new : (spans new : List Span) (next after : Option Id) (i : Id) (s : Span) → IsKept spans next → next ≡ Some i → s.id ≡ i →
    i.0 < 18_446_744_073_709_551_616 → any_unless_live (alone spans) s.parent ≡ None → new ≡ spans ++ s ∷ [] → after ≡ id_after i →
    IsKept new after
kept-new spans new next after i s kept here same range found pushed following =
    rw (pushed, following) (kept-push spans i s (subst (λ o. IsKept spans o) here kept) same range (parent-live spans s.parent found))

-- and the forest after it
pub forest-new : (spans new : List Span) (next after : Option Id) (s : Span) (old : Forest) → forest_of spans next ≡ old →
    new ≡ spans ++ s ∷ [] → after ≡ id_after s.id → forest_of new after ≡ add_span s old
forest-new spans new next after s old view pushed following =
    let more : spans ++ s ∷ [] ≡ old.spans ++ s ∷ [] = ap (λ (forest : Forest). forest.spans ++ s ∷ []) view in
    λ k. forest_of ((pushed ∙ more) k) (following k)

-- ---- a span without children is removed

-- what no span has, no span of a part has
any-filter : (p q : Span → Bool) (spans : List Span) → list_any p spans ≡ false → list_any p (filter q spans) ≡ false
any-filter p q [] h = refl
any-filter p q (x ∷ spans) h =
    let parts = or_parts (p x) (list_any p spans) h in
    let rest = any-filter p q spans parts.1 in
    elim (q x) as (λ b. list_any p (if b then x ∷ filter q spans else filter q spans) ≡ false) [ true ↦ rw parts.0 rest | false ↦ rest ]

-- what all have, all of a part have
all-filter : (p q : Span → Bool) (spans : List Span) → list_all p spans ≡ true → list_all p (filter q spans) ≡ true
all-filter p q [] h = refl
all-filter p q (x ∷ spans) h =
    let parts = and_parts (p x) (list_all p spans) h in
    let rest = all-filter p q spans parts.1 in
    elim (q x) as (λ b. list_all p (if b then x ∷ filter q spans else filter q spans) ≡ true) [ true ↦ rw parts.0 rest | false ↦ rest ]

-- the spans without the one of this id
abbrev pub without : Id → List Span → List Span
without i spans = filter (λ span. not (has_id i span)) spans

-- a span with one id has no other id
pub other-id : (i j : Id) (x : Span) → same_id i j ≡ false → has_id i x ≡ true → has_id j x ≡ false
other-id i j x h e = grind (arith, nat_tests)

-- another id is still among the spans
any-without : (i j : Id) (spans : List Span) → same_id i j ≡ false → list_any (has_id j) (without i spans) ≡ list_any (has_id j) spans
any-without i j [] h = refl
any-without i j (x ∷ spans) h = by (any-without i j spans h) (has_id i x) refl
  where
    by : list_any (has_id j) (without i spans) ≡ list_any (has_id j) spans → (b : Bool) → has_id i x ≡ b →
        list_any (has_id j) (without i (x ∷ spans)) ≡ list_any (has_id j) (x ∷ spans)
    by ih true e = rw (e, other-id i j x h e) ih
    by ih false e = rw e (ap (λ b. has_id j x || b) ih)

-- a parent that is another is still among the spans
parent-without : (i : Id) (spans : List Span) (o : Option Id) → option_map_or (same_id i) o false ≡ false →
    option_map_or (λ above. list_any (has_id above) spans) o true ≡ true →
    option_map_or (λ above. list_any (has_id above) (without i spans)) o true ≡ true
parent-without i spans None h live = refl
parent-without i spans (Some above) h live = any-without i above spans h ∙ live

-- without a span that isn't a parent the spans are well-formed
pub grown-without : (i : Id) (spans : List Span) → IsGrown spans → list_any (is_child_of i) spans ≡ false → IsGrown (without i spans)
grown-without i [] grown h = tt
grown-without i (x ∷ spans) grown h =
    by (grown-without i spans grown.2 (or_parts (is_child_of i x) (list_any (is_child_of i) spans) h).1) (has_id i x) refl
  where
    by : IsGrown (without i spans) → (b : Bool) → has_id i x ≡ b → IsGrown (without i (x ∷ spans))
    by ih true e = rw e ih
    by ih false e =
        let fresh : list_any (has_id x.id) (without i spans) ≡ false =
        any-filter (has_id x.id) (λ span. not (has_id i span)) spans (not-true (list_any (has_id x.id) spans) grown.0) in
        let parts = or_parts (is_child_of i x) (list_any (is_child_of i) spans) h in
        let all : IsGrown (x ∷ without i spans) = (rw fresh refl, parent-without i spans x.parent parts.0 grown.1, ih) in
        rw e all

-- a choice of spans commutes with reversing
pub reverse-filter : (p : Span → Bool) (spans : List Span) → reverse (filter p spans) ≡ filter p (reverse spans)
reverse-filter p [] = refl
reverse-filter p (x ∷ spans) = by (reverse-filter p spans) (p x) refl
  where
    turned : filter p (reverse (x ∷ spans)) ≡ filter p (reverse spans) ++ filter p (x ∷ [])
    turned = ap (λ xs. filter p xs) (reverse-append (x ∷ []) spans) ∙ filter-append p (reverse spans) (x ∷ [])

    by : reverse (filter p spans) ≡ filter p (reverse spans) → (b : Bool) → p x ≡ b → reverse (filter p (x ∷ spans)) ≡ filter p (reverse (x ∷ spans))
    by ih true e =
        let one : filter p (x ∷ []) ≡ x ∷ [] = rw e refl in
        let first : filter p (x ∷ spans) ≡ x ∷ filter p spans = rw e refl in
        ap (λ (xs : List Span). reverse xs) first ∙ reverse-append (x ∷ []) (filter p spans)
        ∙ ap (λ xs. xs ++ x ∷ []) ih ∙ ap (λ xs. filter p (reverse spans) ++ xs) (sym one) ∙ sym turned
    by ih false e =
        let one : filter p (x ∷ []) ≡ [] = rw e refl in
        let first : filter p (x ∷ spans) ≡ filter p spans = rw e refl in
        ap (λ (xs : List Span). reverse xs) first ∙ ih ∙ sym (append-nil (filter p (reverse spans)))
        ∙ ap (λ xs. filter p (reverse spans) ++ xs) (sym one) ∙ sym turned

-- a part of rising spans rises
rising-filter : (p : Span → Bool) (spans : List Span) → IsRising spans → IsRising (filter p spans)
rising-filter p [] rising = tt
rising-filter p (x ∷ spans) rising = by (rising-filter p spans rising.1) (p x) refl
  where
    by : IsRising (filter p spans) → (b : Bool) → p x ≡ b → IsRising (filter p (x ∷ spans))
    by ih true e =
        let all : IsRising (x ∷ filter p spans) = (all-filter (λ other. nat_lt x.id.0 other.id.0) p spans rising.0, ih) in rw e all
    by ih false e = rw e ih

-- a part of the spans is below the next id
next-filter : (p : Span → Bool) (spans : List Span) (o : Option Id) → option_map_or (λ (next : Id). all_below next.0 spans) o true ≡ true →
    option_map_or (λ (next : Id). all_below next.0 (filter p spans)) o true ≡ true
next-filter p spans None h = refl
next-filter p spans (Some next) h = all-filter (λ span. nat_lt span.id.0 next.0) p spans h

-- the registry keeps its invariant if a span without children is removed
pub kept-without : (i : Id) (spans : List Span) (next : Option Id) → IsKept spans next → list_any (is_child_of i) spans ≡ false →
    IsKept (without i spans) next
kept-without i spans next kept h = (
  record {
    grown = subst IsGrown (sym (reverse-filter (λ span. not (has_id i span)) spans))
        (grown-without i (reverse spans) kept.0.grown (any-reverse (is_child_of i) spans ∙ h));
    below_next = next-filter (λ span. not (has_id i span)) spans next kept.0.below_next;
  },
  rising-filter (λ span. not (has_id i span)) spans kept.1,
  all-filter (λ span. nat_lt span.id.0 18_446_744_073_709_551_616) (λ span. not (has_id i span)) spans kept.2,
)
