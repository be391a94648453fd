-- The traces and spans that there are, and the earliest time of each trace, don't depend on the order
-- of effects.
use Rattle.std.proofs.Common.{◌≡◌, ℕ, Bool, true, false, cond, min, ◌||◌, List, [], ◌∷◌, ◌++◌, map, flat_map, IsPermutation, Option, Some, None, is_some, refl, sym, ap, ◌∙◌, true≢false, arith, rules}
use Rattle.std.specs.Prelude.{⊤}
use Rattle.std.specs.List.{AllByRecursion}
use Rattle.ttree_otlp.specs.Gather.{GatheredState, at_earliest, in_known_span, resolved, resolved_as, trace_seen_as}
use Rattle.ttree_otlp.specs.Keyed.{key_of, kept_at, with_kept}
use Rattle.ttree_otlp.specs.Ties.{has_space}
use Rattle.ttree_otlp.specs.declared.item.Item.{Item}
use Rattle.ttree_otlp.specs.declared.item.Shape.{Shape}
use Rattle.ttree_otlp.specs.declared.item.Shape.TheVariants.{Trace, Span, Note, LeftOut}
use Rattle.ttree_otlp.proofs.Order.Effects.{Effect, IsPlain, Known, Line, Lost, Row, Seen, Serves, all_done, done, some_if}
use Rattle.ttree_otlp.proofs.Order.Keys.{is_key, kept_with, one_key}
use Rattle.ttree_otlp.proofs.Order.Once.{trace_id}
use Rattle.ttree_otlp.proofs.Order.TraceKeys.{span_keys, trace_keys}
use Rattle.ttree_otlp.proofs.Order.Turns.{EachTwo, folded, folded_permuted}

-- ---- what there is

abbrev pub sets : List ℕ → Effect → Bool
sets key (Row row) = false
sets key (Seen trace time) = is_key key (key_of trace [])
sets key (Known trace id start) = is_key key (key_of trace id)
sets key Lost = false
sets key (Serves service) = false
sets key Line = false

abbrev pub sets_in : List ℕ → List Effect → Bool
sets_in key [] = false
sets_in key (e ∷ es) = sets key e || sets_in key es

or_moves : (a b c : Bool) → b || (a || c) ≡ (a || b) || c
or_moves true true c = refl
or_moves true false c = refl
or_moves false true c = refl
or_moves false false c = refl

or_swaps : (a b c : Bool) → a || (b || c) ≡ b || (a || c)
or_swaps true true c = refl
or_swaps true false c = refl
or_swaps false true c = refl
or_swaps false false c = refl

some_with : (q key : List ℕ) (time : ℕ) (known : List (List ℕ × ℕ)) → is_some (kept_at q (with_kept key time known)) ≡ is_key q key || is_some (kept_at q known)
some_with q key time known = ap is_some (kept_with q key time known) ∙ some_if (is_key q key) time (kept_at q known)

known_by : (q : List ℕ) (e : Effect) (s : GatheredState) → is_some (kept_at q (done e s).known) ≡ sets q e || is_some (kept_at q s.known)
known_by q (Row row) s = refl
known_by q (Seen trace time) s = by (kept_at (key_of trace []) s.known) where
  by : (o : Option ℕ) → is_some (kept_at q (trace_seen_as o trace time s).known) ≡ is_key q (key_of trace []) || is_some (kept_at q s.known)
  by (Some earliest) = some_with q (key_of trace []) (min earliest time) s.known
  by None = some_with q (key_of trace []) time s.known
known_by q (Known trace id start) s = some_with q (key_of trace id) start s.known
known_by q Lost s = refl
known_by q (Serves service) s = refl
known_by q Line s = refl

pub known_in : (q : List ℕ) (es : List Effect) (s : GatheredState) → is_some (kept_at q (all_done es s).known) ≡ sets_in q es || is_some (kept_at q s.known)
known_in q [] s = refl
known_in q (e ∷ es) s = known_in q es (done e s) ∙ ap (λ b. sets_in q es || b) (known_by q e s) ∙ or_moves (sets q e) (sets_in q es) (is_some (kept_at q s.known))

sets_joined : (q : List ℕ) (es fs : List Effect) → sets_in q (es ++ fs) ≡ sets_in q es || sets_in q fs
sets_joined q [] fs = refl
sets_joined q (e ∷ es) fs = ap (λ b. sets q e || b) (sets_joined q es fs) ∙ or_again (sets q e) (sets_in q es) (sets_in q fs) where
  or_again : (a b c : Bool) → a || (b || c) ≡ (a || b) || c
  or_again true b c = refl
  or_again false b c = refl

-- ---- the earliest time of a trace

abbrev lesser : Option ℕ → Option ℕ → Option ℕ
lesser None o = o
lesser (Some a) None = Some a
lesser (Some a) (Some b) = Some (min a b)

abbrev time_of_effect : List ℕ → Effect → Option ℕ
time_of_effect trace (Row row) = None
time_of_effect trace (Seen other time) = cond (is_key other trace) (Some time) None
time_of_effect trace (Known other id start) = None
time_of_effect trace Lost = None
time_of_effect trace (Serves service) = None
time_of_effect trace Line = None

abbrev pub earliest : List ℕ → List Effect → Option ℕ
earliest trace [] = None
earliest trace (e ∷ es) = lesser (time_of_effect trace e) (earliest trace es)

min_again : (a b c : ℕ) → min (min a b) c ≡ min a (min b c)
min_again a b c = grind (arith, rules)

min_swaps : (a b : ℕ) → min a b ≡ min b a
min_swaps a b = grind (arith, rules)

lesser_none : (o : Option ℕ) → lesser o None ≡ o
lesser_none None = refl
lesser_none (Some a) = refl

lesser_again : (a b c : Option ℕ) → lesser (lesser a b) c ≡ lesser a (lesser b c)
lesser_again None b c = refl
lesser_again (Some a) None c = refl
lesser_again (Some a) (Some b) None = refl
lesser_again (Some a) (Some b) (Some c) = ap (λ n. Some n) (min_again a b c)

lesser_flips : (a b : Option ℕ) → lesser a b ≡ lesser b a
lesser_flips None b = sym (lesser_none b)
lesser_flips (Some a) None = refl
lesser_flips (Some a) (Some b) = ap (λ n. Some n) (min_swaps a b)

lesser_swaps : (a b c : Option ℕ) → lesser a (lesser b c) ≡ lesser b (lesser a c)
lesser_swaps a b c = sym (lesser_again a b c) ∙ ap (λ o. lesser o c) (lesser_flips a b) ∙ lesser_again b a c

time_with : (trace other : List ℕ) (time : ℕ) (known : List (List ℕ × ℕ)) → kept_at (key_of trace []) (with_kept (key_of other []) time known) ≡ cond (is_key other trace) (Some time) (kept_at (key_of trace []) known)
time_with trace other time known = kept_with (key_of trace []) (key_of other []) time known ∙ ap (λ b. cond b (Some time) (kept_at (key_of trace []) known)) (trace_keys trace other)

time_by : (trace : List ℕ) (e : Effect) (s : GatheredState) → has_space trace ≡ false → IsPlain e → kept_at (key_of trace []) (done e s).known ≡ lesser (kept_at (key_of trace []) s.known) (time_of_effect trace e)
time_by trace (Row row) s clear plain = sym (lesser_none _)
time_by trace (Seen other time) s clear plain = by (kept_at (key_of other []) s.known) refl where
  here : (b : Bool) (o : Option ℕ) (t : ℕ) → is_key other trace ≡ b → (is_key other trace ≡ true → Some t ≡ lesser o (Some time)) → cond b (Some t) o ≡ lesser o (cond b (Some time) None)
  here true o t same h = h same
  here false o t same h = sym (lesser_none o)

  by : (o : Option ℕ) → kept_at (key_of other []) s.known ≡ o → kept_at (key_of trace []) (trace_seen_as o other time s).known ≡ lesser (kept_at (key_of trace []) s.known) (cond (is_key other trace) (Some time) None)
  by (Some first) is =
      time_with trace other (min first time) s.known
      ∙ here (is_key other trace) (kept_at (key_of trace []) s.known) (min first time) refl
      (λ same. ap (λ o. lesser o (Some time)) (sym is ∙ ap (λ k. kept_at (key_of k []) s.known) (one_key other trace same)))
  by None is =
      time_with trace other time s.known
      ∙ here (is_key other trace) (kept_at (key_of trace []) s.known) time refl
      (λ same. ap (λ o. lesser o (Some time)) (sym is ∙ ap (λ k. kept_at (key_of k []) s.known) (one_key other trace same)))
time_by trace (Known other id start) s clear plain =
    kept_with (key_of trace []) (key_of other id) start s.known
    ∙ ap (λ b. cond b (Some start) (kept_at (key_of trace []) s.known)) (span_keys trace other id clear plain.0 plain.1) ∙ sym (lesser_none _)
time_by trace Lost s clear plain = sym (lesser_none _)
time_by trace (Serves service) s clear plain = sym (lesser_none _)
time_by trace Line s clear plain = sym (lesser_none _)

pub time_in : (trace : List ℕ) (es : List Effect) (s : GatheredState) → has_space trace ≡ false → AllByRecursion IsPlain es → kept_at (key_of trace []) (all_done es s).known ≡ lesser (kept_at (key_of trace []) s.known) (earliest trace es)
time_in trace [] s clear plain = sym (lesser_none _)
time_in trace (e ∷ es) s clear plain =
    time_in trace es (done e s) clear plain.1 ∙ ap (λ o. lesser o (earliest trace es)) (time_by trace e s clear plain.0)
    ∙ lesser_again (kept_at (key_of trace []) s.known) (time_of_effect trace e) (earliest trace es)

earliest_joined : (trace : List ℕ) (es fs : List Effect) → earliest trace (es ++ fs) ≡ lesser (earliest trace es) (earliest trace fs)
earliest_joined trace [] fs = refl
earliest_joined trace (e ∷ es) fs = ap (lesser (time_of_effect trace e)) (earliest_joined trace es fs) ∙ sym (lesser_again (time_of_effect trace e) (earliest trace es) (earliest trace fs))

-- ---- lines in any order

module _ {L : Type 0} (effects : L → List Effect) where
  abbrev Any : L → L → Type 0
  Any x y = ⊤

  any_flips : (x y : L) → Any x y → Any y x
  any_flips x y h = tt

  all_any : (x : L) (xs : List L) → AllByRecursion (Any x) xs
  all_any x [] = tt
  all_any x (y ∷ xs) = (tt, all_any x xs)

  each_any : (xs : List L) → EachTwo Any any_flips xs
  each_any [] = tt
  each_any (x ∷ xs) = (all_any x xs, each_any xs)

  sets_swaps : (q : List ℕ) (x y : L) (r : Bool) → Any x y → sets_in q (effects x) || (sets_in q (effects y) || r) ≡ sets_in q (effects y) || (sets_in q (effects x) || r)
  sets_swaps q x y r h = or_swaps (sets_in q (effects x)) (sets_in q (effects y)) r

  sets_folded : (q : List ℕ) (xs : List L) → sets_in q (flat_map effects xs) ≡ folded Any any_flips (λ x r. sets_in q (effects x) || r) false (sets_swaps q) xs
  sets_folded q [] = refl
  sets_folded q (x ∷ xs) = sets_joined q (effects x) (flat_map effects xs) ∙ ap (λ b. sets_in q (effects x) || b) (sets_folded q xs)

  pub same_sets : (q : List ℕ) (xs ys : List L) → IsPermutation xs ys → sets_in q (flat_map effects ys) ≡ sets_in q (flat_map effects xs)
  same_sets q xs ys p =
      sets_folded q ys ∙ folded_permuted Any any_flips (λ x r. sets_in q (effects x) || r) false (sets_swaps q) xs ys p (each_any xs) ∙ sym (sets_folded q xs)

  times_swap : (trace : List ℕ) (x y : L) (r : Option ℕ) → Any x y → lesser (earliest trace (effects x)) (lesser (earliest trace (effects y)) r) ≡ lesser (earliest trace (effects y)) (lesser (earliest trace (effects x)) r)
  times_swap trace x y r h = lesser_swaps (earliest trace (effects x)) (earliest trace (effects y)) r

  times_folded : (trace : List ℕ) (xs : List L) → earliest trace (flat_map effects xs) ≡ folded Any any_flips (λ x r. lesser (earliest trace (effects x)) r) None (times_swap trace) xs
  times_folded trace [] = refl
  times_folded trace (x ∷ xs) = earliest_joined trace (effects x) (flat_map effects xs) ∙ ap (lesser (earliest trace (effects x))) (times_folded trace xs)

  pub same_times : (trace : List ℕ) (xs ys : List L) → IsPermutation xs ys → earliest trace (flat_map effects ys) ≡ earliest trace (flat_map effects xs)
  same_times trace xs ys p =
      times_folded trace ys ∙ folded_permuted Any any_flips (λ x r. lesser (earliest trace (effects x)) r) None (times_swap trace) xs ys p (each_any xs) ∙ sym (times_folded trace xs)

-- ---- the spans in which rows are nested

held_by : (o p : Option ℕ) (row : Item) → is_some o ≡ is_some p → in_known_span o row
    ≡ in_known_span p row
held_by None None row h = refl
held_by None (Some b) row h = absurd (true≢false (sym h))
held_by (Some a) None row h = absurd (true≢false h)
held_by (Some a) (Some b) row h = refl

abbrev pub ClearAs : Option (List ℕ) → Type 0
ClearAs None = ⊤
ClearAs (Some id) = has_space id ≡ false

abbrev pub IsClear : Item → Type 0
IsClear row = ClearAs (trace_id row.shape)

module _ (one other : List (List ℕ × ℕ)) (there : (q : List ℕ) → is_some (kept_at q one) ≡ is_some (kept_at q other)) (times : (trace : List ℕ) → has_space trace ≡ false → kept_at (key_of trace []) one ≡ kept_at (key_of trace []) other) where
  resolved_alike_as : (shape : Shape) (row : Item) → ClearAs (trace_id shape) → resolved_as shape one row ≡ resolved_as shape other row
  resolved_alike_as (Trace id) row clear = ap (λ o. at_earliest o row) (times id clear)
  resolved_alike_as (Span span) row clear = held_by _ _ row (there (key_of row.trace row.parent))
  resolved_alike_as (Note note) row clear = held_by _ _ row (there (key_of row.trace row.parent))
  resolved_alike_as (LeftOut count) row clear = held_by _ _ row (there (key_of row.trace row.parent))

  pub resolved_alike : (rows : List Item) → AllByRecursion IsClear rows → map (resolved one) rows ≡ map (resolved other) rows
  resolved_alike [] h = refl
  resolved_alike (row ∷ rows) h = (λ i. resolved_alike_as row.shape row h.0 i ∷ resolved_alike rows h.1 i)
