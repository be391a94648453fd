-- Lines in any order gather the same rows except for their numbers.
use Rattle.std.proofs.Common.{◌≡◌, ℕ, ◌+◌, Bool, true, false, ◌||◌, List, [], ◌∷◌, ◌++◌, length, map, filter, flat_map, IsPermutation, Option, Some, None, is_some, unwrap_or, refl, sym, ap, subst, ◌∙◌, true≢false, arith}
use Rattle.std.specs.Prelude.{⊤}
use Rattle.std.specs.List.{AllByRecursion}
use Rattle.std.proofs.lemmas.List.{map-append}
use Rattle.std.proofs.lemmas.List.Elements.{All-from_recursion, recursion_from_All}
use Rattle.std.proofs.lemmas.List.Sorted.{All-permutation}
use Rattle.ttree_otlp.specs.Gather.{GatheredState, at_earliest, in_known_span, nothing_gathered, resolved, resolved_as, row_place, trace_seen_as}
use Rattle.ttree_otlp.specs.Keyed.{key_of, kept_at}
use Rattle.ttree_otlp.specs.Ties.{has_space, unnumbered}
use Rattle.ttree_otlp.specs.declared.item.Item.{Item}
use Rattle.ttree_otlp.specs.declared.item.Shape.{Shape}
use Rattle.ttree_otlp.specs.declared.item.Shape.TheVariants.{Trace, Span, Note, LeftOut}
use Rattle.ttree_otlp.specs.Walk.{key_in}
use Rattle.ttree_otlp.proofs.Order.Blocks.{OfBoth, all_by, blocks_permuted, of_both_flips}
use Rattle.ttree_otlp.proofs.Order.Effects.{Effect, IsPlain, Known, Line, Lost, Row, Seen, Serves, all_done, done, items_done, raw, trace_row}
use Rattle.ttree_otlp.proofs.Order.Keys.{is_key_itself, one_key}
use Rattle.ttree_otlp.proofs.Order.Once.{CanonAs, IsCanon, once, once_kept, once_mapped, trace_id}
use Rattle.ttree_otlp.proofs.Order.Sorted.{AreNumbered, first_of_two, is_at, tied_all, tied_at, tied_places}
use Rattle.ttree_otlp.proofs.Order.Times.{ClearAs, IsClear, known_in, resolved_alike, same_sets, same_times, sets, sets_in, time_in}
use Rattle.ttree_otlp.proofs.Order.Turns.{EachTwo}

-- ---- resolved rows

timed_bare : (o : Option ℕ) (row : Item) → at_earliest o (unnumbered row)
    ≡ unnumbered (at_earliest o row)
timed_bare None row = refl
timed_bare (Some time) row = refl

held_bare : (o : Option ℕ) (row : Item) → in_known_span o (unnumbered row)
    ≡ unnumbered (in_known_span o row)
held_bare None row = refl
held_bare (Some time) row = refl

resolved_bare_as : (shape : Shape) (known : List (List ℕ × ℕ)) (row : Item) → resolved_as shape known (unnumbered row) ≡ unnumbered (resolved_as shape known row)
resolved_bare_as (Trace id) known row = timed_bare (kept_at (key_of id []) known) row
resolved_bare_as (Span span) known row = held_bare (kept_at (key_of row.trace row.parent) known) row
resolved_bare_as (Note note) known row = held_bare (kept_at (key_of row.trace row.parent) known) row
resolved_bare_as (LeftOut count) known row = held_bare (kept_at (key_of row.trace row.parent) known) row

pub resolved_bare : (known : List (List ℕ × ℕ)) (rows : List Item) → map unnumbered (map (resolved known) rows) ≡ map (resolved known) (map unnumbered rows)
resolved_bare known [] = refl
resolved_bare known (row ∷ rows) = (λ i. sym (resolved_bare_as row.shape known row) i ∷ resolved_bare known rows i)

timed_shape : (o : Option ℕ) (row : Item) → (at_earliest o row).shape ≡ row.shape
timed_shape None row = refl
timed_shape (Some time) row = refl

held_shape : (o : Option ℕ) (row : Item) → (in_known_span o row).shape ≡ row.shape
held_shape None row = refl
held_shape (Some time) row = refl

resolved_shape_as : (shape : Shape) (known : List (List ℕ × ℕ)) (row : Item) → (resolved_as shape known row).shape ≡ row.shape
resolved_shape_as (Trace id) known row = timed_shape (kept_at (key_of id []) known) row
resolved_shape_as (Span span) known row = held_shape (kept_at (key_of row.trace row.parent) known) row
resolved_shape_as (Note note) known row = held_shape (kept_at (key_of row.trace row.parent) known) row
resolved_shape_as (LeftOut count) known row = held_shape (kept_at (key_of row.trace row.parent) known) row

resolved_trace : (known : List (List ℕ × ℕ)) (row : Item) → trace_id (resolved known row).shape ≡ trace_id row.shape
resolved_trace known row = ap trace_id (resolved_shape_as row.shape known row)

timed_index : (o : Option ℕ) (row : Item) → (at_earliest o row).place.index ≡ row.place.index
timed_index None row = refl
timed_index (Some time) row = refl

held_index : (o : Option ℕ) (row : Item) → (in_known_span o row).place.index ≡ row.place.index
held_index None row = refl
held_index (Some time) row = refl

resolved_index_as : (shape : Shape) (known : List (List ℕ × ℕ)) (row : Item) → (resolved_as shape known row).place.index ≡ row.place.index
resolved_index_as (Trace id) known row = timed_index (kept_at (key_of id []) known) row
resolved_index_as (Span span) known row = held_index (kept_at (key_of row.trace row.parent) known) row
resolved_index_as (Note note) known row = held_index (kept_at (key_of row.trace row.parent) known) row
resolved_index_as (LeftOut count) known row = held_index (kept_at (key_of row.trace row.parent) known) row

resolved_numbered : (known : List (List ℕ × ℕ)) (n : ℕ) (rows : List Item) → AreNumbered n rows → AreNumbered n (map (resolved known) rows)
resolved_numbered known n [] h = tt
resolved_numbered known n (row ∷ rows) h = (resolved_index_as row.shape known row ∙ h.0, resolved_numbered known (n + 1) rows h.1)

-- ---- numbers

numbered_more : (n : ℕ) (rows : List Item) (row : Item) → AreNumbered n rows → row.place.index ≡ n + length rows → AreNumbered n (rows ++ row ∷ [])
numbered_more n [] row h is = (omega (arith, is), tt)
numbered_more n (first ∷ rows) row h is = (h.0, numbered_more (n + 1) rows row h.1 (omega (arith, is)))

numbered_put : (rows : List Item) (row : Item) → AreNumbered 0 rows → row.place.index ≡ length rows → AreNumbered 0 (rows ++ row ∷ [])
numbered_put rows row h is = numbered_more 0 rows row h (omega (arith, is))

numbered_by : (e : Effect) (s : GatheredState) → AreNumbered 0 s.items → AreNumbered 0 (done e s).items
numbered_by (Row row) s h = numbered_put s.items _ h refl
numbered_by (Seen trace time) s h = by (kept_at (key_of trace []) s.known) where
  by : (o : Option ℕ) → AreNumbered 0 (trace_seen_as o trace time s).items
  by (Some first) = h
  by None = numbered_put s.items _ h refl
numbered_by (Known trace id start) s h = h
numbered_by Lost s h = h
numbered_by (Serves service) s h = h
numbered_by Line s h = h

numbered_done : (es : List Effect) (s : GatheredState) → AreNumbered 0 s.items → AreNumbered 0 (all_done es s).items
numbered_done [] s h = h
numbered_done (e ∷ es) s h = numbered_done es (done e s) (numbered_by e s h)

abbrev pub rows_by : GatheredState → List Item
rows_by gathered = map (resolved gathered.known) gathered.items

pub rows_numbered : (es : List Effect) → AreNumbered 0 (rows_by (all_done es nothing_gathered))
rows_numbered es = resolved_numbered (all_done es nothing_gathered).known 0 (all_done es nothing_gathered).items (numbered_done es nothing_gathered tt)

-- ---- each trace's row

abbrev pub canon : List (List ℕ × ℕ) → List ℕ → Item
canon known id =
    let time = unwrap_or (kept_at (key_of id []) known) 0 in
    record { trace = []; parent = []; place = row_place time (Trace id) 0; time = time; shape = Trace id }

abbrev pub IsThere : List (List ℕ × ℕ) → Effect → Type 0
IsThere known (Row row) = ⊤
IsThere known (Seen trace time) = is_some (kept_at (key_of trace []) known) ≡ true
IsThere known (Known trace id start) = ⊤
IsThere known Lost = ⊤
IsThere known (Serves service) = ⊤
IsThere known Line = ⊤

canon_timed : (known : List (List ℕ × ℕ)) (trace : List ℕ) (time : ℕ) → is_some (kept_at (key_of trace []) known) ≡ true → resolved known (trace_row trace time) ≡ canon known trace
canon_timed known trace time h = by (kept_at (key_of trace []) known) h where
  by : (o : Option ℕ) → is_some o ≡ true
      → at_earliest o (trace_row trace time) ≡ (let t = unwrap_or o 0 in record { trace = []; parent = []; place = row_place t (Trace trace) 0; time = t; shape = Trace trace })
  by (Some first) there = refl
  by None there = absurd (true≢false (sym there))

no_trace : (known : List (List ℕ × ℕ)) (row : Item) → trace_id row.shape ≡ None → IsCanon (canon known) (resolved known (unnumbered row))
no_trace known row h = subst (λ o. CanonAs (canon known) o (resolved known (unnumbered row))) (sym (resolved_trace known (unnumbered row) ∙ h)) tt

pub raw_canon : (known : List (List ℕ × ℕ)) (es : List Effect) (service : List ℕ) → AllByRecursion (IsThere known) es → AllByRecursion IsPlain es → AllByRecursion (IsCanon (canon known)) (map (resolved known) (raw es service))
raw_canon known [] service h k = tt
raw_canon known (Row row ∷ es) service h k = (no_trace known (row service) (k.0 service), raw_canon known es service h.1 k.1)
raw_canon known (Seen trace time ∷ es) service h k =
    (subst (λ o. CanonAs (canon known) o (resolved known (trace_row trace time))) (sym (resolved_trace known (trace_row trace time))) (canon_timed known trace time h.0), raw_canon known es service h.1 k.1)
raw_canon known (Known trace id start ∷ es) service h k = raw_canon known es service h.1 k.1
raw_canon known (Lost ∷ es) service h k = raw_canon known es service h.1 k.1
raw_canon known (Serves other ∷ es) service h k = raw_canon known es other h.1 k.1
raw_canon known (Line ∷ es) service h k = raw_canon known es service h.1 k.1

raw_clear : (es : List Effect) (service : List ℕ) → AllByRecursion IsPlain es → AllByRecursion IsClear (raw es service)
raw_clear [] service k = tt
raw_clear (Row row ∷ es) service k = (subst ClearAs (sym (k.0 service)) tt, raw_clear es service k.1)
raw_clear (Seen trace time ∷ es) service k = (k.0, raw_clear es service k.1)
raw_clear (Known trace id start ∷ es) service k = raw_clear es service k.1
raw_clear (Lost ∷ es) service k = raw_clear es service k.1
raw_clear (Serves other ∷ es) service k = raw_clear es other k.1
raw_clear (Line ∷ es) service k = raw_clear es service k.1

abbrev pub none : List ℕ → Bool
none id = false

-- the rows of effects, without their numbers
pub rows_once : (known : List (List ℕ × ℕ)) (es : List Effect) → AllByRecursion IsPlain es
    → map unnumbered (map (resolved known) (all_done es nothing_gathered).items) ≡ once (map (resolved known) (raw es [])) none
rows_once known es plain =
    resolved_bare known (all_done es nothing_gathered).items
    ∙ ap (map (resolved known)) (items_done es nothing_gathered none (λ trace clear. refl) plain)
    ∙ once_mapped (resolved known) (resolved_trace known) (raw es []) none

-- ---- all that effects set is there

or_right : (a b : Bool) → b ≡ true → a || b ≡ true
or_right true b h = refl
or_right false b h = h

or_left : (a b : Bool) → a ≡ true → a || b ≡ true
or_left a b h = ap (λ c. c || b) h

abbrev SetsIn : List Effect → Effect → Type 0
SetsIn es e = (q : List ℕ) → sets q e ≡ true → sets_in q es ≡ true

sets_all : (es : List Effect) → AllByRecursion (SetsIn es) es
sets_all [] = tt
sets_all (e ∷ es) = (
  (λ q h. or_left (sets q e) (sets_in q es) h),
  all_by (SetsIn es) (SetsIn (e ∷ es)) (λ f h q k. or_right (sets q e) (sets_in q es) (h q k)) es (sets_all es),
)

there_by : (known : List (List ℕ × ℕ)) (all : List Effect) → ((q : List ℕ) → sets_in q all ≡ true → is_some (kept_at q known) ≡ true) → (e : Effect) → SetsIn all e → IsThere known e
there_by known all f (Row row) h = tt
there_by known all f (Seen trace time) h = f (key_of trace []) (h (key_of trace []) (is_key_itself (key_of trace [])))
there_by known all f (Known trace id start) h = tt
there_by known all f Lost h = tt
there_by known all f (Serves service) h = tt
there_by known all f Line h = tt

pub all_there : (es : List Effect) → AllByRecursion (IsThere (all_done es nothing_gathered).known) es
all_there es =
    all_by (SetsIn es) (IsThere (all_done es nothing_gathered).known)
    (there_by (all_done es nothing_gathered).known es (λ q h. known_in q es nothing_gathered ∙ ap (λ b. b || false) h)) es (sets_all es)

-- ---- lines

pub all_joined : {X : Type 0} (P : X → Type 0) (xs ys : List X) → AllByRecursion P xs → AllByRecursion P ys → AllByRecursion P (xs ++ ys)
all_joined P [] ys h k = k
all_joined P (x ∷ xs) ys h k = (h.0, all_joined P xs ys h.1 k)

all_of_flat : {X Y : Type 0} (P : Y → Type 0) (f : X → List Y) (xs : List X) → AllByRecursion (λ x. AllByRecursion P (f x)) xs → AllByRecursion P (flat_map f xs)
all_of_flat P f [] h = tt
all_of_flat P f (x ∷ xs) h = all_joined P (f x) (flat_map f xs) h.0 (all_of_flat P f xs h.1)

map_flat : {X Y Z : Type 0} (f : Y → Z) (g : X → List Y) (xs : List X) → map f (flat_map g xs) ≡ flat_map (λ x. map f (g x)) xs
map_flat f g [] = refl
map_flat f g (x ∷ xs) = map-append f (g x) (flat_map g xs) ∙ ap (λ l. map f (g x) ++ l) (map_flat f g xs)

abbrev pub served : List Effect → List ℕ → List ℕ
served [] service = service
served (Row row ∷ es) service = served es service
served (Seen trace time ∷ es) service = served es service
served (Known trace id start ∷ es) service = served es service
served (Lost ∷ es) service = served es service
served (Serves other ∷ es) service = served es other
served (Line ∷ es) service = served es service

pub raw_joined : (es fs : List Effect) (service : List ℕ) → raw (es ++ fs) service ≡ raw es service ++ raw fs (served es service)
raw_joined [] fs service = refl
raw_joined (Row row ∷ es) fs service = ap (λ (l : List Item). unnumbered (row service) ∷ l) (raw_joined es fs service)
raw_joined (Seen trace time ∷ es) fs service = ap (λ (l : List Item). trace_row trace time ∷ l) (raw_joined es fs service)
raw_joined (Known trace id start ∷ es) fs service = raw_joined es fs service
raw_joined (Lost ∷ es) fs service = raw_joined es fs service
raw_joined (Serves other ∷ es) fs service = raw_joined es fs other
raw_joined (Line ∷ es) fs service = raw_joined es fs service

-- rows of one span at one place
abbrev pub Tie : Item → Item → Type 0
Tie a b = key_in a ≡ key_in b → (unnumbered a).place ≡ (unnumbered b).place → a ≡ b

pub tie_flips : (a b : Item) → Tie a b → Tie b a
tie_flips a b h key place = sym (h (sym key) (sym place))

tie_alike : (key : List ℕ) (at a b : Item) → is_at key at a ≡ true → is_at key at b ≡ true → Tie a b → a ≡ b
tie_alike key at a b h k tie =
    tie (sym (one_key key (key_in a) (first_of_two _ _ h)) ∙ one_key key (key_in b) (first_of_two _ _ k))
    (tied_places a b (tied_all at a b (tied_at key at a h) (tied_at key at b k)))

module _ {L : Type 0} (effects : L → List Effect) (fresh : (l : L) (service other : List ℕ) → raw (effects l) service ≡ raw (effects l) other) where
  abbrev pub gathered_by : List L → GatheredState
  gathered_by ls = all_done (flat_map effects ls) nothing_gathered

  abbrev pub raw_of_line : List (List ℕ × ℕ) → L → List Item
  raw_of_line known l = map (resolved known) (raw (effects l) [])

  abbrev pub ArePlain : List L → Type 0
  ArePlain ls = AllByRecursion (λ l. AllByRecursion IsPlain (effects l)) ls

  raw_lines : (ls : List L) (service : List ℕ) → raw (flat_map effects ls) service ≡ flat_map (λ l. raw (effects l) []) ls
  raw_lines [] service = refl
  raw_lines (l ∷ ls) service =
      raw_joined (effects l) (flat_map effects ls) service
      ∙ (λ i. fresh l service [] i ++ raw_lines ls (served (effects l) service) i)

  resolved_lines : (known : List (List ℕ × ℕ)) (ls : List L) → map (resolved known) (raw (flat_map effects ls) []) ≡ flat_map (raw_of_line known) ls
  resolved_lines known ls = ap (map (resolved known)) (raw_lines ls []) ∙ map_flat (resolved known) (λ l. raw (effects l) []) ls

  plain_permuted : (xs ys : List L) → IsPermutation xs ys → ArePlain xs → ArePlain ys
  plain_permuted xs ys p h =
      let P : L → Type 0 = λ l. AllByRecursion IsPlain (effects l) in
      recursion_from_All P ys (All-permutation P xs ys p (All-from_recursion P xs h))

  class_once : (ls : List L) → ArePlain ls → (c : Item → Bool)
      → filter c (map unnumbered (rows_by (gathered_by ls))) ≡ once (filter c (map (resolved (gathered_by ls).known) (raw (flat_map effects ls) []))) none
  class_once ls plain c =
      let es = flat_map effects ls in
      let all_plain = all_of_flat IsPlain effects ls plain in
      ap (filter c) (rows_once (gathered_by ls).known es all_plain)
      ∙ once_kept (canon (gathered_by ls).known) c (map (resolved (gathered_by ls).known) (raw es [])) none (raw_canon (gathered_by ls).known es [] (all_there es) all_plain)

  module _ (xs ys : List L) (same : IsPermutation xs ys) (plain : ArePlain xs) where
    also_plain : ArePlain ys
    also_plain = plain_permuted xs ys same plain

    there_alike : (q : List ℕ) → is_some (kept_at q (gathered_by ys).known) ≡ is_some (kept_at q (gathered_by xs).known)
    there_alike q =
        known_in q (flat_map effects ys) nothing_gathered ∙ ap (λ b. b || false) (same_sets effects q xs ys same) ∙ sym (known_in q (flat_map effects xs) nothing_gathered)

    times_alike : (trace : List ℕ) → has_space trace ≡ false → kept_at (key_of trace []) (gathered_by ys).known ≡ kept_at (key_of trace []) (gathered_by xs).known
    times_alike trace clear =
        time_in trace (flat_map effects ys) nothing_gathered clear (all_of_flat IsPlain effects ys also_plain)
        ∙ same_times effects trace xs ys same ∙ sym (time_in trace (flat_map effects xs) nothing_gathered clear (all_of_flat IsPlain effects xs plain))

    rows_alike : map (resolved (gathered_by ys).known) (raw (flat_map effects ys) []) ≡ flat_map (raw_of_line (gathered_by xs).known) ys
    rows_alike =
        resolved_alike (gathered_by ys).known (gathered_by xs).known there_alike times_alike (raw (flat_map effects ys) []) (raw_clear (flat_map effects ys) [] (all_of_flat IsPlain effects ys also_plain))
        ∙ resolved_lines (gathered_by xs).known ys

    pub same_classes : EachTwo (OfBoth (raw_of_line (gathered_by xs).known) Tie tie_flips) (of_both_flips (raw_of_line (gathered_by xs).known) Tie tie_flips) xs
        → (key : List ℕ) (at : Item) → filter (is_at key at) (map unnumbered (rows_by (gathered_by xs))) ≡ filter (is_at key at) (map unnumbered (rows_by (gathered_by ys)))
    same_classes apart key at =
        let c = is_at key at in
        class_once xs plain c
        ∙ ap (λ l. once l none)
        (ap (filter c) (resolved_lines (gathered_by xs).known xs)
        ∙ sym (blocks_permuted (raw_of_line (gathered_by xs).known) Tie tie_flips c (tie_alike key at) xs ys same apart)
        ∙ sym (ap (filter c) rows_alike))
        ∙ sym (class_once ys also_plain c)
