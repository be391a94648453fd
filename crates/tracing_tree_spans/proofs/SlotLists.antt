-- Lists of spans with gaps, in the order of their ids: a span's place, and what an edit at its
-- place does.
use Rattle.std.proofs.Common.{◌≡◌, ℕ, zero, suc, ◌+◌, ◌-◌, ◌<◌, ◌≤◌, nat_lt, Bool, true, false, not, List, [], ◌∷◌, ◌++◌, length, get_or, set, find, filter, slice_get, length-append, take, drop, take-append-drop, length-take-le, Option, Some, None, MatchOption, Result, Ok, Err, if◌then◌else◌, arith, refl, sym, ap, ◌∙◌, subst}
use Rattle.std.specs.List.{list_all}
use Rattle.std.specs.Option.{option_map_or, option_and_then, option_to_list}
use Rattle.std.specs.Result.{OnOk, OnErr}
use Rattle.std.proofs.lemmas.Bool.{eqb-true, and_parts}
use Rattle.std.proofs.lemmas.Bool.Decides.{nat_tests}
use Rattle.std.proofs.lemmas.List.Folds.{list_all-append}
use Rattle.std.proofs.lemmas.List.{map-append, append-nil, get_or_read, set_split, drop_all}
use Rattle.std.proofs.lemmas.Option.{slice_get-get_or, slice_get_within, slice_get_read, same_Some}
use Rattle.tracing_tree_spans.specs.Registry.Ids.{id_of, same_id}
use Rattle.tracing_tree_spans.specs.Registry.Spans.{KeptSpan}
use Rattle.tracing_tree_spans.specs.Registry.Nodes.{keeps_id, node_at, change_node, leave_out, AreBelow}
use Rattle.tracing_tree_spans.specs.Registry.Slots.{slot_id, slot_node, is_gone, slot_has, present, slot_ids, AreRising, ends_in_gap, IsLaidOut}
use Rattle.tracing_tree_base.specs.declared.context.Id.{Id}
use Rattle.tracing_tree_spans.specs.declared.registry.slot.Slot.{Slot}
use Rattle.tracing_tree_spans.specs.declared.registry.slot.Slot.TheVariants.{Live, Gone}

-- ---- ids that rise

-- all of these ids are above this number
abbrev pub ids_above : ℕ → List Id → Bool
ids_above n ids = list_all (λ j. nat_lt n j.0) ids

-- all of these ids are below this number
abbrev pub ids_below : ℕ → List Id → Bool
ids_below n ids = list_all (λ j. nat_lt j.0 n) ids

-- if all ids are above a number, so is that of each place
above-at : (n : ℕ) (slots : List Slot) (k : ℕ) (s : Slot) → ids_above n (slot_ids slots) ≡ true → slice_get slots k ≡ Some s → n < (slot_id s).0
above-at n [] k s all h = cc
above-at n (x ∷ slots) zero s all h =
    let same : x ≡ s = same_Some x s h in
    let first : nat_lt n (slot_id x).0 ≡ true = (and_parts (nat_lt n (slot_id x).0) (ids_above n (slot_ids slots)) all).0 in
    subst (λ (y : Slot). n < (slot_id y).0) same (grind (arith, nat_tests))
above-at n (x ∷ slots) (suc k) s all h = above-at n slots k s (and_parts (nat_lt n (slot_id x).0) (ids_above n (slot_ids slots)) all).1 h

same-own : (i : Id) → same_id i i ≡ true
same-own i = grind (arith, nat_tests)

lower-not : (j i : Id) → j.0 < i.0 → same_id j i ≡ false
lower-not j i h = grind (arith, nat_tests)

higher-not : (j i : Id) → i.0 < j.0 → same_id j i ≡ false
higher-not j i h = grind (arith, nat_tests)

-- what is at a place is found by its id
find-at : (slots : List Slot) (k : ℕ) (s : Slot) → AreRising (slot_ids slots) → slice_get slots k ≡ Some s → find (slot_has (slot_id s)) slots ≡ Some s
find-at [] k s rising h = cc
find-at (x ∷ slots) zero s rising h =
    let same : x ≡ s = same_Some x s h in
    let own : same_id (slot_id x) (slot_id x) ≡ true = same-own (slot_id x) in
    subst (λ (y : Slot). find (slot_has (slot_id y)) (x ∷ slots) ≡ Some y) same (rw own refl)
find-at (x ∷ slots) (suc k) s rising h =
    let low : same_id (slot_id x) (slot_id s) ≡ false = lower-not (slot_id x) (slot_id s) (above-at (slot_id x).0 slots k s rising.0 h) in
    rw low (find-at slots k s rising.1 h)

-- what is found has the id
pub find-slot_id : (slots : List Slot) (i : Id) (s : Slot) → find (slot_has i) slots ≡ Some s → slot_id s ≡ i
find-slot_id [] i s h = cc
find-slot_id (x ∷ slots) i s h = by (λ k. find-slot_id slots i s k) (slot_has i x) refl
  where
    by : (find (slot_has i) slots ≡ Some s → slot_id s ≡ i) → (b : Bool) → slot_has i x ≡ b → slot_id s ≡ i
    by ih true e =
        let same : x ≡ s = same_Some x s (subst (λ b. (if b then Some x else find (slot_has i) slots) ≡ Some s) e h) in
        subst (λ (y : Slot). slot_id y ≡ i) same (ap id_of (eqb-true (slot_id x).0 i.0 e))
    by ih false e = ih (subst (λ b. (if b then Some x else find (slot_has i) slots) ≡ Some s) e h)

-- an id that no place has is not found
find-nowhere : (slots : List Slot) (i : Id) → ((k : ℕ) (d : Slot) → k < length slots → slot_has i (get_or slots k d) ≡ false) → find (slot_has i) slots ≡ None
find-nowhere [] i none = refl
find-nowhere (x ∷ slots) i none = rw (none zero x (omega arith)) (find-nowhere slots i (λ k d h. none (suc k) d (omega arith)))

-- ids rise from place to place
rise : (slots : List Slot) (d : Slot) → AreRising (slot_ids slots) → (j k : ℕ) → j ≤ k → k < length slots →
    (slot_id (get_or slots j d)).0 ≤ (slot_id (get_or slots k d)).0
rise [] d rising j k h within = absurd (omega arith)
rise (x ∷ slots) d rising zero zero h within = omega arith
rise (x ∷ slots) d rising zero (suc k) h within =
    let low : (slot_id x).0 < (slot_id (get_or slots k d)).0 =
    above-at (slot_id x).0 slots k (get_or slots k d) rising.0 (slice_get-get_or slots k d (omega arith)) in
    omega arith
rise (x ∷ slots) d rising (suc j) zero h within = absurd (omega arith)
rise (x ∷ slots) d rising (suc j) (suc k) h within = rise slots d rising.1 j k (omega arith) (omega arith)

-- ---- a search

-- the answer of a search for an id
abbrev pub IsFound : List Slot → Id → Option ℕ → Type 0
IsFound slots i place =
    MatchOption place (find (slot_has i) slots ≡ None) (λ at. (at < length slots) × (find (slot_has i) slots ≡ slice_get slots at))

-- the ids before the first place are below this one, and those from the second place on above it
pub record IsLeft (slots : List Slot) (i : Id) (from to : ℕ) : Type 0 where
  pub below : (k : ℕ) (d : Slot) → k < from → k < length slots → (slot_id (get_or slots k d)).0 < i.0
  pub above : (k : ℕ) (d : Slot) → to ≤ k → k < length slots → i.0 < (slot_id (get_or slots k d)).0

-- the places up to one with a lower id aren't left
pub left-above : (slots : List Slot) (i : Id) (from to at : ℕ) (s : Slot) → AreRising (slot_ids slots) → IsLeft slots i from to →
    at < length slots → s ≡ get_or slots at s → (slot_id s).0 < i.0 → IsLeft slots i (at + 1) to
left-above slots i from to at s rising left here read low = record { below = below; above = left.above }
  where
    below : (k : ℕ) (d : Slot) → k < at + 1 → k < length slots → (slot_id (get_or slots k d)).0 < i.0
    below k d h within =
        let up : (slot_id (get_or slots k d)).0 ≤ (slot_id (get_or slots at d)).0 = rise slots d rising k at (omega arith) here in
        let same : (slot_id s).0 ≡ (slot_id (get_or slots at d)).0 = ap (λ (x : Slot). (slot_id x).0) (get_or_read slots at s here read d) in
        omega arith

-- and the places from one with a higher id on aren't either
pub left-below : (slots : List Slot) (i : Id) (from to at : ℕ) (s : Slot) → AreRising (slot_ids slots) → IsLeft slots i from to →
    at < length slots → s ≡ get_or slots at s → i.0 < (slot_id s).0 → IsLeft slots i from at
left-below slots i from to at s rising left here read high = record { below = left.below; above = above }
  where
    above : (k : ℕ) (d : Slot) → at ≤ k → k < length slots → i.0 < (slot_id (get_or slots k d)).0
    above k d h within =
        let up : (slot_id (get_or slots at d)).0 ≤ (slot_id (get_or slots k d)).0 = rise slots d rising at k h within in
        let same : (slot_id s).0 ≡ (slot_id (get_or slots at d)).0 = ap (λ (x : Slot). (slot_id x).0) (get_or_read slots at s here read d) in
        omega arith

-- if nothing is left, no place has the id
pub none-left : (slots : List Slot) (i : Id) (from to : ℕ) → IsLeft slots i from to → to ≤ from → find (slot_has i) slots ≡ None
none-left slots i from to left none = find-nowhere slots i by
  where
    by : (k : ℕ) (d : Slot) → k < length slots → slot_has i (get_or slots k d) ≡ false
    by k d within = elim (nat_lt k from) as (λ b. nat_lt k from ≡ b → slot_has i (get_or slots k d) ≡ false) [
      | true ↦ (λ e. lower-not (slot_id (get_or slots k d)) i (left.below k d (grind (arith, nat_tests)) within))
      | false ↦ (λ e. higher-not (slot_id (get_or slots k d)) i (left.above k d (grind (arith, nat_tests)) within))
    ] refl

-- the slot with the number is at the place that was read
pub here-found : (slots : List Slot) (i : Id) (at : ℕ) (s : Slot) → AreRising (slot_ids slots) → at < length slots → s ≡ get_or slots at s →
    (slot_id s).0 ≡ i.0 → IsFound slots i (Some at)
here-found slots i at s rising here read same =
    let found : slice_get slots at ≡ Some s = slice_get-get_or slots at s here ∙ ap (λ (x : Slot). Some x) (sym read) in
    (here, subst (λ (j : Id). find (slot_has j) slots ≡ slice_get slots at) (ap id_of same) (find-at slots at s rising found ∙ sym found))

-- the place has the id, so it is the span's place
pub found_at : (slots : List Slot) (i : Id) (at : ℕ) → AreRising (slot_ids slots) → option_map_or (slot_has i) (slice_get slots at) false ≡ true → IsFound slots i (Some at)
found_at slots i at rising here = by (slice_get slots at) refl
  where
    by : (read : Option Slot) → slice_get slots at ≡ read → IsFound slots i (Some at)
    by None e =
        let nowhere : false ≡ true = rw e at here in
        absurd cc
    by (Some d) e =
        let own : slot_has i d ≡ true = rw e at here in
        let same : slot_id d ≡ i = ap id_of (eqb-true (slot_id d).0 i.0 own) in
        (slice_get_within slots at d e, subst (λ j. find (slot_has j) slots ≡ slice_get slots at) same (find-at slots at d rising e ∙ sym e))

-- ---- the spans that are stored at a place

-- above an id no span has it
above-none : (i : Id) (slots : List Slot) → ids_above i.0 (slot_ids slots) ≡ true → node_at (present slots) i ≡ None
above-none i [] all = refl
above-none i (Live node ∷ slots) all =
    let parts = and_parts (nat_lt i.0 node.span.id.0) (ids_above i.0 (slot_ids slots)) all in
    let other : same_id node.span.id i ≡ false = higher-not node.span.id i (grind (arith, nat_tests, parts.0)) in
    rw other (above-none i slots parts.1)
above-none i (Gone j ∷ slots) all = above-none i slots (and_parts (nat_lt i.0 j.0) (ids_above i.0 (slot_ids slots)) all).1

-- a span is found at its place
pub present-find : (i : Id) (slots : List Slot) → AreRising (slot_ids slots) → node_at (present slots) i ≡ option_and_then slot_node (find (slot_has i) slots)
present-find i [] rising = refl
present-find i (Live node ∷ slots) rising =
    elim (same_id node.span.id i) as (λ b. (if b then Some node else node_at (present slots) i)
    ≡ option_and_then slot_node (if b then Some (Live node) else find (slot_has i) slots)) [ true ↦ refl | false ↦ present-find i slots rising.1 ]
present-find i (Gone j ∷ slots) rising = by (present-find i slots rising.1) (same_id j i) refl
  where
    by : node_at (present slots) i ≡ option_and_then slot_node (find (slot_has i) slots) → (b : Bool) → same_id j i ≡ b →
        node_at (present slots) i ≡ option_and_then slot_node (if b then Some (Gone j) else find (slot_has i) slots)
    by ih true e =
        let same : j ≡ i = ap id_of (eqb-true j.0 i.0 e) in
        above-none i slots (subst (λ (k : Id). ids_above k.0 (slot_ids slots) ≡ true) same rising.0)
    by ih false e = ih

-- above an id nothing changes
above-unchanged : (change : KeptSpan → KeptSpan) (i : Id) (slots : List Slot) → ids_above i.0 (slot_ids slots) ≡ true →
    change_node change i (present slots) ≡ present slots
above-unchanged change i [] all = refl
above-unchanged change i (Live node ∷ slots) all =
    let parts = and_parts (nat_lt i.0 node.span.id.0) (ids_above i.0 (slot_ids slots)) all in
    let other : same_id node.span.id i ≡ false = higher-not node.span.id i (grind (arith, nat_tests, parts.0)) in
    rw other (ap (λ xs. node ∷ xs) (above-unchanged change i slots parts.1))
above-unchanged change i (Gone j ∷ slots) all = above-unchanged change i slots (and_parts (nat_lt i.0 j.0) (ids_above i.0 (slot_ids slots)) all).1

-- and nothing is removed
above-kept : (i : Id) (slots : List Slot) → ids_above i.0 (slot_ids slots) ≡ true → leave_out i (present slots) ≡ present slots
above-kept i [] all = refl
above-kept i (Live node ∷ slots) all =
    let parts = and_parts (nat_lt i.0 node.span.id.0) (ids_above i.0 (slot_ids slots)) all in
    let other : same_id node.span.id i ≡ false = higher-not node.span.id i (grind (arith, nat_tests, parts.0)) in
    rw other (ap (λ xs. node ∷ xs) (above-kept i slots parts.1))
above-kept i (Gone j ∷ slots) all = above-kept i slots (and_parts (nat_lt i.0 j.0) (ids_above i.0 (slot_ids slots)) all).1

-- two places of live spans that are one have one span
live-same : (x node : KeptSpan) → Some (Live x) ≡ Some (Live node) → x ≡ node
live-same x node h = cc

-- a live span written over its place changes the span of its id
set-changes : (change : KeptSpan → KeptSpan) (slots : List Slot) (at : ℕ) (node : KeptSpan) → AreRising (slot_ids slots) →
    slice_get slots at ≡ Some (Live node) → present (set slots at (Live (change node))) ≡ change_node change node.span.id (present slots)
set-changes change [] at node rising h = cc
set-changes change (Live x ∷ slots) zero node rising h =
    let same : x ≡ node = live-same x node h in
    let own : same_id x.span.id x.span.id ≡ true = same-own x.span.id in
    subst (λ (y : KeptSpan). change y ∷ present slots ≡ change_node change y.span.id (x ∷ present slots)) same
    (rw own (ap (λ xs. change x ∷ xs) (sym (above-unchanged change x.span.id slots rising.0))))
set-changes change (Live x ∷ slots) (suc at) node rising h =
    let low : same_id x.span.id node.span.id ≡ false = lower-not x.span.id node.span.id (above-at x.span.id.0 slots at (Live node) rising.0 h) in
    rw low (ap (λ xs. x ∷ xs) (set-changes change slots at node rising.1 h))
set-changes change (Gone j ∷ slots) zero node rising h = absurd cc
set-changes change (Gone j ∷ slots) (suc at) node rising h = set-changes change slots at node rising.1 h

-- a gap at its place leaves the span of its id out
set-leaves : (slots : List Slot) (at : ℕ) (node : KeptSpan) (j : Id) → AreRising (slot_ids slots) →
    slice_get slots at ≡ Some (Live node) → present (set slots at (Gone j)) ≡ leave_out node.span.id (present slots)
set-leaves [] at node j rising h = cc
set-leaves (Live x ∷ slots) zero node j rising h =
    let same : x ≡ node = live-same x node h in
    let own : same_id x.span.id x.span.id ≡ true = same-own x.span.id in
    subst (λ (y : KeptSpan). present slots ≡ leave_out y.span.id (x ∷ present slots)) same (rw own (sym (above-kept x.span.id slots rising.0)))
set-leaves (Live x ∷ slots) (suc at) node j rising h =
    let low : same_id x.span.id node.span.id ≡ false = lower-not x.span.id node.span.id (above-at x.span.id.0 slots at (Live node) rising.0 h) in
    rw low (ap (λ xs. x ∷ xs) (set-leaves slots at node j rising.1 h))
set-leaves (Gone k ∷ slots) zero node j rising h = absurd cc
set-leaves (Gone k ∷ slots) (suc at) node j rising h = set-leaves slots at node j rising.1 h

-- and it is one span less
set-fewer : (slots : List Slot) (at : ℕ) (node : KeptSpan) (j : Id) → slice_get slots at ≡ Some (Live node) →
    length (present (set slots at (Gone j))) + 1 ≡ length (present slots)
set-fewer [] at node j h = cc
set-fewer (Live x ∷ slots) zero node j h = omega arith
set-fewer (Live x ∷ slots) (suc at) node j h = let rest = set-fewer slots at node j h in omega arith
set-fewer (Gone k ∷ slots) zero node j h = absurd cc
set-fewer (Gone k ∷ slots) (suc at) node j h = set-fewer slots at node j h

-- a write of the same id keeps the ids
set-ids : (slots : List Slot) (at : ℕ) (s t : Slot) → slice_get slots at ≡ Some s → slot_id t ≡ slot_id s → slot_ids (set slots at t) ≡ slot_ids slots
set-ids [] at s t h same = cc
set-ids (x ∷ slots) zero s t h same =
    let here : x ≡ s = same_Some x s h in
    ap (λ i. i ∷ slot_ids slots) (same ∙ ap slot_id (sym here))
set-ids (x ∷ slots) (suc at) s t h same = ap (λ ids. slot_id x ∷ ids) (set-ids slots at s t h same)

-- a live span over a live one keeps the end
set-ends : (slots : List Slot) (at : ℕ) (s t : Slot) → slice_get slots at ≡ Some s → is_gone t ≡ is_gone s → ends_in_gap (set slots at t) ≡ ends_in_gap slots
set-ends [] at s t h same = cc
set-ends (x ∷ []) zero s t h same = same ∙ ap is_gone (sym (same_Some x s h))
set-ends (x ∷ y ∷ slots) zero s t h same = refl
set-ends (x ∷ []) (suc at) s t h same = cc
set-ends (x ∷ y ∷ slots) (suc zero) s t h same = set-ends (y ∷ slots) zero s t h same
set-ends (x ∷ y ∷ slots) (suc (suc at)) s t h same = set-ends (y ∷ slots) (suc at) s t h same

-- the count of spans is unchanged
set-counts : (slots : List Slot) (at : ℕ) (node new : KeptSpan) → slice_get slots at ≡ Some (Live node) →
    length (present (set slots at (Live new))) ≡ length (present slots)
set-counts [] at node new h = cc
set-counts (Live x ∷ slots) zero node new h = refl
set-counts (Live x ∷ slots) (suc at) node new h = let rest = set-counts slots at node new h in omega arith
set-counts (Gone k ∷ slots) zero node new h = absurd cc
set-counts (Gone k ∷ slots) (suc at) node new h = set-counts slots at node new h

-- what is overwritten by itself stays
set-same : (slots : List Slot) (at : ℕ) (s : Slot) → slice_get slots at ≡ Some s → set slots at s ≡ slots
set-same [] at s h = cc
set-same (x ∷ slots) zero s h = ap (λ y. y ∷ slots) (sym (same_Some x s h))
set-same (x ∷ slots) (suc at) s h = ap (λ xs. x ∷ xs) (set-same slots at s h)

-- ---- as the code reads and writes

-- a place that is read, at which a search found the id
pub record IsAt (slots : List Slot) (i : Id) (at : ℕ) (slot : Slot) : Type 0 where
  pub read : slice_get slots at ≡ Some slot
  pub found : find (slot_has i) slots ≡ Some slot
  pub same : slot_id slot ≡ i

pub at-place : (slice slots : List Slot) (i : Id) (at : ℕ) (slot : Slot) → slice ≡ slots →
    (at < length slice) × (find (slot_has i) slice ≡ slice_get slice at) → slot ≡ get_or slots at slot → IsAt slots i at slot
at-place slice slots i at slot e h here =
    let there : (at < length slots) × (find (slot_has i) slots ≡ slice_get slots at) =
    subst (λ xs. (at < length xs) × (find (slot_has i) xs ≡ slice_get xs at)) e h in
    let read : slice_get slots at ≡ Some slot = slice_get_read slots (length slots) at slot refl there.0 here in
    record { read = read; found = there.1 ∙ read; same = find-slot_id slots i slot (there.1 ∙ read) }

-- the span there is the one with the id
pub kept-there : (slots : List Slot) (now : List KeptSpan) (i : Id) (at live : ℕ) (slot : Slot) → IsLaidOut slots live → present slots ≡ now →
    IsAt slots i at slot → node_at now i ≡ slot_node slot
kept-there slots now i at live slot laid view h =
    ap (λ nodes. node_at nodes i) (sym view) ∙ present-find i slots laid.rising ∙ ap (λ o. option_and_then slot_node o) h.found

-- an id that is not found is not live
pub kept-nowhere : (slice slots : List Slot) (now : List KeptSpan) (i : Id) (live : ℕ) → IsLaidOut slots live → present slots ≡ now →
    slice ≡ slots → find (slot_has i) slice ≡ None → node_at now i ≡ None
kept-nowhere slice slots now i live laid view same none =
    ap (λ nodes. node_at nodes i) (sym view) ∙ present-find i slots laid.rising
    ∙ ap (λ o. option_and_then slot_node o) (ap (λ xs. find (slot_has i) xs) (sym same) ∙ none)

-- the list stays laid out if a live span is overwritten by itself, changed
pub laid-write : (slots : List Slot) (i : Id) (at live : ℕ) (node new : KeptSpan) → IsLaidOut slots live → IsAt slots i at (Live node) →
    new.span.id ≡ node.span.id → IsLaidOut (set slots at (Live new)) live
laid-write slots i at live node new laid h same = record {
  rising = subst AreRising (sym (set-ids slots at (Live node) (Live new) h.read same)) laid.rising;
  ends = set-ends slots at (Live node) (Live new) h.read refl ∙ laid.ends;
  counted = laid.counted ∙ sym (set-counts slots at node new h.read);
}

-- and the span of the id is changed
pub present-write : (change : KeptSpan → KeptSpan) (slots : List Slot) (now : List KeptSpan) (i : Id) (at live : ℕ) (node new : KeptSpan) →
    IsLaidOut slots live → present slots ≡ now → IsAt slots i at (Live node) → new ≡ change node →
    present (set slots at (Live new)) ≡ change_node change i now
present-write change slots now i at live node new laid view h e =
    let changed : present (set slots at (Live (change node))) ≡ change_node change node.span.id (present slots) =
    set-changes change slots at node laid.rising h.read in
    ap (λ (n : KeptSpan). present (set slots at (Live n))) e ∙ changed
    ∙ ap (λ j. change_node change j (present slots)) h.same ∙ ap (λ nodes. change_node change i nodes) view

-- the same of a change that may fail and keep the span: the id stays
pub attempt-id : {X E : Type 0} (change : KeptSpan → KeptSpan) (r : Result X E) (node new : KeptSpan) → (change node).span.id ≡ node.span.id →
    OnOk r (new ≡ change node) → OnErr r (new ≡ node) → new.span.id ≡ node.span.id
attempt-id change (Ok x) node new same ok err = ap (λ (k : KeptSpan). k.span.id) ok ∙ same
attempt-id change (Err e) node new same ok err = ap (λ (k : KeptSpan). k.span.id) err

-- if it doesn't fail, the span of the id is changed
pub present-attempt : {X E : Type 0} (change : KeptSpan → KeptSpan) (r : Result X E) (slots : List Slot) (now : List KeptSpan) (i : Id)
    (at live : ℕ) (node new : KeptSpan) → IsLaidOut slots live → present slots ≡ now → IsAt slots i at (Live node) →
    OnOk r (new ≡ change node) → OnOk r (present (set slots at (Live new)) ≡ change_node change i now)
present-attempt change (Ok x) slots now i at live node new laid view h ok = present-write change slots now i at live node new laid view h ok
present-attempt change (Err e) slots now i at live node new laid view h ok = tt

-- only a live span's change can fail
pub live-attempt : {X E : Type 0} (r : Result X E) (now : List KeptSpan) (i : Id) (node : KeptSpan) → node_at now i ≡ Some node →
    OnErr r (node_at now i ≡ None → ⊥)
live-attempt (Ok x) now i node h = tt
live-attempt (Err e) now i node h = (λ none. let found : Some node ≡ None = sym h ∙ none in cc)

-- a change of a span that isn't there changes nothing
pub change-none : (change : KeptSpan → KeptSpan) (i : Id) (nodes : List KeptSpan) → node_at nodes i ≡ None → nodes ≡ change_node change i nodes
change-none change i [] h = refl
change-none change i (x ∷ nodes) h = by (λ k. change-none change i nodes k) (keeps_id i x) refl
  where
    by : (node_at nodes i ≡ None → nodes ≡ change_node change i nodes) → (b : Bool) → keeps_id i x ≡ b → x ∷ nodes ≡ change_node change i (x ∷ nodes)
    by ih true e = absurd (let g : Some x ≡ None = subst (λ b. (if b then Some x else node_at nodes i) ≡ None) e h in cc)
    by ih false e = rw e (ap (λ xs. x ∷ xs) (ih (subst (λ b. (if b then Some x else node_at nodes i) ≡ None) e h)))

-- and so does one at a gap
pub present-gap : (change : KeptSpan → KeptSpan) (slots : List Slot) (now : List KeptSpan) (i j : Id) (at live : ℕ) (slot : Slot) →
    IsLaidOut slots live → present slots ≡ now → IsAt slots i at slot → slot ≡ Gone j → present (set slots at slot) ≡ change_node change i now
present-gap change slots now i j at live slot laid view h gone =
    ap present (set-same slots at slot h.read) ∙ view
    ∙ change-none change i now (kept-there slots now i at live slot laid view h ∙ ap slot_node gone)

-- ---- a span is added

-- with one more above a number all are above it
more-above : (n : ℕ) (ids : List Id) (i : Id) → ids_above n ids ≡ true → nat_lt n i.0 ≡ true → ids_above n (ids ++ i ∷ []) ≡ true
more-above n ids i all e = list_all-append (λ (j : Id). nat_lt n j.0) ids (i ∷ []) ∙ rw (all, e) refl

-- with an id after the others ids rise
rising-more : (ids : List Id) (i : Id) → AreRising ids → ids_below i.0 ids ≡ true → AreRising (ids ++ i ∷ [])
rising-more [] i rising h = (refl, tt)
rising-more (j ∷ ids) i rising h =
    let parts = and_parts (nat_lt j.0 i.0) (ids_below i.0 ids) h in
    (more-above j.0 ids i rising.0 parts.0, rising-more ids i rising.1 parts.1)

-- if the last place isn't a gap, all ids are below the bound of the spans' ids
below-all : (n : ℕ) (slots : List Slot) → AreRising (slot_ids slots) → ends_in_gap slots ≡ false → AreBelow n (present slots) → ids_below n (slot_ids slots) ≡ true
below-all n [] rising ends below = refl
below-all n (Live node ∷ []) rising ends below = below
below-all n (Gone j ∷ []) rising ends below = absurd (let gap : true ≡ false = ends in cc)
below-all n (x ∷ y ∷ slots) rising ends below = by (λ h. below-all n (y ∷ slots) rising.1 ends h) x refl
  where
    less : ids_below n (slot_ids (y ∷ slots)) ≡ true → nat_lt (slot_id x).0 n ≡ true
    less h =
        let next = (and_parts (nat_lt (slot_id y).0 n) (ids_below n (slot_ids slots)) h).0 in
        let first = (and_parts (nat_lt (slot_id x).0 (slot_id y).0) (ids_above (slot_id x).0 (slot_ids slots)) rising.0).0 in
        grind (arith, nat_tests, next, first)

    both : ids_below n (slot_ids (y ∷ slots)) ≡ true → ids_below n (slot_ids (x ∷ y ∷ slots)) ≡ true
    both h = rw (less h) h

    by : (AreBelow n (present (y ∷ slots)) → ids_below n (slot_ids (y ∷ slots)) ≡ true) → (z : Slot) → x ≡ z → ids_below n (slot_ids (x ∷ y ∷ slots)) ≡ true
    by ih (Live node) e =
        let here : AreBelow n (node ∷ present (y ∷ slots)) = subst (λ (s : Slot). AreBelow n (present (s ∷ y ∷ slots))) e below in
        both (ih (and_parts (nat_lt node.span.id.0 n) _ here).1)
    by ih (Gone j) e = both (ih (subst (λ (s : Slot). AreBelow n (present (s ∷ y ∷ slots))) e below))

-- the end of joined lists is the end of the second
ends-more : (slots : List Slot) (s : Slot) → ends_in_gap (slots ++ s ∷ []) ≡ is_gone s
ends-more [] s = refl
ends-more (x ∷ []) s = refl
ends-more (x ∷ y ∷ slots) s = ends-more (y ∷ slots) s

-- the spans of joined lists
present-more : (slots more : List Slot) → present (slots ++ more) ≡ present slots ++ present more
present-more [] more = refl
present-more (Live node ∷ slots) more = ap (λ xs. node ∷ xs) (present-more slots more)
present-more (Gone j ∷ slots) more = present-more slots more

-- there are no more spans than places
pub present-fits : (slots : List Slot) → length (present slots) ≤ length slots
present-fits [] = omega arith
present-fits (Live node ∷ slots) = let rest = present-fits slots in omega arith
present-fits (Gone j ∷ slots) = let rest = present-fits slots in omega arith

-- a span with the greatest id is added at the end
pub laid-push : (slots new : List Slot) (node : KeptSpan) (live more : ℕ) → IsLaidOut slots live → AreBelow node.span.id.0 (present slots) →
    new ≡ slots ++ Live node ∷ [] → more ≡ live + 1 → IsLaidOut new more
laid-push slots new node live more laid below e counted = record {
  rising = ap-rising (rising-more (slot_ids slots) node.span.id laid.rising (below-all node.span.id.0 slots laid.rising laid.ends below));
  ends = ap ends_in_gap e ∙ ends-more slots (Live node);
  counted = let n = ap (λ (xs : List KeptSpan). length xs) (ap present e ∙ present-more slots (Live node ∷ [])) in
      let sum = length-append (present slots) (node ∷ []) in omega (arith, n, sum, counted, laid.counted);
}
  where
    ap-rising : AreRising (slot_ids slots ++ node.span.id ∷ []) → AreRising (slot_ids new)
    ap-rising h = subst AreRising (sym (ap slot_ids e ∙ map-append slot_id slots (Live node ∷ []))) h

pub present-push : (slots new : List Slot) (now : List KeptSpan) (node : KeptSpan) → present slots ≡ now → new ≡ slots ++ Live node ∷ [] →
    present new ≡ now ++ node ∷ []
present-push slots new now node view e = ap present e ∙ present-more slots (Live node ∷ []) ∙ ap (λ xs. xs ++ node ∷ []) view

-- ---- a span is removed

-- the ids rise after a gap was written to a place
pub gone-rising : (slots : List Slot) (i : Id) (at live : ℕ) (slot : Slot) → IsLaidOut slots live → IsAt slots i at slot →
    AreRising (slot_ids (set slots at (Gone i)))
gone-rising slots i at live slot laid h =
    subst AreRising (sym (set-ids slots at slot (Gone i) h.read (sym h.same))) laid.rising

pub gone-leaves : (slots : List Slot) (now : List KeptSpan) (i : Id) (at live : ℕ) (node : KeptSpan) → IsLaidOut slots live → present slots ≡ now →
    IsAt slots i at (Live node) → present (set slots at (Gone i)) ≡ leave_out i now
gone-leaves slots now i at live node laid view h =
    set-leaves slots at node i laid.rising h.read ∙ ap (λ j. leave_out j (present slots)) h.same ∙ ap (λ nodes. leave_out i nodes) view

pub gone-counts : (slots : List Slot) (i : Id) (at live : ℕ) (node : KeptSpan) → IsLaidOut slots live → IsAt slots i at (Live node) →
    length (present (set slots at (Gone i))) + 1 ≡ live
gone-counts slots i at live node laid h = set-fewer slots at node i h.read ∙ sym laid.counted

-- removing a span that isn't there changes nothing
pub leave-none : (i : Id) (nodes : List KeptSpan) → node_at nodes i ≡ None → nodes ≡ leave_out i nodes
leave-none i [] h = refl
leave-none i (x ∷ nodes) h = by (λ k. leave-none i nodes k) (keeps_id i x) refl
  where
    by : (node_at nodes i ≡ None → nodes ≡ leave_out i nodes) → (b : Bool) → keeps_id i x ≡ b → x ∷ nodes ≡ leave_out i (x ∷ nodes)
    by ih true e = absurd (let g : Some x ≡ None = subst (λ b. (if b then Some x else node_at nodes i) ≡ None) e h in cc)
    by ih false e = rw e (ap (λ xs. x ∷ xs) (ih (subst (λ b. (if b then Some x else node_at nodes i) ≡ None) e h)))

-- a gap overwritten by itself changes nothing
pub gap-again : (slots : List Slot) (i j : Id) (at : ℕ) (slot : Slot) → IsAt slots i at slot → slot ≡ Gone j → set slots at (Gone i) ≡ slots
gap-again slots i j at slot h gone =
    let same : Gone i ≡ slot = ap (λ (k : Id). Gone k) (sym h.same ∙ ap slot_id gone) ∙ sym gone in
    ap (λ s. set slots at s) same ∙ set-same slots at slot h.read

-- ---- gaps are closed

-- the last place, read
pub ends-read : (slots : List Slot) → ends_in_gap slots ≡ option_map_or is_gone (slice_get slots (length slots - 1)) false
ends-read [] = refl
ends-read (x ∷ []) = refl
ends-read (x ∷ y ∷ slots) =
    let last : length (x ∷ y ∷ slots) - 1 ≡ suc (length (y ∷ slots) - 1) = omega arith in
    rw last (ends-read (y ∷ slots))

-- ids without the last rise
rising-less : (ids : List Id) (i : Id) → AreRising (ids ++ i ∷ []) → AreRising ids
rising-less [] i rising = tt
rising-less (j ∷ ids) i rising = (
  (and_parts (ids_above j.0 ids) (ids_above j.0 (i ∷ [])) (sym (list_all-append (λ (k : Id). nat_lt j.0 k.0) ids (i ∷ [])) ∙ rising.0)).0,
  rising-less ids i rising.1,
)

-- a gap at the end is removed
pub record IsTrimmed (old new : List Slot) : Type 0 where
  pub spans : present new ≡ present old
  pub rising : AreRising (slot_ids new)
  pub fewer : length new < length old

trimmed : (old new : List Slot) (taken : Option Slot) → old ≡ new ++ option_to_list taken → (taken ≡ None → length old ≡ 0) →
    ends_in_gap old ≡ true → AreRising (slot_ids old) → IsTrimmed old new
trimmed old new None e none ends rising = absurd (by old (none refl) ends)
  where
    by : (xs : List Slot) → length xs ≡ 0 → ends_in_gap xs ≡ true → ⊥
    by [] h g = let never : false ≡ true = g in cc
    by (x ∷ xs) h g = omega arith
trimmed old new (Some (Live node)) e none ends rising =
    absurd (let never : false ≡ true = sym (ends-more new (Live node)) ∙ ap ends_in_gap (sym e) ∙ ends in cc)
trimmed old new (Some (Gone j)) e none ends rising = record {
  spans = sym (ap present e ∙ present-more new (Gone j ∷ []) ∙ append-nil (present new));
  rising = rising-less (slot_ids new) j (subst AreRising (ap slot_ids e ∙ map-append slot_id new (Gone j ∷ [])) rising);
  fewer = let n = ap (λ (xs : List Slot). length xs) e ∙ length-append new (Gone j ∷ []) in omega arith;
}

-- the last place, if there is one
last-part : (old front rest : List Slot) → front ++ rest ≡ old → length front ≡ length old - 1 → ends_in_gap old ≡ true →
    AreRising (slot_ids old) → IsTrimmed old front
last-part old front [] e n ends rising =
    let all = ap (λ (xs : List Slot). length xs) e in
    trimmed old front None (sym e) (λ same. omega (arith, n, all, length-append front [])) ends rising
last-part old front (slot ∷ []) e n ends rising = trimmed old front (Some slot) (sym e) (λ h. let never : Some slot ≡ None = h in cc) ends rising
last-part old front (slot ∷ next ∷ rest) e n ends rising =
    let all = ap (λ (xs : List Slot). length xs) e in
    absurd (omega (arith, n, all, length-append front (slot ∷ next ∷ rest)))

pub trimmed_end : (old : List Slot) → ends_in_gap old ≡ true → AreRising (slot_ids old) → IsTrimmed old (take (length old - 1) old)
trimmed_end old ends rising =
    last-part old (take (length old - 1) old) (drop (length old - 1) old) (take-append-drop (length old - 1) old)
    (length-take-le (length old - 1) old (omega arith)) ends rising

-- the last place is removed instead of becoming a gap
pub vacated_end : (slots : List Slot) (at : ℕ) (i : Id) → at ≡ length slots - 1 → at < length slots →
    AreRising (slot_ids (set slots at (Gone i))) → IsTrimmed (set slots at (Gone i)) (take at slots)
vacated_end slots at i last inside rising =
    let rest : drop (suc at) slots ≡ [] = drop_all (suc at) slots (omega arith) in
    let whole : set slots at (Gone i) ≡ take at slots ++ Gone i ∷ [] =
    set_split slots at (Gone i) inside ∙ ap (λ xs. take at slots ++ Gone i ∷ xs) rest in
    let ends : ends_in_gap (set slots at (Gone i)) ≡ true = ap ends_in_gap whole ∙ ends-more (take at slots) (Gone i) in
    trimmed (set slots at (Gone i)) (take at slots) (Some (Gone i)) whole (λ h. let never : Some (Gone i) ≡ None = h in cc) ends rising

-- what is not in the list is not in a part of it
above-part : (n : ℕ) (slots : List Slot) → ids_above n (slot_ids slots) ≡ true → ids_above n (slot_ids (filter (λ slot. not (is_gone slot)) slots)) ≡ true
above-part n [] h = refl
above-part n (Live node ∷ slots) h =
    let parts = and_parts (nat_lt n node.span.id.0) (ids_above n (slot_ids slots)) h in rw parts.0 (above-part n slots parts.1)
above-part n (Gone j ∷ slots) h = above-part n slots (and_parts (nat_lt n j.0) (ids_above n (slot_ids slots)) h).1

-- without the gaps ids rise
pub rising-part : (slots : List Slot) → AreRising (slot_ids slots) → AreRising (slot_ids (filter (λ slot. not (is_gone slot)) slots))
rising-part [] h = tt
rising-part (Live node ∷ slots) h = (above-part node.span.id.0 slots h.0, rising-part slots h.1)
rising-part (Gone j ∷ slots) h = rising-part slots h.1

-- and the same spans are there
pub present-part : (slots : List Slot) → present (filter (λ slot. not (is_gone slot)) slots) ≡ present slots
present-part [] = refl
present-part (Live node ∷ slots) = ap (λ xs. node ∷ xs) (present-part slots)
present-part (Gone j ∷ slots) = present-part slots

-- and the last place isn't a gap
pub ends-part : (slots : List Slot) → ends_in_gap (filter (λ slot. not (is_gone slot)) slots) ≡ false
ends-part [] = refl
ends-part (Live node ∷ slots) = by (filter (λ slot. not (is_gone slot)) slots) (ends-part slots)
  where
    by : (rest : List Slot) → ends_in_gap rest ≡ false → ends_in_gap (Live node ∷ rest) ≡ false
    by [] h = refl
    by (y ∷ ys) h = h
ends-part (Gone j ∷ slots) = ends-part slots
