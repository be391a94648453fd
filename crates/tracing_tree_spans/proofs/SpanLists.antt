-- Lists of spans in the order of their ids: a span's place, and what an edit at its place does.
use Rattle.std.proofs.Common.{◌≡◌, ℕ, zero, suc, ◌<◌, ◌≤◌, nat_lt, Bool, true, false, not, List, [], ◌∷◌, length, get_or, set, map, find, filter, slice_get, Option, Some, None, MatchOption, if◌then◌else◌, arith, refl, sym, ap, ◌∙◌, subst}
use Rattle.std.specs.List.{list_all, remove}
use Rattle.std.specs.Option.{option_map_or}
use Rattle.std.proofs.lemmas.Bool.{eqb-true, and_parts}
use Rattle.std.proofs.lemmas.Bool.Decides.{nat_tests}
use Rattle.std.proofs.lemmas.Option.{slice_get-get_or, slice_get_within, same_Some}
use Rattle.tracing_tree_spans.specs.Registry.Ids.{id_of}
use Rattle.tracing_tree_spans.specs.Registry.Spans.{Span}
use Rattle.tracing_tree_spans.specs.Registry.Forest.{has_id}
use Rattle.tracing_tree_spans.specs.Registry.Registered.{IsRising}
use Rattle.tracing_tree_base.specs.declared.context.Id.{Id}

-- all of these ids are above this number
abbrev pub all_above : ℕ → List Span → Bool
all_above n spans = list_all (λ other. nat_lt n other.id.0) spans

-- if all ids are above a number, so is that of each place
above-at : (n : ℕ) (spans : List Span) (k : ℕ) (s : Span) → all_above n spans ≡ true → slice_get spans k ≡ Some s → n < s.id.0
above-at n [] k s all h = cc
above-at n (x ∷ spans) zero s all h =
    let same : x ≡ s = same_Some x s h in
    let first : nat_lt n x.id.0 ≡ true = (and_parts (nat_lt n x.id.0) (all_above n spans) all).0 in
    subst (λ (y : Span). n < y.id.0) same (grind (arith, nat_tests))
above-at n (x ∷ spans) (suc k) s all h = above-at n spans k s (and_parts (nat_lt n x.id.0) (all_above n spans) all).1 h

-- a span has its own id
pub own_id : (s : Span) → has_id s.id s ≡ true
own_id s = grind (arith, nat_tests)

-- a span of a lower id doesn't have this id
pub lower_not : (x : Span) (i : Id) → x.id.0 < i.0 → has_id i x ≡ false
lower_not x i h = grind (arith, nat_tests)

-- a span of a higher id doesn't have this id
pub higher_not : (x : Span) (i : Id) → i.0 < x.id.0 → has_id i x ≡ false
higher_not x i h = grind (arith, nat_tests)

-- the span at a place is found by its id
pub find-at : (spans : List Span) (k : ℕ) (s : Span) → IsRising spans → slice_get spans k ≡ Some s → find (has_id s.id) spans ≡ Some s
find-at [] k s rising h = cc
find-at (x ∷ spans) zero s rising h =
    let same : x ≡ s = same_Some x s h in
    subst (λ (y : Span). find (has_id y.id) (x ∷ spans) ≡ Some y) same (rw own_id refl)
find-at (x ∷ spans) (suc k) s rising h =
    let low : x.id.0 < s.id.0 = above-at x.id.0 spans k s rising.0 h in
    rw lower_not (find-at spans k s rising.1 h)

-- what is found has the id
pub find-id : (spans : List Span) (i : Id) (s : Span) → find (has_id i) spans ≡ Some s → s.id ≡ i
find-id [] i s h = cc
find-id (x ∷ spans) i s h = by (λ k. find-id spans i s k) (has_id i x) refl
  where
    by : (find (has_id i) spans ≡ Some s → s.id ≡ i) → (b : Bool) → has_id i x ≡ b → s.id ≡ i
    by ih true e =
        let same : x ≡ s = same_Some x s (subst (λ b. (if b then Some x else find (has_id i) spans) ≡ Some s) e h) in
        subst (λ (y : Span). y.id ≡ i) same (ap id_of (eqb-true x.id.0 i.0 e))
    by ih false e = ih (subst (λ b. (if b then Some x else find (has_id i) spans) ≡ Some s) e h)

-- an id that no place has is not found
find-nowhere : (spans : List Span) (i : Id) → ((k : ℕ) (d : Span) → k < length spans → has_id i (get_or spans k d) ≡ false) → find (has_id i) spans ≡ None
find-nowhere [] i none = refl
find-nowhere (x ∷ spans) i none = rw (none zero x (omega arith)) (find-nowhere spans i (λ k d h. none (suc k) d (omega arith)))

-- ids rise from place to place
rise : (spans : List Span) (d : Span) → IsRising spans → (j k : ℕ) → j ≤ k → k < length spans → (get_or spans j d).id.0 ≤ (get_or spans k d).id.0
rise [] d rising j k h within = absurd (omega arith)
rise (x ∷ spans) d rising zero zero h within = omega arith
rise (x ∷ spans) d rising zero (suc k) h within =
    let low : x.id.0 < (get_or spans k d).id.0 = above-at x.id.0 spans k (get_or spans k d) rising.0 (slice_get-get_or spans k d (omega arith)) in
    omega arith
rise (x ∷ spans) d rising (suc j) zero h within = absurd (omega arith)
rise (x ∷ spans) d rising (suc j) (suc k) h within = rise spans d rising.1 j k (omega arith) (omega arith)

-- the answer of a search for an id
abbrev pub IsFound : List Span → Id → Option ℕ → Type 0
IsFound spans i place =
    MatchOption place (find (has_id i) spans ≡ None) (λ at. (at < length spans) × (find (has_id i) spans ≡ slice_get spans at))

-- the span at a place has the id, so it is the span's place
pub found_at : (spans : List Span) (i : Id) (at : ℕ) → IsRising spans → option_map_or (has_id i) (slice_get spans at) false ≡ true → IsFound spans i (Some at)
found_at spans i at rising here = by (slice_get spans at) refl
  where
    by : (read : Option Span) → slice_get spans at ≡ read → IsFound spans i (Some at)
    by None e =
        let nowhere : false ≡ true = rw e at here in
        absurd cc
    by (Some d) e =
        let own : has_id i d ≡ true = rw e at here in
        let same : d.id ≡ i = ap id_of (eqb-true d.id.0 i.0 own) in
        (slice_get_within spans at d e, subst (λ j. find (has_id j) spans ≡ slice_get spans at) same (find-at spans at d rising e ∙ sym e))

-- above a span no other has its id
unchanged : (change : Span → Span) (i : Id) (spans : List Span) → all_above i.0 spans ≡ true →
    map (λ span. if has_id i span then change span else span) spans ≡ spans
unchanged change i [] all = refl
unchanged change i (x ∷ spans) all =
    let parts = and_parts (nat_lt i.0 x.id.0) (all_above i.0 spans) all in
    let other : has_id i x ≡ false = grind (arith, nat_tests, parts.0) in
    rw other (ap (λ xs. x ∷ xs) (unchanged change i spans parts.1))

-- a write of the changed span at its place changes the span of this id
pub set_is_update : (change : Span → Span) (spans : List Span) (k : ℕ) (s : Span) → IsRising spans → slice_get spans k ≡ Some s →
    set spans k (change s) ≡ map (λ span. if has_id s.id span then change span else span) spans
set_is_update change [] k s rising h = cc
set_is_update change (x ∷ spans) zero s rising h =
    let same : x ≡ s = same_Some x s h in
    subst (λ (y : Span). set (x ∷ spans) zero (change y) ≡ map (λ span. if has_id y.id span then change span else span) (x ∷ spans)) same
    (rw own_id (ap (λ xs. change x ∷ xs) (sym (unchanged change x.id spans rising.0))))
set_is_update change (x ∷ spans) (suc k) s rising h =
    let low : x.id.0 < s.id.0 = above-at x.id.0 spans k s rising.0 h in
    rw lower_not (ap (λ xs. x ∷ xs) (set_is_update change spans k s rising.1 h))

-- if all ids are above this one, removing this id keeps all
all_kept : (i : Id) (spans : List Span) → all_above i.0 spans ≡ true → filter (λ span. not (has_id i span)) spans ≡ spans
all_kept i [] all = refl
all_kept i (x ∷ spans) all =
    let parts = and_parts (nat_lt i.0 x.id.0) (all_above i.0 spans) all in
    let other : has_id i x ≡ false = grind (arith, nat_tests, parts.0) in
    rw other (ap (λ xs. x ∷ xs) (all_kept i spans parts.1))

-- a removal at the place of a span keeps all but the span of this id
pub remove_is_filter : (spans : List Span) (k : ℕ) (s : Span) → IsRising spans → slice_get spans k ≡ Some s →
    remove spans k ≡ filter (λ span. not (has_id s.id span)) spans
remove_is_filter [] k s rising h = cc
remove_is_filter (x ∷ spans) zero s rising h =
    let same : x ≡ s = same_Some x s h in
    subst (λ (y : Span). spans ≡ filter (λ span. not (has_id y.id span)) (x ∷ spans)) same
    (rw own_id (sym (all_kept x.id spans rising.0)))
remove_is_filter (x ∷ spans) (suc k) s rising h =
    let low : x.id.0 < s.id.0 = above-at x.id.0 spans k s rising.0 h in
    rw lower_not (ap (λ xs. x ∷ xs) (remove_is_filter spans k s rising.1 h))
