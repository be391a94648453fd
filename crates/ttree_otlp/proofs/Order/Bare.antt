-- The walk doesn't read the numbers that rows have in the input.
use Rattle.std.proofs.Common.{◌≡◌, ℕ, zero, suc, ◌-◌, Bool, true, false, cond, if◌then◌else◌, List, [], ◌∷◌, ◌++◌, codes, map, length, nat_lt, Option, Some, None, option_map, unwrap_or, refl, sym, ap, ◌∙◌}
use Rattle.std.specs.Ordering.{match_ordering}
use Rattle.std.specs.declared.cmp.Ordering.{Ordering}
use Rattle.std.specs.declared.cmp.Ordering.TheVariants.{Less, Equal, Greater}
use Rattle.std.proofs.lemmas.List.{length-map, map-append}
use Rattle.ttree_otlp.specs.Keyed.{after_first, first_kept, first_time, head_of, kept_at, tail_of, trace_of, with_kept, without_kept}
use Rattle.ttree_otlp.specs.Ties.{unnumbered}
use Rattle.ttree_otlp.specs.declared.item.Item.{Item}
use Rattle.ttree_otlp.specs.declared.walk.Row.{Row}
use Rattle.ttree_otlp.specs.Walk.{WalkState, after_item, begun_walk, entered_as, grouped, innermost_left, is_trace, key_in, left_over, left_over_as, next_item, opened_as, own_key, put_first, row_added, row_opened, rows_in_order, step_count, stepped_as, stepped_times, trace_item, walk_stepped}
use Rattle.ttree_otlp.proofs.Order.Keys.{cmp, is_key}

-- ---- values of a map

module _ {V W : Type 0} (f : V → W) where
  abbrev pub with_values : List (List ℕ × V) → List (List ℕ × W)
  with_values [] = []
  with_values (e ∷ es) = (e.0, f e.1) ∷ with_values es

  kept_values : (key : List ℕ) (es : List (List ℕ × V)) → kept_at key (with_values es) ≡ option_map f (kept_at key es)
  kept_values key [] = refl
  kept_values key (e ∷ es) = by (is_key key e.0) (kept_values key es) where
    by : (b : Bool) → kept_at key (with_values es) ≡ option_map f (kept_at key es)
        → cond b (Some (f e.1)) (kept_at key (with_values es)) ≡ option_map f (cond b (Some e.1) (kept_at key es))
    by true others = refl
    by false others = others

  without_values : (key : List ℕ) (es : List (List ℕ × V)) → without_kept key (with_values es) ≡ with_values (without_kept key es)
  without_values key [] = refl
  without_values key (e ∷ es) = by (is_key key e.0) (without_values key es) where
    by : (b : Bool) → without_kept key (with_values es) ≡ with_values (without_kept key es)
        → cond b (with_values es) ((e.0, f e.1) ∷ without_kept key (with_values es)) ≡ with_values (cond b es (e ∷ without_kept key es))
    by true others = refl
    by false others = ap (λ rest. (e.0, f e.1) ∷ rest) others

  values_with : (key : List ℕ) (value : V) (es : List (List ℕ × V)) → with_kept key (f value) (with_values es) ≡ with_values (with_kept key value es)
  values_with key value [] = refl
  values_with key value (e ∷ es) = by (cmp key e.0) (values_with key value es) where
    by : (o : Ordering) → with_kept key (f value) (with_values es) ≡ with_values (with_kept key value es)
        → match_ordering o ((key, f value) ∷ (e.0, f e.1) ∷ with_values es) ((e.0, f value) ∷ with_values es) ((e.0, f e.1) ∷ with_kept key (f value) (with_values es))
        ≡ with_values (match_ordering o ((key, value) ∷ e ∷ es) ((e.0, value) ∷ es) (e ∷ with_kept key value es))
    by Less others = refl
    by Equal others = refl
    by Greater others = ap (λ rest. (e.0, f e.1) ∷ rest) others

  values_after_first : (es : List (List ℕ × V)) → after_first (with_values es) ≡ with_values (after_first es)
  values_after_first [] = refl
  values_after_first (e ∷ es) = refl

  first_value : (es : List (List ℕ × V)) → first_kept (with_values es) ≡ option_map f (first_kept es)
  first_value [] = refl
  first_value (e ∷ es) = refl

-- ---- rows without their numbers

abbrev bare : List Item → List Item
bare rows = map unnumbered rows

abbrev pub bare_row : Row → Row
bare_row row = record row { item = unnumbered row.item }

abbrev bare_walk : WalkState → WalkState
bare_walk s = record {
  groups = with_values bare s.groups;
  frames = map bare s.frames;
  rows = map bare_row s.rows;
}

bare_or_none : (o : Option (List Item)) → unwrap_or (option_map bare o) [] ≡ bare (unwrap_or o [])
bare_or_none None = refl
bare_or_none (Some group) = refl

put_bare : (row : Item) (groups : List (List ℕ × List Item)) → put_first (unnumbered row) (with_values bare groups) ≡ with_values bare (put_first row groups)
put_bare row groups =
    let key = key_in row in
    ap (λ g. with_kept key (unnumbered row ∷ unwrap_or g []) (with_values bare groups)) (kept_values bare key groups)
    ∙ ap (λ l. with_kept key (unnumbered row ∷ l) (with_values bare groups)) (bare_or_none (kept_at key groups))
    ∙ values_with bare key (row ∷ unwrap_or (kept_at key groups) []) groups

grouped_bare : (rows : List Item) → grouped (bare rows) ≡ with_values bare (grouped rows)
grouped_bare [] = refl
grouped_bare (row ∷ rows) = ap (put_first (unnumbered row)) (grouped_bare rows) ∙ put_bare row (grouped rows)

-- ---- steps

row_added_bare : (item : Item) (s : WalkState) → row_added (unnumbered item) (bare_walk s) ≡ bare_walk (row_added item s)
row_added_bare item s =
    ap (λ n. record (bare_walk s) { rows = map bare_row s.rows ++ (record { depth = n - 1; item = unnumbered item }) ∷ [] }) (length-map s.frames bare)
    ∙ ap (λ l. record (bare_walk s) { rows = l }) (sym (map-append bare_row s.rows ((record { depth = length s.frames - 1; item = item }) ∷ [])))

opened_bare : (item : Item) (group : List Item) (s : WalkState) → row_opened (unnumbered item) (bare group) (bare_walk s) ≡ bare_walk (row_opened item group s)
opened_bare item group s = ap (λ (t : WalkState). record t { frames = bare group ∷ t.frames }) (row_added_bare item s)

opened_as_bare : (o : Option (List Item)) (item : Item) (s : WalkState) → opened_as (option_map bare o) (unnumbered item) (bare_walk s) ≡ bare_walk (opened_as o item s)
opened_as_bare (Some group) item s = opened_bare item group s
opened_as_bare None item s = by (is_trace item.shape) where
  by : (b : Bool) → (if b then bare_walk s else row_opened (unnumbered item) [] (bare_walk s)) ≡ bare_walk (if b then s else row_opened item [] s)
  by true = refl
  by false = opened_bare item [] s

entered_bare : (key : Option (List ℕ)) (item : Item) (s : WalkState) → entered_as key (unnumbered item) (bare_walk s) ≡ bare_walk (entered_as key item s)
entered_bare None item s = row_added_bare item s
entered_bare (Some key) item s =
    ap (λ g. opened_as g (unnumbered item) (record (bare_walk s) { groups = without_kept key (with_values bare s.groups) })) (kept_values bare key s.groups)
    ∙ ap (λ l. opened_as (option_map bare (kept_at key s.groups)) (unnumbered item) (record (bare_walk s) { groups = l })) (without_values bare key s.groups)
    ∙ opened_as_bare (kept_at key s.groups) item (record s { groups = without_kept key s.groups })

tail_bare : (frames : List (List Item)) → tail_of (map bare frames) ≡ map bare (tail_of frames)
tail_bare [] = refl
tail_bare (frame ∷ frames) = refl

trace_bare : (group : List Item) → trace_of (bare group) ≡ trace_of group
trace_bare [] = refl
trace_bare (row ∷ rows) = refl

time_bare : (group : List Item) → first_time (bare group) ≡ first_time group
time_bare [] = refl
time_bare (row ∷ rows) = refl

left_over_as_bare : (o : Option (List Item)) (s : WalkState) → left_over_as (option_map bare o) (bare_walk s) ≡ bare_walk (left_over_as o s)
left_over_as_bare None s = refl
left_over_as_bare (Some group) s =
    ap (λ t. row_opened (trace_item t (first_time (bare group))) (bare group) (bare_walk s)) (trace_bare group)
    ∙ ap (λ t. row_opened (trace_item (trace_of group) t) (bare group) (bare_walk s))
    (time_bare group)
    ∙ opened_bare (trace_item (trace_of group) (first_time group)) group s

left_over_bare : (s : WalkState) → left_over (bare_walk s) ≡ bare_walk (left_over s)
left_over_bare s =
    ap (λ g. left_over_as g (record (bare_walk s) { groups = after_first (with_values bare s.groups) })) (first_value bare s.groups)
    ∙ ap (λ l. left_over_as (option_map bare (first_kept s.groups)) (record (bare_walk s) { groups = l })) (values_after_first bare s.groups)
    ∙ left_over_as_bare (first_kept s.groups) (record s { groups = after_first s.groups })

left_bare : (s : WalkState) → innermost_left (bare_walk s) ≡ bare_walk (innermost_left s)
left_bare s =
    ap (λ n. if nat_lt 1 n then record (bare_walk s) { frames = tail_of (map bare s.frames) } else left_over (bare_walk s)) (length-map s.frames bare)
    ∙ by (nat_lt 1 (length s.frames))
  where
    by : (b : Bool) → (if b then record (bare_walk s) { frames = tail_of (map bare s.frames) } else left_over (bare_walk s)) ≡ bare_walk (if b then record s { frames = tail_of s.frames } else left_over s)
    by true = ap (λ l. record (bare_walk s) { frames = l }) (tail_bare s.frames)
    by false = left_over_bare s

stepped_as_bare : (o : Option Item) (s : WalkState) → stepped_as (option_map unnumbered o) (bare_walk s) ≡ bare_walk (stepped_as o s)
stepped_as_bare (Some item) s = entered_bare (own_key item) item s
stepped_as_bare None s = left_bare s

head_bare : (group : List Item) → head_of (bare group) ≡ option_map unnumbered (head_of group)
head_bare [] = refl
head_bare (row ∷ rows) = refl

next_bare : (frames : List (List Item)) → next_item (map bare frames) ≡ option_map unnumbered (next_item frames)
next_bare [] = refl
next_bare (frame ∷ frames) = head_bare frame

rest_bare : (group : List Item) → tail_of (bare group) ≡ bare (tail_of group)
rest_bare [] = refl
rest_bare (row ∷ rows) = refl

after_bare : (frames : List (List Item)) → after_item (map bare frames) ≡ map bare (after_item frames)
after_bare [] = refl
after_bare (frame ∷ frames) = ap (λ l. l ∷ map bare frames) (rest_bare frame)

stepped_bare : (s : WalkState) → walk_stepped (bare_walk s) ≡ bare_walk (walk_stepped s)
stepped_bare s =
    ap (λ o. stepped_as o (record (bare_walk s) { frames = after_item (map bare s.frames) })) (next_bare s.frames)
    ∙ ap (λ l. stepped_as (option_map unnumbered (next_item s.frames)) (record (bare_walk s) { frames = l })) (after_bare s.frames)
    ∙ stepped_as_bare (next_item s.frames) (record s { frames = after_item s.frames })

stepped_times_bare : (n : ℕ) (s : WalkState) → stepped_times n (bare_walk s) ≡ bare_walk (stepped_times n s)
stepped_times_bare zero s = refl
stepped_times_bare (suc n) s = ap walk_stepped (stepped_times_bare n s) ∙ stepped_bare (stepped_times n s)

begun_bare : (groups : List (List ℕ × List Item)) → begun_walk (with_values bare groups) ≡ bare_walk (begun_walk groups)
begun_bare groups =
    ap (λ l. record { groups = l; frames = unwrap_or (kept_at (codes " ") (with_values bare groups)) [] ∷ []; rows = [] }) (without_values bare (codes " ") groups)
    ∙ ap (λ g. record { groups = with_values bare (without_kept (codes " ") groups); frames = unwrap_or g [] ∷ []; rows = [] }) (kept_values bare (codes " ") groups)
    ∙ ap (λ f. record { groups = with_values bare (without_kept (codes " ") groups); frames = f ∷ []; rows = [] }) (bare_or_none (kept_at (codes " ") groups))

pub in_order_bare : (rows : List Item) → rows_in_order (map unnumbered rows) ≡ map bare_row (rows_in_order rows)
in_order_bare rows =
    ap (λ n. (stepped_times (step_count n) (begun_walk (grouped (bare rows)))).rows) (length-map rows unnumbered)
    ∙ ap (λ g. (stepped_times (step_count (length rows)) (begun_walk g)).rows) (grouped_bare rows)
    ∙ ap (λ (s : WalkState). (stepped_times (step_count (length rows)) s).rows) (begun_bare (grouped rows))
    ∙ ap (λ (s : WalkState). s.rows) (stepped_times_bare (step_count (length rows)) (begun_walk (grouped rows)))
