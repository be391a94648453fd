-- Marks change nothing about what closes.
use Rattle.std.proofs.Common.{◌≡◌, ◌+◌, ◌==◌, ◌&&◌, ◌-◌, cond, take, Bool, true, false, List, [], ◌∷◌, map, filter, reverse, Option, Some, None, option_map, if◌then◌else◌, refl, sym, ap, ◌∙◌}
use Rattle.std.specs.Prelude.{take_while}
use Rattle.std.specs.Option.{option_map_or}
use Rattle.std.specs.List.{list_any, list_all, prefix_len}
use Rattle.tracing_tree_drawing.specs.Format.Settings.{Settings}
use Rattle.tracing_tree_spans.specs.Registry.Ids.{same_id}
use Rattle.tracing_tree_spans.specs.Registry.Spans.{Span, printed_span}
use Rattle.tracing_tree_spans.specs.Registry.Forest.{Forest, has_id, span_at, handles_of, is_child_of, children_of, goes_after, with_previous, going_up, closing_of, path_of, take_handle, mark_all}
use Rattle.tracing_tree_base.specs.declared.context.Id.{Id}
use Rattle.tracing_tree_base.specs.declared.context.Context.{Context}
use Rattle.tracing_tree_layer.specs.Layered.State.{Turn}
use Rattle.tracing_tree_layer.specs.Layer.Turns.{turn_of_closes}
use Rattle.tracing_tree_layer.specs.Layer.Plan.{empty_plan, plan_of_closes}
use Rattle.tracing_tree_layer.proofs.Reading.Followed.{marked, marked-same}
use Rattle.tracing_tree_layer.proofs.Marks.{span_at-marked, path_of-marked}
use Rattle.tracing_tree_layer.proofs.Plans.{turn-closes}

map-pointwise : {A B : Type 0} (u v : A → B) → ((s : A) → u s ≡ v s) → (xs : List A) → map u xs ≡ map v xs
map-pointwise u v h [] = refl
map-pointwise u v h (x ∷ xs) = λ i. h x i ∷ map-pointwise u v h xs i

map-twice : {A B C : Type 0} (u : A → B) (v : B → C) (xs : List A) → map v (map u xs) ≡ map (λ s. v (u s)) xs
map-twice u v [] = refl
map-twice u v (x ∷ xs) = ap (λ ys. v (u x) ∷ ys) (map-twice u v xs)

-- ---- handles

handles-marked : (ids : List Id) (s : Span) → (marked ids s).handles ≡ s.handles
handles-marked ids s = elim (list_any (same_id s.id) ids) as (λ b. (if b then printed_span s else s).handles ≡ s.handles) [ true ↦ refl | false ↦ refl ]

pub handles_of-marked : (ids : List Id) (forest : Forest) (i : Id) → handles_of (mark_all ids forest) i ≡ handles_of forest i
handles_of-marked ids forest i = ap (λ (o : Option Span). option_map_or (λ span. span.handles) o 0) (span_at-marked ids forest i) ∙ by (span_at forest i)
  where
    by : (o : Option Span) → option_map_or (λ (span : Span). span.handles) (option_map (marked ids) o) 0 ≡ option_map_or (λ (span : Span). span.handles) o 0
    by None = refl
    by (Some s) = handles-marked ids s

-- a handle is dropped before or after the marks
taken-marked : (ids : List Id) (i : Id) (s : Span) →
    (if has_id i (marked ids s) then record (marked ids s) { handles = (marked ids s).handles - 1 } else marked ids s)
    ≡ marked ids (if has_id i s then record s { handles = s.handles - 1 } else s)
taken-marked ids i s = by (list_any (same_id s.id) ids) (has_id i s) refl refl
  where
    by : (b d : Bool) → list_any (same_id s.id) ids ≡ b → has_id i s ≡ d →
        (if has_id i (marked ids s) then record (marked ids s) { handles = (marked ids s).handles - 1 } else marked ids s)
        ≡ marked ids (if has_id i s then record s { handles = s.handles - 1 } else s)
    by true true e h = rw (e, h) (rw e refl)
    by true false e h = rw (e, h) (rw e refl)
    by false true e h = rw (e, h) (rw e refl)
    by false false e h = rw (e, h) (rw e refl)

pub take_handle-marked : (ids : List Id) (i : Id) (forest : Forest) → take_handle i (mark_all ids forest) ≡ mark_all ids (take_handle i forest)
take_handle-marked ids i forest = ap (λ xs. record forest { spans = xs })
    (map-twice (marked ids) (λ s. if has_id i s then record s { handles = s.handles - 1 } else s) forest.spans
    ∙ map-pointwise _ _ (taken-marked ids i) forest.spans
    ∙ sym (map-twice (λ s. if has_id i s then record s { handles = s.handles - 1 } else s) (marked ids) forest.spans))

-- ---- children

children-marked : (ids : List Id) (i : Id) (spans : List Span) → filter (is_child_of i) (map (marked ids) spans) ≡ map (marked ids) (filter (is_child_of i) spans)
children-marked ids i [] = refl
children-marked ids i (x ∷ spans) =
    ap (λ (o : Option Id). if option_map_or (same_id i) o false then marked ids x ∷ filter (is_child_of i) (map (marked ids) spans) else filter (is_child_of i) (map (marked ids) spans)) ((marked-same ids).parents x)
    ∙ by (is_child_of i x) (children-marked ids i spans)
  where
    by : (b : Bool) → filter (is_child_of i) (map (marked ids) spans) ≡ map (marked ids) (filter (is_child_of i) spans) →
        (if b then marked ids x ∷ filter (is_child_of i) (map (marked ids) spans) else filter (is_child_of i) (map (marked ids) spans))
        ≡ map (marked ids) (if b then x ∷ filter (is_child_of i) spans else filter (is_child_of i) spans)
    by true ih = ap (λ xs. marked ids x ∷ xs) ih
    by false ih = ih

each-marked : (ids : List Id) (before : Option Id) (spans : List Span) →
    list_all (λ (child : Span). option_map_or (same_id child.id) before false) (map (marked ids) spans)
    ≡ list_all (λ (child : Span). option_map_or (same_id child.id) before false) spans
each-marked ids before [] = refl
each-marked ids before (x ∷ spans) =
    (λ k. option_map_or (same_id ((marked-same ids).ids x k)) before false && each-marked ids before spans k)

-- ---- what closes

goes_after-marked : (ids : List Id) (forest : Forest) (before : Option Id) (i : Id) → goes_after (mark_all ids forest) before i ≡ goes_after forest before i
goes_after-marked ids forest before i =
    let handles = handles_of-marked ids forest i in
    let each = ap (list_all (λ (child : Span). option_map_or (same_id child.id) before false)) (children-marked ids i forest.spans)
    ∙ each-marked ids before (children_of forest i) in
    (λ k. (handles k == 0) && each k)

prefix-same : {A : Type 0} (p q : A → Bool) → ((x : A) → p x ≡ q x) → (xs : List A) → prefix_len p xs ≡ prefix_len q xs
prefix-same p q h [] = refl
prefix-same p q h (x ∷ xs) = λ k. cond (h x k) (1 + prefix-same p q h xs k) 0

while-same : {A : Type 0} (p q : A → Bool) → ((x : A) → p x ≡ q x) → (xs : List A) → take_while p xs ≡ take_while q xs
while-same p q h xs = ap (λ n. take n xs) (prefix-same p q h xs)

going_up-marked : (ids : List Id) (forest : Forest) (i : Id) → going_up (mark_all ids forest) i ≡ going_up forest i
going_up-marked ids forest i =
    ap (λ (path : List Id). map (λ step. step.1) (take_while (λ step. goes_after (mark_all ids forest) step.0 step.1) (with_previous (reverse path)))) (path_of-marked ids forest i)
    ∙ ap (map (λ step. step.1)) (while-same _ _ (λ step. goes_after-marked ids forest step.0 step.1) (with_previous (reverse (path_of forest i))))

pub closing_of-marked : (ids : List Id) (forest : Forest) (i : Id) → closing_of (mark_all ids forest) i ≡ closing_of forest i
closing_of-marked ids forest i = ap (λ f. going_up f i) (take_handle-marked ids i forest) ∙ going_up-marked ids (take_handle i forest) i

-- a turn of closes only marks spans
pub closes-marked : (settings : Settings) (context : Context) (ids : List Id) (forest : Forest) (last : Option Id) →
    (turn_of_closes settings context ids forest last).forest ≡ mark_all (plan_of_closes settings forest ids (empty_plan last)).fresh forest
closes-marked settings context ids forest last = sym (ap (λ (t : Turn). t.forest) (turn-closes settings context forest ids last))
