-- What marks keep of a forest.
use Rattle.std.proofs.Common.{◌≡◌, ℕ, ◌-◌, ◌||◌, ◌&&◌, Bool, true, false, not, List, [], ◌∷◌, ◌++◌, map, drop, length, Option, Some, None, is_some, option_map, option_and_then, if◌then◌else◌, refl, sym, ap, ◌∙◌}
use Rattle.std.specs.Option.{option_map_or}
use Rattle.std.specs.List.{list_any, common_prefix_len}
use Rattle.std.proofs.lemmas.List.Folds.{list_any-append}
use Rattle.tracing_tree_drawing.specs.Format.Settings.{Settings, retraces}
use Rattle.tracing_tree_spans.specs.Registry.Ids.{same_id}
use Rattle.tracing_tree_spans.specs.Registry.Spans.{Span, printed_span}
use Rattle.tracing_tree_spans.specs.Registry.Forest.{Forest, span_at, is_printed, parent_of, path_of, path_of_any, fresh_ids, mark_all, mark_printed}
use Rattle.tracing_tree_spans.specs.Registry.Lookup.{data_at}
use Rattle.tracing_tree_drawing.specs.Format.Picture.{Row}
use Rattle.tracing_tree_base.specs.declared.context.Id.{Id}
use Rattle.tracing_tree_base.specs.declared.context.Context.{Context}
use Rattle.tracing_tree_spans.specs.declared.registry.node.Data.{Data}
use Rattle.tracing_tree_drawing.specs.declared.format.SpanMode.{SpanMode}
use Rattle.tracing_tree_layer.specs.Layer.Block.{span_block}
use Rattle.tracing_tree_layer.specs.Layer.Turns.{block_of, span_row, parent_rows}
use Rattle.tracing_tree_layer.specs.Layer.CloseRetrace.{retraces_before_close}
use Rattle.tracing_tree_spans.proofs.RegistryLaws.{find-same}
use Rattle.tracing_tree_layer.proofs.Reading.Changes.{path_of-same, path_of_any-same}
use Rattle.tracing_tree_layer.proofs.Reading.Followed.{marked, marked-same, printed-marked, mark_printed-all}

-- ---- marks together

map-twice : (u v : Span → Span) (xs : List Span) → map v (map u xs) ≡ map (λ s. v (u s)) xs
map-twice u v [] = refl
map-twice u v (x ∷ xs) = ap (λ ys. v (u x) ∷ ys) (map-twice u v xs)

map-pointwise : (u v : Span → Span) → ((s : Span) → u s ≡ v s) → (xs : List Span) → map u xs ≡ map v xs
map-pointwise u v h [] = refl
map-pointwise u v h (x ∷ xs) = λ i. h x i ∷ map-pointwise u v h xs i

map-none : (xs : List Span) → map (marked []) xs ≡ xs
map-none [] = refl
map-none (x ∷ xs) = ap (λ ys. x ∷ ys) (map-none xs)

-- no mark changes nothing
pub mark_all-none : (forest : Forest) → mark_all [] forest ≡ forest
mark_all-none forest = ap (λ xs. record forest { spans = xs }) (map-none forest.spans)

marked-twice : (first second : List Id) (s : Span) → marked second (marked first s) ≡ marked (first ++ second) s
marked-twice first second s =
    elim (list_any (same_id s.id) first) as (λ b. marked second (if b then printed_span s else s) ≡ (if b || list_any (same_id s.id) second then printed_span s else s)) [
      | true ↦ elim (list_any (same_id s.id) second) as (λ b. (if b then printed_span (printed_span s) else printed_span s) ≡ printed_span s) [ true ↦ refl | false ↦ refl ]
      | false ↦ refl
    ]
    ∙ ap (λ b. if b then printed_span s else s) (sym (list_any-append (same_id s.id) first second))

-- some spans are marked and then others
pub mark_all-append : (first second : List Id) (forest : Forest) → mark_all (first ++ second) forest ≡ mark_all second (mark_all first forest)
mark_all-append first second forest = ap (λ xs. record forest { spans = xs })
    (sym (map-twice (marked first) (marked second) forest.spans
    ∙ map-pointwise (λ s. marked second (marked first s)) (marked (first ++ second)) (marked-twice first second) forest.spans))

-- one span is marked and then the others
pub marks_first : (i : Id) (others : List Id) (forest : Forest) → mark_all (i ∷ others) forest ≡ mark_all others (mark_printed i forest)
marks_first i others forest = mark_all-append (i ∷ []) others forest ∙ ap (mark_all others) (sym (mark_printed-all i forest))

-- ---- what is seen of a marked forest

pub span_at-marked : (ids : List Id) (forest : Forest) (i : Id) → span_at (mark_all ids forest) i ≡ option_map (marked ids) (span_at forest i)
span_at-marked ids forest i = find-same (marked ids) (marked-same ids) i forest.spans

pub parent_of-marked : (ids : List Id) (forest : Forest) (i : Id) → parent_of (mark_all ids forest) i ≡ parent_of forest i
parent_of-marked ids forest i = ap (λ (o : Option Span). option_and_then (λ s. s.parent) o) (span_at-marked ids forest i) ∙ by (span_at forest i)
  where
    by : (o : Option Span) → option_and_then (λ (s : Span). s.parent) (option_map (marked ids) o) ≡ option_and_then (λ (s : Span). s.parent) o
    by None = refl
    by (Some s) = (marked-same ids).parents s

pub path_of_any-marked : (ids : List Id) (forest : Forest) (o : Option Id) → path_of_any (mark_all ids forest) o ≡ path_of_any forest o
path_of_any-marked ids forest o = path_of_any-same (marked ids) (marked-same ids) forest o

pub path_of-marked : (ids : List Id) (forest : Forest) (i : Id) → path_of (mark_all ids forest) i ≡ path_of forest i
path_of-marked ids forest i = path_of-same (marked ids) (marked-same ids) forest i

pub fresh_ids-marked : (ids : List Id) (forest : Forest) (last : Option Id) (i : Id) → fresh_ids (mark_all ids forest) last i ≡ fresh_ids forest last i
fresh_ids-marked ids forest last i =
    let old = path_of_any-marked ids forest last in
    let new = path_of-marked ids forest i in
    (λ k. drop (common_prefix_len same_id (old k) (new k)) (new k))

-- a mark is not drawn
pub block_of-marked : (settings : Settings) (ids : List Id) (forest : Forest) (mode : SpanMode) (i : Id) →
    block_of settings (mark_all ids forest) mode i ≡ block_of settings forest mode i
block_of-marked settings ids forest mode i = ap (λ o. option_map_or block o []) (span_at-marked ids forest i) ∙ by (span_at forest i)
  where
    block : Span → List ℕ
    block span = span_block settings mode span.target span.name span.kept.fields

    by : (o : Option Span) → option_map_or block (option_map (marked ids) o) [] ≡ option_map_or block o []
    by None = refl
    by (Some s) = elim (list_any (same_id s.id) ids) as (λ b. block (if b then printed_span s else s) ≡ block s) [ true ↦ refl | false ↦ refl ]

pub span_row-marked : (settings : Settings) (context : Context) (ids : List Id) (forest : Forest) (mode : SpanMode) (i : Id) →
    span_row settings context (mark_all ids forest) mode i ≡ span_row settings context forest mode i
span_row-marked settings context ids forest mode i =
    let path = path_of-marked ids forest i in
    let block = block_of-marked settings ids forest mode i in
    (λ k. record (span_row settings context forest mode i) { level = length (path k) - 1; block = block k })

pub parent_rows-marked : (on : Bool) (settings : Settings) (context : Context) (ids : List Id) (forest : Forest) (mode : SpanMode) (i : Id) →
    parent_rows settings context (mark_all ids forest) on mode i ≡ parent_rows settings context forest on mode i
parent_rows-marked on settings context ids forest mode i =
    ap (λ (o : Option Id). if on then option_map_or (λ above. span_row settings context (mark_all ids forest) mode above ∷ []) o [] else []) (parent_of-marked ids forest i)
    ∙ by (parent_of forest i)
  where
    by : (o : Option Id) → (if on then option_map_or (λ above. span_row settings context (mark_all ids forest) mode above ∷ []) o [] else [])
        ≡ (if on then option_map_or (λ above. span_row settings context forest mode above ∷ []) o [] else [])
    by None = refl
    by (Some above) = ap (λ (row : Row). if on then row ∷ [] else []) (span_row-marked settings context ids forest mode above)

-- ---- whether a span is marked

-- a live span is printed if its data says so, or if it is among the marked
pub printed-data : (ids : List Id) (forest : Forest) (i : Id) (kept : Data) → data_at forest i ≡ Some kept →
    is_printed (mark_all ids forest) i ≡ (kept.written || list_any (same_id i) ids)
printed-data ids forest i kept e = printed-marked ids forest i ∙ by (span_at forest i) e
  where
    by : (o : Option Span) → option_map (λ (span : Span). span.kept) o ≡ Some kept →
        (option_map_or (λ (span : Span). span.kept.written) o false || (is_some o && list_any (same_id i) ids)) ≡ (kept.written || list_any (same_id i) ids)
    by None h = cc
    by (Some s) h = let same : s.kept ≡ kept = cc in ap (λ (d : Data). d.written || list_any (same_id i) ids) same

-- a span that isn't live is not printed
pub printed-gone : (ids : List Id) (forest : Forest) (i : Id) → data_at forest i ≡ None → is_printed (mark_all ids forest) i ≡ false
printed-gone ids forest i e = printed-marked ids forest i ∙ by (span_at forest i) e
  where
    by : (o : Option Span) → option_map (λ (span : Span). span.kept) o ≡ None →
        (option_map_or (λ (span : Span). span.kept.written) o false || (is_some o && list_any (same_id i) ids)) ≡ false
    by None h = refl
    by (Some s) h = cc

-- whether a close retraces, by what is seen without the marks
pub retraces_before_close-marked : (settings : Settings) (ids : List Id) (forest : Forest) (last : Option Id) (i : Id) →
    retraces_before_close settings (mark_all ids forest) last i
    ≡ (settings.close_retrace && retraces settings && is_printed (mark_all ids forest) i
    && option_map_or (λ above. not (list_any (same_id above) (path_of_any forest last))) (parent_of forest i) false)
retraces_before_close-marked settings ids forest last i =
    let parent = parent_of-marked ids forest i in
    let path = path_of_any-marked ids forest last in
    (λ k. settings.close_retrace && retraces settings && is_printed (mark_all ids forest) i
    && option_map_or (λ above. not (list_any (same_id above) (path k))) (parent k) false)
