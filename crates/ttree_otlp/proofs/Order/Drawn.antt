-- The calls that draw rows don't depend on the numbers that the rows have in the input.
use Rattle.std.proofs.Common.{◌≡◌, ℕ, Bool, true, false, if◌then◌else◌, ◌&&◌, ◌||◌, nat_lt, List, [], ◌∷◌, map, refl, sym, ap, ◌∙◌}
use Rattle.tracing_tree_base.specs.declared.context.Moment.{Moment}
use Rattle.ttree_source.specs.declared.cut.Cut.{Cut}
use Rattle.ttree_otlp.specs.Cut.{count_as, count_with, cut_from, drawn, drawn_with, is_drawn, is_note, is_within, lasts, lasts_as, leaves_out, left_out_row, sum_of}
use Rattle.ttree_otlp.specs.Draw.{TreeState, at_time, begun_tree, calls_of_rows, closed_to, row_drawn, row_shown_as, rows_drawn, rows_finished}
use Rattle.ttree_otlp.specs.Nested.{contains, without_nested}
use Rattle.ttree_otlp.specs.Select.{is_around_as, is_selected, is_with_selected, kept_with, selected_of, selected_shown}
use Rattle.ttree_otlp.specs.Ties.{unnumbered}
use Rattle.ttree_otlp.specs.declared.item.Item.{Item}
use Rattle.ttree_otlp.specs.declared.item.Shape.{Shape}
use Rattle.ttree_otlp.specs.declared.item.Shape.TheVariants.{Trace, Span, Note, LeftOut}
use Rattle.ttree_otlp.specs.declared.select.Selection.{Selection}
use Rattle.ttree_otlp.specs.declared.walk.Row.{Row}
use Rattle.ttree_otlp.proofs.Order.Bare.{bare_row}

-- ---- what is nested in a row

module _ (picks : Row → Bool) (same : (row : Row) → picks (bare_row row) ≡ picks row) where
  contains_bare : (depth : ℕ) (rows : List Row) → contains picks depth (map bare_row rows) ≡ contains picks depth rows
  contains_bare depth [] = refl
  contains_bare depth (row ∷ rows) = (λ i. nat_lt depth row.depth && (same row i || contains_bare depth rows i))

without_nested_bare : (depth : ℕ) (rows : List Row) → without_nested depth (map bare_row rows) ≡ map bare_row (without_nested depth rows)
without_nested_bare depth [] = refl
without_nested_bare depth (row ∷ rows) = by (nat_lt depth row.depth) (without_nested_bare depth rows) where
  by : (b : Bool) → without_nested depth (map bare_row rows) ≡ map bare_row (without_nested depth rows)
      → (if b then without_nested depth (map bare_row rows) else bare_row row ∷ map bare_row rows) ≡ map bare_row (if b then without_nested depth rows else row ∷ rows)
  by true others = others
  by false others = refl

-- ---- what is selected

is_around_bare_as : (shape : Shape) (selection : Selection) (row : Row) → is_around_as shape selection (bare_row row) ≡ is_around_as shape selection row
is_around_bare_as (Trace id) selection row = refl
is_around_bare_as (Span span) selection row = refl
is_around_bare_as (Note note) selection row = refl
is_around_bare_as (LeftOut count) selection row = refl

with_selected_bare : (selection : Selection) (row : Row) (rows : List Row) → is_with_selected selection (bare_row row) (map bare_row rows) ≡ is_with_selected selection row rows
with_selected_bare selection row rows =
    (λ i. (is_selected selection row || contains_bare (is_selected selection) (λ r. refl) row.depth rows i) || is_around_bare_as row.item.shape selection row i)

kept_with_bare : (b : Bool) (row : Row) (rows : List Row) → kept_with b (bare_row row) (map bare_row rows) ≡ map bare_row (kept_with b row rows)
kept_with_bare true row rows = refl
kept_with_bare false row rows = without_nested_bare row.depth rows

selected_bare : (selection : Selection) (rows : List Row) → selected_of selection (map bare_row rows) ≡ map bare_row (selected_of selection rows)
selected_bare selection [] = refl
selected_bare selection (row ∷ rows) =
    (λ i. kept_with (with_selected_bare selection row rows i) (bare_row row) (selected_bare selection rows i))
    ∙ kept_with_bare (is_with_selected selection row rows) row (selected_of selection rows)

-- ---- what a cut leaves

lasts_bare_as : (shape : Shape) (min_time : ℕ) (row : Row) → lasts_as shape min_time (bare_row row) ≡ lasts_as shape min_time row
lasts_bare_as (Trace id) min_time row = refl
lasts_bare_as (Span span) min_time row = refl
lasts_bare_as (Note note) min_time row = refl
lasts_bare_as (LeftOut count) min_time row = refl

is_drawn_bare : (cut : Cut) (row : Row) (rows : List Row) → is_drawn cut (bare_row row) (map bare_row rows) ≡ is_drawn cut row rows
is_drawn_bare cut row rows =
    (λ i. (is_within row.depth cut.depth
    && (lasts_bare_as row.item.shape cut.min_time row i || contains_bare (lasts cut.min_time) (λ r. lasts_bare_as r.item.shape cut.min_time r) row.depth rows i))
    || is_note row.item.shape)

count_bare : (depth count : ℕ) (rows : List Row) → count_with depth count (map bare_row rows) ≡ count_with depth count rows
count_bare depth count [] = refl
count_bare depth count (row ∷ rows) =
    ap (λ n. if nat_lt depth row.depth then n else count) (count_bare depth (sum_of count (count_as row.item.shape)) rows)

drawn_with_bare : (b : Bool) (row : Row) (rows : List Row) → drawn_with b (bare_row row) (map bare_row rows) ≡ map bare_row (drawn_with b row rows)
drawn_with_bare true row rows = refl
drawn_with_bare false row rows =
    (λ i. left_out_row (count_bare row.depth (count_as row.item.shape) rows i) (bare_row row) ∷ without_nested_bare row.depth rows i)

drawn_bare : (cut : Cut) (rows : List Row) → drawn cut (map bare_row rows) ≡ map bare_row (drawn cut rows)
drawn_bare cut [] = refl
drawn_bare cut (row ∷ rows) =
    (λ i. drawn_with (is_drawn_bare cut row rows i) (bare_row row) (drawn_bare cut rows i)) ∙ drawn_with_bare (is_drawn cut row rows) row (drawn cut rows)

cut_bare : (cut : Cut) (rows : List Row) → cut_from cut (map bare_row rows) ≡ map bare_row (cut_from cut rows)
cut_bare cut rows = by (leaves_out cut) where
  by : (b : Bool) → (if b then drawn cut (map bare_row rows) else map bare_row rows) ≡ map bare_row (if b then drawn cut rows else rows)
  by true = drawn_bare cut rows
  by false = refl

shown_bare : (selection : Selection) (rows : List Row) → selected_shown selection (map bare_row rows) ≡ map bare_row (selected_shown selection rows)
shown_bare selection rows = ap (cut_from selection.cut) (selected_bare selection rows) ∙ cut_bare selection.cut (selected_of selection rows)

-- ---- calls

row_bare_as : (shape : Shape) (item : Item) (s : TreeState) → row_shown_as shape (unnumbered item) s ≡ row_shown_as shape item s
row_bare_as (Trace id) item s = refl
row_bare_as (Span span) item s = refl
row_bare_as (Note note) item s = refl
row_bare_as (LeftOut count) item s = refl

rows_bare : (rows : List Row) (s : TreeState) → rows_drawn (map bare_row rows) s ≡ rows_drawn rows s
rows_bare [] s = refl
rows_bare (row ∷ rows) s =
    ap (rows_drawn (map bare_row rows)) (row_bare_as row.item.shape row.item (at_time row.item.time (closed_to row.depth s))) ∙ rows_bare rows (row_drawn row s)

calls_bare : (next : ℕ) (moment : Moment) (rows : List Row) → calls_of_rows next moment (map bare_row rows) ≡ calls_of_rows next moment rows
calls_bare next moment rows = ap (λ (s : TreeState). (rows_finished s).calls) (rows_bare rows (begun_tree next moment))

pub same_calls : (next : ℕ) (moment : Moment) (selection : Selection) (rows others : List Row) → map bare_row rows ≡ map bare_row others
    → calls_of_rows next moment (selected_shown selection rows) ≡ calls_of_rows next moment (selected_shown selection others)
same_calls next moment selection rows others same =
    sym (calls_bare next moment (selected_shown selection rows)) ∙ ap (calls_of_rows next moment) (sym (shown_bare selection rows) ∙ ap (selected_shown selection) same ∙ shown_bare selection others)
    ∙ calls_bare next moment (selected_shown selection others)
