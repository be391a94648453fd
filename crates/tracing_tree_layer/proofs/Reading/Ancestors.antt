-- The places at which a drawing shows the rows that open an event's ancestors.
use Rattle.std.proofs.Common.{◌≡◌, ℕ, zero, suc, ◌+◌, ◌<◌, Bool, true, false, ◌&&◌, ◌||◌, ◌==◌, List, [], ◌∷◌, length, map, take, filter, slice_get, Option, Some, None, option_map, IsSomeAnd, IsTrue, if◌then◌else◌, refl, sym, ap, ◌∙◌, subst, arith}
use Rattle.std.specs.List.{enumerate_from, last_or}
use Rattle.std.proofs.lemmas.List.{take-map}
use Rattle.tracing_tree_drawing.specs.Format.Settings.{Settings, retraces}
use Rattle.tracing_tree_time.specs.Clock.{Timer}
use Rattle.tracing_tree_spans.specs.Registry.Forest.{path_of}
use Rattle.tracing_tree_drawing.specs.Format.Picture.{Row}
use Rattle.tracing_tree_base.specs.declared.context.Id.{Id}
use Rattle.tracing_tree_drawing.specs.declared.format.SpanMode.{SpanMode}
use Rattle.tracing_tree_drawing.specs.declared.format.SpanMode.TheVariants as Kind
use Rattle.tracing_tree_drawing.specs.Rows.RowText.{TextRow, shape_of, is_opening, opens_level, ancestor_at}
use Rattle.tracing_tree_drawing.specs.Rows.Readable.{text_row, text_rows}
use Rattle.tracing_tree_layer.specs.Laws.Ancestors.{AncestorsLaw}
use Rattle.tracing_tree_layer.specs.Laws.Reading.{ReadingLaw, ReadingLaws, run_is_on_path, is_opening_mode, opens_at, forest_at, place_of, rows_of, latest}
use Rattle.tracing_tree_layer.specs.Layered.State.{opening_state}
use Rattle.tracing_tree_layer.specs.declared.call.Call.{Call}
use Rattle.tracing_tree_drawing.specs.declared.rows.row.Shape.TheVariants as Shape
use Rattle.tracing_tree_layer.proofs.Reading.Seen.{seen, latest-seen}
use Rattle.tracing_tree_layer.proofs.Reading.Laws.{reading-law, opened-before}

-- a shape opens if its mode does
opening-shape : (mode : SpanMode) (level : ℕ) → is_opening (shape_of mode level) ≡ is_opening_mode mode
opening-shape Kind.PreOpen level = refl
opening-shape (Kind.Open verbose) level = elim (level == 0) as (λ b. is_opening (if b then Shape.OpenRoot else Shape.Open verbose) ≡ true) [ true ↦ refl | false ↦ refl ]
opening-shape (Kind.Close verbose) level = elim (level == 0) as (λ b. is_opening (if b then Shape.CloseRoot else Shape.Close verbose) ≡ false) [ true ↦ refl | false ↦ refl ]
opening-shape (Kind.Retrace verbose) level = elim (level == 0) as (λ b. is_opening (if b then Shape.OpenRoot else Shape.Open verbose) ≡ true) [ true ↦ refl | false ↦ refl ]
opening-shape Kind.PostClose level = refl
opening-shape Kind.Event level = refl

opens-shape : (level : ℕ) (row : Row) → opens_level level (text_row row) ≡ opens_at level row
opens-shape level row = ap (λ b. b && (row.level == level)) (opening-shape row.mode row.level)

-- the entry is the place of a row of this span that opens the level; without an entry there is no
-- span
abbrev Matches : List Row → ℕ → Option (ℕ × TextRow) → Option Id → Type 0
Matches whole level None o = o ≡ None
Matches whole level (Some entry) o = IsSomeAnd (slice_get whole entry.0) (λ row. IsTrue (opens_at level row) × (row.span ≡ o))

last-entry : (whole : List Row) (level : ℕ) (rows : List Row) (n : ℕ) (entry : Option (ℕ × TextRow)) (o : Option Id) →
    ((k : ℕ) → k < length rows → slice_get whole (n + k) ≡ slice_get rows k) → Matches whole level entry o →
    Matches whole level (last_or entry (filter (λ e. opens_level level e.1) (enumerate_from n (map text_row rows)))) (seen o level rows)
last-entry whole level [] n entry o places h = h
last-entry whole level (row ∷ rows) n entry o places h =
    by (λ e p k. last-entry whole level rows (n + 1) e p (λ m lt. ap (slice_get whole) (let s : n + 1 + m ≡ n + suc m = omega arith in s) ∙ places (suc m) (omega arith)) k)
    (opens_at level row) refl
  where
    here : slice_get whole n ≡ Some row
    here = ap (slice_get whole) (let s : n ≡ n + 0 = omega arith in s) ∙ places 0 (omega arith)

    by : ((e : Option (ℕ × TextRow)) (p : Option Id) → Matches whole level e p →
        Matches whole level (last_or e (filter (λ e. opens_level level e.1) (enumerate_from (n + 1) (map text_row rows)))) (seen p level rows)) →
        (b : Bool) → opens_at level row ≡ b →
        Matches whole level (last_or entry (filter (λ e. opens_level level e.1) (enumerate_from n (map text_row (row ∷ rows))))) (seen o level (row ∷ rows))
    by ih b e =
        let tail : List (ℕ × TextRow) = filter (λ e. opens_level level e.1) (enumerate_from (n + 1) (map text_row rows)) in
        subst (λ c. Matches whole level (last_or entry (if c then (n, text_row row) ∷ tail else tail)) (seen o level (row ∷ rows))) (sym (opens-shape level row ∙ e))
        (subst (λ c. Matches whole level (last_or entry (if b then (n, text_row row) ∷ tail else tail)) (seen (if c then row.span else o) level rows)) (sym e) (at b e))
      where
        at : (b : Bool) → opens_at level row ≡ b →
            Matches whole level (last_or entry (if b then (n, text_row row) ∷ filter (λ e. opens_level level e.1) (enumerate_from (n + 1) (map text_row rows))
            else filter (λ e. opens_level level e.1) (enumerate_from (n + 1) (map text_row rows)))) (seen (if b then row.span else o) level rows)
        at true e = ih (Some (n, text_row row)) row.span (subst (λ r. IsSomeAnd r (λ x. IsTrue (opens_at level x) × (x.span ≡ row.span))) (sym here) (e, refl))
        at false e = ih entry o h

at-take : (rows : List Row) (n k : ℕ) → k < length (take n rows) → slice_get rows k ≡ slice_get (take n rows) k
at-take rows zero k lt = absurd (omega arith)
at-take [] (suc n) k lt = absurd (omega arith)
at-take (row ∷ rows) (suc n) zero lt = refl
at-take (row ∷ rows) (suc n) (suc k) lt = at-take rows n k (omega arith)

-- if the latest row of a level is of a span, the drawing shows its place
shown-ancestor_at : (rows : List Row) (place level : ℕ) (o : Option Id) → latest rows place level ≡ o → (o ≡ None → ⊥) →
    IsSomeAnd (ancestor_at (text_rows rows) place level) (λ at. IsSomeAnd (slice_get rows at) (λ row. IsTrue (opens_at level row) × (row.span ≡ o)))
shown-ancestor_at rows place level o h some =
    let found = last-entry rows level (take place rows) 0 None None
    (λ k lt. ap (slice_get rows) (let s : 0 + k ≡ k = omega arith in s) ∙ at-take rows place k lt) refl in
    let same : seen None level (take place rows) ≡ o = sym (latest-seen rows place level) ∙ h in
    let moved : Matches rows level (last_or None (filter (λ e. opens_level level e.1) (enumerate_from 0 (take place (text_rows rows))))) o =
    subst (λ xs. Matches rows level (last_or None (filter (λ e. opens_level level e.1) (enumerate_from 0 xs))) o) (sym (take-map text_row place rows))
    (subst (λ p. Matches rows level (last_or None (filter (λ e. opens_level level e.1) (enumerate_from 0 (map text_row (take place rows))))) p) same found) in
    by (last_or None (filter (λ e. opens_level level e.1) (enumerate_from 0 (take place (text_rows rows))))) moved
  where
    by : (entry : Option (ℕ × TextRow)) → Matches rows level entry o →
        IsSomeAnd (option_map (λ e. e.0) entry) (λ at. IsSomeAnd (slice_get rows at) (λ row. IsTrue (opens_at level row) × (row.span ≡ o)))
    by None e = absurd (some e)
    by (Some entry) e = e

within-some : (ids : List Id) (level : ℕ) → level < length ids → slice_get ids level ≡ None → ⊥
within-some [] level lt e = omega arith
within-some (i ∷ ids) zero lt e = cc
within-some (i ∷ ids) (suc level) lt e = within-some ids level (omega arith) e

ancestors-law : (settings : Settings) (timer : Timer) (first : Option Id) (calls : List Call) → ReadingLaw settings timer first calls → AncestorsLaw settings timer first calls
ancestors-law settings timer first calls reading e i within level lt =
    shown-ancestor_at (rows_of settings timer first calls) (place_of e) level (slice_get (path_of (forest_at e) i) level) (reading e i within level lt)
    (within-some (path_of (forest_at e) i) level lt)

-- under the premises of the reading law
pub ancestors-shown : (settings : Settings) (timer : Timer) (first : Option Id) (calls : List Call) → IsTrue (retraces settings) →
    IsTrue (settings.close_retrace || run_is_on_path settings timer (opening_state first) calls) → AncestorsLaw settings timer first calls
ancestors-shown settings timer first calls on premise = ancestors-law settings timer first calls (reading-law settings timer first calls on premise)

-- the laws, for all settings, timers, first ids and calls
pub reading-laws : (settings : Settings) (timer : Timer) (first : Option Id) (calls : List Call) → ReadingLaws settings timer first calls
reading-laws settings timer first calls = record {
  reading = reading-law settings timer first calls;
  opened = opened-before settings timer first calls;
}
