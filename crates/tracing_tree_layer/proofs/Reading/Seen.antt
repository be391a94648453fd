-- What rows open: the last row of each level, and the spans that have a row.
use Rattle.std.proofs.Common.{◌≡◌, ℕ, ◌<◌, ◌≤◌, ◌+◌, ◌==◌, Bool, true, false, ◌||◌, ◌&&◌, List, [], ◌∷◌, ◌++◌, length, map, take, filter, slice_get, Option, Some, None, is_some, option_and_then, if◌then◌else◌, arith, refl, sym, ap, ◌∙◌, subst, length-append, append_assoc, eq-eqb, ne_eqb, eqb-true}
use Rattle.std.specs.Option.{option_map_or}
use Rattle.std.specs.List.{list_any, last_or}
use Rattle.std.proofs.lemmas.List.Folds.{list_any-append}
use Rattle.tracing_tree_drawing.specs.Format.Settings.{Settings}
use Rattle.tracing_tree_spans.specs.Registry.Ids.{same_id}
use Rattle.tracing_tree_spans.specs.Registry.Forest.{Forest, is_printed, parent_of, path_of, level_of, IsForest}
use Rattle.tracing_tree_drawing.specs.Format.Picture.{Row}
use Rattle.tracing_tree_base.specs.declared.context.Id.{Id}
use Rattle.tracing_tree_base.specs.declared.context.Context.{Context}
use Rattle.tracing_tree_drawing.specs.declared.format.SpanMode.{SpanMode}
use Rattle.tracing_tree_drawing.specs.declared.format.SpanMode.TheVariants.{PreOpen, Open, Retrace}
use Rattle.tracing_tree_layer.specs.Layer.Plan.{fresh_mode}
use Rattle.tracing_tree_layer.specs.Layer.Turns.{span_row, parent_rows, fresh_row, fresh_rows}
use Rattle.tracing_tree_layer.specs.Laws.Reading.{is_opening_mode, opens_at, opens_span, latest}
use Rattle.tracing_tree_layer.proofs.Reading.Changes.{no_both, path-front}
use Rattle.tracing_tree_layer.proofs.Reading.Left.{is_gone}
use Rattle.tracing_tree_layer.proofs.Reading.Parts.{at_seam}

-- ---- the last opening row of a level

-- its span, or the span before these rows
abbrev pub seen : Option Id → ℕ → List Row → Option Id
seen o level [] = o
seen o level (row ∷ rows) = seen (if opens_at level row then row.span else o) level rows

abbrev spanned : Option Row → Option Id
spanned o = option_and_then (λ row. row.span) o

seen-last : (o : Option Row) (level : ℕ) (rows : List Row) → spanned (last_or o (filter (opens_at level) rows)) ≡ seen (spanned o) level rows
seen-last o level [] = refl
seen-last o level (row ∷ rows) = by (λ p. seen-last p level rows) (opens_at level row) refl
  where
    by : ((p : Option Row) → spanned (last_or p (filter (opens_at level) rows)) ≡ seen (spanned p) level rows) → (b : Bool) → opens_at level row ≡ b →
        spanned (last_or o (filter (opens_at level) (row ∷ rows))) ≡ seen (spanned o) level (row ∷ rows)
    by ih true e = rw e (ih (Some row))
    by ih false e = rw e (ih o)

pub latest-seen : (rows : List Row) (place level : ℕ) → latest rows place level ≡ seen None level (take place rows)
latest-seen rows place level = seen-last None level (take place rows)

pub seen-append : (o : Option Id) (level : ℕ) (first second : List Row) → seen o level (first ++ second) ≡ seen (seen o level first) level second
seen-append o level [] second = refl
seen-append o level (row ∷ first) second = seen-append (if opens_at level row then row.span else o) level first second

-- one row, by the answer to its test
seen-row : (o : Option Id) (level : ℕ) (row : Row) (rows : List Row) (b : Bool) → opens_at level row ≡ b →
    seen o level (row ∷ rows) ≡ seen (if b then row.span else o) level rows
seen-row o level row rows b e = ap (λ b. seen (if b then row.span else o) level rows) e

-- rows about a parent open nothing
pub seen-parent_rows : (o : Option Id) (level : ℕ) (on : Bool) (settings : Settings) (context : Context) (forest : Forest) (mode : SpanMode) (i : Id) →
    is_opening_mode mode ≡ false → seen o level (parent_rows settings context forest on mode i) ≡ o
seen-parent_rows o level false settings context forest mode i e = refl
seen-parent_rows o level true settings context forest mode i e = by (parent_of forest i)
  where
    by : (above : Option Id) → seen o level (option_map_or (λ j. span_row settings context forest mode j ∷ []) above []) ≡ o
    by None = refl
    by (Some j) = rw e refl

-- ---- rows of fresh spans

fresh-opening : (forest : Forest) (i : Id) (verbose : Bool) → is_opening_mode (fresh_mode forest i verbose) ≡ true
fresh-opening forest i verbose = elim (is_printed forest i) as (λ b. is_opening_mode (if b then Retrace verbose else Open verbose) ≡ true) [ true ↦ refl | false ↦ refl ]

fresh-opens : (settings : Settings) (context : Context) (forest : Forest) (verbose : Bool) (i : Id) (level : ℕ) →
    opens_at level (fresh_row settings context forest verbose i) ≡ (level_of forest i == level)
fresh-opens settings context forest verbose i level = rw (fresh-opening forest i verbose) refl

-- the level of a span on a path
level-on : (forest : Forest) → IsForest forest → (i j : Id) (front back : List Id) → path_of forest i ≡ front ++ j ∷ back → level_of forest j ≡ length front
level-on forest formed i j front back e =
    let n : length (path_of forest j) ≡ length front + 1 = ap (λ (path : List Id). length path) (path-front forest formed i j front back e) ∙ length-append front (j ∷ []) in
    omega arith

moved : (front back : List Id) (j : Id) (path : List Id) → path ≡ front ++ j ∷ back → path ≡ (front ++ j ∷ []) ++ back
moved front back j path e = e ∙ sym (append_assoc front (j ∷ []) back)

-- they keep the levels above them
plain-low : (settings : Settings) (context : Context) (forest : Forest) → IsForest forest → (i : Id) (front ids : List Id) → path_of forest i ≡ front ++ ids →
    (o : Option Id) (level : ℕ) → level < length front → seen o level (map (fresh_row settings context forest false) ids) ≡ o
plain-low settings context forest formed i front [] e o level lt = refl
plain-low settings context forest formed i front (j ∷ ids) e o level lt =
    let at : level_of forest j ≡ length front = level-on forest formed i j front ids e in
    let n : length (front ++ j ∷ []) ≡ length front + 1 = length-append front (j ∷ []) in
    let other : (level_of forest j == level) ≡ false = ne_eqb (level_of forest j) level (λ k. omega arith) in
    let shut : opens_at level (fresh_row settings context forest false j) ≡ false = fresh-opens settings context forest false j level ∙ other in
    seen-row o level (fresh_row settings context forest false j) (map (fresh_row settings context forest false) ids) false shut
    ∙ plain-low settings context forest formed i (front ++ j ∷ []) ids (moved front ids j (path_of forest i) e) o level (omega arith)

-- and are the last of their own
plain-high : (settings : Settings) (context : Context) (forest : Forest) → IsForest forest → (i : Id) (front ids : List Id) → path_of forest i ≡ front ++ ids →
    (o : Option Id) (level : ℕ) → length front ≤ level → level < length (path_of forest i) →
    seen o level (map (fresh_row settings context forest false) ids) ≡ slice_get (path_of forest i) level
plain-high settings context forest formed i front [] e o level le lt =
    let n : length (path_of forest i) ≡ length front + 0 = ap (λ (path : List Id). length path) e ∙ length-append front [] in
    absurd (omega arith)
plain-high settings context forest formed i front (j ∷ ids) e o level le lt =
    by (λ o lower. plain-high settings context forest formed i (front ++ j ∷ []) ids (moved front ids j (path_of forest i) e) o level lower lt)
    (level_of forest j == level) refl
  where
    at : level_of forest j ≡ length front
    at = level-on forest formed i j front ids e

    n : length (front ++ j ∷ []) ≡ length front + 1
    n = length-append front (j ∷ [])

    by : ((o : Option Id) → length (front ++ j ∷ []) ≤ level → seen o level (map (fresh_row settings context forest false) ids) ≡ slice_get (path_of forest i) level) →
        (b : Bool) → (level_of forest j == level) ≡ b →
        seen o level (map (fresh_row settings context forest false) (j ∷ ids)) ≡ slice_get (path_of forest i) level
    by ih true k =
        let here : level_of forest j ≡ level = eqb-true (level_of forest j) level k in
        let opening : opens_at level (fresh_row settings context forest false j) ≡ true = fresh-opens settings context forest false j level ∙ k in
        seen-row o level (fresh_row settings context forest false j) (map (fresh_row settings context forest false) ids) true opening
        ∙ (plain-low settings context forest formed i (front ++ j ∷ []) ids (moved front ids j (path_of forest i) e) (Some j) level (omega (arith, at, n))
        ∙ sym (at_seam front ids j) ∙ ap (λ path. slice_get path (length front)) (sym e) ∙ ap (λ m. slice_get (path_of forest i) m) (sym at ∙ here))
    by ih false k =
        let shut : opens_at level (fresh_row settings context forest false j) ≡ false = fresh-opens settings context forest false j level ∙ k in
        seen-row o level (fresh_row settings context forest false j) (map (fresh_row settings context forest false) ids) false shut
        ∙ (ih o (lower (λ h. no_both (sym (eq-eqb (level_of forest j) level h) ∙ k))))
      where
        lower : (level_of forest j ≡ level → ⊥) → length (front ++ j ∷ []) ≤ level
        lower ne = omega (arith, at, n)

-- the first may be verbose
verbose-first : (settings : Settings) (context : Context) (forest : Forest) (verbose : Bool) (j : Id) (rows : List Row) (o : Option Id) (level : ℕ) →
    seen o level (fresh_row settings context forest verbose j ∷ rows) ≡ seen o level (fresh_row settings context forest false j ∷ rows)
verbose-first settings context forest verbose j rows o level =
    ap (λ b. seen (if b then Some j else o) level rows) (fresh-opens settings context forest verbose j level ∙ sym (fresh-opens settings context forest false j level))

pub seen-fresh : (settings : Settings) (context : Context) (forest : Forest) (ids : List Id) (o : Option Id) (level : ℕ) →
    seen o level (fresh_rows settings context forest ids) ≡ seen o level (map (fresh_row settings context forest false) ids)
seen-fresh settings context forest [] o level = refl
seen-fresh settings context forest (j ∷ ids) o level =
    let verbose : Bool = settings.verbose_entry && is_some (parent_of forest j) in
    let rest : List Row = map (fresh_row settings context forest false) ids in
    seen-append o level (parent_rows settings context forest settings.verbose_entry PreOpen j) (fresh_row settings context forest verbose j ∷ rest)
    ∙ ap (λ p. seen p level (fresh_row settings context forest verbose j ∷ rest)) (seen-parent_rows o level settings.verbose_entry settings context forest PreOpen j refl)
    ∙ verbose-first settings context forest verbose j rest o level

pub fresh-low : (settings : Settings) (context : Context) (forest : Forest) → IsForest forest → (i : Id) (front ids : List Id) → path_of forest i ≡ front ++ ids →
    (o : Option Id) (level : ℕ) → level < length front → seen o level (fresh_rows settings context forest ids) ≡ o
fresh-low settings context forest formed i front ids e o level lt =
    seen-fresh settings context forest ids o level ∙ plain-low settings context forest formed i front ids e o level lt

pub fresh-high : (settings : Settings) (context : Context) (forest : Forest) → IsForest forest → (i : Id) (front ids : List Id) → path_of forest i ≡ front ++ ids →
    (o : Option Id) (level : ℕ) → length front ≤ level → level < length (path_of forest i) →
    seen o level (fresh_rows settings context forest ids) ≡ slice_get (path_of forest i) level
fresh-high settings context forest formed i front ids e o level le lt =
    seen-fresh settings context forest ids o level ∙ plain-high settings context forest formed i front ids e o level le lt

-- ---- spans that have an opening row

-- these rows open each of these spans
abbrev pub Opens : List Row → List Id → Type 0
Opens rows ids = (i : Id) → is_gone ids i ≡ true → list_any (opens_span i) rows ≡ true

pub opened-left : (first second : List Row) (i : Id) → list_any (opens_span i) first ≡ true → list_any (opens_span i) (first ++ second) ≡ true
opened-left first second i h = list_any-append (opens_span i) first second ∙ rw h refl

pub opened-right : (first second : List Row) (i : Id) → list_any (opens_span i) second ≡ true → list_any (opens_span i) (first ++ second) ≡ true
opened-right first second i h =
    list_any-append (opens_span i) first second ∙ rw h (elim (list_any (opens_span i) first) as (λ b. (b || true) ≡ true) [ true ↦ refl | false ↦ refl ])

fresh-is : (settings : Settings) (context : Context) (forest : Forest) (verbose : Bool) (i j : Id) → opens_span i (fresh_row settings context forest verbose j) ≡ same_id i j
fresh-is settings context forest verbose i j = rw (fresh-opening forest j verbose) refl

plain-opens : (settings : Settings) (context : Context) (forest : Forest) (ids : List Id) → Opens (map (fresh_row settings context forest false) ids) ids
plain-opens settings context forest [] i h = no_both (sym h)
plain-opens settings context forest (j ∷ ids) i h = by (λ k. plain-opens settings context forest ids i k) (same_id i j) refl
  where
    by : (is_gone ids i ≡ true → list_any (opens_span i) (map (fresh_row settings context forest false) ids) ≡ true) → (b : Bool) → same_id i j ≡ b →
        list_any (opens_span i) (map (fresh_row settings context forest false) (j ∷ ids)) ≡ true
    by ih true e = let own : opens_span i (fresh_row settings context forest false j) ≡ true = fresh-is settings context forest false i j ∙ e in rw own refl
    by ih false e =
        let other : opens_span i (fresh_row settings context forest false j) ≡ false = fresh-is settings context forest false i j ∙ e in
        rw other (ih (subst (λ b. (b || is_gone ids i) ≡ true) e h))

pub fresh-opened : (settings : Settings) (context : Context) (forest : Forest) (ids : List Id) → Opens (fresh_rows settings context forest ids) ids
fresh-opened settings context forest [] i h = no_both (sym h)
fresh-opened settings context forest (j ∷ ids) i h =
    let verbose : Bool = settings.verbose_entry && is_some (parent_of forest j) in
    let rest : List Row = map (fresh_row settings context forest false) ids in
    let plain : list_any (opens_span i) (fresh_row settings context forest false j ∷ rest) ≡ true = plain-opens settings context forest (j ∷ ids) i h in
    let first : list_any (opens_span i) (fresh_row settings context forest verbose j ∷ rest) ≡ true =
    ap (λ b. b || list_any (opens_span i) rest) (fresh-is settings context forest verbose i j ∙ sym (fresh-is settings context forest false i j)) ∙ plain in
    opened-right (parent_rows settings context forest settings.verbose_entry PreOpen j) (fresh_row settings context forest verbose j ∷ rest) i first
