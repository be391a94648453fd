-- The ancestors of events are found in the text of a run's drawing.
use Rattle.std.proofs.Common.{◌≡◌, ℕ, zero, suc, ◌+◌, ◌-◌, ◌<◌, ◌&&◌, true, List, [], ◌∷◌, length, map, slice_get, Option, Some, None, option_map, Contains, IsSomeAnd, IsTrue, if◌then◌else◌, nat_le, refl, sym, ap, ◌∙◌, subst, arith}
use Rattle.std.specs.List.{enumerate_from, filter_map, list_all, range_with_len}
use Rattle.std.proofs.lemmas.Bool.{and_parts}
use Rattle.std.proofs.lemmas.Option.{slice_get-map}
use Rattle.std.proofs.lemmas.List.FromFn.{length-map-range_with_len}
use Rattle.tracing_tree_spans.specs.Registry.Forest.{path_of, path_of_any}
use Rattle.tracing_tree_drawing.specs.Format.Picture.{Row}
use Rattle.tracing_tree_drawing.specs.Rows.Paths.{AreEventPaths, place_at}
use Rattle.tracing_tree_lines.specs.Laws.Ancestry.{FindsInRuns}
use Rattle.tracing_tree_drawing.specs.Rows.Readable.{is_readable_row, text_row, text_rows}
use Rattle.tracing_tree_layer.specs.Laws.Ancestors.{AncestorsLaw}
use Rattle.tracing_tree_layer.specs.Laws.Reading.{forest_at, opens_at, place_of, rows_of}
use Rattle.tracing_tree_layer.specs.Layer.Turns.{event_level, event_parent, event_row}
use Rattle.tracing_tree_drawing.specs.Rows.RowText.{TextRow, ancestor_at, event_path, event_path_at, event_paths, is_event}
use Rattle.tracing_tree_drawing.specs.declared.rows.paths.EventPath.{EventPath}
use Rattle.tracing_tree_layer.proofs.Reading.Ancestors.{ancestors-shown}
use Rattle.tracing_tree_layer.proofs.Reading.Laws.{row-at}
use Rattle.tracing_tree_drawing.proofs.RowsRead.AncestryLaws.{entry}
use Rattle.tracing_tree_drawing.proofs.RowsRead.ReadBack.{drawn-rows}

-- ---- lists

contains-first : {X : Type 0} (x : X) (xs : List X) → Contains (x ∷ xs) x
contains-first x xs = (0, omega arith, refl)

contains-later : {X : Type 0} (x y : X) (xs : List X) → Contains xs x → Contains (y ∷ xs) x
contains-later x y xs h = (suc h.0, omega (arith, h.1), h.2)

-- the path of an event's row is among the paths
found-at : (all : List TextRow) (n : ℕ) (xs : List TextRow) (k : ℕ) (row : TextRow) → slice_get xs k ≡ Some row → is_event row.shape ≡ true →
    Contains (filter_map (λ e. event_path_at all e.0 e.1) (enumerate_from n xs)) (event_path all (n + k) row.level)
found-at all n [] k row at event = absurd (cc)
found-at all n (x ∷ xs) zero row at event =
    let here : n ≡ n + 0 = omega arith in
    let rest : List EventPath = filter_map (λ e. event_path_at all e.0 e.1) (enumerate_from (n + 1) xs) in
    let same : x ≡ row = cc in
    let path : event_path_at all n x ≡ Some (event_path all (n + 0) row.level) =
    ap (event_path_at all n) same ∙ ap (λ b. if b then Some (event_path all n row.level) else None) event ∙ ap (λ m. Some (event_path all m row.level)) here in
    subst (λ o. Contains (entry o rest) (event_path all (n + 0) row.level)) (sym path) (contains-first (event_path all (n + 0) row.level) rest)
found-at all n (x ∷ xs) (suc k) row at event =
    let count : n + 1 + k ≡ n + suc k = omega arith in
    let rest : List EventPath = filter_map (λ e. event_path_at all e.0 e.1) (enumerate_from (n + 1) xs) in
    by rest (event_path_at all n x) (subst (λ m. Contains rest (event_path all m row.level)) count (found-at all (n + 1) xs k row at event))
  where
    by : (rest : List EventPath) (o : Option EventPath) → Contains rest (event_path all (n + suc k) row.level) → Contains (entry o rest) (event_path all (n + suc k) row.level)
    by rest None h = h
    by rest (Some path) h = contains-later (event_path all (n + suc k) row.level) path rest h

found-event : (texts : List TextRow) (place n : ℕ) (row : TextRow) → slice_get texts place ≡ Some row → is_event row.shape ≡ true → row.level ≡ n →
    Contains (event_paths texts) (event_path texts place n)
found-event texts place n row at event level =
    let same : 0 + place ≡ place = omega arith in
    subst (λ m. Contains (event_paths texts) (event_path texts place m)) level
    (subst (λ k. Contains (event_paths texts) (event_path texts k row.level)) same (found-at texts 0 texts place row at event))

place_at-range : (f : ℕ → Option ℕ) (a n k : ℕ) → k < n → place_at (map f (range_with_len a n)) k ≡ f (a + k)
place_at-range f a zero k lt = absurd (omega arith)
place_at-range f a (suc n) zero lt = ap f (let e : a ≡ a + 0 = omega arith in e)
place_at-range f a (suc n) (suc k) lt = place_at-range f (a + 1) n k (omega arith) ∙ ap f (let e : a + 1 + k ≡ a + suc k = omega arith in e)

-- ---- runs

pub paths-found : (amount : ℕ) (text : List ℕ) (paths : List EventPath) → AreEventPaths amount text paths → FindsInRuns amount text paths
paths-found amount text paths h settings timer first calls d on premise e i within =
    let law : AncestorsLaw settings timer first calls = ancestors-shown settings timer first calls on premise in
    let rows : List Row = rows_of settings timer first calls in
    let texts : List TextRow = text_rows rows in
    let place : ℕ = place_of e in
    let same : h.rows ≡ texts = drawn-rows amount text h.rows h.reading settings rows d in
    let lined : settings.indent_lines ≡ true =
    (and_parts settings.indent_lines (nat_le 2 settings.indent_amount)
    (and_parts (settings.indent_lines && nat_le 2 settings.indent_amount) (list_all (is_readable_row settings) rows) d.readable).0).0 in
    let count : ℕ = length (path_of (forest_at e) i) in
    let level : event_level settings (path_of_any (forest_at e) (event_parent (forest_at e) e.event e.context)) ≡ count =
    ap (λ o. event_level settings (path_of_any (forest_at e) o)) within.1
    ∙ ap (λ b. if b then count else count - 1) lined in
    let row : Row = event_row settings timer (forest_at e) e.event e.context in
    let at : slice_get texts place ≡ Some (text_row row) = slice_get-map text_row rows place ∙ ap (option_map text_row) (row-at e) in
    let among : Contains (event_paths texts) (event_path texts place count) = found-event texts place count (text_row row) at refl level in
    record {
      path = event_path texts place count;
      among = subst (λ ps. Contains ps (event_path texts place count)) (sym (h.paths_are ∙ ap event_paths same)) among;
      event = refl;
      counted = length-map-range_with_len (ancestor_at texts place) 0 count;
      shown = λ k lt. subst (λ o. IsSomeAnd o (λ p. IsSomeAnd (slice_get rows p) (λ row. IsTrue (opens_at k row) × (row.span ≡ slice_get (path_of (forest_at e) i) k))))
          (sym (place_at-range (ancestor_at texts place) 0 count k lt ∙ ap (ancestor_at texts place) (let z : 0 + k ≡ k = omega arith in z))) (law e i within k lt);
    }
