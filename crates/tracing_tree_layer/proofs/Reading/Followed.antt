-- What a run keeps between its rows: what each of its steps does to it.
use Rattle.std.proofs.Common.{◌≡◌, ℕ, ◌<◌, ◌≤◌, Bool, true, false, ◌||◌, ◌&&◌, List, [], ◌∷◌, ◌++◌, length, map, take, drop, slice_get, Option, Some, None, is_some, option_map, if◌then◌else◌, arith, refl, sym, ap, ◌∙◌, subst, inl, inr, ◌⊎◌, take-append-drop, length-take-le}
use Rattle.std.specs.Option.{option_map_or, option_or}
use Rattle.std.specs.List.{list_any, common_prefix_len}
use Rattle.std.proofs.lemmas.Bool.{cases_lt, or_cases, and_parts}
use Rattle.tracing_tree_drawing.specs.Format.Settings.{Settings}
use Rattle.tracing_tree_spans.specs.Registry.Ids.{same_id}
use Rattle.tracing_tree_spans.specs.Registry.Spans.{Span, printed_span}
use Rattle.tracing_tree_spans.specs.Registry.Forest.{Forest, has_id, span_at, is_live, is_printed, path_of, path_of_any, IsForest, IsGrownForest, mark_all, mark_printed, fresh_ids, add_span, any_unless_live, without_spans}
use Rattle.tracing_tree_drawing.specs.Format.Picture.{Row}
use Rattle.tracing_tree_base.specs.declared.context.Id.{Id}
use Rattle.tracing_tree_base.specs.declared.context.Context.{Context}
use Rattle.tracing_tree_spans.proofs.ForestLaws.{same_id-eq}
use Rattle.tracing_tree_spans.proofs.PathLaws.{path_of-none}
use Rattle.tracing_tree_spans.proofs.GrownForests.{as_forest}
use Rattle.tracing_tree_spans.proofs.SpanLists.{find-id}
use Rattle.tracing_tree_spans.proofs.RegistryLaws.{IsSame, changed, find-same}
use Rattle.tracing_tree_layer.specs.Layer.Turns.{fresh_rows}
use Rattle.tracing_tree_layer.proofs.Reading.Changes.{same-refl, no_both, changed_all, path_of-same, path_of_any-same, forest-same}
use Rattle.tracing_tree_layer.proofs.Reading.Newest.{is_given, path_of-other, find-new, live-given, given-other, given-more, forest-grown}
use Rattle.tracing_tree_layer.proofs.Reading.Left.{Each, GoesAlong, is_gone, forest-left, path_of-kept, find-kept, find-gone}
use Rattle.tracing_tree_layer.proofs.Reading.Parts.{in_left, in_right, in_either, at_left, common-left, common-right, common-same, path-within, path-places}
use Rattle.tracing_tree_layer.proofs.Reading.Seen.{Opens, seen, seen-append, fresh-low, fresh-high, fresh-opened, opened-left, opened-right}

-- ---- the invariant

-- The forest is well-formed, the id of the last span was used, and the rows so far have an opening
-- row for each span on the path of a printed span and on that of the last span.
pub record IsFollowed (forest : Forest) (last : Option Id) (rows : List Row) : Type 0 where
  pub formed : IsGrownForest forest
  pub given : option_map_or (is_given forest) last true ≡ true
  pub shown : (i : Id) → is_printed forest i ≡ true → Opens rows (path_of forest i)
  pub reached : Opens rows (path_of_any forest last)

pub well-formed : {forest : Forest} {last : Option Id} {rows : List Row} → IsFollowed forest last rows → IsForest forest
well-formed {forest} f = as_forest forest f.formed

-- if spans aren't deferred, all are printed
abbrev pub IsAllShown : Settings → Forest → Type 0
IsAllShown settings forest = settings.deferred_spans ≡ false → (i : Id) → is_live forest i ≡ true → is_printed forest i ≡ true

-- the last opening rows of the levels of the current branch are those of its spans
abbrev pub IsLatest : Forest → Option Id → List Row → Type 0
IsLatest forest last rows =
    (level : ℕ) → level < length (path_of_any forest last) → seen None level rows ≡ slice_get (path_of_any forest last) level

-- ---- more rows

pub followed-more : (forest : Forest) (last : Option Id) (rows more : List Row) → IsFollowed forest last rows → IsFollowed forest last (rows ++ more)
followed-more forest last rows more f = record {
  formed = f.formed;
  given = f.given;
  shown = λ i h j k. opened-left rows more j (f.shown i h j k);
  reached = λ j k. opened-left rows more j (f.reached j k);
}

-- rows that open no level
pub latest-more : (forest : Forest) (last : Option Id) (rows more : List Row) → ((o : Option Id) (level : ℕ) → seen o level more ≡ o) →
    IsLatest forest last rows → IsLatest forest last (rows ++ more)
latest-more forest last rows more none h level lt = seen-append None level rows more ∙ none (seen None level rows) level ∙ h level lt

-- ---- another last span

pub followed-last : (forest : Forest) (last : Option Id) (rows : List Row) (i : Id) → IsFollowed forest last rows → is_live forest i ≡ true →
    Opens rows (path_of forest i) → IsFollowed forest (Some i) rows
followed-last forest last rows i f live opens = record {
  formed = f.formed;
  given = live-given forest f.formed i live;
  shown = f.shown;
  reached = opens;
}

-- a span on the current branch
pub latest-last : (forest : Forest) → IsForest forest → (last : Option Id) (rows : List Row) (i : Id) → is_gone (path_of_any forest last) i ≡ true →
    IsLatest forest last rows → IsLatest forest (Some i) rows
latest-last forest formed None rows i here h = no_both (sym here)
latest-last forest formed (Some l) rows i here h = λ level lt.
    let places = path-places forest formed l i here level lt in
    h level places.0 ∙ places.1

-- ---- changes that aren't seen

pub live-same : (u : Span → Span) → IsSame u → (forest : Forest) (i : Id) → is_live (changed_all u forest) i ≡ is_live forest i
live-same u same forest i = ap (λ (o : Option Span). is_some o) (find-same u same i forest.spans) ∙ by (span_at forest i)
  where
    by : (o : Option Span) → is_some (option_map u o) ≡ is_some o
    by None = refl
    by (Some s) = refl

-- id, parent and mark are unchanged
pub record IsQuiet (u : Span → Span) : Type 0 where
  pub same : IsSame u
  pub written : (s : Span) → (u s).kept.written ≡ s.kept.written

pub printed-quiet : (u : Span → Span) → IsQuiet u → (forest : Forest) (i : Id) → is_printed (changed_all u forest) i ≡ is_printed forest i
printed-quiet u quiet forest i =
    ap (λ (o : Option Span). option_map_or (λ s. s.kept.written) o false) (find-same u quiet.same i forest.spans) ∙ by (span_at forest i)
  where
    by : (o : Option Span) → option_map_or (λ (s : Span). s.kept.written) (option_map u o) false ≡ option_map_or (λ (s : Span). s.kept.written) o false
    by None = refl
    by (Some s) = quiet.written s

-- what opens the path before the change opens it after
pub opens-same : (rows : List Row) (before after : List Id) → after ≡ before → Opens rows before → Opens rows after
opens-same rows before after e h j k = h j (subst (λ path. is_gone path j ≡ true) e k)

pub latest-path : (rows : List Row) (forest new : Forest) (last after : Option Id) → path_of_any new after ≡ path_of_any forest last → IsLatest forest last rows → IsLatest new after rows
latest-path rows forest new last after e h level lt =
    h level (subst (λ (path : List Id). level < length path) e lt) ∙ ap (λ path. slice_get path level) (sym e)

pub followed-quiet : (u : Span → Span) → IsQuiet u → (forest : Forest) (last : Option Id) (rows : List Row) → IsFollowed forest last rows →
    IsFollowed (changed_all u forest) last rows
followed-quiet u quiet forest last rows f = record {
  formed = forest-same u quiet.same forest f.formed;
  given = f.given;
  shown = λ i h. opens-same rows (path_of forest i) (path_of (changed_all u forest) i) (path_of-same u quiet.same forest i)
      (f.shown i (sym (printed-quiet u quiet forest i) ∙ h));
  reached = opens-same rows (path_of_any forest last) (path_of_any (changed_all u forest) last) (path_of_any-same u quiet.same forest last) f.reached;
}

pub latest-same : (u : Span → Span) → IsSame u → (forest : Forest) (last : Option Id) (rows : List Row) → IsLatest forest last rows →
    IsLatest (changed_all u forest) last rows
latest-same u same forest last rows h = latest-path rows forest (changed_all u forest) last last (path_of_any-same u same forest last) h

pub all_shown-quiet : (settings : Settings) (u : Span → Span) → IsQuiet u → (forest : Forest) → IsAllShown settings forest → IsAllShown settings (changed_all u forest)
all_shown-quiet settings u quiet forest h eager i live =
    printed-quiet u quiet forest i ∙ h eager i (sym (live-same u quiet.same forest i) ∙ live)

-- ---- marks

-- a span with its mark, if it is one of these
abbrev pub marked : List Id → Span → Span
marked ids span = if list_any (same_id span.id) ids then printed_span span else span

pub marked-same : (ids : List Id) → IsSame (marked ids)
marked-same ids = record {
  ids = λ s. elim (is_gone ids s.id) as (λ b. (if b then printed_span s else s).id ≡ s.id) [ true ↦ refl | false ↦ refl ];
  parents = λ s. elim (is_gone ids s.id) as (λ b. (if b then printed_span s else s).parent ≡ s.parent) [ true ↦ refl | false ↦ refl ];
}

marked-written : (ids : List Id) (s : Span) → (marked ids s).kept.written ≡ (s.kept.written || is_gone ids s.id)
marked-written ids s = elim (is_gone ids s.id) as (λ b. (if b then printed_span s else s).kept.written ≡ (s.kept.written || b)) [
  | true ↦ elim s.kept.written as (λ b. true ≡ (b || true)) [ true ↦ refl | false ↦ refl ]
  | false ↦ elim s.kept.written as (λ b. b ≡ (b || false)) [ true ↦ refl | false ↦ refl ]
]

pub printed-marked : (ids : List Id) (forest : Forest) (i : Id) → is_printed (mark_all ids forest) i ≡ (is_printed forest i || (is_live forest i && is_gone ids i))
printed-marked ids forest i =
    ap (λ (o : Option Span). option_map_or (λ s. s.kept.written) o false) (find-same (marked ids) (marked-same ids) i forest.spans)
    ∙ by (span_at forest i) (λ s h. find-id forest.spans i s h)
  where
    by : (o : Option Span) → ((s : Span) → o ≡ Some s → s.id ≡ i) →
        option_map_or (λ (s : Span). s.kept.written) (option_map (marked ids) o) false ≡ (option_map_or (λ (s : Span). s.kept.written) o false || (is_some o && is_gone ids i))
    by None own = refl
    by (Some s) own = marked-written ids s ∙ ap (λ j. s.kept.written || is_gone ids j) (own s refl)

-- spans are marked whose paths are opened
pub followed-marks : (ids : List Id) (forest : Forest) (last : Option Id) (rows : List Row) → IsFollowed forest last rows →
    ((i : Id) → is_gone ids i ≡ true → Opens rows (path_of forest i)) → IsFollowed (mark_all ids forest) last rows
followed-marks ids forest last rows f opens = record {
  formed = forest-same (marked ids) (marked-same ids) forest f.formed;
  given = f.given;
  shown = λ i h. opens-same rows (path_of forest i) (path_of (mark_all ids forest) i) (path_of-same (marked ids) (marked-same ids) forest i)
      (by i (or_cases (is_printed forest i) (is_live forest i && is_gone ids i) (sym (printed-marked ids forest i) ∙ h)));
  reached = opens-same rows (path_of_any forest last) (path_of_any (mark_all ids forest) last) (path_of_any-same (marked ids) (marked-same ids) forest last) f.reached;
}
  where
    by : (i : Id) → (is_printed forest i ≡ true) ⊎ ((is_live forest i && is_gone ids i) ≡ true) → Opens rows (path_of forest i)
    by i (inl h) = f.shown i h
    by i (inr h) = opens i (and_parts (is_live forest i) (is_gone ids i) h).1

pub all_shown-marks : (settings : Settings) (ids : List Id) (forest : Forest) → IsAllShown settings forest → IsAllShown settings (mark_all ids forest)
all_shown-marks settings ids forest h eager i live =
    let printed : is_printed forest i ≡ true = h eager i (sym (live-same (marked ids) (marked-same ids) forest i) ∙ live) in
    printed-marked ids forest i ∙ rw printed refl

-- one mark
mark-one : (i : Id) (spans : List Span) → map (changed printed_span i) spans ≡ map (marked (i ∷ [])) spans
mark-one i [] = refl
mark-one i (x ∷ spans) = λ k. one k ∷ mark-one i spans k
  where
    one : changed printed_span i x ≡ marked (i ∷ []) x
    one = elim (has_id i x) as (λ b. (if b then printed_span x else x) ≡ (if b || false then printed_span x else x)) [ true ↦ refl | false ↦ refl ]

pub mark_printed-all : (i : Id) (forest : Forest) → mark_printed i forest ≡ mark_all (i ∷ []) forest
mark_printed-all i forest = ap (λ xs. record forest { spans = xs }) (mark-one i forest.spans)

-- ---- a retrace

-- what is shared with the current branch and what is fresh
abbrev shared : Forest → Option Id → Id → ℕ
shared forest last i = common_prefix_len same_id (path_of_any forest last) (path_of forest i)

split-path : (forest : Forest) (last : Option Id) (i : Id) → take (shared forest last i) (path_of forest i) ++ fresh_ids forest last i ≡ path_of forest i
split-path forest last i = take-append-drop (shared forest last i) (path_of forest i)

-- the rows of the fresh spans open the rest of the path
pub fresh-whole : (settings : Settings) (context : Context) (forest : Forest) (last : Option Id) (rows : List Row) (i : Id) → Opens rows (path_of_any forest last) →
    Opens (rows ++ fresh_rows settings context forest (fresh_ids forest last i)) (path_of forest i)
fresh-whole settings context forest last rows i reached j h =
    let n : ℕ = shared forest last i in
    let old : List Id = path_of_any forest last in
    let path : List Id = path_of forest i in
    let fresh : List Id = fresh_ids forest last i in
    let more : List Row = fresh_rows settings context forest fresh in
    in_either (take n path) fresh j (subst (λ ids. is_gone ids j ≡ true) (sym (split-path forest last i)) h)
    (λ k.
    let there : is_gone (take n old) j ≡ true = subst (λ ids. is_gone ids j ≡ true) (common-same old path) k in
    let whole : is_gone old j ≡ true = subst (λ ids. is_gone ids j ≡ true) (take-append-drop n old) (in_left (take n old) (drop n old) j there) in
    opened-left rows more j (reached j whole))
    (λ k. opened-right rows more j (fresh-opened settings context forest fresh j k))

fresh-on : (forest : Forest) (last : Option Id) (i j : Id) → is_gone (fresh_ids forest last i) j ≡ true → is_gone (path_of forest i) j ≡ true
fresh-on forest last i j h =
    subst (λ ids. is_gone ids j ≡ true) (split-path forest last i) (in_right (take (shared forest last i) (path_of forest i)) (fresh_ids forest last i) j h)

-- the fresh spans are marked
pub fresh-marks : (forest : Forest) → IsForest forest → (last : Option Id) (rows : List Row) (i : Id) → Opens rows (path_of forest i) →
    (j : Id) → is_gone (fresh_ids forest last i) j ≡ true → Opens rows (path_of forest j)
fresh-marks forest formed last rows i opens j h k m = opens k (path-within forest formed i j k (fresh-on forest last i j h) m)

pub followed-retrace : (settings : Settings) (context : Context) (forest : Forest) (last : Option Id) (rows : List Row) (i : Id) → IsFollowed forest last rows → is_live forest i ≡ true →
    IsFollowed (mark_all (fresh_ids forest last i) forest) (Some i) (rows ++ fresh_rows settings context forest (fresh_ids forest last i))
followed-retrace settings context forest last rows i f live =
    let fresh : List Id = fresh_ids forest last i in
    let after : List Row = rows ++ fresh_rows settings context forest fresh in
    let opens : Opens after (path_of forest i) = fresh-whole settings context forest last rows i f.reached in
    followed-marks fresh forest (Some i) after
    (followed-last forest last after i (followed-more forest last rows (fresh_rows settings context forest fresh) f) live opens)
    (fresh-marks forest (well-formed f) last after i opens)

-- the rows of the fresh spans are the latest of their levels, and those above stay
pub latest-fresh : (settings : Settings) (context : Context) (forest : Forest) → IsForest forest → (last : Option Id) (rows : List Row) (i : Id) → IsLatest forest last rows →
    IsLatest forest (Some i) (rows ++ fresh_rows settings context forest (fresh_ids forest last i))
latest-fresh settings context forest formed last rows i h level lt =
    seen-append None level rows (fresh_rows settings context forest (fresh_ids forest last i)) ∙ by (cases_lt level (shared forest last i))
  where
    by : (level < shared forest last i) ⊎ (shared forest last i ≤ level) →
        seen (seen None level rows) level (fresh_rows settings context forest (fresh_ids forest last i)) ≡ slice_get (path_of forest i) level
    by (inl lower) =
        let m : ℕ = shared forest last i in
        let size : length (take m (path_of forest i)) ≡ m = length-take-le m (path_of forest i) (common-right (path_of_any forest last) (path_of forest i)) in
        let size' : length (take m (path_of_any forest last)) ≡ m = length-take-le m (path_of_any forest last) (common-left (path_of_any forest last) (path_of forest i)) in
        let le = common-left (path_of_any forest last) (path_of forest i) in
        fresh-low settings context forest formed i (take m (path_of forest i)) (fresh_ids forest last i) (sym (split-path forest last i)) (seen None level rows) level (omega (arith, lower, size))
        ∙ h level (omega (arith, lower, le))
        ∙ ap (λ ids. slice_get ids level) (sym (take-append-drop m (path_of_any forest last)))
        ∙ at_left (take m (path_of_any forest last)) (drop m (path_of_any forest last)) level (omega (arith, lower, size'))
        ∙ ap (λ ids. slice_get ids level) (sym (common-same (path_of_any forest last) (path_of forest i)))
        ∙ sym (at_left (take m (path_of forest i)) (drop m (path_of forest i)) level (omega (arith, lower, size)))
        ∙ ap (λ ids. slice_get ids level) (take-append-drop m (path_of forest i))
    by (inr upper) =
        let m : ℕ = shared forest last i in
        let size : length (take m (path_of forest i)) ≡ m = length-take-le m (path_of forest i) (common-right (path_of_any forest last) (path_of forest i)) in
        fresh-high settings context forest formed i (take m (path_of forest i)) (fresh_ids forest last i) (sym (split-path forest last i)) (seen None level rows) level (omega (arith, upper, size)) lt

pub latest-retrace : (settings : Settings) (context : Context) (forest : Forest) → IsForest forest → (last : Option Id) (rows : List Row) (i : Id) → IsLatest forest last rows →
    IsLatest (mark_all (fresh_ids forest last i) forest) (Some i) (rows ++ fresh_rows settings context forest (fresh_ids forest last i))
latest-retrace settings context forest formed last rows i h =
    let fresh : List Id = fresh_ids forest last i in
    latest-same (marked fresh) (marked-same fresh) forest (Some i) (rows ++ fresh_rows settings context forest fresh) (latest-fresh settings context forest formed last rows i h)

-- ---- a new span

-- an id that was used isn't the new span's
given-not : (forest : Forest) (s : Span) (i : Id) → forest.next ≡ Some s.id → is_given forest i ≡ true → has_id i s ≡ false
given-not forest s i next h = given-other forest i s.id next h

pub path_of_any-new : (forest : Forest) (s : Span) → IsGrownForest (add_span s forest) → (last : Option Id) → forest.next ≡ Some s.id → option_map_or (is_given forest) last true ≡ true →
    path_of_any (add_span s forest) last ≡ path_of_any forest last
path_of_any-new forest s new None next h = refl
path_of_any-new forest s new (Some l) next h = path_of-other s forest new l (given-not forest s l next h)

-- a span that is printed after was printed before, and its path is unchanged
printed-new : (forest : Forest) → IsGrownForest forest → (s : Span) → IsGrownForest (add_span s forest) → (i : Id) → forest.next ≡ Some s.id → s.kept.written ≡ false → is_printed (add_span s forest) i ≡ true →
    (is_printed forest i ≡ true) × (path_of (add_span s forest) i ≡ path_of forest i)
printed-new forest formed s new i next plain h =
    by (span_at forest i) refl (sym (ap (λ (o : Option Span). option_map_or (λ t. t.kept.written) o false) (find-new s forest i)) ∙ h)
  where
    none : (b : Bool) → option_map_or (λ (t : Span). t.kept.written) (if b then Some s else None) false ≡ true → ⊥
    none true k = no_both (sym k ∙ plain)
    none false k = no_both (sym k)

    by : (o : Option Span) → span_at forest i ≡ o → option_map_or (λ (t : Span). t.kept.written) (option_or o (if has_id i s then Some s else None)) false ≡ true →
        (is_printed forest i ≡ true) × (path_of (add_span s forest) i ≡ path_of forest i)
    by None e k = absurd (none (has_id i s) k)
    by (Some t) e k =
        let live : is_live forest i ≡ true = ap (λ (o : Option Span). is_some o) e in (
          ap (λ (o : Option Span). option_map_or (λ t. t.kept.written) o false) e ∙ k,
          path_of-other s forest new i (given-not forest s i next (live-given forest formed i live)),
        )

given-any : (forest : Forest) (s : Span) (last : Option Id) → forest.next ≡ Some s.id → option_map_or (is_given forest) last true ≡ true →
    option_map_or (is_given (add_span s forest)) last true ≡ true
given-any forest s None next h = refl
given-any forest s (Some l) next h = given-more forest s s.id l next refl h

pub followed-new : (forest : Forest) (last : Option Id) (rows : List Row) (s : Span) → IsFollowed forest last rows → forest.next ≡ Some s.id → s.kept.written ≡ false →
    any_unless_live forest s.parent ≡ None → IsFollowed (add_span s forest) last rows
followed-new forest last rows s f next plain found = record {
  formed = new;
  given = given-any forest s last next f.given;
  shown = λ i h.
      let was = printed-new forest f.formed s new i next plain h in
      opens-same rows (path_of forest i) (path_of (add_span s forest) i) was.1 (f.shown i was.0);
  reached = opens-same rows (path_of_any forest last) (path_of_any (add_span s forest) last) (path_of_any-new forest s new last next f.given) f.reached;
}
  where
    new : IsGrownForest (add_span s forest)
    new = forest-grown forest s.id s f.formed next refl found

pub latest-new : (forest : Forest) (last : Option Id) (rows : List Row) (s : Span) → IsFollowed forest last rows → forest.next ≡ Some s.id →
    IsGrownForest (add_span s forest) → IsLatest forest last rows → IsLatest (add_span s forest) last rows
latest-new forest last rows s f next new h = latest-path rows forest (add_span s forest) last last (path_of_any-new forest s new last next f.given) h

-- the new span is live
pub live-new : (forest : Forest) (s : Span) → forest.next ≡ Some s.id → is_live (add_span s forest) s.id ≡ true
live-new forest s next =
    ap (λ (o : Option Span). is_some o) (find-new s forest s.id)
    ∙ by (span_at forest s.id)
  where
    by : (o : Option Span) → is_some (option_or o (if has_id s.id s then Some s else None)) ≡ true
    by None = rw (same-refl s.id) refl
    by (Some t) = refl

-- with its mark, all spans that were printed are printed
pub all_shown-new : (settings : Settings) (forest : Forest) (s : Span) → IsAllShown settings forest → IsAllShown settings (mark_all (s.id ∷ []) (add_span s forest))
all_shown-new settings forest s h eager i live =
    printed-marked (s.id ∷ []) (add_span s forest) i
    ∙ by (span_at forest i) refl (has_id i s) refl (sym (ap (λ (o : Option Span). is_some o) (find-new s forest i))
    ∙ sym (live-same (marked (s.id ∷ [])) (marked-same (s.id ∷ [])) (add_span s forest) i) ∙ live)
  where
    two : (w b : Bool) → b ≡ true → (w || b) ≡ true
    two true b e = refl
    two false b e = e

    by : (o : Option Span) → span_at forest i ≡ o → (b : Bool) → has_id i s ≡ b → is_some (option_or o (if has_id i s then Some s else None)) ≡ true →
        (is_printed (add_span s forest) i || (is_live (add_span s forest) i && is_gone (s.id ∷ []) i)) ≡ true
    by (Some t) e b own k =
        let was : is_printed forest i ≡ true = h eager i (ap (λ (o : Option Span). is_some o) e) in
        let written : t.kept.written ≡ true = sym (ap (λ (o : Option Span). option_map_or (λ t. t.kept.written) o false) e) ∙ was in
        let printed : is_printed (add_span s forest) i ≡ true =
        ap (λ (o : Option Span). option_map_or (λ t. t.kept.written) o false) (find-new s forest i)
        ∙ ap (λ (o : Option Span). option_map_or (λ t. t.kept.written) (option_or o (if has_id i s then Some s else None)) false) e ∙ written in
        rw printed refl
    by None e true own k =
        let alive : is_live (add_span s forest) i ≡ true = ap (λ (o : Option Span). is_some o) (find-new s forest i) ∙ ap (λ (o : Option Span). is_some (option_or o (if has_id i s then Some s else None))) e ∙ k in
        let here : is_gone (s.id ∷ []) i ≡ true = ap (λ j. is_gone (s.id ∷ []) j) (sym (same_id-eq s.id i own)) ∙ rw (same-refl s.id) refl in
        two (is_printed (add_span s forest) i) (is_live (add_span s forest) i && is_gone (s.id ∷ []) i) (rw (alive, here) refl)
    by None e false own k = no_both (sym k ∙ rw own refl)

-- ---- what closes leaves

is_left : (ids : List Id) (forest : Forest) (i : Id) → is_live (without_spans ids forest) i ≡ true → is_gone ids i ≡ false
is_left ids forest i live = by (is_gone ids i) refl
  where
    by : (b : Bool) → is_gone ids i ≡ b → b ≡ false
    by false e = refl
    by true e = no_both (sym live ∙ ap (λ (o : Option Span). is_some o) (find-gone ids i e forest.spans))

-- a printed span is live
pub printed-live : (forest : Forest) (i : Id) → is_printed forest i ≡ true → is_live forest i ≡ true
printed-live forest i = by (span_at forest i)
  where
    by : (o : Option Span) → option_map_or (λ (t : Span). t.kept.written) o false ≡ true → is_some o ≡ true
    by None e = no_both (sym e)
    by (Some t) e = refl

-- the current branch is unchanged, or empty
path_of_any-left : {P : Type 0} (ids : List Id) (forest : Forest) → IsGrownForest forest → Each (GoesAlong ids) forest.spans → (last : Option Id) →
    (path_of_any (without_spans ids forest) last ≡ path_of_any forest last → P) → (path_of_any (without_spans ids forest) last ≡ [] → P) → P
path_of_any-left ids forest formed along None same none = same refl
path_of_any-left {P} ids forest formed along (Some l) same none = by (is_gone ids l) refl
  where
    by : (b : Bool) → is_gone ids l ≡ b → P
    by false e = same (path_of-kept ids forest formed along l e)
    by true e = none (path_of-none (without_spans ids forest) l (ap (λ (o : Option Span). is_some o) (find-gone ids l e forest.spans)))

pub followed-left : (ids : List Id) (forest : Forest) (last : Option Id) (rows : List Row) → Each (GoesAlong ids) forest.spans → IsFollowed forest last rows →
    IsFollowed (without_spans ids forest) last rows
followed-left ids forest last rows along f = record {
  formed = forest-left ids forest f.formed along;
  given = f.given;
  shown = λ i h.
      let kept = is_left ids forest i (printed-live (without_spans ids forest) i h) in
      opens-same rows (path_of forest i) (path_of (without_spans ids forest) i) (path_of-kept ids forest f.formed along i kept)
      (f.shown i (sym (ap (λ (o : Option Span). option_map_or (λ t. t.kept.written) o false) (find-kept ids i kept forest.spans)) ∙ h));
  reached = path_of_any-left ids forest f.formed along last
      (λ e. opens-same rows (path_of_any forest last) (path_of_any (without_spans ids forest) last) e f.reached)
      (λ e j k. no_both (sym k ∙ ap (λ path. is_gone path j) e));
}

pub latest-left : (ids : List Id) (forest : Forest) → IsGrownForest forest → (last : Option Id) (rows : List Row) → Each (GoesAlong ids) forest.spans → IsLatest forest last rows →
    IsLatest (without_spans ids forest) last rows
latest-left ids forest formed last rows along h =
    path_of_any-left ids forest formed along last
    (λ e. latest-path rows forest (without_spans ids forest) last last e h)
    (λ e level lt. let none : level < length {A = Id} [] = subst (λ (path : List Id). level < length path) e lt in absurd (omega arith))

pub all_shown-left : (settings : Settings) (ids : List Id) (forest : Forest) → IsAllShown settings forest → IsAllShown settings (without_spans ids forest)
all_shown-left settings ids forest h eager i live =
    let kept = find-kept ids i (is_left ids forest i live) forest.spans in
    ap (λ (o : Option Span). option_map_or (λ t. t.kept.written) o false) kept ∙ h eager i (sym (ap (λ (o : Option Span). is_some o) kept) ∙ live)
