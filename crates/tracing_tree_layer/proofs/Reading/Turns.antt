-- What each turn of a call does to what a run keeps.
use Rattle.std.proofs.Common.{◌≡◌, ℕ, Bool, true, false, ◌||◌, List, [], ◌∷◌, ◌++◌, Option, Some, None, is_some, option_and_then, if◌then◌else◌, refl, sym, ap, ◌∙◌, subst, append_assoc}
use Rattle.std.specs.Option.{option_map_or, option_or}
use Rattle.std.specs.List.{list_any}
use Rattle.tracing_tree_drawing.specs.Format.Settings.{Settings, retraces}
use Rattle.tracing_tree_spans.specs.Registry.Ids.{same_id}
use Rattle.tracing_tree_time.specs.Clock.{Timer}
use Rattle.tracing_tree_spans.specs.Registry.Spans.{Span, printed_span}
use Rattle.tracing_tree_spans.specs.Registry.Forest.{Forest, span_at, if_live, is_live, is_printed, parent_of, path_of, path_of_any, IsForest, IsGrownForest, mark_all, mark_printed, fresh_ids, add_span, any_unless_live}
use Rattle.tracing_tree_drawing.specs.Format.Picture.{Row}
use Rattle.tracing_tree_base.specs.declared.context.Id.{Id}
use Rattle.tracing_tree_base.specs.declared.context.Context.{Context}
use Rattle.tracing_tree_drawing.specs.declared.format.SpanMode.TheVariants.{PreOpen, Open, PostClose}
use Rattle.tracing_tree_spans.specs.declared.registry.Event.{Event}
use Rattle.tracing_tree_spans.proofs.ForestLaws.{same_id-eq}
use Rattle.tracing_tree_spans.proofs.PathLaws.{path_of-step}
use Rattle.tracing_tree_spans.proofs.GrownForests.{as_forest}
use Rattle.tracing_tree_spans.proofs.RegistryLaws.{IsSame, changed, changed-same, parent-live}
use Rattle.tracing_tree_layer.specs.Layered.State.{Turn, quiet_turn}
use Rattle.tracing_tree_layer.specs.Layer.Turns.{current_of, span_row, event_row, parent_rows, fresh_rows, retrace_to, then_turn, turn_of_new, turn_of_row, turn_before_event, turn_of_event, close_turn}
use Rattle.tracing_tree_layer.specs.Laws.Reading.{opens_span}
use Rattle.tracing_tree_layer.proofs.Reading.Changes.{same-refl, no_both, changed_all, path_of-same, path_of_any-same, forest-same}
use Rattle.tracing_tree_layer.proofs.Reading.Newest.{path_of-new, parent-is_live}
use Rattle.tracing_tree_layer.proofs.Reading.Left.{is_gone}
use Rattle.tracing_tree_layer.proofs.Reading.Parts.{in_left, in_either, own-path}
use Rattle.tracing_tree_layer.proofs.Reading.Seen.{Opens, seen, seen-parent_rows, opened-left, opened-right}
use Rattle.tracing_tree_layer.proofs.Reading.Followed.{IsFollowed, well-formed, IsAllShown, IsLatest, followed-more, latest-more, followed-last, latest-last, opens-same, latest-same, marked, marked-same, followed-marks, all_shown-marks, mark_printed-all, fresh-whole, fresh-marks, followed-retrace, latest-retrace, followed-new, latest-new, live-new, all_shown-new}

-- what a run keeps, after a turn that follows these rows
pub record IsKeptUp (settings : Settings) (rows : List Row) (turn : Turn) : Type 0 where
  pub followed : IsFollowed turn.forest turn.last (rows ++ turn.rows)
  pub all_shown : IsAllShown settings turn.forest

abbrev pub IsLatestAfter : List Row → Turn → Type 0
IsLatestAfter rows turn = IsLatest turn.forest turn.last (rows ++ turn.rows)

pub kept-quiet : (settings : Settings) (forest : Forest) (last : Option Id) (rows : List Row) → IsFollowed forest last rows → IsAllShown settings forest →
    IsKeptUp settings rows (quiet_turn forest last)
kept-quiet settings forest last rows f all = record { followed = followed-more forest last rows [] f; all_shown = all }

pub latest-quiet : (forest : Forest) (last : Option Id) (rows : List Row) → IsLatest forest last rows → IsLatestAfter rows (quiet_turn forest last)
latest-quiet forest last rows h = latest-more forest last rows [] (λ o level. refl) h

pub kept-retrace : (settings : Settings) (context : Context) (forest : Forest) (last : Option Id) (rows : List Row) (i : Id) → IsFollowed forest last rows → IsAllShown settings forest →
    is_live forest i ≡ true → IsKeptUp settings rows (retrace_to settings context forest last i)
kept-retrace settings context forest last rows i f all live = record {
  followed = followed-retrace settings context forest last rows i f live;
  all_shown = all_shown-marks settings (fresh_ids forest last i) forest all;
}

-- one turn and then another
pub kept-then : (settings : Settings) (rows : List Row) (first : Turn) (next : Forest → Option Id → Turn) →
    IsKeptUp settings (rows ++ first.rows) (next first.forest first.last) → IsKeptUp settings rows (then_turn first next)
kept-then settings rows first next k = record {
  followed = subst (λ xs. IsFollowed (next first.forest first.last).forest (next first.forest first.last).last xs)
      (append_assoc rows first.rows (next first.forest first.last).rows) k.followed;
  all_shown = k.all_shown;
}

pub latest-then : (rows : List Row) (first : Turn) (next : Forest → Option Id → Turn) →
    IsLatestAfter (rows ++ first.rows) (next first.forest first.last) → IsLatestAfter rows (then_turn first next)
latest-then rows first next h =
    subst (λ xs. IsLatest (next first.forest first.last).forest (next first.forest first.last).last xs)
    (append_assoc rows first.rows (next first.forest first.last).rows) h

-- ---- new spans

printed-same : IsSame printed_span
printed-same = record { ids = λ s. refl; parents = λ s. refl }

only-one : (i j : Id) → is_gone (i ∷ []) j ≡ true → i ≡ j
only-one i j h = sym (same_id-eq j i (by (same_id j i) h))
  where
    by : (b : Bool) → (b || false) ≡ true → b ≡ true
    by true e = refl
    by false e = e

-- without a retrace: the rows of its parent and its own
abbrev opened_alone : Settings → Context → Forest → Id → List Row
opened_alone settings context forest i =
    parent_rows settings context forest settings.verbose_entry PreOpen i ++ span_row settings context forest (Open settings.verbose_entry) i ∷ []

-- a new span's turn, by the two settings
abbrev turn_by : Settings → Context → Forest → Option Id → Id → Bool → Bool → Turn
turn_by settings context forest last i deferred retraced =
    if deferred then quiet_turn forest last
    else (if retraced then retrace_to settings context (mark_printed i forest) last i
    else record { rows = opened_alone settings context forest i; forest = mark_printed i forest; last = Some i })

alone-opens : (settings : Settings) (context : Context) (forest : Forest) (last : Option Id) (rows : List Row) (s : Span) → IsFollowed forest last rows → IsAllShown settings forest →
    settings.deferred_spans ≡ false → any_unless_live forest s.parent ≡ None → IsGrownForest (add_span s forest) → (new : Forest) →
    Opens (rows ++ opened_alone settings context new s.id) (path_of (add_span s forest) s.id)
alone-opens settings context forest last rows s f all eager found grown new =
    opens-same after (path_of_any forest s.parent ++ s.id ∷ []) (path_of (add_span s forest) s.id) (path_of-new s forest grown s.id (same-refl s.id))
    (λ j h. in_either (path_of_any forest s.parent) (s.id ∷ []) j h
    (λ k. opened-left rows own j (above s.parent refl j k))
    (λ k. opened-right rows own j (opened-right (parent_rows settings context new settings.verbose_entry PreOpen s.id) (row ∷ []) j
    (subst (λ i. list_any (opens_span i) (row ∷ []) ≡ true) (only-one s.id j k) (rw (same-refl s.id) refl)))))
  where
    row : Row
    row = span_row settings context new (Open settings.verbose_entry) s.id

    own : List Row
    own = opened_alone settings context new s.id

    after : List Row
    after = rows ++ own

    above : (o : Option Id) → s.parent ≡ o → Opens rows (path_of_any forest o)
    above None e = λ j k. no_both (sym k)
    above (Some a) e =
        let live : is_live forest a ≡ true =
        subst (λ o. option_map_or (λ b. is_live forest b) o true ≡ true) e (parent-live forest.spans s.parent found) in
        f.shown a (all eager a live)

pub kept-new : (settings : Settings) (context : Context) (forest : Forest) (last : Option Id) (rows : List Row) (s : Span) → IsFollowed forest last rows → IsAllShown settings forest →
    forest.next ≡ Some s.id → s.kept.written ≡ false → any_unless_live forest s.parent ≡ None →
    IsKeptUp settings rows (turn_of_new settings context (add_span s forest) last s.id)
kept-new settings context forest last rows s f all next plain found = by settings.deferred_spans refl settings.span_retrace
  where
    fF : IsFollowed (add_span s forest) last rows
    fF = followed-new forest last rows s f next plain found

    -- a span whose path is opened becomes the last, and is marked
    marked-last : (after : List Row) → IsFollowed (add_span s forest) last after → Opens after (path_of (add_span s forest) s.id) →
        IsFollowed (mark_all (s.id ∷ []) (add_span s forest)) (Some s.id) after
    marked-last after g opens =
        followed-marks (s.id ∷ []) (add_span s forest) (Some s.id) after
        (followed-last (add_span s forest) last after s.id g (live-new forest s next) opens)
        (λ j h. subst (λ i. Opens after (path_of (add_span s forest) i)) (only-one s.id j h) opens)

    retraced : IsKeptUp settings rows (retrace_to settings context (mark_all (s.id ∷ []) (add_span s forest)) last s.id)
    retraced =
        let G : Forest = add_span s forest in
        let M : Forest = mark_all (s.id ∷ []) G in
        let same = marked-same (s.id ∷ []) in
        let fresh : List Id = fresh_ids M last s.id in
        let more : List Row = fresh_rows settings context M fresh in
        let after : List Row = rows ++ more in
        let reached : Opens rows (path_of_any M last) =
        opens-same rows (path_of_any G last) (path_of_any M last) (path_of_any-same (marked (s.id ∷ [])) same G last) fF.reached in
        let opens : Opens after (path_of M s.id) = fresh-whole settings context M last rows s.id reached in
        let opensG : Opens after (path_of G s.id) =
        opens-same after (path_of M s.id) (path_of G s.id) (sym (path_of-same (marked (s.id ∷ [])) same G s.id)) opens in
        let g : IsFollowed M (Some s.id) after = marked-last after (followed-more G last rows more fF) opensG in
        record {
          followed = followed-marks fresh M (Some s.id) after g (fresh-marks M (well-formed g) last after s.id opens);
          all_shown = all_shown-marks settings fresh M (all_shown-new settings forest s all);
        }

    alone : settings.deferred_spans ≡ false →
        IsFollowed (mark_all (s.id ∷ []) (add_span s forest)) (Some s.id) (rows ++ opened_alone settings context (add_span s forest) s.id)
    alone eager =
        marked-last (rows ++ opened_alone settings context (add_span s forest) s.id)
        (followed-more (add_span s forest) last rows (opened_alone settings context (add_span s forest) s.id) fF)
        (alone-opens settings context forest last rows s f all eager found fF.formed (add_span s forest))

    by : (d : Bool) → settings.deferred_spans ≡ d → (r : Bool) → IsKeptUp settings rows (turn_by settings context (add_span s forest) last s.id d r)
    by true e r = kept-quiet settings (add_span s forest) last rows fF (λ eager. no_both (sym e ∙ eager))
    by false e true =
        subst (λ g. IsKeptUp settings rows (retrace_to settings context g last s.id)) (sym (mark_printed-all s.id (add_span s forest))) retraced
    by false e false = record {
      followed = subst (λ g. IsFollowed g (Some s.id) (rows ++ opened_alone settings context (add_span s forest) s.id)) (sym (mark_printed-all s.id (add_span s forest))) (alone e);
      all_shown = subst (λ g. IsAllShown settings g) (sym (mark_printed-all s.id (add_span s forest))) (all_shown-new settings forest s all);
    }

pub latest-new_turn : (settings : Settings) (context : Context) (forest : Forest) (last : Option Id) (rows : List Row) (s : Span) → IsFollowed forest last rows →
    forest.next ≡ Some s.id → IsGrownForest (add_span s forest) → retraces settings ≡ true → IsLatest forest last rows →
    IsLatestAfter rows (turn_of_new settings context (add_span s forest) last s.id)
latest-new_turn settings context forest last rows s f next formed on h = by settings.deferred_spans settings.span_retrace on
  where
    hF : IsLatest (add_span s forest) last rows
    hF = latest-new forest last rows s f next formed h

    by : (d r : Bool) → (r || d) ≡ true → IsLatestAfter rows (turn_by settings context (add_span s forest) last s.id d r)
    by true r e = latest-quiet (add_span s forest) last rows hF
    by false true e =
        let u : Span → Span = changed printed_span s.id in
        let same : IsSame (changed printed_span s.id) = changed-same printed_span s.id printed-same in
        latest-retrace settings context (changed_all u (add_span s forest)) (as_forest (changed_all u (add_span s forest)) (forest-same u same (add_span s forest) formed)) last rows s.id
        (latest-same u same (add_span s forest) last rows hF)
    by false false e = no_both (sym e)

-- ---- events

pub current-live : (forest : Forest) (context : Context) (i : Id) → current_of forest context ≡ Some i → is_live forest i ≡ true
current-live forest context i h = by context.current h
  where
    by : (o : Option Id) → if_live forest o ≡ Some i → is_live forest i ≡ true
    by None e = absurd cc
    by (Some j) e = at (is_live forest j) refl e
      where
        at : (b : Bool) → is_live forest j ≡ b → (if b then Some j else None) ≡ Some i → is_live forest i ≡ true
        at true k e = subst (λ n. is_live forest n ≡ true) (let same : j ≡ i = cc in same) k
        at false k e = absurd cc

pub kept-before : (settings : Settings) (context : Context) (forest : Forest) (last : Option Id) (rows : List Row) → IsFollowed forest last rows → IsAllShown settings forest →
    (o : Option Id) → ((i : Id) → o ≡ Some i → is_live forest i ≡ true) → IsKeptUp settings rows (turn_before_event settings context forest last o)
kept-before settings context forest last rows f all None live = kept-quiet settings forest last rows f all
kept-before settings context forest last rows f all (Some i) live = by (retraces settings)
  where
    by : (b : Bool) → IsKeptUp settings rows (if b then retrace_to settings context forest last i else quiet_turn forest last)
    by true = kept-retrace settings context forest last rows i f all (live i refl)
    by false = kept-quiet settings forest last rows f all

pub latest-before : (settings : Settings) (context : Context) (forest : Forest) (last : Option Id) (rows : List Row) → IsForest forest → IsLatest forest last rows →
    (o : Option Id) → IsLatestAfter rows (turn_before_event settings context forest last o)
latest-before settings context forest last rows formed h None = latest-quiet forest last rows h
latest-before settings context forest last rows formed h (Some i) = by (retraces settings)
  where
    by : (b : Bool) → IsLatestAfter rows (if b then retrace_to settings context forest last i else quiet_turn forest last)
    by true = latest-retrace settings context forest formed last rows i h
    by false = latest-quiet forest last rows h

pub kept-event : (settings : Settings) (timer : Timer) (context : Context) (forest : Forest) (last : Option Id) (rows : List Row) (event : Event) →
    IsFollowed forest last rows → IsAllShown settings forest → IsKeptUp settings rows (turn_of_event settings timer context forest last event)
kept-event settings timer context forest last rows event f all =
    let before : Turn = turn_before_event settings context forest last (current_of forest context) in
    let k : IsKeptUp settings rows before = kept-before settings context forest last rows f all (current_of forest context) (λ i e. current-live forest context i e) in
    let row : Row = event_row settings timer forest event context in
    kept-then settings rows before (turn_of_row row) (record {
      followed = followed-more before.forest before.last (rows ++ before.rows) (row ∷ []) k.followed;
      all_shown = k.all_shown;
    })

pub latest-event : (settings : Settings) (timer : Timer) (context : Context) (forest : Forest) (last : Option Id) (rows : List Row) (event : Event) →
    IsForest forest → IsLatest forest last rows → IsLatestAfter rows (turn_of_event settings timer context forest last event)
latest-event settings timer context forest last rows event formed h =
    let before : Turn = turn_before_event settings context forest last (current_of forest context) in
    let row : Row = event_row settings timer forest event context in
    latest-then rows before (turn_of_row row)
    (latest-more before.forest before.last (rows ++ before.rows) (row ∷ []) (λ o level. refl)
    (latest-before settings context forest last rows formed h (current_of forest context)))

-- ---- closes

-- the span whose parent is read
pub parent-found : (forest : Forest) (i above : Id) → parent_of forest i ≡ Some above → (s : Span) × (span_at forest i ≡ Some s) × (s.parent ≡ Some above)
parent-found forest i above h = by (span_at forest i) refl h
  where
    by : (o : Option Span) → span_at forest i ≡ o → option_and_then (λ span. span.parent) o ≡ Some above → (s : Span) × (span_at forest i ≡ Some s) × (s.parent ≡ Some above)
    by None e k = absurd cc
    by (Some s) e k = (s, e, k)

-- a parent is on the path
pub parent-on_path : (forest : Forest) → IsForest forest → (i above : Id) → parent_of forest i ≡ Some above → is_gone (path_of forest i) above ≡ true
parent-on_path forest formed i above h =
    let s = parent-found forest i above h in
    let live : is_live forest above ≡ true = parent-is_live forest formed i above s.0 s.1 s.2 in
    let here : is_gone (path_of forest above) above ≡ true = own (span_at forest above) refl live in
    let path : path_of forest i ≡ path_of forest above ++ i ∷ [] = path_of-step forest formed i s.0 s.1 ∙ ap (λ o. path_of_any forest o ++ i ∷ []) s.2 in
    subst (λ ids. is_gone ids above ≡ true) (sym path) (in_left (path_of forest above) (i ∷ []) above here)
  where
    own : (o : Option Span) → span_at forest above ≡ o → is_some o ≡ true → is_gone (path_of forest above) above ≡ true
    own None e k = no_both (sym k)
    own (Some t) e k = own-path forest formed above t e

-- if the span is live, it is printed
abbrev pub IsShown : Forest → Id → Type 0
IsShown forest i = is_live forest i ≡ true → is_printed forest i ≡ true

pub kept-close_turn : (settings : Settings) (context : Context) (i : Id) (forest : Forest) (last : Option Id) (rows : List Row) → IsFollowed forest last rows → IsAllShown settings forest →
    IsShown forest i → IsKeptUp settings rows (close_turn settings context i forest last)
kept-close_turn settings context i forest last rows f all shown = record { followed = by (parent_of forest i) refl; all_shown = all }
  where
    by : (o : Option Id) → parent_of forest i ≡ o → IsFollowed forest (option_or o last) (rows ++ (close_turn settings context i forest last).rows)
    by None e = followed-more forest last rows (close_turn settings context i forest last).rows f
    by (Some above) e =
        let s = parent-found forest i above e in
        let live : is_live forest above ≡ true = parent-is_live forest (well-formed f) i above s.0 s.1 s.2 in
        let printed : is_printed forest i ≡ true = shown (ap (λ (o : Option Span). is_some o) s.1) in
        let path : path_of forest i ≡ path_of forest above ++ i ∷ [] = path_of-step forest (well-formed f) i s.0 s.1 ∙ ap (λ o. path_of_any forest o ++ i ∷ []) s.2 in
        let opens : Opens rows (path_of forest above) =
        (λ j k. f.shown i printed j (subst (λ ids. is_gone ids j ≡ true) (sym path) (in_left (path_of forest above) (i ∷ []) j k))) in
        followed-more forest (Some above) rows (close_turn settings context i forest last).rows (followed-last forest last rows above f live opens)

-- the parent, if there is one, is on the current branch
abbrev pub IsParentOn : Forest → Option Id → Id → Type 0
IsParentOn forest last i = option_map_or (λ above. list_any (same_id above) (path_of_any forest last)) (parent_of forest i) true ≡ true

pub latest-close_turn : (settings : Settings) (context : Context) (i : Id) (forest : Forest) (last : Option Id) (rows : List Row) → IsForest forest → IsLatest forest last rows →
    IsParentOn forest last i → IsLatestAfter rows (close_turn settings context i forest last)
latest-close_turn settings context i forest last rows formed h on =
    latest-more forest (option_or (parent_of forest i) last) rows (close_turn settings context i forest last).rows none (by (parent_of forest i) on)
  where
    none : (o : Option Id) (level : ℕ) → seen o level (close_turn settings context i forest last).rows ≡ o
    none o level = seen-parent_rows o level settings.verbose_exit settings context forest PostClose i refl

    by : (o : Option Id) → option_map_or (λ above. list_any (same_id above) (path_of_any forest last)) o true ≡ true → IsLatest forest (option_or o last) rows
    by None e = h
    by (Some above) e = latest-last forest formed last rows above e h
