-- What the closes of a call do to what a run keeps.
use Rattle.std.proofs.Common.{◌≡◌, Bool, true, false, not, ◌||◌, ◌&&◌, List, [], ◌∷◌, ◌++◌, map, Option, Some, None, is_some, if◌then◌else◌, refl, sym, ap, ◌∙◌, subst, inl, inr, ◌⊎◌}
use Rattle.std.specs.Option.{option_map_or}
use Rattle.std.specs.List.{list_any}
use Rattle.std.proofs.lemmas.Bool.{and_parts}
use Rattle.tracing_tree_drawing.specs.Format.Settings.{Settings, retraces}
use Rattle.tracing_tree_spans.specs.Registry.Ids.{same_id}
use Rattle.tracing_tree_spans.specs.Registry.Spans.{Span}
use Rattle.tracing_tree_spans.specs.Registry.Forest.{Forest, has_id, is_printed, parent_of, path_of_any, IsForest, fresh_ids, mark_all, closing_of, take_handle, without_spans}
use Rattle.tracing_tree_drawing.specs.Format.Picture.{Row}
use Rattle.tracing_tree_base.specs.declared.context.Id.{Id}
use Rattle.tracing_tree_base.specs.declared.context.Context.{Context}
use Rattle.tracing_tree_spans.proofs.RegistryLaws.{IsSame, changed, changed-same}
use Rattle.tracing_tree_spans.proofs.ClosingSteps.{one_less, less-same}
use Rattle.tracing_tree_layer.specs.Layered.State.{Turn, quiet_turn}
use Rattle.tracing_tree_layer.specs.Layer.CloseRetrace.{retraces_before_close}
use Rattle.tracing_tree_layer.specs.Layer.Turns.{retrace_to, then_turn, close_turn, turn_of_close, turn_of_closes}
use Rattle.tracing_tree_layer.specs.Laws.Reading.{close_is_on_path, closes_are_on_path}
use Rattle.tracing_tree_layer.proofs.Reading.Changes.{no_both, changed_all}
use Rattle.tracing_tree_layer.proofs.Reading.Left.{Each, GoesAlong, is_gone, closing-along}
use Rattle.tracing_tree_layer.proofs.Reading.Followed.{IsFollowed, well-formed, IsAllShown, IsLatest, IsQuiet, followed-quiet, latest-same, all_shown-quiet, marked, marked-same, printed-marked, followed-left, latest-left, all_shown-left, latest-retrace, printed-live}
use Rattle.tracing_tree_layer.proofs.Reading.Turns.{IsKeptUp, IsLatestAfter, kept-quiet, latest-quiet, kept-retrace, kept-then, latest-then, parent-on_path, parent-found, kept-close_turn, latest-close_turn, IsShown, IsParentOn}

-- ---- forests whose spans have changed

-- the one is the other with its spans changed, except for ids and parents
pub record IsChanged (old new : Forest) : Type 0 where
  pub change : Span → Span
  pub same : IsSame change
  pub made : new ≡ changed_all change old

map-twice : (u v : Span → Span) (xs : List Span) → map v (map u xs) ≡ map (λ s. v (u s)) xs
map-twice u v [] = refl
map-twice u v (x ∷ xs) = ap (λ ys. v (u x) ∷ ys) (map-twice u v xs)

map-none : (xs : List Span) → map (λ s. s) xs ≡ xs
map-none [] = refl
map-none (x ∷ xs) = ap (λ ys. x ∷ ys) (map-none xs)

changed-none : (forest : Forest) → IsChanged forest forest
changed-none forest = record {
  change = λ s. s;
  same = record { ids = λ s. refl; parents = λ s. refl };
  made = ap (λ xs. record forest { spans = xs }) (sym (map-none forest.spans));
}

changed-trans : (a b c : Forest) → IsChanged a b → IsChanged b c → IsChanged a c
changed-trans a b c h k = record {
  change = λ s. k.change (h.change s);
  same = record {
    ids = λ s. k.same.ids (h.change s) ∙ h.same.ids s;
    parents = λ s. k.same.parents (h.change s) ∙ h.same.parents s;
  };
  made = k.made ∙ ap (changed_all k.change) h.made ∙ ap (λ xs. record a { spans = xs }) (map-twice h.change k.change a.spans);
}

-- children close together with their changed parents
along-map : (ids : List Id) (u : Span → Span) → IsSame u → (xs : List Span) → Each (GoesAlong ids) xs → Each (GoesAlong ids) (map u xs)
along-map ids u same [] h = tt
along-map ids u same (x ∷ xs) h = (
  (λ above up gone. ap (is_gone ids) (same.ids x) ∙ h.0 above (sym (same.parents x) ∙ up) gone),
  along-map ids u same xs h.1,
)

-- and they do if only the spans before the change are known
along-back : (ids : List Id) (u : Span → Span) → IsSame u → (xs : List Span) → Each (GoesAlong ids) (map u xs) → Each (GoesAlong ids) xs
along-back ids u same [] h = tt
along-back ids u same (x ∷ xs) h = (
  (λ above up gone. ap (is_gone ids) (sym (same.ids x)) ∙ h.0 above (same.parents x ∙ up) gone),
  along-back ids u same xs h.1,
)

-- what closes, in the forest that its turn leaves
pub along-closes : (forest new : Forest) (i : Id) → IsChanged forest new → Each (GoesAlong (closing_of forest i)) (take_handle i new).spans
along-closes forest new i h =
    let ids : List Id = closing_of forest i in
    let less : Span → Span = changed one_less i in
    let lessened : IsSame less = changed-same one_less i less-same in
    along-map ids less lessened new.spans
    (subst (λ (g : Forest). Each (GoesAlong ids) g.spans) (sym h.made)
    (along-map ids h.change h.same forest.spans (along-back ids less lessened forest.spans (closing-along forest i))))

-- ---- the close of one span

-- the turn of a close, by the two tests
abbrev close_by : Settings → Context → Forest → Option Id → Id → Bool → Bool → Turn
close_by settings context forest last i silent retraced =
    if silent then quiet_turn forest last
    else (if retraced then then_turn (retrace_to settings context forest last i) (close_turn settings context i)
    else close_turn settings context i forest last)

-- a live span whose close is drawn is printed
shown-close : (settings : Settings) (forest : Forest) (i : Id) → IsAllShown settings forest → (settings.deferred_spans && not (is_printed forest i)) ≡ false → IsShown forest i
shown-close settings forest i all drawn live = by settings.deferred_spans refl (is_printed forest i) refl
  where
    by : (d : Bool) → settings.deferred_spans ≡ d → (p : Bool) → is_printed forest i ≡ p → is_printed forest i ≡ true
    by false e p k = all e i live
    by true e true k = k
    by true e false k = let silent : true ≡ false = sym (rw (e, k) refl) ∙ drawn in no_both silent

-- before it retraces, the span is printed
retraced-printed : (settings : Settings) (forest : Forest) (last : Option Id) (i : Id) → retraces_before_close settings forest last i ≡ true → is_printed forest i ≡ true
retraced-printed settings forest last i h = by settings.close_retrace (retraces settings) (is_printed forest i) _ h
  where
    by : (a b p q : Bool) → (a && b && p && q) ≡ true → p ≡ true
    by true true true q e = refl
    by true true false q e = no_both (sym e)
    by true false p q e = no_both (sym e)
    by false b p q e = no_both (sym e)

kept-close : (settings : Settings) (context : Context) (i : Id) (forest : Forest) (last : Option Id) (rows : List Row) → IsFollowed forest last rows → IsAllShown settings forest →
    IsKeptUp settings rows (turn_of_close settings context forest last i)
kept-close settings context i forest last rows f all =
    by (settings.deferred_spans && not (is_printed forest i)) refl (retraces_before_close settings forest last i) refl
  where
    by : (b : Bool) → (settings.deferred_spans && not (is_printed forest i)) ≡ b → (c : Bool) → retraces_before_close settings forest last i ≡ c →
        IsKeptUp settings rows (close_by settings context forest last i b c)
    by true e c k = kept-quiet settings forest last rows f all
    by false e false k = kept-close_turn settings context i forest last rows f all (shown-close settings forest i all e)
    by false e true k =
        let fresh : List Id = fresh_ids forest last i in
        let printed : is_printed forest i ≡ true = retraced-printed settings forest last i k in
        let turn : Turn = retrace_to settings context forest last i in
        let up : IsKeptUp settings rows turn = kept-retrace settings context forest last rows i f all (printed-live forest i printed) in
        let still : is_printed (mark_all fresh forest) i ≡ true = printed-marked fresh forest i ∙ rw printed refl in
        kept-then settings rows turn (close_turn settings context i)
        (kept-close_turn settings context i turn.forest turn.last (rows ++ turn.rows) up.followed up.all_shown (λ live. still))

changed-close : (settings : Settings) (context : Context) (i : Id) (forest : Forest) (last : Option Id) → IsChanged forest (turn_of_close settings context forest last i).forest
changed-close settings context i forest last = by (settings.deferred_spans && not (is_printed forest i)) (retraces_before_close settings forest last i)
  where
    by : (b c : Bool) → IsChanged forest (close_by settings context forest last i b c).forest
    by true c = changed-none forest
    by false false = changed-none forest
    by false true =
        let fresh : List Id = fresh_ids forest last i in
        record { change = marked fresh; same = marked-same fresh; made = refl }

-- the parent is on the current branch, or a close off it retraces first
abbrev pub IsOnOrRetraced : Settings → Bool → Type 0
IsOnOrRetraced settings on = (settings.close_retrace ≡ true) ⊎ (on ≡ true)

-- a drawn close that doesn't retrace has its parent on the current branch
parent-on : (settings : Settings) (forest : Forest) (last : Option Id) (i : Id) → IsAllShown settings forest → retraces settings ≡ true →
    (settings.deferred_spans && not (is_printed forest i)) ≡ false → retraces_before_close settings forest last i ≡ false →
    IsOnOrRetraced settings (close_is_on_path settings forest last i) → IsParentOn forest last i
parent-on settings forest last i all on drawn still (inr h) =
    subst (λ b. (b || option_map_or (λ above. list_any (same_id above) (path_of_any forest last)) (parent_of forest i) true) ≡ true) drawn h
parent-on settings forest last i all on drawn still (inl h) = by (parent_of forest i) refl still
  where
    by : (o : Option Id) → parent_of forest i ≡ o →
        (settings.close_retrace && retraces settings && is_printed forest i
        && option_map_or (λ above. not (list_any (same_id above) (path_of_any forest last))) o false) ≡ false →
        option_map_or (λ above. list_any (same_id above) (path_of_any forest last)) o true ≡ true
    by None e k = refl
    by (Some above) e k =
        let s = parent-found forest i above e in
        let printed : is_printed forest i ≡ true = shown-close settings forest i all drawn (ap (λ (o : Option Span). is_some o) s.1) in
        left (list_any (same_id above) (path_of_any forest last))
        (subst (λ a. (a && not (list_any (same_id above) (path_of_any forest last))) ≡ false) printed
        (subst (λ a. (a && is_printed forest i && not (list_any (same_id above) (path_of_any forest last))) ≡ false) on
        (subst (λ a. (a && retraces settings && is_printed forest i && not (list_any (same_id above) (path_of_any forest last))) ≡ false) h k)))
      where
        left : (b : Bool) → not b ≡ false → b ≡ true
        left true e = refl
        left false e = no_both e

latest-close : (settings : Settings) (context : Context) (i : Id) (forest : Forest) (last : Option Id) (rows : List Row) → IsFollowed forest last rows → IsAllShown settings forest →
    retraces settings ≡ true → IsOnOrRetraced settings (close_is_on_path settings forest last i) → IsLatest forest last rows →
    IsLatestAfter rows (turn_of_close settings context forest last i)
latest-close settings context i forest last rows f all on premise h =
    by (settings.deferred_spans && not (is_printed forest i)) refl (retraces_before_close settings forest last i) refl
  where
    up-parent : (g : Forest) → IsForest g → (o : Option Id) → parent_of g i ≡ o → option_map_or (λ above. list_any (same_id above) (path_of_any g (Some i))) o true ≡ true
    up-parent g formed None e = refl
    up-parent g formed (Some above) e = parent-on_path g formed i above e

    by : (b : Bool) → (settings.deferred_spans && not (is_printed forest i)) ≡ b → (c : Bool) → retraces_before_close settings forest last i ≡ c →
        IsLatestAfter rows (close_by settings context forest last i b c)
    by true e c k = latest-quiet forest last rows h
    by false e false k = latest-close_turn settings context i forest last rows (well-formed f) h (parent-on settings forest last i all on e k premise)
    by false e true k =
        let turn : Turn = retrace_to settings context forest last i in
        let up : IsKeptUp settings rows turn = kept-retrace settings context forest last rows i f all (printed-live forest i (retraced-printed settings forest last i k)) in
        latest-then rows turn (close_turn settings context i)
        (latest-close_turn settings context i turn.forest turn.last (rows ++ turn.rows) (well-formed up.followed)
        (latest-retrace settings context forest (well-formed f) last rows i h) (up-parent turn.forest (well-formed up.followed) (parent_of turn.forest i) refl))

-- ---- closes one after another

pub kept-closes : (settings : Settings) (context : Context) (ids : List Id) (forest : Forest) (last : Option Id) (rows : List Row) → IsFollowed forest last rows → IsAllShown settings forest →
    IsKeptUp settings rows (turn_of_closes settings context ids forest last)
kept-closes settings context [] forest last rows f all = kept-quiet settings forest last rows f all
kept-closes settings context (i ∷ others) forest last rows f all =
    let turn : Turn = turn_of_close settings context forest last i in
    let up : IsKeptUp settings rows turn = kept-close settings context i forest last rows f all in
    kept-then settings rows turn (turn_of_closes settings context others)
    (kept-closes settings context others turn.forest turn.last (rows ++ turn.rows) up.followed up.all_shown)

pub changed-closes : (settings : Settings) (context : Context) (ids : List Id) (forest : Forest) (last : Option Id) → IsChanged forest (turn_of_closes settings context ids forest last).forest
changed-closes settings context [] forest last = changed-none forest
changed-closes settings context (i ∷ others) forest last =
    let turn : Turn = turn_of_close settings context forest last i in
    changed-trans forest turn.forest (turn_of_closes settings context others turn.forest turn.last).forest
    (changed-close settings context i forest last) (changed-closes settings context others turn.forest turn.last)

-- the premise of two parts is that of each
pub first-on : (settings : Settings) (a b : Bool) → IsOnOrRetraced settings (a && b) → IsOnOrRetraced settings a × IsOnOrRetraced settings b
first-on settings a b (inl h) = (inl h, inl h)
first-on settings a b (inr h) = let parts = and_parts a b h in (inr parts.0, inr parts.1)

pub latest-closes : (settings : Settings) (context : Context) (ids : List Id) (forest : Forest) (last : Option Id) (rows : List Row) → IsFollowed forest last rows → IsAllShown settings forest →
    retraces settings ≡ true → IsOnOrRetraced settings (closes_are_on_path settings context ids forest last) → IsLatest forest last rows →
    IsLatestAfter rows (turn_of_closes settings context ids forest last)
latest-closes settings context [] forest last rows f all on premise h = latest-quiet forest last rows h
latest-closes settings context (i ∷ others) forest last rows f all on premise h =
    let turn : Turn = turn_of_close settings context forest last i in
    let up : IsKeptUp settings rows turn = kept-close settings context i forest last rows f all in
    let parts = first-on settings (close_is_on_path settings forest last i) (closes_are_on_path settings context others turn.forest turn.last) premise in
    latest-then rows turn (turn_of_closes settings context others)
    (latest-closes settings context others turn.forest turn.last (rows ++ turn.rows) up.followed up.all_shown on parts.1
    (latest-close settings context i forest last rows f all on parts.0 h))

-- ---- a close as a call: then the spans leave the forest

-- a change of one span that keeps its id, parent and mark
pub quiet-one : (change : Span → Span) → IsQuiet change → (i : Id) → IsQuiet (changed change i)
quiet-one change quiet i = record {
  same = changed-same change i quiet.same;
  written = λ s. elim (has_id i s) as (λ b. (if b then change s else s).kept.written ≡ s.kept.written) [ true ↦ quiet.written s | false ↦ refl ];
}

less-quiet : (i : Id) → IsQuiet (changed one_less i)
less-quiet i = quiet-one one_less (record { same = less-same; written = λ s. refl }) i

pub followed-close_call : (settings : Settings) (context : Context) (i : Id) (forest : Forest) (last : Option Id) (rows : List Row) → IsFollowed forest last rows → IsAllShown settings forest →
    IsFollowed (without_spans (closing_of forest i) (take_handle i (turn_of_closes settings context (closing_of forest i) forest last).forest))
    (turn_of_closes settings context (closing_of forest i) forest last).last (rows ++ (turn_of_closes settings context (closing_of forest i) forest last).rows)
followed-close_call settings context i forest last rows f all =
    let ids : List Id = closing_of forest i in
    let turn : Turn = turn_of_closes settings context ids forest last in
    let after : List Row = rows ++ turn.rows in
    let up : IsKeptUp settings rows turn = kept-closes settings context ids forest last rows f all in
    followed-left ids (take_handle i turn.forest) turn.last after
    (along-closes forest turn.forest i (changed-closes settings context ids forest last))
    (followed-quiet (changed one_less i) (less-quiet i) turn.forest turn.last after up.followed)

pub all_shown-close_call : (settings : Settings) (context : Context) (i : Id) (forest : Forest) (last : Option Id) (rows : List Row) → IsFollowed forest last rows → IsAllShown settings forest →
    IsAllShown settings (without_spans (closing_of forest i) (take_handle i (turn_of_closes settings context (closing_of forest i) forest last).forest))
all_shown-close_call settings context i forest last rows f all =
    let ids : List Id = closing_of forest i in
    let turn : Turn = turn_of_closes settings context ids forest last in
    let up : IsKeptUp settings rows turn = kept-closes settings context ids forest last rows f all in
    all_shown-left settings ids (take_handle i turn.forest) (all_shown-quiet settings (changed one_less i) (less-quiet i) turn.forest up.all_shown)

pub latest-close_call : (settings : Settings) (context : Context) (i : Id) (forest : Forest) (last : Option Id) (rows : List Row) → IsFollowed forest last rows → IsAllShown settings forest →
    retraces settings ≡ true → IsOnOrRetraced settings (closes_are_on_path settings context (closing_of forest i) forest last) → IsLatest forest last rows →
    IsLatest (without_spans (closing_of forest i) (take_handle i (turn_of_closes settings context (closing_of forest i) forest last).forest))
    (turn_of_closes settings context (closing_of forest i) forest last).last (rows ++ (turn_of_closes settings context (closing_of forest i) forest last).rows)
latest-close_call settings context i forest last rows f all on premise h =
    let ids : List Id = closing_of forest i in
    let turn : Turn = turn_of_closes settings context ids forest last in
    let after : List Row = rows ++ turn.rows in
    let up : IsKeptUp settings rows turn = kept-closes settings context ids forest last rows f all in
    let less : IsFollowed (take_handle i turn.forest) turn.last after = followed-quiet (changed one_less i) (less-quiet i) turn.forest turn.last after up.followed in
    latest-left ids (take_handle i turn.forest) less.formed turn.last after
    (along-closes forest turn.forest i (changed-closes settings context ids forest last))
    (latest-same (changed one_less i) ((less-quiet i).same) turn.forest turn.last after (latest-closes settings context ids forest last rows f all on premise h))
