-- The reading laws of runs that began empty.
use Rattle.std.proofs.Common.{◌≡◌, ◌+◌, Bool, true, false, ◌||◌, List, [], ◌∷◌, ◌++◌, length, take, slice_get, Some, None, refl, sym, ap, ◌∙◌, subst, append_assoc, length-append, arith, take_at, if◌then◌else◌, Option}
use Rattle.std.specs.List.{list_any}
use Rattle.std.proofs.lemmas.Bool.{or_cases}
use Rattle.tracing_tree_drawing.specs.Format.Settings.{Settings, retraces}
use Rattle.tracing_tree_time.specs.Clock.{Timer}
use Rattle.tracing_tree_spans.specs.Registry.Forest.{path_of, fresh_ids}
use Rattle.tracing_tree_drawing.specs.Format.Picture.{Row}
use Rattle.tracing_tree_base.specs.declared.context.Id.{Id}
use Rattle.tracing_tree_layer.specs.Layered.State.{State, Turn, opening_state, quiet_turn}
use Rattle.tracing_tree_layer.specs.Layer.Turns.{current_of, event_row, fresh_rows, retrace_to, turn_before_event}
use Rattle.tracing_tree_layer.specs.Layered.Run.{Run, run, run_one, run_by_cause}
use Rattle.tracing_tree_layer.specs.Laws.Reading.{EventInRun, ReadingLaw, OpenedBefore, forest_at, place_of, rows_of, run_is_on_path, opens_span}
use Rattle.tracing_tree_layer.specs.declared.call.Call.{Call}
use Rattle.tracing_tree_layer.specs.declared.call.Call.TheVariants as A
use Rattle.tracing_tree_layer.proofs.RunLaws.{run-append}
use Rattle.tracing_tree_layer.proofs.Reading.Changes.{no_both}
use Rattle.tracing_tree_layer.proofs.Reading.Left.{is_gone}
use Rattle.tracing_tree_layer.proofs.Reading.Parts.{at_seam, contains-any}
use Rattle.tracing_tree_layer.proofs.Reading.Seen.{seen, latest-seen, opened-left}
use Rattle.tracing_tree_layer.proofs.Reading.Followed.{well-formed, IsLatest, latest-fresh, fresh-whole}
use Rattle.tracing_tree_layer.proofs.Reading.Turns.{current-live}
use Rattle.tracing_tree_layer.proofs.Reading.Closes.{IsOnOrRetraced}
use Rattle.tracing_tree_layer.proofs.Reading.Runs.{IsKeptState, kept-run, latest-run, on_path-front, kept-opening, latest-opening}

module _ {settings : Settings} {timer : Timer} {first : Option Id} {calls : List Call} where
  -- the run before the event
  abbrev run_before : EventInRun settings timer first calls → Run
  run_before e = run settings timer (opening_state first) e.before

  -- what comes before its row
  abbrev turn_before : EventInRun settings timer first calls → Turn
  turn_before e =
      turn_before_event settings e.context (run_before e).state.forest (run_before e).state.last (current_of (run_before e).state.forest e.context)

  abbrev rows_before : EventInRun settings timer first calls → List Row
  rows_before e = (run_before e).rows ++ (turn_before e).rows

  abbrev row_of : EventInRun settings timer first calls → Row
  row_of e = event_row settings timer (run_before e).state.forest e.event e.context

  -- the rows of the calls up to the event and of some after it
  rows-upto : (e : EventInRun settings timer first calls) (after : List Call) → (more : List Row)
      × ((run settings timer (opening_state first) (e.before ++ A.Event e.event e.context ∷ after)).rows ≡ rows_before e ++ row_of e ∷ more)
      × (after ≡ [] → more ≡ [])
  rows-upto e after =
      let state : State = (run_before e).state in
      let call : Call = A.Event e.event e.context in
      let more : List Row = (run settings timer (run_one settings timer state call).state after).rows in
      let one : (run_one settings timer state call).rows ≡ (turn_before e).rows ++ row_of e ∷ [] =
      ap (λ cause. (run_by_cause settings timer state call cause).rows) e.no_cause in (
        more,
        ap (λ (r : Run). r.rows) (run-append settings timer (opening_state first) e.before (call ∷ after))
            ∙ ap (λ rows. (run_before e).rows ++ (rows ++ more)) one
            ∙ ap (λ rows. (run_before e).rows ++ rows) (append_assoc (turn_before e).rows (row_of e ∷ []) more)
            ∙ sym (append_assoc (run_before e).rows (turn_before e).rows (row_of e ∷ more)),
        λ h. ap (λ cs. (run settings timer (run_one settings timer state call).state cs).rows) h,
      )

  place-length : (e : EventInRun settings timer first calls) → place_of e ≡ length (rows_before e)
  place-length e =
      let upto = rows-upto e [] in
      let whole : length (run settings timer (opening_state first) (e.before ++ A.Event e.event e.context ∷ [])).rows ≡ length (rows_before e) + 1 =
      ap (λ (rows : List Row). length rows) (upto.1 ∙ ap (λ more. rows_before e ++ row_of e ∷ more) (upto.2 refl))
      ∙ length-append (rows_before e) (row_of e ∷ []) in
      omega (arith, whole)

  -- the rows before the event's are those of the calls before it and of its retrace
  pub take-before : (e : EventInRun settings timer first calls) → take (place_of e) (rows_of settings timer first calls) ≡ rows_before e
  take-before e =
      let upto = rows-upto e e.after in
      ap (λ cs. take (place_of e) (rows_of settings timer first cs)) e.whole
      ∙ ap (take (place_of e)) upto.1
      ∙ take_at (rows_before e) (row_of e ∷ upto.0) (place_of e) (sym (place-length e))

  -- the place is that of the event's row
  pub row-at : (e : EventInRun settings timer first calls) → slice_get (rows_of settings timer first calls) (place_of e) ≡ Some (row_of e)
  row-at e =
      let upto = rows-upto e e.after in
      ap (λ cs. slice_get (rows_of settings timer first cs) (place_of e)) e.whole
      ∙ ap (λ rows. slice_get rows (place_of e)) upto.1
      ∙ ap (slice_get (rows_before e ++ row_of e ∷ upto.0)) (place-length e)
      ∙ at_seam (rows_before e) upto.0 (row_of e)

  pub kept-at : (e : EventInRun settings timer first calls) → IsKeptState settings (run_before e).state (run_before e).rows
  kept-at e = kept-run settings timer e.before (opening_state first) [] (kept-opening settings first)

  pub latest-at : (e : EventInRun settings timer first calls) → retraces settings ≡ true → IsOnOrRetraced settings (run_is_on_path settings timer (opening_state first) calls) →
      IsLatest (run_before e).state.forest (run_before e).state.last (run_before e).rows
  latest-at e on premise =
      let part : IsOnOrRetraced settings (run_is_on_path settings timer (opening_state first) (e.before ++ A.Event e.event e.context ∷ e.after)) =
      subst (λ cs. IsOnOrRetraced settings (run_is_on_path settings timer (opening_state first) cs)) e.whole premise in
      latest-run settings timer e.before (opening_state first) [] (kept-opening settings first) on
      (on_path-front settings timer (opening_state first) e.before (A.Event e.event e.context ∷ e.after) part) (latest-opening first)

  -- if the current span is live and spans are retraced, the rows before the event's are those of
  -- its retrace
  retraced-rows : (e : EventInRun settings timer first calls) (i : Id) → current_of (forest_at e) e.context ≡ Some i → retraces settings ≡ true →
      rows_before e ≡ (run_before e).rows ++ fresh_rows settings e.context (forest_at e) (fresh_ids (forest_at e) (run_before e).state.last i)
  retraced-rows e i at on =
      ap (λ o. (run_before e).rows ++ (turn_before_event settings e.context (forest_at e) (run_before e).state.last o).rows) at
      ∙ ap (λ b. (run_before e).rows
      ++ (if b then retrace_to settings e.context (forest_at e) (run_before e).state.last i else quiet_turn (forest_at e) (run_before e).state.last).rows) on

-- before an event in its current span, each level up to that span's was last opened by the span
-- that the path has there
pub reading-law : (settings : Settings) (timer : Timer) (first : Option Id) (calls : List Call) → retraces settings ≡ true →
    (settings.close_retrace || run_is_on_path settings timer (opening_state first) calls) ≡ true → ReadingLaw settings timer first calls
reading-law settings timer first calls on premise e i within level lt =
    let state : State = (run settings timer (opening_state first) e.before).state in
    let rows : List Row = (run settings timer (opening_state first) e.before).rows in
    let kept = kept-at e in
    let l = latest-at e on (or_cases settings.close_retrace (run_is_on_path settings timer (opening_state first) calls) premise) in
    latest-seen (rows_of settings timer first calls) (place_of e) level
    ∙ ap (seen None level) (take-before e ∙ retraced-rows e i within.0 on)
    ∙ latest-fresh settings e.context state.forest (well-formed kept.followed) state.last rows i l level lt

pub opened-before : (settings : Settings) (timer : Timer) (first : Option Id) (calls : List Call) → OpenedBefore settings timer first calls
opened-before settings timer first calls e current i at contains =
    let here = contains-any (path_of (forest_at e) current) i contains in
    subst (λ xs. list_any (opens_span i) xs ≡ true) (sym (take-before e)) (by (retraces settings) refl here)
  where
    eager : (a b : Bool) → (a || b) ≡ false → b ≡ false
    eager true b e = no_both e
    eager false b e = e

    by : (b : Bool) → retraces settings ≡ b → is_gone (path_of (forest_at e) current) i ≡ true →
        list_any (opens_span i) (rows_before e) ≡ true
    by true on here =
        subst (λ xs. list_any (opens_span i) xs ≡ true) (sym (retraced-rows e current at on))
        (fresh-whole settings e.context (forest_at e) (run settings timer (opening_state first) e.before).state.last (run settings timer (opening_state first) e.before).rows current (kept-at e).followed.reached i here)
    by false off here =
        let plain : settings.deferred_spans ≡ false = eager settings.span_retrace settings.deferred_spans off in
        let printed = (kept-at e).all_shown plain current (current-live (forest_at e) e.context current at) in
        opened-left (run settings timer (opening_state first) e.before).rows (turn_before e).rows i ((kept-at e).followed.shown current printed i here)
