-- What a run that began empty keeps, call by call.
use Rattle.std.proofs.Common.{◌≡◌, ◌+◌, Bool, true, false, ◌||◌, ◌&&◌, List, [], ◌∷◌, ◌++◌, Option, Some, None, is_some, is_none, unwrap_or, refl, sym, subst, inl, inr, append_assoc, arith}
use Rattle.std.specs.Option.{option_map_or}
use Rattle.std.proofs.lemmas.Bool.{and_parts}
use Rattle.tracing_tree_drawing.specs.Format.Settings.{Settings, retraces}
use Rattle.tracing_tree_spans.specs.Registry.Ids.{id_of}
use Rattle.tracing_tree_time.specs.Clock.{Timer}
use Rattle.tracing_tree_spans.specs.Registry.Spans.{Span}
use Rattle.tracing_tree_spans.specs.Registry.Forest.{Forest, new_span, add_span, any_unless_live, named_parent}
use Rattle.tracing_tree_drawing.specs.Format.Picture.{Row}
use Rattle.tracing_tree_base.specs.declared.field.Field.{Field}
use Rattle.tracing_tree_base.specs.declared.context.Id.{Id}
use Rattle.tracing_tree_base.specs.declared.context.Context.{Context}
use Rattle.tracing_tree_base.specs.declared.context.Refusal.{Refusal}
use Rattle.tracing_tree_base.specs.declared.context.Refusal.TheVariants as Refused
use Rattle.tracing_tree_spans.specs.declared.registry.Attributes.{Attributes}
use Rattle.tracing_tree_spans.proofs.RegistryLaws.{changed}
use Rattle.tracing_tree_layer.specs.Layered.State.{State, opening_state}
use Rattle.tracing_tree_layer.specs.Layer.Turns.{turn_of_new}
use Rattle.tracing_tree_layer.specs.Layer.Drawn.{draws_too_wide}
use Rattle.tracing_tree_layer.specs.Layered.Refused.{cause_of}
use Rattle.tracing_tree_layer.proofs.Causes.{first_cause}
use Rattle.tracing_tree_layer.specs.Layered.Step.{new_id, turn_of, state_after}
use Rattle.tracing_tree_layer.specs.Layered.Run.{Run, run, run_one, run_by_cause, after_refusal}
use Rattle.tracing_tree_layer.specs.Laws.Reading.{call_is_on_path, run_is_on_path}
use Rattle.tracing_tree_layer.specs.declared.call.Call.{Call}
use Rattle.tracing_tree_layer.specs.declared.call.Call.TheVariants as A
use Rattle.tracing_tree_layer.proofs.Reading.Changes.{no_both}
use Rattle.tracing_tree_layer.proofs.Reading.Newest.{forest-grown}
use Rattle.tracing_tree_layer.proofs.Reading.Followed.{IsFollowed, well-formed, IsAllShown, IsLatest, IsQuiet, followed-more, latest-more, followed-quiet, latest-same, all_shown-quiet}
use Rattle.tracing_tree_layer.proofs.Reading.Turns.{IsKeptUp, kept-new, latest-new_turn, kept-event, latest-event}
use Rattle.tracing_tree_layer.proofs.Reading.Closes.{quiet-one, followed-close_call, all_shown-close_call, latest-close_call, IsOnOrRetraced, first-on}

-- what a run keeps of its state and its rows so far
pub record IsKeptState (settings : Settings) (state : State) (rows : List Row) : Type 0 where
  pub followed : IsFollowed state.forest state.last rows
  pub all_shown : IsAllShown settings state.forest

-- ---- calls that are accepted

-- an accepted call isn't refused for an id or because no id is left
no-cause : (failed : Bool) (held : Option Id) (many wide faults : Bool) →
    first_cause (record { failed = failed; not_held = held; too_many = many; too_wide = wide; timer_faults = faults }) ≡ None → (held ≡ None) × (many ≡ false)
no-cause true held many wide faults e = absurd cc
no-cause false (Some i) many wide faults e = absurd cc
no-cause false None true wide faults e = absurd cc
no-cause false None false wide faults e = (refl, refl)

new-accepted : (settings : Settings) (timer : Timer) (state : State) (attributes : Attributes) (context : Context) →
    cause_of settings timer state (A.New attributes context) ≡ None →
    (any_unless_live state.forest (named_parent attributes.parent context.current) ≡ None) × (is_none state.forest.next ≡ false)
new-accepted settings timer state attributes context h =
    no-cause state.failed (any_unless_live state.forest (named_parent attributes.parent context.current)) (is_none state.forest.next)
    (draws_too_wide settings (turn_of settings timer state.forest state.last (A.New attributes context)).rows) false h

next-found : (forest : Forest) → is_none forest.next ≡ false → forest.next ≡ Some (new_id forest)
next-found forest h = by forest.next h
  where
    by : (o : Option Id) → is_none o ≡ false → o ≡ Some (unwrap_or o (id_of 0))
    by None e = no_both e
    by (Some i) e = refl

-- one handle more
handle-quiet : IsQuiet (λ span. record span { handles = span.handles + 1 })
handle-quiet = record { same = record { ids = λ s. refl; parents = λ s. refl }; written = λ s. refl }

-- more fields
fields-quiet : (fields : List Field) → IsQuiet (λ span. record span { kept = record span.kept { fields = span.kept.fields ++ fields } })
fields-quiet fields = record { same = record { ids = λ s. refl; parents = λ s. refl }; written = λ s. refl }

pub kept-call : (settings : Settings) (timer : Timer) (state : State) (rows : List Row) (call : Call) → IsKeptState settings state rows →
    cause_of settings timer state call ≡ None →
    IsKeptState settings (state_after settings timer state call) (rows ++ (turn_of settings timer state.forest state.last call).rows)
kept-call settings timer state rows (A.New attributes context) k h =
    let s : Span = new_span (new_id state.forest) attributes context.current context.moment.mono in
    let open_ids = new-accepted settings timer state attributes context h in
    let up : IsKeptUp settings rows (turn_of_new settings context (add_span s state.forest) state.last s.id) =
    kept-new settings context state.forest state.last rows s k.followed k.all_shown (next-found state.forest open_ids.1) refl open_ids.0 in
    record { followed = up.followed; all_shown = up.all_shown }
kept-call settings timer state rows (A.Clone i) k h =
    let quiet = quiet-one (λ span. record span { handles = span.handles + 1 }) handle-quiet i in
    record {
      followed = followed-quiet (changed (λ span. record span { handles = span.handles + 1 }) i) quiet state.forest state.last (rows ++ [])
          (followed-more state.forest state.last rows [] k.followed);
      all_shown = all_shown-quiet settings (changed (λ span. record span { handles = span.handles + 1 }) i) quiet state.forest k.all_shown;
    }
kept-call settings timer state rows (A.Record i record') k h =
    let more : Span → Span = λ span. record span { kept = record span.kept { fields = span.kept.fields ++ record'.fields } } in
    let quiet = quiet-one more (fields-quiet record'.fields) i in
    record {
      followed = followed-quiet (changed more i) quiet state.forest state.last (rows ++ []) (followed-more state.forest state.last rows [] k.followed);
      all_shown = all_shown-quiet settings (changed more i) quiet state.forest k.all_shown;
    }
kept-call settings timer state rows (A.Event event context) k h =
    let up = kept-event settings timer context state.forest state.last rows event k.followed k.all_shown in
    record { followed = up.followed; all_shown = up.all_shown }
kept-call settings timer state rows (A.Close i context) k h = record {
  followed = followed-close_call settings context i state.forest state.last rows k.followed k.all_shown;
  all_shown = all_shown-close_call settings context i state.forest state.last rows k.followed k.all_shown;
}

pub latest-call : (settings : Settings) (timer : Timer) (state : State) (rows : List Row) (call : Call) → IsKeptState settings state rows →
    cause_of settings timer state call ≡ None → retraces settings ≡ true → IsOnOrRetraced settings (call_is_on_path settings state call) → IsLatest state.forest state.last rows →
    IsLatest (state_after settings timer state call).forest (state_after settings timer state call).last (rows ++ (turn_of settings timer state.forest state.last call).rows)
latest-call settings timer state rows (A.New attributes context) k h on premise l =
    let s : Span = new_span (new_id state.forest) attributes context.current context.moment.mono in
    let open_ids = new-accepted settings timer state attributes context h in
    let next = next-found state.forest open_ids.1 in
    latest-new_turn settings context state.forest state.last rows s k.followed next
    (forest-grown state.forest s.id s k.followed.formed next refl open_ids.0) on l
latest-call settings timer state rows (A.Clone i) k h on premise l =
    let quiet = quiet-one (λ span. record span { handles = span.handles + 1 }) handle-quiet i in
    latest-same (changed (λ span. record span { handles = span.handles + 1 }) i) quiet.same state.forest state.last (rows ++ [])
    (latest-more state.forest state.last rows [] (λ o level. refl) l)
latest-call settings timer state rows (A.Record i record') k h on premise l =
    let more : Span → Span = λ span. record span { kept = record span.kept { fields = span.kept.fields ++ record'.fields } } in
    let quiet = quiet-one more (fields-quiet record'.fields) i in
    latest-same (changed more i) quiet.same state.forest state.last (rows ++ []) (latest-more state.forest state.last rows [] (λ o level. refl) l)
latest-call settings timer state rows (A.Event event context) k h on premise l =
    latest-event settings timer context state.forest state.last rows event (well-formed k.followed) l
latest-call settings timer state rows (A.Close i context) k h on premise l =
    latest-close_call settings context i state.forest state.last rows k.followed k.all_shown on premise l

-- ---- calls that are refused

-- a refusal keeps forest and last span
record IsLeft (state new : State) : Type 0 where
  forest : new.forest ≡ state.forest
  last : new.last ≡ state.last

refused-left : (state : State) (refusal : Refusal) → IsLeft state (after_refusal state refusal)
refused-left state (Refused.NotHeld i) = record { forest = refl; last = refl }
refused-left state Refused.TooWide = record { forest = refl; last = refl }
refused-left state Refused.TooMany = record { forest = refl; last = refl }
refused-left state Refused.Memory = record { forest = refl; last = refl }
refused-left state Refused.Timer = record { forest = refl; last = refl }
refused-left state Refused.Writer = record { forest = refl; last = refl }
refused-left state Refused.Failed = record { forest = refl; last = refl }

kept-left : (settings : Settings) (state new : State) (rows : List Row) → IsLeft state new → IsKeptState settings state rows → IsKeptState settings new rows
kept-left settings state new rows left k = record {
  followed = subst (λ f. IsFollowed f new.last rows) (sym left.forest) (subst (λ l. IsFollowed state.forest l rows) (sym left.last) k.followed);
  all_shown = subst (λ f. IsAllShown settings f) (sym left.forest) k.all_shown;
}

latest-left_by : (state new : State) (rows : List Row) → IsLeft state new → IsLatest state.forest state.last rows → IsLatest new.forest new.last rows
latest-left_by state new rows left l =
    subst (λ f. IsLatest f new.last rows) (sym left.forest) (subst (λ o. IsLatest state.forest o rows) (sym left.last) l)

-- ---- runs

kept-more : (settings : Settings) (state : State) (rows more : List Row) → IsKeptState settings state rows → IsKeptState settings state (rows ++ more)
kept-more settings state rows more k = record { followed = followed-more state.forest state.last rows more k.followed; all_shown = k.all_shown }

kept-one : (settings : Settings) (timer : Timer) (state : State) (rows : List Row) (call : Call) → IsKeptState settings state rows →
    IsKeptState settings (run_one settings timer state call).state (rows ++ (run_one settings timer state call).rows)
kept-one settings timer state rows call k = by (cause_of settings timer state call) refl
  where
    by : (o : Option Refusal) → cause_of settings timer state call ≡ o →
        IsKeptState settings (run_by_cause settings timer state call o).state (rows ++ (run_by_cause settings timer state call o).rows)
    by None e = kept-call settings timer state rows call k e
    by (Some refusal) e =
        kept-left settings state (after_refusal state refusal) (rows ++ []) (refused-left state refusal) (kept-more settings state rows [] k)

latest-one : (settings : Settings) (timer : Timer) (state : State) (rows : List Row) (call : Call) → IsKeptState settings state rows → retraces settings ≡ true →
    IsOnOrRetraced settings (is_some (cause_of settings timer state call) || call_is_on_path settings state call) → IsLatest state.forest state.last rows →
    IsLatest (run_one settings timer state call).state.forest (run_one settings timer state call).state.last (rows ++ (run_one settings timer state call).rows)
latest-one settings timer state rows call k on premise l = by (cause_of settings timer state call) refl premise
  where
    by : (o : Option Refusal) → cause_of settings timer state call ≡ o → IsOnOrRetraced settings (is_some o || call_is_on_path settings state call) →
        IsLatest (run_by_cause settings timer state call o).state.forest (run_by_cause settings timer state call o).state.last (rows ++ (run_by_cause settings timer state call o).rows)
    by None e p = latest-call settings timer state rows call k e on p l
    by (Some refusal) e p =
        latest-left_by state (after_refusal state refusal) (rows ++ []) (refused-left state refusal) (latest-more state.forest state.last rows [] (λ o level. refl) l)

pub kept-run : (settings : Settings) (timer : Timer) (calls : List Call) (state : State) (rows : List Row) → IsKeptState settings state rows →
    IsKeptState settings (run settings timer state calls).state (rows ++ (run settings timer state calls).rows)
kept-run settings timer [] state rows k = kept-more settings state rows [] k
kept-run settings timer (call ∷ calls) state rows k =
    let one : Run = run_one settings timer state call in
    subst (λ xs. IsKeptState settings (run settings timer one.state calls).state xs) (append_assoc rows one.rows (run settings timer one.state calls).rows)
    (kept-run settings timer calls one.state (rows ++ one.rows) (kept-one settings timer state rows call k))

pub latest-run : (settings : Settings) (timer : Timer) (calls : List Call) (state : State) (rows : List Row) → IsKeptState settings state rows → retraces settings ≡ true →
    IsOnOrRetraced settings (run_is_on_path settings timer state calls) → IsLatest state.forest state.last rows →
    IsLatest (run settings timer state calls).state.forest (run settings timer state calls).state.last (rows ++ (run settings timer state calls).rows)
latest-run settings timer [] state rows k on premise l = latest-more state.forest state.last rows [] (λ o level. refl) l
latest-run settings timer (call ∷ calls) state rows k on premise l =
    let one : Run = run_one settings timer state call in
    let parts = first-on settings (is_some (cause_of settings timer state call) || call_is_on_path settings state call) (run_is_on_path settings timer one.state calls) premise in
    subst (λ xs. IsLatest (run settings timer one.state calls).state.forest (run settings timer one.state calls).state.last xs)
    (append_assoc rows one.rows (run settings timer one.state calls).rows)
    (latest-run settings timer calls one.state (rows ++ one.rows) (kept-one settings timer state rows call k) on parts.1 (latest-one settings timer state rows call k on parts.0 l))

-- the first part of a run whose closes are retraced, or on the current branch, is such a run too
pub on_path-front : (settings : Settings) (timer : Timer) (state : State) (first second : List Call) → IsOnOrRetraced settings (run_is_on_path settings timer state (first ++ second)) →
    IsOnOrRetraced settings (run_is_on_path settings timer state first)
on_path-front settings timer state [] second h = inr refl
on_path-front settings timer state (call ∷ calls) second (inl h) = inl h
on_path-front settings timer state (call ∷ calls) second (inr h) =
    let one : Run = run_one settings timer state call in
    let here : Bool = is_some (cause_of settings timer state call) || call_is_on_path settings state call in
    let parts = and_parts here (run_is_on_path settings timer one.state (calls ++ second)) h in
    both here (run_is_on_path settings timer one.state calls) parts.0 (on_path-front settings timer one.state calls second (inr parts.1))
  where
    both : (a b : Bool) → a ≡ true → IsOnOrRetraced settings b → IsOnOrRetraced settings (a && b)
    both a b e (inl h) = inl h
    both a b e (inr h) = inr (rw e h)

-- ---- the start

-- no span is at or above the first id
below-opening : (first : Option Id) → option_map_or (λ (x : Id). true) first true ≡ true
below-opening None = refl
below-opening (Some x) = refl

pub kept-opening : (settings : Settings) (first : Option Id) → IsKeptState settings (opening_state first) []
kept-opening settings first = record {
  followed = record {
    formed = record { grown = tt; below_next = below-opening first };
    given = refl;
    shown = λ i h. no_both (sym h);
    reached = λ j k. no_both (sym k);
  };
  all_shown = λ eager i live. no_both (sym live);
}

pub latest-opening : (first : Option Id) → IsLatest (opening_state first).forest (opening_state first).last []
latest-opening first level lt = absurd (omega arith)
