-- Examples computed from the definitions of tracing's lines.
use Rattle.std.proofs.Common.{◌≡◌, true, false, None, Some, [], ◌∷◌, codes, refl}
use Rattle.tracing_tree_base.specs.declared.context.Moment.{Moment}
use Rattle.tracing_tree_spans.specs.Registry.Ids.{id_of}
use Rattle.tracing_tree_base.specs.declared.field.Field.{Field}
use Rattle.tracing_tree_base.specs.declared.style.Level.TheVariants.{Error, Info}
use Rattle.ttree_source.specs.Calls.{close_call, event_call, message_field, record_call, span_call}
use Rattle.ttree_tracing.specs.Tracing.{TracingState, live_span_ended, nothing_open, parent_found, plain_emitted, reached, tracing_ends}
use Rattle.ttree_tracing.specs.TracingLine.{bare_thread, kind_by_message}
use Rattle.ttree_tracing.specs.declared.tracing.line.Listed.{Listed}
use Rattle.ttree_tracing.specs.declared.tracing.line.Kind.TheVariants.{Event, Enter, New}

pub new_opens_a_span : kind_by_message (record { name = codes "message"; value = codes "new" } ∷ []) false ≡ New
new_opens_a_span = refl

pub new_by_chance : kind_by_message (record { name = codes "message"; value = codes "new" } ∷ []) true ≡ Event
new_by_chance = refl

pub enter_is_emitted_in_the_span : kind_by_message (record { name = codes "message"; value = codes "enter" } ∷ []) true ≡ Enter
enter_is_emitted_in_the_span = refl

pub a_thread_by_its_number : bare_thread (codes "ThreadId(12)") ≡ codes "12"
a_thread_by_its_number = refl

-- ---- spans of lines

abbrev pub rows_field : Field
rows_field = record { name = codes "rows"; value = codes "3" }

abbrev pub close_field : Field
close_field = record { name = codes "message"; value = codes "close" }

-- a span as a line lists it first, the same with a field that was recorded since, and another span
abbrev pub order : Listed
order = record { name = codes "order"; fields = [] }

abbrev pub order_with_rows : Listed
order_with_rows = record { name = codes "order"; fields = rows_field ∷ [] }

abbrev pub check : Listed
check = record { name = codes "check"; fields = [] }

module _ (moment : Moment) where
  abbrev pub opened_order : TracingState
  opened_order = (reached 1 [] (order ∷ []) None (nothing_open 1 moment)).state

  -- the span is open, and its calls were returned
  abbrev pub in_order : TracingState
  in_order = record opened_order { at = Some (id_of 1); calls = [] }

  pub a_span_opens_with_its_first_line : opened_order.calls ≡ span_call moment (codes "order") [] None ∷ []
  a_span_opens_with_its_first_line = refl

  pub it_opens_once : (reached 1 [] (order ∷ []) None in_order).state.calls ≡ []
  it_opens_once = refl

  pub another_span_closes_nothing :
      (reached 1 [] (check ∷ []) None in_order).state.calls ≡ span_call moment (codes "check") [] None ∷ []
  another_span_closes_nothing = refl

  pub nothing_closes_at_the_end : tracing_ends in_order ≡ []
  nothing_closes_at_the_end = refl

  pub a_field_that_comes_late_is_recorded :
      (reached 1 [] (order_with_rows ∷ []) None in_order).state.calls
      ≡ record_call (id_of 1) (rows_field ∷ []) ∷ []
  a_field_that_comes_late_is_recorded = refl

  abbrev pub after_rows : TracingState
  after_rows = record (reached 1 [] (order_with_rows ∷ []) None in_order).state { calls = [] }

  pub it_is_recorded_once : (reached 1 [] (order_with_rows ∷ []) None after_rows).state.calls ≡ []
  it_is_recorded_once = refl

  pub a_close_shows_it : (live_span_ended Info (close_field ∷ []) (id_of 1) after_rows).calls
      ≡ event_call moment Info (close_field ∷ rows_field ∷ []) (Some (id_of 1))
      ∷ close_call moment (id_of 1) None ∷ []
  a_close_shows_it = refl

  pub an_event_is_in_the_parent_that_it_names : (parent_found [] order in_order).at ≡ Some (id_of 1)
  an_event_is_in_the_parent_that_it_names = refl

  pub a_panic_is_an_error_in_the_last_span : (plain_emitted (codes "panic: a\r") in_order).calls
      ≡ event_call moment Error (message_field (codes "panic: a") ∷ []) (Some (id_of 1)) ∷ []
  a_panic_is_an_error_in_the_last_span = refl

  pub after_its_span_it_is_at_the_root : (plain_emitted (codes "a") (record in_order { live = [] })).calls
      ≡ event_call moment Info (message_field (codes "a") ∷ []) None ∷ []
  after_its_span_it_is_at_the_root = refl
