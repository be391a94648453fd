-- Examples computed from the definitions of tracers.
use Rattle.std.specs.Prelude.{◌≡◌, List, [], ◌∷◌, Some, None, Ok, Err, true, refl, codes, encode_utf8_all}
use Rattle.std.specs.Char.{encode_utf8}
use Rattle.std.specs.Fmt.{digits}
use Rattle.tracing_tree_base.specs.Field.{rendered_field}
use Rattle.tracing_tree_base.specs.declared.context.Id.{Id}
use Rattle.tracing_tree_base.specs.declared.context.Moment.{Moment}
use Rattle.tracing_tree_base.specs.declared.style.Level.TheVariants.{Info, Warn}
use Rattle.tracing_tree_spans.specs.Registry.Ids.{id_of}
use Rattle.tracing_tree_layer.proofs.WorkedCalls.{lined, start_of_1970, written}
use Rattle.tracing_tree_tracer.specs.Tracers.{Emitter, after_close, after_open, close_call, current_of, event_call, open_call, outer_of, record_call}
use Rattle.tracing_tree_tracer.specs.Values.{escaped_char}
use Rattle.tracing_tree_tracer.specs.declared.tracer.TraceFault.TheVariants.{NoSpan}

abbrev pub two_spans : List Id
two_spans = id_of 1 ∷ id_of 2 ∷ []

pub the_last_is_the_current_one : current_of two_spans ≡ Some (id_of 2)
the_last_is_the_current_one = refl

pub none_is_current_where_none_is_open : current_of [] ≡ None
none_is_current_where_none_is_open = refl

pub the_first_is_around_the_last : outer_of two_spans ≡ id_of 1 ∷ []
the_first_is_around_the_last = refl

pub an_opened_span_becomes_the_current_one : current_of (after_open two_spans (Ok (id_of 7))) ≡ Some (id_of 7)
an_opened_span_becomes_the_current_one = refl

pub a_refused_close_leaves_the_spans : after_close two_spans (Err NoSpan) ≡ two_spans
a_refused_close_leaves_the_spans = refl

-- ---- the calls of a connection

abbrev pub web : Emitter
web = record { target = codes "web"; thread_id = 1; thread_name = None }

abbrev pub start : Moment
start = record { mono = 0; wall = start_of_1970 }

-- `conn` with a peer opens, an event happens in it, `query` opens in it and another event happens
-- there, and both close
pub calls_of_a_connection : written lined (
    open_call web [] (codes "conn") (rendered_field (codes "peer") (codes "82.9.9.9") ∷ []) start
    ∷ event_call web (id_of 1 ∷ []) Info (codes "connected") [] start
    ∷ open_call web (id_of 1 ∷ []) (codes "query") [] start
    ∷ event_call web two_spans Warn (codes "slow") (rendered_field (codes "ms") (codes "271") ∷ []) start
    ∷ close_call web two_spans (id_of 2) start
    ∷ close_call web (id_of 1 ∷ []) (id_of 1) start
    ∷ [])
    ≡ encode_utf8_all (codes "┐conn peer=82.9.9.9\n├─ INFO connected\n└─┐query \n  ├─ WARN slow, ms=271\n┌─┘\n┘\n")
unfolding encode_utf8
calls_of_a_connection = refl

-- what is recorded is shown when the span is first drawn
pub a_record_of_a_deferred_span : written (record lined { deferred_spans = true }) (
    open_call web [] (codes "conn") [] start
    ∷ record_call (rendered_field (codes "peer") (codes "82.9.9.9") ∷ []) (id_of 1)
    ∷ event_call web (id_of 1 ∷ []) Info (codes "connected") [] start
    ∷ [])
    ≡ encode_utf8_all (codes "┐conn peer=82.9.9.9\n├─ INFO connected\n")
unfolding encode_utf8
a_record_of_a_deferred_span = refl

-- ---- strings between quotes

pub a_quote_is_escaped : escaped_char 34 ≡ codes "\\\""
a_quote_is_escaped = refl

pub an_escape_is_shown_by_its_code : escaped_char 27 ≡ codes "\\u{1b}"
unfolding digits
an_escape_is_shown_by_its_code = refl

pub a_letter_stays : escaped_char 233 ≡ 195 ∷ 169 ∷ []
unfolding encode_utf8
a_letter_stays = refl
