-- Examples computed from the definitions of services' logs.
use Rattle.std.proofs.Common.{◌≡◌, None, Some, [], ◌∷◌, List, codes, refl}
use Rattle.json.specs.Json.{Json, null, number, string, array, object, no_items, item, no_members, member}
use Rattle.tracing_tree_base.specs.declared.context.Moment.{Moment}
use Rattle.tracing_tree_spans.specs.Registry.Ids.{id_of}
use Rattle.tracing_tree_base.specs.declared.field.Field.{Field}
use Rattle.tracing_tree_base.specs.declared.style.Level.TheVariants.{Debug, Error, Info, Warn}
use Rattle.ttree_source.specs.Calls.{close_call, event_call, message_field, shown_text, span_call}
use Rattle.ttree_source.specs.JsonText.{json_text}
use Rattle.ttree_logs.specs.LogFields.{value_fields}
use Rattle.ttree_logs.specs.LogLine.{group_in, level_of_word, line_level, log_event_fields, same_word, used_keys}
use Rattle.ttree_logs.specs.LogTime.{epoch_nanoseconds}
use Rattle.ttree_logs.specs.Logs.{LogsState, id_field, log_line_emitted, logs_ends, no_group}

-- ---- levels

pub a_level_in_any_case : level_of_word (codes "Warning") ≡ Some Warn
unfolding same_word
a_level_in_any_case = refl

pub a_level_of_slog : level_of_word (codes "INFO+2") ≡ Some Info
unfolding same_word
a_level_of_slog = refl

pub a_level_of_zerolog : level_of_word (codes "fatal") ≡ Some Error
unfolding same_word
a_level_of_zerolog = refl

pub a_level_of_pino : level_of_word (codes "20") ≡ Some Debug
unfolding same_word
a_level_of_pino = refl

pub a_level_of_syslog : level_of_word (codes "3") ≡ Some Error
unfolding same_word
a_level_of_syslog = refl

pub no_level : level_of_word (codes "audit") ≡ None
unfolding same_word
no_level = refl

-- ---- times

pub seconds : epoch_nanoseconds (codes "1795950765.3870196") ≡ Some 1_795_950_765_387_019_600
seconds = refl

pub milliseconds : epoch_nanoseconds (codes "1795950765387") ≡ Some 1_795_950_765_387_000_000
milliseconds = refl

pub microseconds : epoch_nanoseconds (codes "1795950765387019") ≡ Some 1_795_950_765_387_019_000
microseconds = refl

pub no_number : epoch_nanoseconds (codes "2026-11-29T11:12:49Z") ≡ None
no_number = refl

-- ---- fields

abbrev path : Json
path = object (member (codes "path") (string (codes "/pay")) no_members)

pub an_object_in_an_object :
    value_fields (codes "req") path ≡ (record { name = shown_text (codes "req.path"); value = shown_text (codes "/pay") }) ∷ []
an_object_in_an_object = refl

pub an_object_without_members :
    value_fields (codes "req") (object no_members) ≡ (record { name = shown_text (codes "req"); value = codes "{}" }) ∷ []
an_object_without_members = refl

pub an_array : json_text (array (item (number (codes "1")) (item null no_items))) ≡ codes "[1,null]"
an_array = refl

-- {"level":"info","msg":"request","trace_id":"4b","request_id":"r1","req":{"path":"/pay"}}
abbrev request : Json
request = object
    (member (codes "level") (string (codes "info"))
    (member (codes "msg") (string (codes "request"))
    (member (codes "trace_id") (string (codes "4b"))
    (member (codes "request_id") (string (codes "r1"))
    (member (codes "req") path no_members)))))

-- {"level":"audit","message":"","port":8080}
abbrev unnamed : Json
unnamed = object
    (member (codes "level") (string (codes "audit"))
    (member (codes "message") (string [])
    (member (codes "port") (number (codes "8080")) no_members)))

abbrev request_fields : List Field
request_fields =
    message_field (codes "request")
    ∷ (record { name = shown_text (codes "request_id"); value = shown_text (codes "r1") })
    ∷ (record { name = shown_text (codes "req.path"); value = shown_text (codes "/pay") }) ∷ []

pub keys_that_are_no_fields : (used_keys None request).keys ≡ codes "level" ∷ codes "msg" ∷ codes "trace_id" ∷ []
unfolding same_word
keys_that_are_no_fields = refl

pub the_trace_counts_before_the_request : log_event_fields None request ≡ request_fields
unfolding same_word
the_trace_counts_before_the_request = refl

pub a_line_without_a_level : line_level unnamed ≡ Info
unfolding same_word
a_line_without_a_level = refl

pub nothing_is_lost : log_event_fields None unnamed
    ≡ (record { name = shown_text (codes "level"); value = shown_text (codes "audit") })
    ∷ (record { name = shown_text (codes "message"); value = shown_text [] })
    ∷ (record { name = shown_text (codes "port"); value = codes "8080" }) ∷ []
unfolding same_word
nothing_is_lost = refl

-- {"level":"info","ts":1795950765.5,"msg":"up"}
abbrev timed : Json
timed = object
    (member (codes "level") (string (codes "info"))
    (member (codes "ts") (number (codes "1795950765.5"))
    (member (codes "msg") (string (codes "up")) no_members)))

pub a_time_is_no_field : log_event_fields None timed ≡ message_field (codes "up") ∷ []
unfolding same_word
a_time_is_no_field = refl

-- ---- groups

-- {"__REALTIME_TIMESTAMP":"1795950765387019","_PID":"812","_SYSTEMD_UNIT":"a.service","MESSAGE":"up"}
abbrev journaled : Json
journaled = object
    (member (codes "__REALTIME_TIMESTAMP") (string (codes "1795950765387019"))
    (member (codes "_PID") (string (codes "812"))
    (member (codes "_SYSTEMD_UNIT") (string (codes "a.service"))
    (member (codes "MESSAGE") (string (codes "up")) no_members))))

pub a_unit_is_a_group : group_in None journaled
    ≡ Some (record { name = codes "unit"; id = codes "a.service"; process = Some (codes "812") })
a_unit_is_a_group = refl

pub what_journald_adds_is_no_field : log_event_fields None journaled
    ≡ message_field (codes "up") ∷ []
unfolding same_word
what_journald_adds_is_no_field = refl

pub a_path_names_a_group : group_in (Some (codes "req.path")) request
    ≡ Some (record { name = codes "req.path"; id = codes "/pay"; process = None })
a_path_names_a_group = refl

pub no_trace_if_another_key_is_asked_for : group_in (Some (codes "tenant")) request ≡ None
no_trace_if_another_key_is_asked_for = refl

module _ (moment : Moment) where
  abbrev pub after_request : LogsState
  after_request = record (log_line_emitted [] (Some request) (no_group 1 moment)) { calls = [] }

  pub a_group_opens_with_its_first_line :
      (log_line_emitted [] (Some request) (no_group 1 moment)).calls
      ≡ span_call moment (codes "trace") (id_field (codes "4b") ∷ []) None
      ∷ event_call moment Info request_fields (Some (id_of 1)) ∷ []
  unfolding same_word
  a_group_opens_with_its_first_line = refl

  pub it_opens_once :
      (log_line_emitted [] (Some request) after_request).calls
      ≡ event_call moment Info request_fields (Some (id_of 1)) ∷ []
  unfolding same_word
  it_opens_once = refl

  pub a_line_without_a_group_is_at_the_root :
      (log_line_emitted [] (Some unnamed) after_request).calls ≡ event_call moment Info (log_event_fields None unnamed) None ∷ []
  unfolding same_word
  a_line_without_a_group_is_at_the_root = refl

  pub a_panic_is_in_the_last_group :
      (log_line_emitted (codes "panic: a") None after_request).calls
      ≡ event_call moment Error (message_field (codes "panic: a") ∷ []) (Some (id_of 1)) ∷ []
  unfolding same_word
  a_panic_is_in_the_last_group = refl

  pub the_last_group_closes_at_the_end : logs_ends after_request ≡ close_call moment (id_of 1) None ∷ []
  unfolding same_word
  the_last_group_closes_at_the_end = refl

  pub after_the_root_nothing_closes : logs_ends
      (log_line_emitted [] (Some unnamed) after_request) ≡ []
  unfolding same_word
  after_the_root_nothing_closes = refl
