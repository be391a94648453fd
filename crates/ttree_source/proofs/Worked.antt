-- Examples computed from the definitions: of lines, levels, moments, and of formats.
use Rattle.std.proofs.Common.{◌≡◌, true, false, None, Some, [], ◌∷◌, codes, refl, arith}
use Rattle.std.specs.Prelude.{negsuc}
use Rattle.json.specs.Json.{array, boolean, string, object, no_items, member, no_members}
use Rattle.ttree_source.specs.First.{begins_list, begins_object, detected, format_by, format_of, format_of_line, holding, without_mark}
use Rattle.ttree_source.specs.Markers.{begins_call_key, begins_level_key, begins_message_key, begins_time_key, format_marked}
use Rattle.ttree_source.specs.Marks.{after_mark}
use Rattle.ttree_source.specs.declared.first.Detection.TheVariants.{Full, Held}
use Rattle.ttree_source.specs.declared.first.Format.TheVariants.{Chrome, GoTest, Junit, Lines, Logs, Otlp, Tap, Tracing}
use Rattle.tracing_tree_base.specs.declared.context.Moment.{Moment}
use Rattle.tracing_tree_base.specs.declared.style.Level.TheVariants.{Trace, Debug, Info, Warn, Error}
use Rattle.tracing_tree_spans.specs.Registry.Ids.{id_of}
use Rattle.ttree_source.specs.Levels.{is_shown, shown_calls, level_in}
use Rattle.ttree_source.specs.Moments.{moment_after, since_1970}
use Rattle.tracing_tree_lines.specs.declared.lines.LineCause.TheVariants.{NotACall, Read}
use Rattle.ttree_source.specs.Source.{CountsUnknown}
use Rattle.ttree_source.specs.Traces.{begins_trace, without_return}
use Rattle.ttree_source.specs.Calls.{close_call, event_call, is_escaped, span_call}

pub heading_of_a_build : after_mark (codes "# ") (codes "# q [q.test]") ≡ Some (codes "q [q.test]")
heading_of_a_build = refl

pub escape_begins_a_sequence : is_escaped 27 ≡ true
escape_begins_a_sequence = refl

pub so_does_one_of_the_higher_controls : is_escaped 155 ≡ true
so_does_one_of_the_higher_controls = refl

pub tabs_and_letters_stay : (is_escaped 9 ≡ false) × (is_escaped 233 ≡ false)
tabs_and_letters_stay = (refl, refl)

pub a_plain_line_determines_nothing : format_of None ≡ None
a_plain_line_determines_nothing = refl

pub an_action_is_gos : format_of (Some (object (member (codes "Action") (string (codes "start")) no_members))) ≡ Some GoTest
an_action_is_gos = refl

pub settings_are_lines : format_of (Some (object (member (codes "indent_lines") (boolean true) no_members))) ≡ Some Lines
settings_are_lines = refl

pub another_key_is_no_setting :
    format_of (Some (object (member (codes "indent_lines") (boolean true) (member (codes "a") (boolean true) no_members)))) ≡ None
another_key_is_no_setting = refl

pub an_object_without_a_key_determines_nothing : format_of (Some (object no_members)) ≡ None
an_object_without_a_key_determines_nothing = refl

pub a_call_is_of_lines_though_it_has_a_level :
    format_of (Some (object (member (codes "call") (string (codes "event"))
    (member (codes "level") (string (codes "INFO")) (member (codes "fields") (array no_items) no_members)))))
    ≡ Some Lines
a_call_is_of_lines_though_it_has_a_level = refl

pub a_log_with_a_target_is_no_line_of_tracing :
    format_of (Some (object (member (codes "level") (string (codes "INFO")) (member (codes "msg") (string (codes "x"))
    (member (codes "target") (string (codes "y")) no_members)))))
    ≡ Some Logs
a_log_with_a_target_is_no_line_of_tracing = refl

pub a_log_with_fields_beside_its_message_is_no_line_of_tracing :
    format_of (Some (object (member (codes "level") (string (codes "INFO")) (member (codes "message") (string (codes "x"))
    (member (codes "fields") (object no_members) no_members)))))
    ≡ Some Logs
a_log_with_fields_beside_its_message_is_no_line_of_tracing = refl

-- ---- plain lines

pub rust_panics : begins_trace (codes "thread 'main' (7) panicked at src/main.rs:2:5:") ≡ true
rust_panics = refl

pub a_thread_by_itself_is_no_panic : begins_trace (codes "thread 'main' started") ≡ false
a_thread_by_itself_is_no_panic = refl

pub go_lists_a_goroutine : begins_trace (codes "goroutine 17 [running]:") ≡ true
go_lists_a_goroutine = refl

pub a_word_about_goroutines_is_no_trace : begins_trace (codes "goroutine leak [found]") ≡ false
a_word_about_goroutines_is_no_trace = refl

pub go_lists_a_goroutine_with_its_addresses : begins_trace (codes "goroutine 7 gp=0xc000007180 m=0 mp=0x55d8a0 [running]:") ≡ true
go_lists_a_goroutine_with_its_addresses = refl

pub java_throws : begins_trace (codes "java.lang.IllegalStateException: closed") ≡ true
java_throws = refl

pub java_throws_without_a_word : begins_trace (codes "java.lang.NullPointerException") ≡ true
java_throws_without_a_word = refl

pub a_word_about_an_exception_is_no_trace : begins_trace (codes "java.lang.NullPointerException is bad") ≡ false
a_word_about_an_exception_is_no_trace = refl

pub a_name_without_a_package_is_no_trace : begins_trace (codes "Error: x") ≡ false
a_name_without_a_package_is_no_trace = refl

pub a_carriage_return_is_left_out : without_return (codes "x\r") ≡ codes "x"
a_carriage_return_is_left_out = refl

-- ---- the line at which a run ends

pub the_line_at_which_the_notes_end_a_run_is_counted : CountsUnknown NotACall 2 1 3
the_line_at_which_the_notes_end_a_run_is_counted = (refl, refl)

pub a_line_that_is_known_ends_no_run_by_the_notes : ¬ (CountsUnknown NotACall 2 0 2)
a_line_that_is_known_ends_no_run_by_the_notes h = absurd (omega (arith, h.0))

pub a_read_that_fails_is_no_line : CountsUnknown Read 2 1 2
a_read_that_fails_is_no_line = refl

-- ---- levels

pub levels_are_in_capitals : level_in (object (member (codes "level") (string (codes "warn")) no_members)) ≡ None
levels_are_in_capitals = refl

module _ (moment : Moment) where
  pub the_least_level_is_shown : is_shown Warn (event_call moment Warn [] None) ≡ true
  the_least_level_is_shown = refl

  pub so_is_a_higher_one : is_shown Warn (event_call moment Error [] None) ≡ true
  so_is_a_higher_one = refl

  pub a_lower_one_is_not : is_shown Warn (event_call moment Info [] None) ≡ false
  a_lower_one_is_not = refl

  pub all_levels_are_shown_from_trace_on : is_shown Trace (event_call moment Trace [] None) ≡ true
  all_levels_are_shown_from_trace_on = refl

  pub spans_stay : shown_calls Warn (
      span_call moment (codes "order") [] None
      ∷ event_call moment Debug [] (Some (id_of 1))
      ∷ event_call moment Error [] (Some (id_of 1))
      ∷ close_call moment (id_of 1) None
      ∷ []
      ) ≡ span_call moment (codes "order") [] None ∷ event_call moment Error [] (Some (id_of 1)) ∷ close_call moment (id_of 1) None ∷ []
  spans_stay = refl

pub time_stands_where_a_line_has_none : (before : Moment) → moment_after None before ≡ before
time_stands_where_a_line_has_none before = refl

pub no_time_before_1970 : since_1970 (negsuc 9) ≡ 0
no_time_before_1970 = refl

-- ---- the format of a line

pub a_level_and_a_target_are_of_tracing : format_of (Some (object (member (codes "level") (string (codes "WARN")) (member (codes "target") (string (codes "shop")) no_members)))) ≡ Some Tracing
a_level_and_a_target_are_of_tracing = refl

pub a_level_alone_determines_nothing : format_of (Some (object (member (codes "level") (string (codes "WARN")) no_members))) ≡ None
a_level_alone_determines_nothing = refl

pub a_level_and_a_message_are_a_log : format_of (Some (object (member (codes "level") (string (codes "info")) (member (codes "msg") (string (codes "up")) no_members)))) ≡ Some Logs
a_level_and_a_message_are_a_log = refl

pub a_line_of_tracing_with_a_message_is_no_log : format_of (Some (object (member (codes "level") (string (codes "INFO")) (member (codes "message") (string (codes "up")) (member (codes "target") (string (codes "shop")) no_members))))) ≡ Some Tracing
a_line_of_tracing_with_a_message_is_no_log = refl

pub a_list_that_goes_on_is_of_chrome : format_of_line (codes "\t[") ≡ Some Chrome
a_list_that_goes_on_is_of_chrome = refl

pub an_object_that_goes_on_is_of_chrome : format_by (begins_object (codes "{\"traceEvents\": [")) None ≡ Some Chrome
unfolding begins_level_key begins_time_key begins_message_key begins_call_key
an_object_that_goes_on_is_of_chrome = refl

pub a_log_that_goes_on_is_no_trace : format_by (begins_object (codes "{\"level\":\"info\",\"msg\":\"star")) None ≡ None
unfolding begins_level_key
a_log_that_goes_on_is_no_trace = refl

pub words_in_braces_are_no_object : begins_object (codes "{ x }") ≡ false
words_in_braces_are_no_object = refl

pub events_of_a_trace_are_of_chrome : format_of (Some (object (member (codes "traceEvents") (array no_items) no_members))) ≡ Some Chrome
events_of_a_trace_are_of_chrome = refl

pub an_action_beside_events_is_gos : format_of (Some (object (member (codes "traceEvents") (array no_items) (member (codes "Action") (string (codes "start")) no_members)))) ≡ Some GoTest
an_action_beside_events_is_gos = refl

pub a_mark_is_skipped : without_mark (239 ∷ 187 ∷ 191 ∷ codes "x") ≡ codes "x"
a_mark_is_skipped = refl

pub a_line_is_held : detected None (holding (codes "[info] x") (record { lines = 0; bytes = 0 })) ≡ Held
a_line_is_held = refl

pub the_thousandth_line_is_the_last : detected None (holding (codes "[info] x") (record { lines = 999; bytes = 9000 })) ≡ Full
the_thousandth_line_is_the_last = refl

pub a_word_in_brackets_begins_no_list : begins_list (codes "[info] started") ≡ false
a_word_in_brackets_begins_no_list = refl

pub a_list_of_objects_begins : begins_list (codes " [ {\"ph\":") ≡ true
a_list_of_objects_begins = refl

-- ---- lines that only one format has

pub a_plan_is_of_tap : format_marked (codes "1..5") ≡ Some Tap
a_plan_is_of_tap = refl

pub a_plan_may_skip_all : format_marked (codes "1..0 # SKIP no network") ≡ Some Tap
a_plan_may_skip_all = refl

pub words_after_a_range_are_no_plan : format_marked (codes "1..10 files") ≡ None
words_after_a_range_are_no_plan = refl

pub a_count_of_files_is_no_result : format_marked (codes "ok 3 files copied") ≡ None
a_count_of_files_is_no_result = refl

pub the_first_result_needs_no_dash : format_marked (codes "ok 1 loads") ≡ Some Tap
the_first_result_needs_no_dash = refl

pub a_result_is_of_tap : format_marked (codes "not ok 2 - adds") ≡ Some Tap
a_result_is_of_tap = refl

pub a_result_may_have_no_number : format_marked (codes "ok - loads") ≡ Some Tap
a_result_may_have_no_number = refl

pub a_package_of_go_is_not_of_tap : format_marked (codes "ok  \texample.com/p\t0.1s") ≡ None
a_package_of_go_is_not_of_tap = refl

pub a_range_of_other_numbers_is_no_plan : format_marked (codes "2..5") ≡ None
a_range_of_other_numbers_is_no_plan = refl

pub a_version_is_of_tap : format_marked (codes "TAP version 14") ≡ Some Tap
a_version_is_of_tap = refl

pub a_root_of_suites_is_of_junit : format_marked (codes "<testsuites name=\"x\">") ≡ Some Junit
a_root_of_suites_is_of_junit = refl

pub so_is_one_after_a_declaration : format_marked (codes "<?xml version=\"1.0\"?><testsuite>") ≡ Some Junit
so_is_one_after_a_declaration = refl

pub a_declaration_alone_determines_nothing : format_marked (codes "<?xml version=\"1.0\"?>") ≡ None
a_declaration_alone_determines_nothing = refl

pub spans_of_resources_are_of_otlp : format_marked (codes "{ \"resourceSpans\": [") ≡ Some Otlp
spans_of_resources_are_of_otlp = refl
