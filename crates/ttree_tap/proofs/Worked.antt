-- Examples computed from the definitions of TAP.
use Rattle.std.proofs.Common.{◌≡◌, ℕ, true, false, None, Some, [], ◌∷◌, List, codes, refl}
use Rattle.std.specs.Char.{encode_utf8}
use Rattle.std.specs.Fmt.{digits}
use Rattle.std.specs.Str.{chars}
use Rattle.tracing_tree_base.specs.declared.context.Moment.{Moment}
use Rattle.tracing_tree_layer.specs.declared.call.Call.{Call}
use Rattle.tracing_tree_spans.specs.Registry.Ids.{id_of}
use Rattle.tracing_tree_base.specs.declared.style.Level.TheVariants.{Error, Info}
use Rattle.ttree_source.specs.Calls.{close_call, event_call, message_field, span_call}
use Rattle.ttree_tap.specs.declared.line.Kind.TheVariants.{Passing, Failing, Plan, Heading, Frame, Output}
use Rattle.ttree_source.specs.Length.{length_text}
use Rattle.ttree_tap.specs.Length.{milliseconds}
use Rattle.ttree_tap.specs.Line.{directive_of, is_count, is_file, kind_of_line, plan_reason, verdict_level, verdict_time}
use Rattle.ttree_tap.specs.Strings.{same_word, unescaped}
use Rattle.ttree_tap.specs.Tally.{tally_has_failure}
use Rattle.ttree_tap.specs.Queue.{call_added, claimed}
use Rattle.ttree_tap.specs.Tap.{TapState, after_taken, all_ended, bailed_out, script_begun, brace_ended, brace_taken, braces_opened, block_taken, come, comment_taken, deepened, deeper_left, detail_taken, file_come, file_taken, result_finished, flushed, heading_ended, heading_taken, held_taken, input_ended, inside_taken, kind_taken, tap_line_taken, next_taken, nothing_run, number_taken, output_taken, outside_taken, part_taken, plan_set, plan_taken, result_in, result_taken, script_closed, skip_emitted, subtest_ended, subtest_opened, summary_begun, summary_taken, text_taken, unheld_taken, verdict_taken, waiting_of}
use Rattle.ttree_tap.specs.Texts.{elapsed_text, reason_in, result_end_fields, result_name}

-- ---- lines

pub a_result : kind_of_line (codes "ok 1 - adds") ≡ Passing
unfolding kind_of_line
a_result = refl

pub a_failure : kind_of_line (codes "not ok") ≡ Failing
unfolding kind_of_line
a_failure = refl

pub a_word_that_begins_with_ok : kind_of_line (codes "okay") ≡ Output
unfolding kind_of_line
a_word_that_begins_with_ok = refl

pub a_plan : kind_of_line (codes "1..5") ≡ Plan
unfolding kind_of_line
a_plan = refl

pub a_plan_that_skips : plan_reason (codes "1..0 # SKIP no disk") ≡ codes "no disk"
unfolding same_word
a_plan_that_skips = refl

pub a_heading : kind_of_line (codes "# Subtest: parent") ≡ Heading
unfolding kind_of_line
a_heading = refl

pub a_version : kind_of_line (codes "KTAP version 1") ≡ Frame
unfolding kind_of_line
a_version = refl

pub a_count_of_a_summary : is_count (codes "duration_ms 502.117269") ≡ true
a_count_of_a_summary = refl

pub a_description : result_name (codes " 3 - child 3 # SKIP no disk") ≡ codes "child 3"
unfolding directive_of same_word
a_description = refl

pub a_reason : reason_in (codes " 3 # skip no network") ≡ codes "no network"
unfolding directive_of same_word
a_reason = refl

pub no_note : result_name (codes " 4 says # something") ≡ codes "says # something"
unfolding directive_of same_word
no_note = refl

pub a_note_after_another_hash : result_name (codes " 1 issue #6 # SKIP x") ≡ codes "issue #6"
unfolding directive_of same_word
a_note_after_another_hash = refl

pub a_note_before_another_hash : reason_in (codes " 2 a # SKIP see # TODO b") ≡ codes "see # TODO b"
unfolding directive_of same_word
a_note_before_another_hash = refl

pub a_time_in_a_note : elapsed_text (codes " 1 - x # time=12ms") ≡ codes "12.000ms"
unfolding digits directive_of same_word
a_time_in_a_note = refl

pub escapes : unescaped (codes "child 2 \\# odd \\\\ name") ≡ codes "child 2 # odd \\ name"
unfolding chars encode_utf8
escapes = refl

pub a_time_in_milliseconds : milliseconds (codes "3.366627") ≡ Some 3_366_627
a_time_in_milliseconds = refl

pub a_time_as_it_is_shown : length_text 3_366_627 ≡ codes "3.366ms"
unfolding digits
a_time_as_it_is_shown = refl

pub a_file_of_prove : is_file (codes "t/basic.t ... ") ≡ true
a_file_of_prove = refl

pub a_verdict_of_prove : verdict_level (codes "Failed 2/5 subtests") ≡ Some Error
unfolding verdict_level
a_verdict_of_prove = refl

pub a_file_after_a_time_of_day : is_file (codes "[06:53:47] t/a.t ......... ") ≡ true
a_file_after_a_time_of_day = refl

pub a_verdict_with_a_time : verdict_time (codes "ok      168 ms ( 0.00 usr)") ≡ Some 168_000_000
a_verdict_with_a_time = refl

-- ---- runs

abbrev taken : List (List ℕ) → TapState → TapState
taken [] s = s
taken (line ∷ lines) s = taken lines (tap_line_taken line s)

module _ (moment : Moment) where
  abbrev shown_after : List (List ℕ) → List Call
  shown_after lines = (taken lines (nothing_run false 1 moment)).queue.ready

  pub a_result_waits : shown_after (codes "ok 1 - adds" ∷ []) ≡ []
  unfolding kind_of_line next_taken directive_of same_word chars encode_utf8 result_taken plan_taken heading_taken comment_taken bailed_out output_taken come kind_taken file_taken verdict_taken summary_begun result_finished deeper_left result_in detail_taken part_taken text_taken heading_ended script_closed flushed unheld_taken held_taken brace_taken braces_opened brace_ended input_ended summary_taken call_added claimed block_taken tap_line_taken inside_taken outside_taken deepened waiting_of subtest_ended file_come skip_emitted plan_set number_taken subtest_opened script_begun after_taken all_ended
  a_result_waits = refl

  pub a_result_with_its_time :
      shown_after (codes "ok 1 - adds" ∷ codes "  ---" ∷ codes "  duration_ms: 3.366627" ∷ codes "  ..." ∷ [])
      ≡ event_call moment Info (message_field (codes "pass adds") ∷ result_end_fields [] (codes "3.366ms")) None ∷ []
  unfolding kind_of_line next_taken after_taken directive_of same_word chars encode_utf8 digits result_taken plan_taken heading_taken comment_taken bailed_out output_taken come kind_taken file_taken verdict_taken summary_begun result_finished deeper_left result_in detail_taken part_taken text_taken heading_ended script_closed flushed unheld_taken held_taken brace_taken braces_opened brace_ended input_ended summary_taken call_added claimed block_taken tap_line_taken inside_taken outside_taken deepened waiting_of subtest_ended file_come skip_emitted plan_set number_taken subtest_opened script_begun all_ended
  a_result_with_its_time = refl

  pub a_block_is_in_a_span :
      shown_after (codes "not ok 1 - slow" ∷ codes "  ---" ∷ codes "  error: 'x'" ∷ codes "  ..." ∷ [])
      ≡ span_call moment (codes "slow") [] None
      ∷ event_call moment Info (message_field (codes "error: 'x'") ∷ []) (Some (id_of 1))
      ∷ event_call moment Error (message_field (codes "fail") ∷ []) (Some (id_of 1))
      ∷ close_call moment (id_of 1) None ∷ []
  unfolding kind_of_line next_taken after_taken directive_of same_word chars encode_utf8 result_taken plan_taken heading_taken comment_taken bailed_out output_taken come kind_taken file_taken verdict_taken summary_begun result_finished deeper_left result_in detail_taken part_taken text_taken heading_ended script_closed flushed unheld_taken held_taken brace_taken braces_opened brace_ended input_ended summary_taken call_added claimed block_taken tap_line_taken inside_taken outside_taken deepened waiting_of subtest_ended file_come skip_emitted plan_set number_taken subtest_opened script_begun all_ended
  a_block_is_in_a_span = refl

  pub a_leaf_opens_no_span :
      shown_after (codes "# Subtest: adds" ∷ codes "ok 1 - adds" ∷ codes "# next" ∷ [])
      ≡ event_call moment Info (message_field (codes "pass adds") ∷ []) None
      ∷ event_call moment Info (message_field (codes "next") ∷ []) None ∷ []
  unfolding kind_of_line next_taken after_taken directive_of same_word chars encode_utf8 result_taken plan_taken heading_taken comment_taken bailed_out output_taken come kind_taken file_taken verdict_taken summary_begun result_finished deeper_left result_in detail_taken part_taken text_taken heading_ended script_closed flushed unheld_taken held_taken brace_taken braces_opened brace_ended input_ended summary_taken call_added claimed block_taken tap_line_taken inside_taken outside_taken deepened waiting_of subtest_ended file_come skip_emitted plan_set number_taken subtest_opened script_begun all_ended
  a_leaf_opens_no_span = refl

  pub a_subtest_opens_with_a_deeper_line :
      shown_after (codes "# Subtest: a" ∷ codes "    ok 1 - b" ∷ codes "not ok 1 - a" ∷ codes "1..1" ∷ [])
      ≡ span_call moment (codes "a") [] None
      ∷ event_call moment Info (message_field (codes "pass b") ∷ []) (Some (id_of 1))
      ∷ event_call moment Error (message_field (codes "fail") ∷ []) (Some (id_of 1))
      ∷ close_call moment (id_of 1) None ∷ []
  unfolding kind_of_line next_taken after_taken directive_of same_word chars encode_utf8 result_taken plan_taken heading_taken comment_taken bailed_out output_taken come kind_taken file_taken verdict_taken summary_begun result_finished deeper_left result_in detail_taken part_taken text_taken heading_ended script_closed flushed unheld_taken held_taken brace_taken braces_opened brace_ended input_ended summary_taken call_added claimed block_taken tap_line_taken inside_taken outside_taken deepened waiting_of subtest_ended file_come skip_emitted plan_set number_taken subtest_opened script_begun all_ended
  a_subtest_opens_with_a_deeper_line = refl

  pub a_plan_that_is_not_met :
      tally_has_failure (all_ended (taken (codes "1..2" ∷ codes "ok 1" ∷ []) (nothing_run false 1 moment))).tally ≡ true
  unfolding kind_of_line next_taken after_taken all_ended directive_of same_word chars encode_utf8 digits result_taken plan_taken heading_taken comment_taken bailed_out output_taken come kind_taken file_taken verdict_taken summary_begun result_finished deeper_left result_in detail_taken part_taken text_taken heading_ended script_closed flushed unheld_taken held_taken brace_taken braces_opened brace_ended input_ended summary_taken call_added claimed block_taken tap_line_taken inside_taken outside_taken deepened waiting_of subtest_ended file_come skip_emitted plan_set number_taken subtest_opened script_begun
  a_plan_that_is_not_met = refl

  pub a_plan_that_is_met :
      tally_has_failure (all_ended (taken (codes "1..1" ∷ codes "not ok 1 # TODO" ∷ []) (nothing_run false 1 moment))).tally ≡ false
  unfolding kind_of_line next_taken after_taken all_ended directive_of same_word chars encode_utf8 digits result_taken plan_taken heading_taken comment_taken bailed_out output_taken come kind_taken file_taken verdict_taken summary_begun result_finished deeper_left result_in detail_taken part_taken text_taken heading_ended script_closed flushed unheld_taken held_taken brace_taken braces_opened brace_ended input_ended summary_taken call_added claimed block_taken tap_line_taken inside_taken outside_taken deepened waiting_of subtest_ended file_come skip_emitted plan_set number_taken subtest_opened script_begun
  a_plan_that_is_met = refl

  pub nothing_comes_after_bail_out :
      shown_after (codes "Bail out! no" ∷ codes "ok 1" ∷ codes "ok 2" ∷ [])
      ≡ event_call moment Error (message_field (codes "Bail out! no") ∷ []) None ∷ []
  unfolding kind_of_line next_taken after_taken directive_of same_word chars encode_utf8 result_taken plan_taken heading_taken comment_taken bailed_out output_taken come kind_taken file_taken verdict_taken summary_begun result_finished deeper_left result_in detail_taken part_taken text_taken heading_ended script_closed flushed unheld_taken held_taken brace_taken braces_opened brace_ended input_ended summary_taken call_added claimed block_taken tap_line_taken inside_taken outside_taken deepened waiting_of subtest_ended file_come skip_emitted plan_set number_taken subtest_opened script_begun all_ended
  nothing_comes_after_bail_out = refl

  pub a_bare_ok_of_prove :
      shown_after (codes "t/a.t .. " ∷ codes "ok" ∷ [])
      ≡ span_call moment (codes "t/a.t") [] None
      ∷ event_call moment Info (message_field (codes "ok") ∷ []) (Some (id_of 1)) ∷ []
  unfolding kind_of_line next_taken after_taken verdict_level chars encode_utf8 result_taken plan_taken heading_taken comment_taken bailed_out output_taken come kind_taken file_taken verdict_taken summary_begun result_finished deeper_left result_in detail_taken part_taken text_taken heading_ended script_closed flushed unheld_taken held_taken brace_taken braces_opened brace_ended input_ended summary_taken call_added claimed block_taken tap_line_taken inside_taken outside_taken deepened waiting_of subtest_ended file_come skip_emitted plan_set number_taken subtest_opened script_begun all_ended
  a_bare_ok_of_prove = refl

  pub no_plan : tally_has_failure (all_ended (taken (codes "ok 1" ∷ []) (nothing_run false 1 moment))).tally ≡ true
  unfolding kind_of_line next_taken after_taken all_ended directive_of same_word chars encode_utf8 digits result_taken plan_taken heading_taken comment_taken bailed_out output_taken come kind_taken file_taken verdict_taken summary_begun result_finished deeper_left result_in detail_taken part_taken text_taken heading_ended script_closed flushed unheld_taken held_taken brace_taken braces_opened brace_ended input_ended summary_taken call_added claimed block_taken tap_line_taken inside_taken outside_taken deepened waiting_of subtest_ended file_come skip_emitted plan_set number_taken subtest_opened script_begun
  no_plan = refl

  pub no_line_of_tap : tally_has_failure (all_ended (taken (codes "hello" ∷ []) (nothing_run false 1 moment))).tally ≡ true
  unfolding kind_of_line next_taken after_taken all_ended directive_of same_word chars encode_utf8 digits result_taken plan_taken heading_taken comment_taken bailed_out output_taken come kind_taken file_taken verdict_taken summary_begun result_finished deeper_left result_in detail_taken part_taken text_taken heading_ended script_closed flushed unheld_taken held_taken brace_taken braces_opened brace_ended input_ended summary_taken call_added claimed block_taken tap_line_taken inside_taken outside_taken deepened waiting_of subtest_ended file_come skip_emitted plan_set number_taken subtest_opened script_begun
  no_line_of_tap = refl

  pub a_subtest_in_braces :
      shown_after (codes "not ok 1 - a {" ∷ codes "    ok 1 - b" ∷ codes "}" ∷ codes "1..1" ∷ [])
      ≡ span_call moment (codes "a") [] None
      ∷ event_call moment Info (message_field (codes "pass b") ∷ []) (Some (id_of 1))
      ∷ event_call moment Error (message_field (codes "fail") ∷ []) (Some (id_of 1))
      ∷ close_call moment (id_of 1) None ∷ []
  unfolding kind_of_line next_taken after_taken all_ended directive_of same_word chars encode_utf8 digits result_taken plan_taken heading_taken comment_taken bailed_out output_taken come kind_taken file_taken verdict_taken summary_begun result_finished deeper_left result_in detail_taken part_taken text_taken heading_ended script_closed flushed unheld_taken held_taken brace_taken braces_opened brace_ended input_ended summary_taken call_added claimed block_taken tap_line_taken inside_taken outside_taken deepened waiting_of subtest_ended file_come skip_emitted plan_set number_taken subtest_opened script_begun
  a_subtest_in_braces = refl

  pub only_what_failed :
      (taken (codes "# Subtest: a" ∷ codes "    ok 1 - b" ∷ codes "ok 1 - a" ∷ codes "# Subtest: c" ∷ codes "    not ok 1 - d" ∷ codes "not ok 2 - c" ∷ codes "1..2" ∷ []) (nothing_run true 1 moment)).queue.ready
      ≡ span_call moment (codes "c") [] None
      ∷ event_call moment Error (message_field (codes "fail d") ∷ []) (Some (id_of 1))
      ∷ event_call moment Error (message_field (codes "fail") ∷ []) (Some (id_of 1))
      ∷ close_call moment (id_of 1) None ∷ []
  unfolding kind_of_line next_taken after_taken all_ended directive_of same_word chars encode_utf8 digits result_taken plan_taken heading_taken comment_taken bailed_out output_taken come kind_taken file_taken verdict_taken summary_begun result_finished deeper_left result_in detail_taken part_taken text_taken heading_ended script_closed flushed unheld_taken held_taken brace_taken braces_opened brace_ended input_ended summary_taken call_added claimed block_taken tap_line_taken inside_taken outside_taken deepened waiting_of subtest_ended file_come skip_emitted plan_set number_taken subtest_opened script_begun
  only_what_failed = refl
