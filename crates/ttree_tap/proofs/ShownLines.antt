-- Each line of TAP is shown once, and the counts are those of the results.
use Rattle.std.proofs.Common.{◌≡◌, inl, inr, ℕ, Bool, true, false, List, [], ◌∷◌, ◌++◌, Option, Some, None, refl, sym, ap, subst, ◌∙◌, arith, append_assoc}
use Rattle.std.specs.Prelude.{◌||◌, ◌&&◌, not, ◌==◌, if◌then◌else◌, bytes_eq, codes, flat_map, length, is_some, ◌-◌, ◌+◌}
use Rattle.std.specs.Str.{is_utf8}
use Rattle.std.proofs.lemmas.Bool.{true≢false}
use Rattle.std.proofs.lemmas.Grind.{flat_map-append}
use Rattle.std.proofs.lemmas.List.{append-nil}
use Rattle.json.specs.Json.{document}
use Rattle.tracing_tree_base.specs.declared.context.Id.{Id}
use Rattle.tracing_tree_base.specs.declared.context.Moment.{Moment}
use Rattle.tracing_tree_base.specs.declared.style.Level.TheVariants.{Error, Info}
use Rattle.tracing_tree_layer.specs.declared.call.Call.{Call}
use Rattle.tracing_tree_lines.specs.Lines.Spelled.{is_skipped}
use Rattle.ttree_source.specs.Counts.{one_more}
use Rattle.ttree_source.specs.Length.{length_text}
use Rattle.tracing_tree_spans.specs.Registry.Ids.{id_of}
use Rattle.ttree_source.specs.Marks.{after_mark, is_empty}
use Rattle.ttree_source.specs.Source.{Interpreted, interpret, interpret_line, interpreted_step, then_interpreted}
use Rattle.ttree_source.specs.Calls.{message_field}
use Rattle.ttree_tap.specs.declared.line.Kind.{Kind}
use Rattle.ttree_tap.specs.declared.line.Kind.TheVariants.{Passing, Failing, Plan, BailOut, Heading as HeadingLine, Comment, Frame, Brace, Output}
use Rattle.ttree_tap.specs.declared.queue.Role.TheVariants.{Failure, Output as OutputLine}
use Rattle.ttree_tap.specs.declared.tally.Verdict.{Verdict}
use Rattle.ttree_tap.specs.declared.tally.Verdict.TheVariants.{Passed, Failed, Skipped, Todo}
use Rattle.ttree_tap.specs.declared.tap.Mode.{Mode}
use Rattle.ttree_tap.specs.declared.tap.Mode.TheVariants.{Start, Script, File, Judged, Summary, Over, Bailed}
use Rattle.ttree_tap.specs.declared.tap.prove.Part.{Part}
use Rattle.ttree_tap.specs.declared.tap.prove.Part.TheVariants.{File as FileLine, Verdict as VerdictLine, Stamp as StampLine, Summary as SummaryLine, Line}
use Rattle.ttree_tap.specs.declared.tap.braces.Braced.{Braced}
use Rattle.ttree_tap.specs.declared.tap.subtests.Heading.{Heading}
use Rattle.ttree_tap.specs.declared.tap.subtests.Subtest.{Subtest}
use Rattle.ttree_tap.specs.declared.tap.waiting.Waiting.{Waiting}
use Rattle.ttree_tap.specs.Failures.{after_all, calls_before_counts}
use Rattle.ttree_tap.specs.Line.{comment_of, is_failed_summary, kind_of_line, ends_summary}
use Rattle.ttree_tap.specs.Strings.{first_part, rest_after, without_end, without_leading}
use Rattle.ttree_tap.specs.Tally.{broken_tally, tally_has_failure}
use Rattle.ttree_tap.specs.Texts.{begins_block, duration_of, unfinished_text}
use Rattle.ttree_tap.specs.Tap.{TapState, after_taken, all_ended, script_begun, begun_as, begun_first, block_begun, block_taken, brace_ended, brace_ended_if, come, deeper_left, detail_taken, error_emitted, result_finished, flushed, flushed_if, handed_out, heading_ended, heading_ended_if, heading_taken, input_ended, input_ended_in, inside_taken, is_in_block, is_passed_over, kind_taken, tap_line_taken, tap_line_emitted, next_taken, nothing_run, test_span_opened, outside_taken, part_of, part_taken, script_closed, summary_over, summary_taken, taken_as, taken_if, taken_in, tap_takes, text_taken, text_taken_if, result_timed, timed_or_emitted, unheld_taken, waits}
use Rattle.ttree_tap.specs.Said.{Block, LineRead, Outcomes, Place as TextPlace, Said, Said.Test, Said.Detail, Said.SummaryEnd, TapResult, at_start, after_read, after_result, block_read, counted, description_of, has_begun, has_braces, has_braces_from, read_in, inside_read, is_of_tap, kind_read, line_read, mode_with, next_read, no_outcomes, outcome_counted, is_failure, opens_brace, outcome_of, outcomes_in, some_failed, outside_read, part_read, results_of, result_in as results_in, said_at_end, said_by, said_from, saying, silent, summary_read, text_read, with_block}
use Rattle.ttree_tap.specs.Rows.{OpenSpan, Seen, rows_of}
use Rattle.ttree_tap.specs.Shown.{Item.Shown, Item.Omitted, ShowsEachOnce}
use Rattle.ttree_tap.proofs.Accounts.{Account, Fixed, Idle, IsNamed, Taken, View, core, emits, entry, fails_with, finishes, omits, opens_span, result_said, row_of, says, stack}
use Rattle.ttree_tap.proofs.ShownResults.{Held, Line', at_place, bails, begins_summary, block_of, both, choose, closes_script, comes, is_summary, leaves_deeper, moves, none_left, quiet, silently, takes_brace, takes_comment, takes_file, takes_heading, takes_output, takes_plan, takes_result, takes_verdict, then_read, unfiled, unfinished_apart}

module _ (k : Fixed) where
  -- ---- lines

  first_begun : (kind : Kind) (s : TapState) → begun_first kind s ≡ (if is_of_tap kind then record s { mode = Script } else s)
  first_begun Passing s = refl
  first_begun Failing s = refl
  first_begun Plan s = refl
  first_begun BailOut s = refl
  first_begun HeadingLine s = refl
  first_begun Frame s = refl
  first_begun Comment s = refl
  first_begun Brace s = refl
  first_begun Output s = refl

  -- the mode is this one already
  stays : (v : View) (mode : Mode) (s : TapState) → s.mode ≡ mode → Idle k v [] s → Idle k (at_place v (record v.place { mode = mode })) [] s
  stays v mode s is j = record {
    stacked = j.stacked;
    mode = is;
    counts = j.counts;
    none = j.none;
    bare = j.bare;
    whole = j.whole;
  }

  begins_if : (v : View) (mode : Mode) (test : Bool) (s : TapState) → s.mode ≡ mode → Idle k v [] s
      → Idle k (at_place v (record v.place { mode = if test then Script else mode })) [] (if test then record s { mode = Script } else s)
  begins_if v mode true s is j = moves k v Script (core s) j
  begins_if v mode false s is j = stays v mode s is j

  begins_first : (v : View) (mode : Mode) (kind : Kind) (s : TapState) → s.mode ≡ mode → Idle k v [] s
      → Idle k (at_place v (record v.place { mode = if is_of_tap kind then Script else mode })) [] (begun_first kind s)
  begins_first v mode kind s is j =
      subst (λ (t : TapState). Idle k (at_place v (record v.place { mode = if is_of_tap kind then Script else mode })) [] t) (sym (first_begun kind s)) (begins_if v mode (is_of_tap kind) s is j)

  begins_as : (v : View) (mode : Mode) (kind : Kind) (s : TapState) → s.mode ≡ mode → Idle k v [] s
      → Idle k (at_place v (record v.place { mode = mode_with mode kind })) [] (begun_as mode kind s)
  begins_as v Start kind s is j = begins_first v Start kind s is j
  begins_as v Over kind s is j = begins_first v Over kind s is j
  begins_as v Script kind s is j = stays v Script s is j
  begins_as v File kind s is j = stays v File s is j
  begins_as v Judged kind s is j = stays v Judged s is j
  begins_as v Summary kind s is j = stays v Summary s is j
  begins_as v Bailed kind s is j = stays v Bailed s is j

  abbrev begun : View → Kind → View
  begun v kind = at_place v (record v.place { mode = mode_with v.place.mode kind })

  begins : (v : View) (kind : Kind) (s : TapState) → Idle k v [] s → Idle k (begun v kind) [] (script_begun kind s)
  unfolding script_begun
  begins v kind s j = subst (λ (mode : Mode). Idle k (begun v kind) [] (begun_as mode kind s)) (sym j.mode) (begins_as v v.place.mode kind s j.mode j)

  going_if : (mode : Mode) (test : Bool) → is_summary mode ≡ false → is_summary (if test then Script else mode) ≡ false
  going_if mode true h = refl
  going_if mode false h = h

  still_going : (mode : Mode) (kind : Kind) → is_summary mode ≡ false → is_summary (mode_with mode kind) ≡ false
  still_going Start kind h = going_if Start (is_of_tap kind) refl
  still_going Over kind h = going_if Over (is_of_tap kind) refl
  still_going Script kind h = refl
  still_going File kind h = refl
  still_going Judged kind h = refl
  still_going Summary kind h = h
  still_going Bailed kind h = refl

  takes_as : (v : View) (kind : Kind) (column : ℕ) (text inner : List ℕ) (s : TapState) → v.place.block ≡ None → is_summary v.place.mode ≡ false → Idle k v [] s
      → Line' k v (kind_read kind column text inner v.place) (taken_as kind column text inner s)
  takes_as v Passing column text inner s free going j = takes_result k v (record { is_ok = true; column = column }) (rest_after (codes "ok") inner) s going j
  takes_as v Failing column text inner s free going j = takes_result k v (record { is_ok = false; column = column }) (rest_after (codes "not ok") inner) s going j
  takes_as v Plan column text inner s free going j = takes_plan k v column inner s free j
  takes_as v BailOut column text inner s free going j = bails k v inner s free j
  takes_as v HeadingLine column text inner s free going j =
      quiet k v (heading_taken column (rest_after (codes "# Subtest: ") inner) s) free (takes_heading k v column (rest_after (codes "# Subtest: ") inner) s j)
  takes_as v Comment column text inner s free going j = takes_comment k v (comment_of inner) s free j
  takes_as v Frame column text inner s free going j = quiet k v s free j
  takes_as v Brace column text inner s free going j = takes_brace k v column text s free j
  takes_as v Output column text inner s free going j = takes_output k v text s free j

  takes_kind : (v : View) (kind : Kind) (column : ℕ) (text inner : List ℕ) (s : TapState) → v.place.block ≡ None → is_summary v.place.mode ≡ false → Idle k v [] s
      → Line' k v (kind_read kind column text inner (begun v kind).place) (kind_taken kind column text inner s)
  unfolding kind_taken
  takes_kind v kind column text inner s free going j =
      takes_as (begun v kind) kind column text inner (come column (script_begun kind s)) free (still_going v.place.mode kind going) (comes k (begun v kind) column (script_begun kind s) (begins v kind s j))

  takes_part : (v : View) (part : Part) (text inner : List ℕ) (s : TapState) → v.place.block ≡ None → is_summary v.place.mode ≡ false → Idle k v [] s
      → Line' k v (part_read part text inner v.place) (part_taken part text inner s)
  unfolding part_taken
  takes_part v FileLine text inner s free going j = takes_file k v text s free j
  takes_part v (VerdictLine level) text inner s free going j = takes_verdict k v level text s free j
  takes_part v StampLine text inner s free going j = quiet k v s free j
  takes_part v SummaryLine text inner s free going j = begins_summary k v s free j
  takes_part v Line text inner s free going j = takes_kind v (kind_of_line inner) (length text - length inner) text inner s free going j

  takes_next : (v : View) (text : List ℕ) (s : TapState) → v.place.block ≡ None → is_summary v.place.mode ≡ false → Idle k v [] s
      → Line' k v (next_read text v.place) (next_taken text s)
  unfolding next_taken
  takes_next v text s free going j =
      subst (λ (mode : Mode). Line' k v (next_read text v.place) (if is_empty (without_leading 32 text) then s else part_taken (part_of mode text) text (without_leading 32 text) s)) (sym j.mode)
      (both (Line' k v) (is_empty (without_leading 32 text)) (silent v.place) (part_read (part_of v.place.mode text) text (without_leading 32 text) v.place)
      s (part_taken (part_of v.place.mode text) text (without_leading 32 text) s)
      (λ blank. quiet k v s free j) (λ full. takes_part v (part_of v.place.mode text) text (without_leading 32 text) s free going j))

  -- ---- blocks

  -- the result waits on
  waits_on : (v : View) (result : TapResult) (w : Waiting) (s : TapState) → is_summary v.place.mode ≡ false → Taken k v result w s
      → Held k (at_place v (with_block (block_of result w) v.place)) (waits w s)
  waits_on v result w s going t = inr (record {
    w = w;
    result = result;
    waits = refl;
    place = refl;
    taken = record {
      name = t.name;
      idle = record {
        stacked = t.idle.stacked;
        mode = t.idle.mode;
        counts = t.idle.counts;
        none = refl;
        bare = t.idle.bare;
        whole = λ all. record { all = (t.idle.whole all).all; account = (t.idle.whole all).account };
      };
      stands = t.stands;
    };
    going = going;
  })

  -- the result, with more of its block
  grown : (v : View) (result : TapResult) (w : Waiting) (margin elapsed : List ℕ) (s : TapState) → Taken k v result w s → Taken k v result (record w { margin = margin; elapsed = elapsed }) s
  grown v result w margin elapsed s t = record {
    name = t.name;
    idle = t.idle;
    stands = record { verdict = t.stands.verdict; reason = t.stands.reason; named = t.stands.named };
  }

  -- after the result
  after : (v : View) (result : TapResult) (w : Waiting) (read : LineRead) (s : TapState) → Line' k (result_said result v) read s → Line' k v (after_result (block_of result w) read) s
  after v result w read s line = λ fine.
      subst (λ (said : List Said). Held k (record {
        counts = counted (flat_map results_in read.said) (outcome_counted (outcome_of result) v.counts);
        said = said;
        place = read.place;
      }) s) (append_assoc v.said (Test result ∷ []) read.said) (line fine)

  takes_next_after : (v : View) (result : TapResult) (w : Waiting) (text : List ℕ) (s : TapState) → v.place.block ≡ None → is_summary v.place.mode ≡ false → Taken k v result w s
      → Line' k v (after_result (block_of result w) (next_read text v.place)) (next_taken text (result_finished w s))
  takes_next_after v result w text s free going t =
      after v result w (next_read text v.place) (next_taken text (result_finished w s)) (takes_next (result_said result v) text (result_finished w s) free going (finishes k v result w s t))

  none_if : {A : Type 0} (o : Option A) → is_some o ≡ false → o ≡ None
  none_if (Some a) h = absurd (true≢false h)
  none_if None h = refl

  spanned_named : (description label name new : List ℕ) (span : Option Id) (id : Id) → is_some span ≡ false → new ≡ label → IsNamed description label span name → IsNamed description [] (Some id) new
  spanned_named description label name new span id bare is (inl h) = inr (inl (refl, is ∙ h, refl))
  spanned_named description label name new span id bare is (inr (inl h)) = absurd (true≢false (sym h.2 ∙ bare))
  spanned_named description label name new span id bare is (inr (inr h)) = inl (sym h.0)

  -- a line of the block is in a span of the result
  in_span : (v : View) (result : TapResult) (w : Waiting) (s : TapState) → is_some w.span ≡ false → Taken k v result w s
      → Taken k v result (record w { span = Some (id_of s.next); label = [] }) (test_span_opened w.label w.parent s)
  in_span v result w s bare t =
      let idle = subst (λ (span : Option Id). Idle k (record v { counts = outcome_counted (outcome_of result) v.counts }) (entry span t.name) s) (none_if w.span bare) t.idle in
      record {
        name = w.label;
        idle = opens_span k (record v { counts = outcome_counted (outcome_of result) v.counts }) [] w.label w.parent s idle;
        stands = record {
          verdict = t.stands.verdict;
          reason = t.stands.reason;
          named = spanned_named (description_of result) w.label t.name w.label w.span (id_of s.next) bare refl t.stands.named;
        };
      }

  abbrev detail_said : List ℕ → View → View
  detail_said text v = record v { said = v.said ++ Detail text ∷ [] }

  shows_detail : (v : View) (result : TapResult) (w : Waiting) (text : List ℕ) (s : TapState) → Taken k v result w s → Taken k (detail_said text v) result w (tap_line_emitted OutputLine text w.span s)
  shows_detail v result w text s t =
      let fields = message_field text ∷ [] in
      let row = row_of Info fields w.span (entry w.span t.name) (core s) in
      record {
        name = t.name;
        idle = emits k (record v { counts = outcome_counted (outcome_of result) v.counts }) (entry w.span t.name) OutputLine Info fields w.span (Shown (Detail text) row) s refl (refl, refl) t.idle;
        stands = t.stands;
      }

  abbrev detailed : List ℕ → TextPlace → View → View
  detailed text place v = record v { said = v.said ++ Detail text ∷ []; place = place }

  details : (v : View) (result : TapResult) (w : Waiting) (text : List ℕ) (s : TapState) → is_summary v.place.mode ≡ false → Taken k v result w s
      → Held k (detailed text (with_block (block_of result w) v.place) v) (detail_taken w text s)
  unfolding detail_taken
  details v result w text s going t = by (is_some w.span) refl where
    by : (test : Bool) → is_some w.span ≡ test
        → Held k (detailed text (with_block (block_of result w) v.place) v)
        (waits (if test then w else record w { span = Some (id_of s.next); label = [] })
        (tap_line_emitted OutputLine text (if test then w else record w { span = Some (id_of s.next); label = [] }).span (if test then s else test_span_opened w.label w.parent s)))
    by true is = waits_on (detail_said text v) result w (tap_line_emitted OutputLine text w.span s) going (shows_detail v result w text s t)
    by false is =
        waits_on (detail_said text v) result (record w { span = Some (id_of s.next); label = [] })
        (tap_line_emitted OutputLine text (Some (id_of s.next)) (test_span_opened w.label w.parent s)) going
        (shows_detail v result (record w { span = Some (id_of s.next); label = [] }) text (test_span_opened w.label w.parent s) (in_span v result w s is t))

  times_or_emits : (v : View) (result : TapResult) (time : Option ℕ) (w : Waiting) (rest : List ℕ) (s : TapState) → is_summary v.place.mode ≡ false → Taken k v result w s
      → Held k (then_read v (record { said = if is_some time then [] else Detail rest ∷ []; place = with_block (block_of result w) v.place })) (timed_or_emitted time w rest s)
  times_or_emits v result (Some nanoseconds) w rest s going t =
      silently k v (with_block (block_of result w) v.place) (result_timed w nanoseconds s)
      (waits_on v result (record w { elapsed = length_text nanoseconds }) s going (grown v result w w.margin (length_text nanoseconds) s t))
  times_or_emits v result None w rest s going t = details v result w rest s going t

  takes_inside : (v : View) (result : TapResult) (w : Waiting) (rest : List ℕ) (s : TapState) → v.place.block ≡ None → is_summary v.place.mode ≡ false → Taken k v result w s
      → Line' k v (inside_read (block_of result w) rest v.place) (inside_taken w rest s)
  unfolding inside_taken
  takes_inside v result w rest s free going t =
      both (Line' k v) (bytes_eq rest (codes "...")) (saying (Test result) v.place)
      (record { said = if is_some (duration_of rest) then [] else Detail rest ∷ []; place = with_block (block_of result w) v.place })
      (result_finished w s) (timed_or_emitted (duration_of rest) w rest s)
      (λ last fine. inl (finishes k v result w s t, free)) (λ more fine. times_or_emits v result (duration_of rest) w rest s going t)

  takes_outside : (v : View) (result : TapResult) (w : Waiting) (text : List ℕ) (s : TapState) → v.place.block ≡ None → is_summary v.place.mode ≡ false → Taken k v result w s
      → Line' k v (outside_read (block_of result w) text v.place) (outside_taken w text s)
  unfolding outside_taken
  takes_outside v result w text s free going t =
      both (Line' k v) (is_empty (without_leading 32 text)) (saying (Detail []) (with_block (block_of result w) v.place)) (after_result (block_of result w) (next_read text v.place))
      (detail_taken w [] s) (next_taken text (result_finished w s))
      (λ blank fine. details v result w [] s going t) (λ full. takes_next_after v result w text s free going t)

  takes_block : (v : View) (result : TapResult) (w : Waiting) (text : List ℕ) (s : TapState) → v.place.block ≡ None → is_summary v.place.mode ≡ false → Taken k v result w s
      → Line' k v (block_read (block_of result w) text (after_mark w.margin text) v.place) (block_taken w text s)
  unfolding block_taken
  takes_block v result w text s free going t = by (after_mark w.margin text) refl where
    by : (o : Option (List ℕ)) → after_mark w.margin text ≡ o → Line' k v (block_read (block_of result w) text (after_mark w.margin text) v.place) (block_taken w text s)
    by (Some rest) is = rw is (takes_inside v result w rest s free going t)
    by None is = rw is (takes_outside v result w text s free going t)

  takes_after : (v : View) (result : TapResult) (w : Waiting) (text : List ℕ) (s : TapState) → v.place.block ≡ None → is_summary v.place.mode ≡ false → Taken k v result w s
      → Line' k v (after_read (block_of result w) text v.place) (after_taken w text s)
  unfolding after_taken
  takes_after v result w text s free going t =
      both (Line' k v) (not (is_empty w.margin)) (block_read (block_of result w) text (after_mark w.margin text) v.place)
      (if begins_block w.column text then silent (with_block (record (block_of result w) { margin = first_part 45 text }) v.place) else after_result (block_of result w) (next_read text v.place))
      (block_taken w text s) (if begins_block w.column text then block_begun w text s else next_taken text (result_finished w s))
      (λ begun'. takes_block v result w text s free going t)
      (λ unbegun. both (Line' k v) (begins_block w.column text) (silent (with_block (record (block_of result w) { margin = first_part 45 text }) v.place))
      (after_result (block_of result w) (next_read text v.place)) (block_begun w text s) (next_taken text (result_finished w s))
      (λ block fine. silently k v (with_block (record (block_of result w) { margin = first_part 45 text }) v.place) (block_begun w text s)
      (waits_on v result (record w { margin = first_part 45 text }) s going (grown v result w (first_part 45 text) w.elapsed s t)))
      (λ other. takes_next_after v result w text s free going t))

  -- ---- lines of text

  abbrev freed : View → View
  freed v = at_place v (record v.place { block = None })

  -- nothing waits now
  unwaiting : (v : View) (s : TapState) → Idle k v [] s → Idle k (freed v) [] (record s { braced = None; waiting = None })
  unwaiting v s j = record {
    stacked = j.stacked;
    mode = j.mode;
    counts = j.counts;
    none = refl;
    bare = refl;
    whole = λ all. record { all = (j.whole all).all; account = (j.whole all).account };
  }

  untaken : (v : View) (result : TapResult) (w : Waiting) (s : TapState) → Taken k v result w (record s { waiting = None }) → Taken k (freed v) result w (record s { braced = None; waiting = None })
  untaken v result w s t = record {
    name = t.name;
    idle = record {
      stacked = t.idle.stacked;
      mode = t.idle.mode;
      counts = t.idle.counts;
      none = refl;
      bare = refl;
      whole = λ all. record { all = (t.idle.whole all).all; account = (t.idle.whole all).account };
    };
    stands = t.stands;
  }

  takes_text : (v : View) (text : List ℕ) (s : TapState) → is_summary v.place.mode ≡ false → Held k v s
      → Line' k v (text_read v.place.block text (record v.place { block = None })) (text_taken text s)
  unfolding text_taken unheld_taken
  takes_text v text s going (inl h) =
      let j = h.0 in
      subst (λ (block : Option Block). Line' k v (text_read block text (freed v).place) (text_taken text s)) (sym h.1)
      (subst (λ (braced : Option Braced). Line' k v (next_read text (freed v).place) (text_taken_if braced text (record s { braced = None }))) (sym j.bare)
      (subst (λ (waiting : Option Waiting). Line' k v (next_read text (freed v).place) (taken_if waiting text (record s { braced = None; waiting = None }))) (sym j.none)
      (takes_next (freed v) text (record s { braced = None; waiting = None }) refl going (unwaiting v s j))))
  takes_text v text s going (inr p) =
      subst (λ (block : Option Block). Line' k v (text_read block text (freed v).place) (text_taken text s)) (sym p.place)
      (subst (λ (braced : Option Braced). Line' k v (after_read (block_of p.result p.w) text (freed v).place) (text_taken_if braced text (record s { braced = None }))) (sym p.taken.idle.bare)
      (subst (λ (waiting : Option Waiting). Line' k v (after_read (block_of p.result p.w) text (freed v).place) (taken_if waiting text (record s { braced = None; waiting = None }))) (sym p.waits)
      (takes_after (freed v) p.result p.w text (record s { braced = None; waiting = None }) refl going (untaken v p.result p.w s p.taken))))

  ends_the_summary : (v : View) (text : List ℕ) (s : TapState) → v.place.block ≡ None → Idle k v [] s → Line' k v (summary_read text v.place) (summary_taken text s)
  unfolding summary_taken
  ends_the_summary v text s free j =
      let fields = message_field text ∷ [] in
      let t : TapState = record s { mode = Over } in
      let row = row_of Error fields None [] (core t) in
      let over = moves k v Over (core s) j in
      both (Line' k v) (ends_summary text) (saying (SummaryEnd text) (record v.place { mode = Over })) (silent v.place)
      (summary_over text s) s
      (λ last fine. choose (Held k (then_read v (saying (SummaryEnd text) (record v.place { mode = Over })))) (is_failed_summary text && not (tally_has_failure s.tally))
      (error_emitted text None t) t
      (inl (emits k (at_place v (record v.place { mode = Over })) [] Failure Error fields None (Shown (SummaryEnd text) row) (record t { tally = broken_tally s.tally }) refl (refl, refl) over, free))
      (inl (omits k (at_place v (record v.place { mode = Over })) [] (Omitted (SummaryEnd text)) t refl refl over, free)))
      (λ more. quiet k v s free j)

  same_mode : (v : View) (s : TapState) → Held k v s → s.mode ≡ v.place.mode
  same_mode v s (inl h) = h.0.mode
  same_mode v s (inr p) = p.taken.idle.mode

  in_summary : (v : View) (text : List ℕ) (s : TapState) → v.place.mode ≡ Summary → Held k v s → Line' k v (summary_read text v.place) (summary_taken text s)
  in_summary v text s is (inl h) = ends_the_summary v text s h.1 h.0
  in_summary v text s is (inr p) = absurd (true≢false (ap is_summary (sym is) ∙ p.going))

  takes_in : (v : View) (mode : Mode) (text : List ℕ) (s : TapState) → v.place.mode ≡ mode → Held k v s → Line' k v (read_in mode text v.place) (taken_in mode text s)
  takes_in v Bailed text s is h = λ fine. silently k v v.place s h
  takes_in v Summary text s is h = in_summary v text s is h
  takes_in v Start text s is h = takes_text v text s (ap is_summary is) h
  takes_in v Over text s is h = takes_text v text s (ap is_summary is) h
  takes_in v Script text s is h = takes_text v text s (ap is_summary is) h
  takes_in v File text s is h = takes_text v text s (ap is_summary is) h
  takes_in v Judged text s is h = takes_text v text s (ap is_summary is) h

  takes_line : (v : View) (line : List ℕ) (s : TapState) → Held k v s → Line' k v (read_in v.place.mode (without_end (codes "\r") line) v.place) (tap_line_taken line s)
  unfolding tap_line_taken
  takes_line v line s h =
      subst (λ (mode : Mode). Line' k v (read_in v.place.mode (without_end (codes "\r") line) v.place) (taken_in mode (without_end (codes "\r") line) s)) (sym (same_mode v s h))
      (takes_in v v.place.mode (without_end (codes "\r") line) s refl h)

  same_block : (v : View) (s : TapState) → Held k v s → is_in_block s.waiting ≡ has_begun v.place.block
  same_block v s (inl h) = ap is_in_block h.0.none ∙ sym (ap has_begun h.1)
  same_block v s (inr p) = ap is_in_block p.waits ∙ sym (ap has_begun p.place)

  known_line : (v : View) (line : List ℕ) (s : TapState) → Held k v s
      → Line' k v (if is_skipped line && not (has_begun v.place.block) then silent v.place else read_in v.place.mode (without_end (codes "\r") line) v.place)
      (if is_passed_over line s then s else tap_line_taken line s)
  known_line v line s h =
      subst (λ (begun' : Bool). Line' k v (if is_skipped line && not (has_begun v.place.block) then silent v.place else read_in v.place.mode (without_end (codes "\r") line) v.place)
      (if is_skipped line && not begun' then s else tap_line_taken line s)) (sym (same_block v s h))
      (both (Line' k v) (is_skipped line && not (has_begun v.place.block)) (silent v.place) (read_in v.place.mode (without_end (codes "\r") line) v.place) s (tap_line_taken line s)
      (λ blank fine. silently k v v.place s h) (λ full. takes_line v line s h))

  -- ---- the end

  abbrev ended_view : View → View
  ended_view v = record {
    counts = counted (flat_map results_in (said_at_end v.place.block)) v.counts;
    said = v.said ++ said_at_end v.place.block;
    place = v.place;
  }

  flush : (v : View) (s : TapState) → Held k v s → Idle k (ended_view v) [] (flushed (brace_ended s))
  unfolding flushed brace_ended
  flush v s (inl h) =
      let j = h.0 in
      subst (λ (block : Option Block). Idle k (record v { counts = counted (flat_map results_in (said_at_end block)) v.counts; said = v.said ++ said_at_end block }) [] (flushed (brace_ended s))) (sym h.1)
      (subst (λ (braced : Option Braced). Idle k (record v { said = v.said ++ [] }) [] (flushed (brace_ended_if braced (record s { braced = None })))) (sym j.bare)
      (subst (λ (waiting : Option Waiting). Idle k (record v { said = v.said ++ [] }) [] (flushed_if waiting (record s { braced = None; waiting = None }))) (sym j.none)
      (says k v [] (v.said ++ []) (record s { braced = None; waiting = None }) (sym (append-nil v.said)) (unwaiting' v s j))))
    where
      unwaiting' : (v : View) (s : TapState) → Idle k v [] s → Idle k v [] (record s { braced = None; waiting = None })
      unwaiting' v s j = record {
        stacked = j.stacked;
        mode = j.mode;
        counts = j.counts;
        none = refl;
        bare = refl;
        whole = λ all. record { all = (j.whole all).all; account = (j.whole all).account };
      }
  flush v s (inr p) =
      subst (λ (block : Option Block). Idle k (record v { counts = counted (flat_map results_in (said_at_end block)) v.counts; said = v.said ++ said_at_end block }) [] (flushed (brace_ended s))) (sym p.place)
      (subst (λ (braced : Option Braced). Idle k (result_said p.result v) [] (flushed (brace_ended_if braced (record s { braced = None })))) (sym p.taken.idle.bare)
      (subst (λ (waiting : Option Waiting). Idle k (result_said p.result v) [] (flushed_if waiting (record s { braced = None; waiting = None }))) (sym p.waits)
      (replaced (result_finished p.w (record s { braced = None; waiting = None })) (finishes k (freed v) p.result p.w (record s { braced = None; waiting = None }) (untaken v p.result p.w s p.taken)))))
    where
      replaced : (t : TapState) → Idle k (result_said p.result (freed v)) [] t → Idle k (result_said p.result v) [] t
      replaced t j = record { stacked = j.stacked; mode = j.mode; counts = j.counts; none = j.none; bare = j.bare; whole = j.whole }

  ends_heading : (v : View) (s : TapState) → Idle k v [] s → Idle k v [] (heading_ended s)
  unfolding heading_ended
  ends_heading v s j = by s.heading where
    by : (heading : Option Heading) → Idle k v [] (heading_ended_if heading (record s { heading = None }))
    by (Some heading) = fails_with k v [] (unfinished_text heading.name) s.subtest.span (record s { heading = None }) (unfinished_apart heading.name) j
    by None = j

  ends_input : (v : View) (s : TapState) → Idle k v [] s → Idle k v [] (input_ended s)
  unfolding input_ended
  ends_input v s j = by s.mode where
    by : (mode : Mode) → Idle k v [] (input_ended_in mode s)
    by Start = fails_with k v [] (codes "no line of TAP") None s refl j
    by Summary = fails_with k v [] (codes "unfinished summary") None s refl j
    by Script = j
    by File = j
    by Judged = j
    by Over = j
    by Bailed = j

  ends_all : (v : View) (s : TapState) → Held k v s → Idle k (unfiled (ended_view v)) [] (all_ended s)
  unfolding all_ended
  ends_all v s h =
      let e = ended_view v in
      let t = heading_ended (flushed (brace_ended s)) in
      let i = ends_heading e (flushed (brace_ended s)) (flush v s h) in
      ends_input (unfiled e) (script_closed (deeper_left 0 t)) (closes_script k e (deeper_left 0 t) (none_left k e t i) (leaves_deeper k e 0 t i))

-- ---- all lines

abbrev next_line : Fixed → TapState → Fixed
next_line k s = record k { calls = k.calls ++ s.queue.ready }

handed : (k : Fixed) (v : View) (x : List OpenSpan) (s : TapState) → Idle k v x s → Idle (next_line k s) v x (handed_out s).source
handed k v x s j = record {
  stacked = j.stacked;
  mode = j.mode;
  counts = j.counts;
  none = j.none;
  bare = j.bare;
  whole = λ all. record {
    all = (j.whole all).all;
    account = subst (λ (calls : List Call). Account k.first calls v.said (x ++ stack (core s)) s.next) (sym (append-nil (k.calls ++ s.queue.ready))) (j.whole all).account;
  };
}

returns_ready : (k : Fixed) (v : View) (s : TapState) → Held k v s → Held (next_line k s) v (handed_out s).source
returns_ready k v s (inl h) = inl (handed k v [] s h.0, h.1)
returns_ready k v s (inr p) = inr (record {
  w = p.w;
  result = p.result;
  waits = p.waits;
  place = p.place;
  taken = record {
    name = p.taken.name;
    idle = handed k (record v { counts = outcome_counted (outcome_of p.result) v.counts }) (entry p.w.span p.taken.name) (record s { waiting = None }) p.taken.idle;
    stands = p.taken.stands;
  };
  going = p.going;
})

-- these calls were made before, and then those of these lines
abbrev after_calls : Fixed → List Call → Fixed
after_calls k calls = record k { calls = k.calls ++ calls }

nothing_made : (k : Fixed) (v : View) (s : TapState) → Held k v s → Held (after_calls k []) v s
nothing_made k v s h = subst (λ (calls : List Call). Held (record k { calls = calls }) v s) (sym (append-nil k.calls)) h

abbrev read_by : View → List ℕ → View
read_by v line = record {
  counts = counted (flat_map results_in (line_read line v.place).said) v.counts;
  said = v.said ++ (line_read line v.place).said;
  place = (line_read line v.place).place;
}

one_line : (k : Fixed) (v : View) (s : TapState) (line : List ℕ) → opens_brace (line_read line v.place).place.block ≡ false → Held k v s
    → Held (after_calls k (interpret_line tap_takes s line).calls) (read_by v line) (interpret_line tap_takes s line).source
one_line k v s line fine h = by (is_utf8 line) fine where
  by : (test : Bool) → opens_brace (if test then (if is_skipped line && not (has_begun v.place.block) then silent v.place else read_in v.place.mode (without_end (codes "\r") line) v.place) else silent v.place).place.block ≡ false
      → Held (after_calls k (if test then interpreted_step s (tap_takes s line (document line)) else interpreted_step s None).calls)
      (then_read v (if test then (if is_skipped line && not (has_begun v.place.block) then silent v.place else read_in v.place.mode (without_end (codes "\r") line) v.place) else silent v.place))
      (if test then interpreted_step s (tap_takes s line (document line)) else interpreted_step s None).source
  by true fine =
      returns_ready k _ (if is_passed_over line s then s else tap_line_taken line s) (known_line k v line s h fine)
  by false fine = nothing_made k _ s (silently k v v.place s h)

counted_more : (first more : List TapResult) (counts : Outcomes) → counted (first ++ more) counts ≡ counted more (counted first counts)
counted_more [] more counts = refl
counted_more (result ∷ first) more counts = counted_more first more (outcome_counted (outcome_of result) counts)

counted_both : (first more : List Said) (counts : Outcomes) → counted (flat_map results_in (first ++ more)) counts ≡ counted (flat_map results_in more) (counted (flat_map results_in first) counts)
counted_both first more counts =
    ap (λ (results : List TapResult). counted results counts) (flat_map-append results_in first more) ∙ counted_more (flat_map results_in first) (flat_map results_in more) counts

-- after all lines
record AfterLines (k : Fixed) (v : View) (lines : List (List ℕ)) (interpreted : Interpreted TapState) : Type 0 where
  view : View
  held : Held (after_calls k interpreted.calls) view interpreted.source
  said : (ended_view k view).said ≡ v.said ++ said_from v.place lines
  counts : (ended_view k view).counts ≡ counted (flat_map results_in (said_from v.place lines)) v.counts

after_both : (k : Fixed) (v : View) (line : List ℕ) (lines : List (List ℕ)) (first next : Interpreted TapState)
    → AfterLines (after_calls k first.calls) (read_by v line) lines next → AfterLines k v (line ∷ lines) (then_interpreted first next)
after_both k v line lines first next a =
    let read = (line_read line v.place).said in
    let rest = said_from (line_read line v.place).place lines in
    record {
      view = a.view;
      held = subst (λ (calls : List Call). Held (record k { calls = calls }) a.view next.source) (append_assoc k.calls first.calls next.calls) a.held;
      said = a.said ∙ append_assoc v.said read rest;
      counts = a.counts ∙ sym (counted_both read rest v.counts);
    }

or_parts : (a b : Bool) → (a || b) ≡ false → (a ≡ false) × (b ≡ false)
or_parts true b h = absurd (true≢false h)
or_parts false b h = (refl, h)

all_lines : (lines : List (List ℕ)) (k : Fixed) (v : View) (s : TapState) → has_braces_from v.place lines ≡ false → Held k v s → AfterLines k v lines (interpret tap_takes s lines)
all_lines [] k v s none h = record { view = v; held = nothing_made k v s h; said = refl; counts = refl }
all_lines (line ∷ lines) k v s none h =
    let parts = or_parts (opens_brace (line_read line v.place).place.block) (has_braces_from (line_read line v.place).place lines) none in
    let first = interpret_line tap_takes s line in
    after_both k v line lines first (interpret tap_takes first.source lines)
    (all_lines lines (after_calls k first.calls) (read_by v line) first.source parts.1 (one_line k v s line parts.0 h))

abbrev first_view : View
first_view = record { counts = no_outcomes; said = []; place = at_start }

at_first : (is_failed_only : Bool) (next : ℕ) (moment : Moment) → Held (record { is_all = not is_failed_only; first = next; calls = [] }) first_view (nothing_run is_failed_only next moment)
at_first is_failed_only next moment = inl (
  record {
    stacked = (refl, refl, refl);
    mode = refl;
    counts = refl;
    none = refl;
    bare = refl;
    whole = λ all. record {
      all = not_true is_failed_only all;
      account = record { items = []; seen = refl; says = refl; right = tt };
    };
  },
  refl,
) where
  not_true : (test : Bool) → not test ≡ true → test ≡ false
  not_true true h = absurd (true≢false (sym h))
  not_true false h = refl

-- each line of TAP is shown once
pub each_line_shown : (next : ℕ) (moment : Moment) (lines : List (List ℕ)) → has_braces lines ≡ false
    → ShowsEachOnce (said_by lines) (rows_of next (calls_before_counts (nothing_run false next moment) lines))
each_line_shown next moment lines none =
    let s = nothing_run false next moment in
    let k : Fixed = record { is_all = true; first = next; calls = [] } in
    let a = all_lines lines k first_view s none (at_first false next moment) in
    let j = ends_all (after_calls k (interpret tap_takes s lines).calls) a.view (interpret tap_takes s lines).source a.held in
    let account = (j.whole refl).account in
    record {
      items = account.items;
      rows_are = sym (ap (λ (seen : Seen). seen.rows) account.seen);
      said_is = account.says ∙ a.said;
      right = account.right;
    }

-- the counts are those of the results
pub counts_of_results : (is_failed_only : Bool) (next : ℕ) (moment : Moment) (lines : List (List ℕ)) → has_braces lines ≡ false
    → outcomes_in (after_all (nothing_run is_failed_only next moment) lines).tally ≡ counted (results_of lines) no_outcomes
counts_of_results is_failed_only next moment lines none =
    let s = nothing_run is_failed_only next moment in
    let k : Fixed = record { is_all = not is_failed_only; first = next; calls = [] } in
    let a = all_lines lines k first_view s none (at_first is_failed_only next moment) in
    let j = ends_all (after_calls k (interpret tap_takes s lines).calls) a.view (interpret tap_takes s lines).source a.held in
    j.counts ∙ a.counts

-- ---- failures

nonzero : (n : ℕ) → not (one_more n == 0) ≡ true
nonzero n = grind arith

one_failed : (verdict : Verdict) (counts : Outcomes) (more : Bool) → (not ((outcome_counted verdict counts).failed == 0) || more) ≡ (not (counts.failed == 0) || (is_failure verdict || more))
one_failed Failed counts more = ap (λ b. b || more) (nonzero counts.failed) ∙ sym (or_true (not (counts.failed == 0))) where
  or_true : (b : Bool) → (b || true) ≡ true
  or_true true = refl
  or_true false = refl
one_failed Passed counts more = refl
one_failed Skipped counts more = refl
one_failed Todo counts more = refl

failed_counted : (results : List TapResult) (counts : Outcomes) → not ((counted results counts).failed == 0) ≡ (not (counts.failed == 0) || some_failed results)
failed_counted [] counts = or_false (not (counts.failed == 0)) where
  or_false : (b : Bool) → b ≡ (b || false)
  or_false true = refl
  or_false false = refl
failed_counted (result ∷ others) counts =
    failed_counted others (outcome_counted (outcome_of result) counts) ∙ one_failed (outcome_of result) counts (some_failed others)

-- a run fails exactly if a result failed, or something else did
pub fails_by_results : (is_failed_only : Bool) (next : ℕ) (moment : Moment) (lines : List (List ℕ)) → has_braces lines ≡ false →
    let tally = (after_all (nothing_run is_failed_only next moment) lines).tally in
    tally_has_failure tally ≡ (tally.is_broken || some_failed (results_of lines))
fails_by_results is_failed_only next moment lines none =
    let tally = (after_all (nothing_run is_failed_only next moment) lines).tally in
    ap (λ b. tally.is_broken || b)
    (ap (λ (counts : Outcomes). not (counts.failed == 0)) (counts_of_results is_failed_only next moment lines none) ∙ failed_counted (results_of lines) no_outcomes)
