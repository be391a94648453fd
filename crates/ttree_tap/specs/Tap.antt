-- TAP: what each line means.
use Rattle.std.specs.Prelude.{ℕ, ◌+◌, ◌-◌, ◌^◌, ◌==◌, ◌&&◌, nat_lt, nat_le, Bool, true, false, not, if◌then◌else◌, List, [], ◌∷◌, ◌++◌, length, Option, Some, None, is_some, codes, bytes_eq, min}
use Rattle.json.specs.Json.{Json}
use Rattle.tracing_tree_spans.specs.Registry.Ids.{id_of}
use Rattle.tracing_tree_base.specs.declared.context.Id.{Id}
use Rattle.tracing_tree_base.specs.declared.context.Moment.{Moment}
use Rattle.tracing_tree_base.specs.declared.field.Field.{Field}
use Rattle.tracing_tree_base.specs.declared.style.Level.{Level}
use Rattle.tracing_tree_base.specs.declared.style.Level.TheVariants.{Trace, Debug, Error, Info, Warn}
use Rattle.tracing_tree_layer.specs.declared.call.Call.{Call}
use Rattle.tracing_tree_lines.specs.Lines.Spelled.{is_skipped}
use Rattle.ttree_source.specs.Source.{Step}
use Rattle.ttree_source.specs.declared.notes.Problem.{Problem}
use Rattle.ttree_source.specs.declared.notes.Problem.TheVariants.{Object}
use Rattle.ttree_source.specs.Counts.{one_more}
use Rattle.ttree_source.specs.Marks.{after_mark, is_empty}
use Rattle.ttree_source.specs.Calls.{close_call, event_call, message_field, span_call}
use Rattle.ttree_tap.specs.declared.line.Kind.{Kind}
use Rattle.ttree_tap.specs.declared.line.Kind.TheVariants.{Passing, Failing, Plan, BailOut, Heading as HeadingLine, Comment, Frame, Brace, Output}
use Rattle.ttree_tap.specs.declared.queue.Role.{Role}
use Rattle.ttree_tap.specs.declared.queue.Role.TheVariants.{Good, End, Failure, Output as OutputLine, Comment as CommentLine, Opening, Closing}
use Rattle.ttree_tap.specs.declared.tally.Tally.{Tally}
use Rattle.ttree_tap.specs.declared.tally.Verdict.{Verdict}
use Rattle.ttree_tap.specs.declared.tally.Verdict.TheVariants.{Passed, Failed, Skipped, Todo as TodoVerdict}
use Rattle.ttree_tap.specs.declared.tap.Mode.{Mode}
use Rattle.ttree_tap.specs.declared.tap.Mode.TheVariants.{Start, Script, File, Judged, Summary, Over, Bailed}
use Rattle.ttree_tap.specs.declared.tap.prove.Part.{Part}
use Rattle.ttree_tap.specs.declared.tap.prove.Part.TheVariants.{File as FileLine, Verdict as VerdictLine, Stamp as StampLine, Summary as SummaryLine, Line}
use Rattle.ttree_tap.specs.declared.tap.braces.Braced.{Braced}
use Rattle.ttree_tap.specs.declared.tap.braces.Place.{Place}
use Rattle.ttree_tap.specs.declared.tap.braces.Place.TheVariants.{Inside, After, Beside}
use Rattle.ttree_tap.specs.declared.tap.results.Mark.{Mark}
use Rattle.ttree_tap.specs.declared.tap.subtests.Heading.{Heading}
use Rattle.ttree_tap.specs.declared.tap.subtests.Subtest.{Subtest}
use Rattle.ttree_tap.specs.declared.tap.waiting.Waiting.{Waiting}
use Rattle.ttree_source.specs.Length.{length_text}
use Rattle.ttree_tap.specs.Line.{begins_inside, begins_summary, comment_of, ends_summary, first_number, is_braced, is_count, is_failed_summary, is_file, is_stamp, kind_of_line, name_of_file, plan_reason, planned, tail_of_file, unbraced, verdict_level, verdict_time}
use Rattle.ttree_tap.specs.Queue.{QueueState, call_added, claimed, empty_queue, is_held}
use Rattle.ttree_tap.specs.Strings.{first_part, rest_after, unescaped, without_end, without_leading, without_margin}
use Rattle.ttree_tap.specs.Tally.{broken_tally, counted_tally, level_of_verdict, no_counts, tally_fields, tally_has_failure, verdict_of}
use Rattle.ttree_tap.specs.Texts.{begins_block, directive_in, duration_of, elapsed_text, end_text, good_text, label_of, missing_text, no_plan_text, plan_text, reason_in, result_end_fields, result_name, time_fields, unfinished_text}

-- What is known after a line: the id of the next span, the moment of all calls, which lines are
-- read, the innermost subtest that runs (or the script), its ancestors with the nearest first, the
-- name of a subtest that may open, the result that waits for its block, the result that may open
-- braces, the counts, and the calls that weren't returned yet.
pub record TapState : Type 0 where
  pub next : ℕ
  pub moment : Moment
  pub mode : Mode
  pub subtest : Subtest
  pub outer : List Subtest
  pub heading : Option Heading
  pub waiting : Option Waiting
  pub braced : Option Braced
  pub tally : Tally
  pub queue : QueueState

abbrev pub new_subtest : ℕ → Option Id → List ℕ → Subtest
new_subtest column span name = record {
  column = column;
  span = span;
  name = name;
  planned = None;
  ran = 0;
  last = 0;
  result = None;
}

-- a script without a span
abbrev pub script : Subtest
script = new_subtest 0 None []

-- no line has come
abbrev pub nothing_run : Bool → ℕ → Moment → TapState
nothing_run is_failed_only next moment = record {
  next = next;
  moment = moment;
  mode = Start;
  subtest = script;
  outer = [];
  heading = None;
  waiting = None;
  braced = None;
  tally = no_counts;
  queue = empty_queue is_failed_only;
}

-- ---- rows

abbrev pub call_queued : Role → Call → TapState → TapState
call_queued role call s = record s { queue = call_added role call s.queue }

-- an event in this span
abbrev pub row_emitted : Role → Level → List ℕ → List Field → Option Id → TapState → TapState
row_emitted role level text rest span s =
    call_queued role (event_call s.moment level (message_field text ∷ rest) span) s

abbrev pub tap_line_emitted : Role → List ℕ → Option Id → TapState → TapState
tap_line_emitted role text span s = row_emitted role Info text [] span s

-- a failure that isn't a result
abbrev pub error_emitted : List ℕ → Option Id → TapState → TapState
error_emitted text span s =
    row_emitted Failure Error text [] span (record s { tally = broken_tally s.tally })

-- the lines before a test of this name that belong to it
abbrev pub lines_claimed : List ℕ → TapState → TapState
lines_claimed name s = record s { queue = claimed name s.queue }

-- a new span in this one; its id is the next
abbrev pub test_span_opened : List ℕ → Option Id → TapState → TapState
test_span_opened name parent s =
    record (call_queued Opening (span_call s.moment name [] parent) (lines_claimed name s)) {
      next = one_more s.next;
    }

-- the id of a span that is left out is free again: all later spans were in it
abbrev pub next_after : Id → TapState → ℕ
next_after id s = if is_held s.queue then id.0 else s.next

abbrev pub test_span_closed : Id → Option Id → TapState → TapState
test_span_closed id parent s =
    record (call_queued Closing (close_call s.moment id parent) s) { next = next_after id s }

abbrev pub closed_if : Option Id → Option Id → TapState → TapState
closed_if (Some id) parent s = test_span_closed id parent s
closed_if None parent s = s

-- ---- the result that waits

abbrev pub span_or : Option Id → Option Id → Option Id
span_or (Some id) parent = Some id
span_or None parent = parent

abbrev pub role_in : Option Id → Role
role_in (Some id) = End
role_in None = Good

abbrev pub role_of : Verdict → Option Id → Role
role_of Failed span = Failure
role_of Passed span = role_in span
role_of Skipped span = role_in span
role_of TodoVerdict span = role_in span

-- a result ends: an event in its span, which closes, or in the parent span
unfoldable pub result_finished : Waiting → TapState → TapState
result_finished w s =
    closed_if w.span w.parent
    (row_emitted (role_of w.verdict w.span) (level_of_verdict w.verdict)
    (end_text w.verdict w.label)
    (result_end_fields w.reason w.elapsed) (span_or w.span w.parent) (lines_claimed w.label s))

abbrev pub flushed_if : Option Waiting → TapState → TapState
flushed_if (Some w) s = result_finished w s
flushed_if None s = s

unfoldable pub flushed : TapState → TapState
flushed s = flushed_if s.waiting (record s { waiting = None })

-- ---- subtests

unfoldable pub subtest_opened : ℕ → List ℕ → TapState → TapState
subtest_opened column name s =
    record (test_span_opened name s.subtest.span s) {
      subtest = new_subtest column (Some (id_of s.next)) name;
      outer = s.subtest ∷ s.outer;
    }

-- a level is four columns, unless the first line is less deep
abbrev pub inner_column : Heading → ℕ → ℕ
inner_column heading column = min column (min (heading.column + 4) (2 ^ 64 - 1))

-- a line deeper than the name of a subtest opens it
abbrev pub come_to : Heading → ℕ → TapState → TapState
come_to heading column s =
    if nat_lt heading.column column
    then subtest_opened (inner_column heading column) heading.name s
    else record s { heading = Some heading }

abbrev pub come_if : Option Heading → ℕ → TapState → TapState
come_if (Some heading) column s = come_to heading column s
come_if None column s = s

unfoldable pub come : ℕ → TapState → TapState
come column s = come_if s.heading column (record s { heading = None })

-- a result or a plan that is deeper than what runs opens a subtest without a name
unfoldable pub deepened : ℕ → TapState → TapState
deepened column s =
    if nat_lt s.subtest.column column then subtest_opened column (codes "subtest") s else s

-- the subtest that runs ends without a result
abbrev pub left_to : List Subtest → TapState → TapState
left_to [] s = s
left_to (parent ∷ others) s =
    closed_if s.subtest.span parent.span
    (error_emitted (codes "unfinished") s.subtest.span
    (record s { subtest = parent; outer = others }))

abbrev pub subtest_left : TapState → TapState
subtest_left s = left_to s.outer s

-- the parent of the running subtest is deeper than this column
abbrev pub is_nested : ℕ → List Subtest → Bool
is_nested column [] = false
is_nested column (parent ∷ others) = nat_lt column parent.column

-- subtests whose parents are deeper than this column end without a result
abbrev pub inner_left : ℕ → List Subtest → TapState → TapState
inner_left column [] s = s
inner_left column (parent ∷ others) s =
    if nat_lt column parent.column then inner_left column others (left_to (parent ∷ others) s)
    else s

abbrev pub left_if : ℕ → TapState → TapState
left_if column s = if nat_lt column s.subtest.column then subtest_left s else s

-- subtests deeper than this column end without a result
unfoldable pub deeper_left : ℕ → TapState → TapState
deeper_left column s = left_if column (inner_left column s.outer s)

-- ---- plans

-- a plan that isn't met is an error
abbrev pub plan_missed : Option ℕ → ℕ → Option Id → TapState → TapState
plan_missed (Some count) ran span s =
    if count == ran then s else error_emitted (plan_text count ran) span s
plan_missed None ran span s = s

-- a script needs a plan; a file in prove's output needs one if prove gives no verdict
abbrev pub is_unjudged : Mode → Bool
is_unjudged Start = false
is_unjudged Script = true
is_unjudged File = true
is_unjudged Judged = false
is_unjudged Summary = false
is_unjudged Over = false
is_unjudged Bailed = false

-- a script without a plan is an error too
abbrev pub script_missed : Option ℕ → ℕ → Option Id → TapState → TapState
script_missed (Some count) ran span s = plan_missed (Some count) ran span s
script_missed None ran span s =
    if is_unjudged s.mode then error_emitted (no_plan_text ran) span s else s

-- the script or the file ends
unfoldable pub script_closed : TapState → TapState
script_closed s =
    closed_if s.subtest.span None
    (script_missed s.subtest.planned s.subtest.ran s.subtest.span (record s { subtest = script }))

-- the plan of what runs, a script or a subtest
abbrev pub results_missed : TapState → TapState
results_missed s =
    if length s.outer == 0 then script_missed s.subtest.planned s.subtest.ran s.subtest.span s
    else plan_missed s.subtest.planned s.subtest.ran s.subtest.span s

-- the results so far end, as a second script in one input begins
abbrev pub restarted : TapState → TapState
restarted s =
    record (results_missed s) {
      subtest = record s.subtest { planned = None; ran = 0; last = 0 };
    }

-- prove's verdict says whether the plan of a file is met
abbrev pub is_kept_in : Mode → List Subtest → Bool
is_kept_in Judged outer = not (length outer == 0)
is_kept_in File outer = true
is_kept_in Start outer = true
is_kept_in Script outer = true
is_kept_in Summary outer = true
is_kept_in Over outer = true
is_kept_in Bailed outer = true

abbrev pub is_kept_plan : TapState → Bool
is_kept_plan s = is_kept_in s.mode s.outer

abbrev pub plan_kept : ℕ → TapState → TapState
plan_kept count s =
    if is_kept_plan s then record s { subtest = record s.subtest { planned = Some count } } else s

unfoldable pub plan_set : ℕ → TapState → TapState
plan_set count s = plan_kept count (if is_some s.subtest.planned then restarted s else s)

-- everything is skipped
unfoldable pub skip_emitted : List ℕ → TapState → TapState
skip_emitted reason s =
    row_emitted Good Warn (codes "skip") (result_end_fields (unescaped reason) []) s.subtest.span s

unfoldable pub plan_taken : ℕ → List ℕ → TapState → TapState
plan_taken column text s =
    let set : TapState = plan_set (planned text) (deepened column (deeper_left column s)) in
    if planned text == 0 then skip_emitted (plan_reason text) set else set

-- ---- results

-- the numbers from `first` up to this one are missing
abbrev pub missed : ℕ → ℕ → TapState → TapState
missed first number s =
    if nat_le number first then s
    else error_emitted (missing_text first (number - 1)) s.subtest.span s

abbrev pub one_counted : ℕ → TapState → TapState
one_counted number s =
    record s { subtest = record s.subtest { ran = one_more s.subtest.ran; last = number } }

abbrev pub begun_anew : ℕ → TapState → TapState
begun_anew number s =
    if (number == 1) && not (s.subtest.ran == 0) then restarted s else s

-- counts this number; the numbers skipped before it are missing
abbrev pub given_from : ℕ → TapState → TapState
given_from number s = one_counted number (missed (one_more s.subtest.last) number s)

abbrev pub given_taken : ℕ → TapState → TapState
given_taken number s = given_from number (begun_anew number s)

-- a result without a number has the next
unfoldable pub number_taken : Option ℕ → TapState → TapState
number_taken (Some number) s = given_taken number s
number_taken None s = one_counted (one_more s.subtest.last) s

unfoldable pub waiting_of : Option Id → List ℕ → Mark → List ℕ → TapState → Waiting
waiting_of span name mark rest s = record {
  column = mark.column;
  verdict = verdict_of mark.is_ok (directive_in rest);
  label = label_of span name (unescaped (result_name rest)) s.subtest.last;
  reason = unescaped (reason_in rest);
  elapsed = elapsed_text rest;
  span = span;
  parent = s.subtest.span;
  margin = [];
}

abbrev pub waits : Waiting → TapState → TapState
waits w s = record s { waiting = Some w }

-- each result is counted once, by its verdict
abbrev pub counted_waiting : Waiting → TapState → TapState
counted_waiting w s = waits w (record s { tally = counted_tally w.verdict s.tally })

abbrev pub result_emitted : Option Id → List ℕ → Mark → List ℕ → TapState → TapState
result_emitted span name mark rest s = counted_waiting (waiting_of span name mark rest s) s

-- a result of what runs, which ends the subtest with this span and this name
unfoldable pub result_in : Option Id → List ℕ → Mark → List ℕ → TapState → TapState
result_in span name mark rest s = result_emitted span name mark rest (number_taken (first_number rest) s)

-- a result ends the subtest before it
abbrev pub subtest_ended_to : List Subtest → Mark → List ℕ → TapState → TapState
subtest_ended_to [] mark rest s = s
subtest_ended_to (parent ∷ others) mark rest s =
    result_in s.subtest.span s.subtest.name mark rest
    (plan_missed s.subtest.planned s.subtest.ran s.subtest.span
    (record s { subtest = parent; outer = others }))

unfoldable pub subtest_ended : Mark → List ℕ → TapState → TapState
subtest_ended mark rest s = subtest_ended_to s.outer mark rest s

-- a result with a brace at its end is held until the next line
abbrev pub result_held : Mark → List ℕ → TapState → TapState
result_held mark rest s = record s { braced = Some (record { mark = mark; rest = rest }) }

abbrev pub result_beside : Mark → List ℕ → TapState → TapState
result_beside mark rest s =
    if is_braced rest then result_held mark rest s else result_in None [] mark rest s

-- a result ends the subtest that is deeper, unless that is in braces: these are unfinished then
abbrev pub result_deeper : Option Braced → Mark → List ℕ → TapState → TapState
result_deeper (Some braced) mark rest s = result_beside mark rest (subtest_left s)
result_deeper None mark rest s = subtest_ended mark rest s

abbrev pub result_placed : Mark → List ℕ → TapState → TapState
result_placed mark rest s =
    if nat_lt mark.column s.subtest.column then result_deeper s.subtest.result mark rest s
    else result_beside mark rest s

abbrev pub without_heading : TapState → TapState
without_heading s = record s { heading = None }

-- A result belongs to the subtest in its column. It ends a deeper subtest; those in that one have
-- no result.
unfoldable pub result_taken : Mark → List ℕ → TapState → TapState
result_taken mark rest s =
    result_placed mark rest
    (without_heading (deepened mark.column (inner_left mark.column s.outer s)))

-- ---- braces: `ok 1 - name {`, the lines of the subtest, and `}`

-- where the next line is: in the braces, right behind them, or beside the result, whose brace then
-- belongs to its description
abbrev pub line_place : ℕ → ℕ → Kind → Place
line_place column other kind =
    if nat_lt column other && begins_inside kind then Inside
    else if (column == other) && is_brace kind then After
    else Beside where
      is_brace : Kind → Bool
      is_brace Brace = true
      is_brace Passing = false
      is_brace Failing = false
      is_brace Plan = false
      is_brace BailOut = false
      is_brace HeadingLine = false
      is_brace Comment = false
      is_brace Frame = false
      is_brace Output = false

abbrev pub opened_inside : Braced → Heading → ℕ → TapState → TapState
opened_inside b heading column s =
    let inner : TapState = subtest_opened (inner_column heading column) heading.name s in
    record inner { subtest = record inner.subtest { result = Some b } }

-- braces open a subtest; its name is that of the result
unfoldable pub braces_opened : Braced → ℕ → TapState → TapState
braces_opened b column s =
    opened_inside b
    (record { column = b.mark.column; name = unescaped (result_name (unbraced b.rest)) }) column s

-- ---- headings, comments and output

abbrev pub heading_placed : ℕ → List ℕ → TapState → TapState
heading_placed column name s =
    if nat_lt s.subtest.column column then subtest_opened column name s
    else record s { heading = Some (record { column = column; name = name }) }

-- The name of a subtest: it opens at once if it is deeper than what runs, as its own lines are.
-- Otherwise it opens if the next line is deeper.
unfoldable pub heading_taken : ℕ → List ℕ → TapState → TapState
heading_taken column name s = heading_placed column (unescaped name) (deeper_left column s)

-- a reporter's summary comes after the plan of a script
abbrev pub reporter_counts : TapState → Bool
reporter_counts s = (length s.outer == 0) && is_some s.subtest.planned

unfoldable pub comment_taken : List ℕ → TapState → TapState
comment_taken comment s =
    if reporter_counts s && is_count comment then s
    else tap_line_emitted CommentLine (unescaped comment) s.subtest.span s

-- what a test printed, without the column of its lines
unfoldable pub output_taken : List ℕ → TapState → TapState
output_taken text s = tap_line_emitted OutputLine (without_margin s.subtest.column text) s.subtest.span s

abbrev pub without_result : TapState → TapState
without_result s = record s { subtest = record s.subtest { result = None } }

-- a brace ends the subtest whose result is in its column; any other is output
abbrev pub brace_taken_at : Option Braced → ℕ → List ℕ → TapState → TapState
brace_taken_at (Some b) column text s =
    if b.mark.column == column
    then subtest_ended b.mark (unbraced b.rest) (without_heading (without_result s))
    else output_taken text s
brace_taken_at None column text s = output_taken text s

unfoldable pub brace_taken : ℕ → List ℕ → TapState → TapState
brace_taken column text s = brace_taken_at s.subtest.result column text s

-- `Bail out!` ends everything
abbrev pub all_over : TapState → TapState
all_over s = record s { mode = Bailed; subtest = record s.subtest { planned = None } }

unfoldable pub bailed_out : List ℕ → TapState → TapState
bailed_out text s =
    all_over (deeper_left 0 (without_heading (error_emitted text s.subtest.span s)))

-- ---- what prove prints around the scripts

abbrev pub file_opened : List ℕ → TapState → TapState
file_opened name s =
    record (test_span_opened name None s) {
      subtest = new_subtest 0 (Some (id_of s.next)) name;
      mode = File;
    }

abbrev pub is_in_file : List ℕ → TapState → Bool
is_in_file name s = bytes_eq s.subtest.name name

-- a file opens unless it is open, and ends the one before it
unfoldable pub file_come : List ℕ → TapState → TapState
file_come name s = if is_in_file name s then s else file_opened name (script_closed s)

-- a file with a verdict of prove needs no plan
abbrev pub judged : TapState → TapState
judged s = record s { mode = Judged; subtest = record s.subtest { planned = None } }

-- how long a file took is shown as the time of its verdict
abbrev pub good_emitted : Level → List ℕ → TapState → TapState
good_emitted level text s =
    row_emitted End level (good_text (verdict_time text) text) (time_fields (verdict_time text))
    s.subtest.span s

-- a verdict that isn't good is a failure
abbrev pub verdict_emitted : Level → List ℕ → TapState → TapState
verdict_emitted Error text s = judged (error_emitted text s.subtest.span s)
verdict_emitted Warn text s = judged (good_emitted Warn text s)
verdict_emitted Info text s = judged (good_emitted Info text s)
verdict_emitted Debug text s = judged (good_emitted Debug text s)
verdict_emitted Trace text s = judged (good_emitted Trace text s)

abbrev pub tail_emitted : Option Level → List ℕ → TapState → TapState
tail_emitted (Some level) tail s = verdict_emitted level tail s
tail_emitted None tail s = s

abbrev pub tail_taken : List ℕ → TapState → TapState
tail_taken tail s = tail_emitted (verdict_level tail) tail s

unfoldable pub file_taken : List ℕ → TapState → TapState
file_taken text s =
    tail_taken (without_end (codes " ") (tail_of_file text))
    (file_come (name_of_file text) (deeper_left 0 (without_heading s)))

unfoldable pub verdict_taken : Level → List ℕ → TapState → TapState
verdict_taken level text s =
    verdict_emitted level (without_end (codes " ") text) (deeper_left 0 (without_heading s))

unfoldable pub summary_begun : TapState → TapState
summary_begun s = record (script_closed (deeper_left 0 (without_heading s))) { mode = Summary }

-- the summary ends; a failure in it is an error, unless something is one already
abbrev pub summary_over : List ℕ → TapState → TapState
summary_over text s =
    if is_failed_summary text && not (tally_has_failure s.tally)
    then error_emitted text None (record s { mode = Over })
    else record s { mode = Over }

-- the lines of the summary aren't drawn
unfoldable pub summary_taken : List ℕ → TapState → TapState
summary_taken text s = if ends_summary text then summary_over text s else s

abbrev pub part_with : Option Level → Part
part_with (Some level) = VerdictLine level
part_with None = Line

-- before the first line of TAP
abbrev pub part_before : List ℕ → Part
part_before text =
    if is_file text then FileLine else if begins_summary text then SummaryLine else Line

-- in a file without a verdict
abbrev pub part_in_file : List ℕ → Part
part_in_file text =
    if begins_summary text then SummaryLine
    else if is_stamp text then StampLine
    else part_with (verdict_level (without_end (codes " ") text))

abbrev pub part_after : List ℕ → Part
part_after text = if is_file text then FileLine else part_in_file text

-- what a line is in prove's output; another file comes only after a verdict
abbrev pub part_of : Mode → List ℕ → Part
part_of Start text = part_before text
part_of Over text = part_before text
part_of File text = part_in_file text
part_of Judged text = part_after text
part_of Script text = Line
part_of Summary text = Line
part_of Bailed text = Line

-- ---- lines

-- a script begins with its first line of TAP
abbrev pub begun_first : Kind → TapState → TapState
begun_first Comment s = s
begun_first Output s = s
begun_first Brace s = s
begun_first Passing s = record s { mode = Script }
begun_first Failing s = record s { mode = Script }
begun_first Plan s = record s { mode = Script }
begun_first BailOut s = record s { mode = Script }
begun_first HeadingLine s = record s { mode = Script }
begun_first Frame s = record s { mode = Script }

abbrev pub begun_as : Mode → Kind → TapState → TapState
begun_as Start kind s = begun_first kind s
begun_as Over kind s = begun_first kind s
begun_as Script kind s = s
begun_as File kind s = s
begun_as Judged kind s = s
begun_as Summary kind s = s
begun_as Bailed kind s = s

unfoldable pub script_begun : Kind → TapState → TapState
script_begun kind s = begun_as s.mode kind s

abbrev pub taken_as : Kind → ℕ → List ℕ → List ℕ → TapState → TapState
taken_as Passing column text inner s =
    result_taken (record { is_ok = true; column = column }) (rest_after (codes "ok") inner) s
taken_as Failing column text inner s =
    result_taken (record { is_ok = false; column = column }) (rest_after (codes "not ok") inner) s
taken_as Plan column text inner s = plan_taken column inner s
taken_as BailOut column text inner s = bailed_out inner s
taken_as HeadingLine column text inner s =
    heading_taken column (rest_after (codes "# Subtest: ") inner) s
taken_as Comment column text inner s = comment_taken (comment_of inner) s
taken_as Frame column text inner s = s
taken_as Brace column text inner s = brace_taken column text s
taken_as Output column text inner s = output_taken text s

-- a line of this kind and in this column; `inner` is the line without its indentation
unfoldable pub kind_taken : Kind → ℕ → List ℕ → List ℕ → TapState → TapState
kind_taken kind column text inner s =
    taken_as kind column text inner (come column (script_begun kind s))

unfoldable pub part_taken : Part → List ℕ → List ℕ → TapState → TapState
part_taken FileLine text inner s = file_taken text s
part_taken (VerdictLine level) text inner s = verdict_taken level text s
part_taken StampLine text inner s = s
part_taken SummaryLine text inner s = summary_begun s
part_taken Line text inner s =
    kind_taken (kind_of_line inner) (length text - length inner) text inner s

-- a line that doesn't belong to the result before it; a blank one means nothing
unfoldable pub next_taken : List ℕ → TapState → TapState
next_taken text s =
    if is_empty (without_leading 32 text) then s
    else part_taken (part_of s.mode text) text (without_leading 32 text) s

-- ---- the block of a result

abbrev pub block_begun : Waiting → List ℕ → TapState → TapState
block_begun w text s = waits (record w { margin = first_part 45 text }) s

abbrev pub result_timed : Waiting → ℕ → TapState → TapState
result_timed w nanoseconds s = waits (record w { elapsed = length_text nanoseconds }) s

-- a result whose block has more than its time is a span
abbrev pub with_own_span : Waiting → TapState → Waiting
with_own_span w s =
    if is_some w.span then w else record w { span = Some (id_of s.next); label = [] }

abbrev pub spanned : Waiting → TapState → TapState
spanned w s = if is_some w.span then s else test_span_opened w.label w.parent s

-- a line of a block is an event in the span of its result
unfoldable pub detail_taken : Waiting → List ℕ → TapState → TapState
detail_taken w text s =
    waits (with_own_span w s)
    (tap_line_emitted OutputLine text (with_own_span w s).span (spanned w s))

abbrev pub timed_or_emitted : Option ℕ → Waiting → List ℕ → TapState → TapState
timed_or_emitted (Some nanoseconds) w rest s = result_timed w nanoseconds s
timed_or_emitted None w rest s = detail_taken w rest s

unfoldable pub inside_taken : Waiting → List ℕ → TapState → TapState
inside_taken w rest s =
    if bytes_eq rest (codes "...") then result_finished w s
    else timed_or_emitted (duration_of rest) w rest s

-- a line that isn't as deep as the block: the block is truncated, unless the line is blank
unfoldable pub outside_taken : Waiting → List ℕ → TapState → TapState
outside_taken w text s =
    if is_empty (without_leading 32 text) then detail_taken w [] s
    else next_taken text (result_finished w s)

unfoldable pub block_taken : Waiting → List ℕ → TapState → TapState
block_taken w text s = by (after_mark w.margin text) where
  by : Option (List ℕ) → TapState
  by (Some rest) = inside_taken w rest s
  by None = outside_taken w text s

-- a line after a result that waits, or in its block
unfoldable pub after_taken : Waiting → List ℕ → TapState → TapState
after_taken w text s =
    if not (is_empty w.margin) then block_taken w text s
    else if begins_block w.column text then block_begun w text s
    else next_taken text (result_finished w s)

abbrev pub taken_if : Option Waiting → List ℕ → TapState → TapState
taken_if (Some w) text s = after_taken w text s
taken_if None text s = next_taken text s

unfoldable pub unheld_taken : List ℕ → TapState → TapState
unheld_taken text s = taken_if s.waiting text (record s { waiting = None })

-- a line after a result with a brace at its end
abbrev pub held_taken_at : Place → Braced → List ℕ → TapState → TapState
held_taken_at Inside b text s =
    next_taken text (braces_opened b (length text - length (without_leading 32 text)) s)
held_taken_at After b text s = result_in None [] b.mark (unbraced b.rest) s
held_taken_at Beside b text s = unheld_taken text (result_in None [] b.mark b.rest s)

unfoldable pub held_taken : Braced → List ℕ → TapState → TapState
held_taken b text s =
    held_taken_at
    (line_place b.mark.column (length text - length (without_leading 32 text))
    (kind_of_line (without_leading 32 text))) b text s

abbrev pub text_taken_if : Option Braced → List ℕ → TapState → TapState
text_taken_if (Some b) text s = held_taken b text s
text_taken_if None text s = unheld_taken text s

unfoldable pub text_taken : List ℕ → TapState → TapState
text_taken text s = text_taken_if s.braced text (record s { braced = None })

abbrev pub taken_in : Mode → List ℕ → TapState → TapState
taken_in Bailed text s = s
taken_in Summary text s = summary_taken text s
taken_in Start text s = text_taken text s
taken_in Over text s = text_taken text s
taken_in Script text s = text_taken text s
taken_in File text s = text_taken text s
taken_in Judged text s = text_taken text s

unfoldable pub tap_line_taken : List ℕ → TapState → TapState
tap_line_taken line s = taken_in s.mode (without_end (codes "\r") line) s

abbrev pub handed_out : TapState → Step TapState
handed_out s = record {
  calls = s.queue.ready;
  source = record s { queue = record s.queue { ready = [] } };
}

abbrev pub is_in_block : Option Waiting → Bool
is_in_block (Some w) = not (is_empty w.margin)
is_in_block None = false

-- a blank line means nothing, unless it is a line of a block
abbrev pub is_passed_over : List ℕ → TapState → Bool
is_passed_over line s = is_skipped line && not (is_in_block s.waiting)

-- what a line means: each is known
abbrev pub tap_takes : TapState → List ℕ → Option Json → Option (Step TapState)
tap_takes s line value =
    Some (handed_out (if is_passed_over line s then s else tap_line_taken line s))

abbrev pub tap_problem : Option Json → Problem
tap_problem value = Object

-- ---- the end

abbrev pub heading_ended_if : Option Heading → TapState → TapState
heading_ended_if (Some heading) s =
    error_emitted (unfinished_text heading.name) s.subtest.span s
heading_ended_if None s = s

-- a test whose name was the last line has no result
unfoldable pub heading_ended : TapState → TapState
heading_ended s = heading_ended_if s.heading (record s { heading = None })

-- a result with a brace at its end is the last line
abbrev pub brace_ended_if : Option Braced → TapState → TapState
brace_ended_if (Some b) s = result_in None [] b.mark b.rest s
brace_ended_if None s = s

unfoldable pub brace_ended : TapState → TapState
brace_ended s = brace_ended_if s.braced (record s { braced = None })

-- an input without a line of TAP is an error, and so is one that ends in prove's summary
abbrev pub input_ended_in : Mode → TapState → TapState
input_ended_in Start s = error_emitted (codes "no line of TAP") None s
input_ended_in Summary s = error_emitted (codes "unfinished summary") None s
input_ended_in Script s = s
input_ended_in File s = s
input_ended_in Judged s = s
input_ended_in Over s = s
input_ended_in Bailed s = s

unfoldable pub input_ended : TapState → TapState
input_ended s = input_ended_in s.mode s

-- what still runs ends
unfoldable pub all_ended : TapState → TapState
all_ended s =
    input_ended (script_closed (deeper_left 0 (heading_ended (flushed (brace_ended s)))))

-- the event that counts the results
abbrev pub tally_call : TapState → Call
tally_call s =
    event_call s.moment (if tally_has_failure s.tally then Error else Info)
    (tally_fields s.tally) None

abbrev pub tap_ends : TapState → List Call
tap_ends s = (all_ended s).queue.ready ++ tally_call (all_ended s) ∷ []

abbrev pub tap_ended : TapState → TapState
tap_ended s = (handed_out (all_ended s)).source
