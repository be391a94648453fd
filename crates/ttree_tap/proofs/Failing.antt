-- A run of TAP has failed exactly if one of its rows is an ERROR: each definition of what a line
-- does keeps that.
use Rattle.std.proofs.Common.{◌≡◌, ◌⊎◌, inl, inr, ℕ, Bool, true, false, List, [], ◌∷◌, ◌++◌, Option, Some, None, refl, sym, ap, subst, ◌∙◌, arith, append_assoc}
use Rattle.std.specs.Prelude.{◌||◌, ◌&&◌, not, ◌==◌, nat_lt, nat_le, if◌then◌else◌, bytes_eq, codes, length, is_some, min, ◌-◌, ◌+◌, ◌^◌}
use Rattle.std.specs.List.{list_any}
use Rattle.std.specs.Str.{is_utf8}
use Rattle.std.proofs.lemmas.Bool.{true≢false}
use Rattle.std.proofs.lemmas.List.Folds.{list_any-append}
use Rattle.json.specs.Json.{Json, document}
use Rattle.tracing_tree_base.specs.declared.context.Id.{Id}
use Rattle.tracing_tree_base.specs.declared.context.Moment.{Moment}
use Rattle.tracing_tree_base.specs.declared.field.Field.{Field}
use Rattle.tracing_tree_base.specs.declared.style.Level.{Level}
use Rattle.tracing_tree_base.specs.declared.style.Level.TheVariants.{Trace, Debug, Error, Info, Warn}
use Rattle.tracing_tree_layer.specs.declared.call.Call.{Call}
use Rattle.ttree_source.specs.Counts.{one_more}
use Rattle.ttree_source.specs.Marks.{after_mark, is_empty}
use Rattle.ttree_source.specs.Source.{Interpreted, Step, calls_of, interpret, interpret_line, interpreted_step, source_after, then_interpreted}
use Rattle.ttree_source.specs.Calls.{close_call, event_call, message_field, span_call}
use Rattle.ttree_tap.specs.declared.line.Kind.{Kind}
use Rattle.ttree_tap.specs.declared.line.Kind.TheVariants.{Passing, Failing, Plan, BailOut, Heading as HeadingLine, Comment, Frame, Brace, Output}
use Rattle.ttree_tap.specs.declared.queue.Role.{Role}
use Rattle.ttree_tap.specs.declared.queue.Role.TheVariants.{Good, End, Failure, Output as OutputLine, Comment as CommentLine, Opening, Closing}
use Rattle.ttree_tap.specs.declared.tally.Tally.{Tally}
use Rattle.ttree_tap.specs.declared.tally.Verdict.{Verdict}
use Rattle.ttree_tap.specs.declared.tally.Verdict.TheVariants.{Passed, Failed, Skipped, Todo}
use Rattle.ttree_tap.specs.declared.tap.Mode.{Mode}
use Rattle.ttree_tap.specs.declared.tap.Mode.TheVariants.{Start, Script, File, Judged, Summary, Over, Bailed}
use Rattle.ttree_tap.specs.declared.tap.prove.Part.{Part}
use Rattle.ttree_tap.specs.declared.tap.prove.Part.TheVariants.{File as FileLine, Verdict as VerdictLine, Stamp as StampLine, Summary as SummaryLine, Line}
use Rattle.ttree_tap.specs.declared.tap.braces.Braced.{Braced}
use Rattle.ttree_tap.specs.declared.tap.braces.Place.{Place}
use Rattle.ttree_tap.specs.declared.tap.braces.Place.TheVariants.{Inside, After, Beside}
use Rattle.ttree_tap.specs.declared.tap.results.Mark.{Mark}
use Rattle.ttree_tap.specs.declared.tap.subtests.Heading.{Heading}
use Rattle.ttree_tap.specs.declared.tap.subtests.Subtest.{Subtest}
use Rattle.ttree_tap.specs.declared.tap.waiting.Waiting.{Waiting}
use Rattle.ttree_tap.specs.Failures.{after_all, calls_before_counts, has_error, is_error, is_error_row}
use Rattle.ttree_tap.specs.Line.{begins_inside, comment_of, is_braced, is_count, is_failed_summary, kind_of_line, name_of_file, first_number, plan_reason, planned, tail_of_file, unbraced, verdict_level, ends_summary}
use Rattle.ttree_tap.specs.Queue.{QueueState, call_added, claimed, failed_added, line_kept, readied}
use Rattle.ttree_tap.specs.Strings.{rest_after, unescaped, without_end, without_leading, without_margin}
use Rattle.ttree_tap.specs.Tally.{broken_tally, counted_tally, level_of_verdict, tally_fields, tally_has_failure, verdict_of}
use Rattle.ttree_tap.specs.Texts.{begins_block, duration_of, missing_text, no_plan_text, plan_text, result_name, unfinished_text}
use Rattle.ttree_tap.specs.Tap.{TapState, after_taken, all_ended, bailed_out, script_begun, begun_anew, begun_as, begun_first, block_begun, block_taken, brace_ended, brace_ended_if, brace_taken, brace_taken_at, braces_opened, test_span_closed, closed_if, come, come_if, come_to, comment_taken, counted_waiting, deepened, deeper_left, detail_taken, error_emitted, file_come, file_opened, file_taken, result_finished, flushed, flushed_if, given_from, given_taken, good_emitted, handed_out, heading_ended, heading_ended_if, heading_placed, heading_taken, held_taken, held_taken_at, inner_left, input_ended, input_ended_in, inside_taken, is_passed_over, is_kept_plan, is_unjudged, judged, kind_taken, subtest_left, left_if, left_to, tap_line_taken, tap_line_emitted, lines_claimed, missed, next_taken, nothing_run, number_taken, one_counted, test_span_opened, opened_inside, outside_taken, output_taken, part_of, part_taken, line_place, plan_kept, plan_missed, plan_set, plan_taken, reporter_counts, restarted, result_beside, result_deeper, result_held, result_in, result_placed, result_taken, result_emitted, results_missed, role_in, role_of, row_emitted, script, script_closed, script_missed, skip_emitted, spanned, subtest_ended, subtest_ended_to, subtest_opened, summary_begun, summary_over, summary_taken, tail_taken, tail_emitted, taken_as, taken_if, taken_in, tally_call, tap_ended, tap_ends, tap_takes, text_taken, text_taken_if, result_timed, timed_or_emitted, call_queued, unheld_taken, verdict_taken, verdict_emitted, waiting_of, waits, with_own_span, without_heading, without_result}

-- ---- tests

or_true : (a : Bool) → (a || true) ≡ true
or_true true = refl
or_true false = refl

or_false : (a : Bool) → (a || false) ≡ a
or_false true = refl
or_false false = refl

or_assoc : (a b c : Bool) → ((a || b) || c) ≡ (a || (b || c))
or_assoc true b c = refl
or_assoc false b c = refl

any_true : (e p r : Bool) → r ≡ true → ((e || r) || p) ≡ true
any_true true p r h = refl
any_true false p r h = rw h refl

choose : (P : TapState → Type 0) (test : Bool) (x y : TapState) → P x → P y → P (if test then x else y)
choose P true x y hx hy = hx
choose P false x y hx hy = hy

-- ---- the calls that are ready

one_more_row : (calls : List Call) (call : Call) → has_error (calls ++ call ∷ []) ≡ (has_error calls || is_error_row call)
one_more_row calls call = list_any-append is_error_row calls (call ∷ []) ∙ ap (λ b. has_error calls || b) (or_false (is_error_row call))

with_quiet : (calls : List Call) (call : Call) → is_error_row call ≡ false → has_error (calls ++ call ∷ []) ≡ has_error calls
with_quiet calls call quiet = one_more_row calls call ∙ ap (λ b. has_error calls || b) quiet ∙ or_false (has_error calls)

with_error : (calls : List Call) (call : Call) → is_error_row call ≡ true → has_error (calls ++ call ∷ []) ≡ true
with_error calls call loud = one_more_row calls call ∙ ap (λ b. has_error calls || b) loud ∙ or_true (has_error calls)

abbrev is_loud : Role → Bool
is_loud Failure = true
is_loud Good = false
is_loud End = false
is_loud OutputLine = false
is_loud CommentLine = false
is_loud Opening = false
is_loud Closing = false

either_ready : (test : Bool) (x y : QueueState) (r : Bool) → has_error x.ready ≡ r → has_error y.ready ≡ r → has_error (if test then x else y).ready ≡ r
either_ready true x y r hx hy = hx
either_ready false x y r hx hy = hy

closing_quiet : (opens : List ℕ) (call : Call) (q : QueueState) → is_error_row call ≡ false → has_error (Rattle.ttree_tap.specs.Queue.closing_added_to opens call q).ready ≡ has_error q.ready
closing_quiet [] call q quiet = with_quiet q.ready call quiet
closing_quiet (base ∷ others) call q quiet = refl

failed_quiet : (role : Role) (call : Call) (q : QueueState) → is_loud role ≡ false → is_error_row call ≡ false → has_error (failed_added role call q).ready ≡ has_error q.ready
unfolding claimed
failed_quiet Failure call q calm quiet = absurd (true≢false calm)
failed_quiet Good call q calm quiet = refl
failed_quiet End call q calm quiet = either_ready (length q.opens == 0) _ _ (has_error q.ready) (with_quiet q.ready call quiet) refl
failed_quiet OutputLine call q calm quiet = either_ready q.is_after_failure (readied call q) (line_kept false call q) (has_error q.ready) (with_quiet q.ready call quiet) refl
failed_quiet CommentLine call q calm quiet = either_ready q.is_after_failure (readied call q) (line_kept true call q) (has_error q.ready) (with_quiet q.ready call quiet) refl
failed_quiet Opening call q calm quiet = refl
failed_quiet Closing call q calm quiet = closing_quiet q.opens call q quiet

added_quiet : (role : Role) (call : Call) (q : QueueState) → is_loud role ≡ false → is_error_row call ≡ false → has_error (call_added role call q).ready ≡ has_error q.ready
unfolding call_added
added_quiet role call q calm quiet =
    either_ready q.is_failed_only (failed_added role call q) (readied call q) (has_error q.ready) (failed_quiet role call q calm quiet) (with_quiet q.ready call quiet)

added_error : (call : Call) (q : QueueState) → is_error_row call ≡ true → has_error (call_added Failure call q).ready ≡ true
unfolding call_added claimed
added_error call q loud =
    either_ready q.is_failed_only (failed_added Failure call q) (readied call q) true (with_error ((claimed [] q).ready ++ (claimed [] q).held) call loud) (with_error q.ready call loud)

-- ---- what is kept

-- An ERROR was returned before, or is ready, or is the result that waits, exactly if something has
-- failed.
abbrev Agrees : Bool → Bool → TapState → Type 0
Agrees e p s = ((e || has_error s.queue.ready) || p) ≡ tally_has_failure s.tally

-- no result waits, and none may open braces
record Idle (e : Bool) (s : TapState) : Type 0 where
  agrees : Agrees e false s
  none : s.waiting ≡ None
  bare : s.braced ≡ None

abbrev fails : Verdict → Bool
fails Failed = true
fails Passed = false
fails Skipped = false
fails Todo = false

abbrev pending : Option Waiting → Bool
pending (Some w) = fails w.verdict
pending None = false

-- a result may wait, or one may open braces
record Held (e : Bool) (s : TapState) : Type 0 where
  agrees : Agrees e (pending s.waiting) s
  one : (s.waiting ≡ None) ⊎ (s.braced ≡ None)

held : (e : Bool) (s : TapState) → Idle e s → Held e s
held e s j = record {
  agrees = subst (λ o. Agrees e (pending o) s) (sym j.none) j.agrees;
  one = inl j.none;
}

emitted_quiet : (e p : Bool) (role : Role) (call : Call) (s : TapState) → is_loud role ≡ false → is_error_row call ≡ false → Agrees e p s → Agrees e p (call_queued role call s)
emitted_quiet e p role call s calm quiet i = ap (λ r. (e || r) || p) (added_quiet role call s.queue calm quiet) ∙ i

emitted_error : (e p : Bool) (text : List ℕ) (span : Option Id) (s : TapState) → Agrees e p (error_emitted text span s)
emitted_error e p text span s = any_true e p _ (added_error (event_call s.moment Error (message_field text ∷ []) span) s.queue refl)

fails_with : (e : Bool) (text : List ℕ) (span : Option Id) (s : TapState) → Idle e s → Idle e (error_emitted text span s)
fails_with e text span s j = record { agrees = emitted_error e false text span s; none = j.none; bare = j.bare }

quiet : (e : Bool) (role : Role) (call : Call) (s : TapState) → is_loud role ≡ false → is_error_row call ≡ false → Idle e s → Idle e (call_queued role call s)
quiet e role call s calm still j = record { agrees = emitted_quiet e false role call s calm still j.agrees; none = j.none; bare = j.bare }

open_agrees : (e p : Bool) (name : List ℕ) (parent : Option Id) (s : TapState) → Agrees e p s → Agrees e p (test_span_opened name parent s)
unfolding claimed
open_agrees e p name parent s i = emitted_quiet e p Opening (span_call s.moment name [] parent) (lines_claimed name s) refl refl i

opens_span : (e : Bool) (name : List ℕ) (parent : Option Id) (s : TapState) → Idle e s → Idle e (test_span_opened name parent s)
opens_span e name parent s j = record { agrees = open_agrees e false name parent s j.agrees; none = j.none; bare = j.bare }

closes_span : (e : Bool) (span parent : Option Id) (s : TapState) → Idle e s → Idle e (closed_if span parent s)
closes_span e (Some id) parent s j =
    let emitted_it = quiet e Closing (close_call s.moment id parent) s refl refl j in
    record { agrees = emitted_it.agrees; none = emitted_it.none; bare = emitted_it.bare }
closes_span e None parent s j = j

-- ---- the result that waits

ended_row : (e : Bool) (verdict : Verdict) (span at : Option Id) (text : List ℕ) (fields : List Field) (s : TapState) → Agrees e (fails verdict) s
    → Agrees e false (row_emitted (role_of verdict span) (level_of_verdict verdict)
    text fields at s)
ended_row e Failed span at text fields s i =
    any_true e false _ (added_error (event_call s.moment Error (message_field text ∷ fields) at) s.queue refl)
    ∙ sym (or_true (e || has_error s.queue.ready)) ∙ i
ended_row e Passed (Some id) at text fields s i = emitted_quiet e false End _ s refl refl i
ended_row e Passed None at text fields s i = emitted_quiet e false Good _ s refl refl i
ended_row e Skipped (Some id) at text fields s i = emitted_quiet e false End _ s refl refl i
ended_row e Skipped None at text fields s i = emitted_quiet e false Good _ s refl refl i
ended_row e Todo (Some id) at text fields s i = emitted_quiet e false End _ s refl refl i
ended_row e Todo None at text fields s i = emitted_quiet e false Good _ s refl refl i

finish : (e : Bool) (w : Waiting) (s : TapState) → Agrees e (fails w.verdict) s → s.waiting ≡ None → s.braced ≡ None → Idle e (result_finished w s)
unfolding result_finished claimed
finish e w s i none bare =
    closes_span e w.span w.parent _ (record { agrees = ended_row e w.verdict w.span _ _ _ (lines_claimed w.label s) i; none = none; bare = bare })

flush_if : (e : Bool) (o : Option Waiting) (s : TapState) → Agrees e (pending o) s → s.waiting ≡ None → s.braced ≡ None → Idle e (flushed_if o s)
flush_if e (Some w) s i none bare = finish e w s i none bare
flush_if e None s i none bare = record { agrees = i; none = none; bare = bare }

flush : (e : Bool) (s : TapState) → Agrees e (pending s.waiting) s → s.braced ≡ None → Idle e (flushed s)
unfolding flushed
flush e s i bare = flush_if e s.waiting (record s { waiting = None }) i refl bare

-- ---- subtests

subtest : (e : Bool) (column : ℕ) (name : List ℕ) (s : TapState) → Idle e s → Idle e (subtest_opened column name s)
unfolding subtest_opened
subtest e column name s j =
    let i = opens_span e name s.subtest.span s j in
    record { agrees = i.agrees; none = i.none; bare = i.bare }

same : (e : Bool) (s t : TapState) → t.queue ≡ s.queue → t.tally ≡ s.tally → t.waiting ≡ s.waiting → t.braced ≡ s.braced → Idle e s → Idle e t
same e s t q k w b j = record {
  agrees = ap (λ (q : QueueState). (e || has_error q.ready) || false) q ∙ j.agrees ∙ sym (ap tally_has_failure k);
  none = w ∙ j.none;
  bare = b ∙ j.bare;
}

comes_to : (e : Bool) (heading : Heading) (column : ℕ) (s : TapState) → Idle e s → Idle e (come_to heading column s)
comes_to e heading column s j =
    choose (Idle e) (nat_lt heading.column column) _ _ (subtest e _ heading.name s j) (same e s _ refl refl refl refl j)

comes_if : (e : Bool) (heading : Option Heading) (column : ℕ) (s : TapState) → Idle e s → Idle e (come_if heading column s)
comes_if e (Some heading) column s j = comes_to e heading column s j
comes_if e None column s j = j

comes : (e : Bool) (column : ℕ) (s : TapState) → Idle e s → Idle e (come column s)
unfolding come
comes e column s j = comes_if e s.heading column _ (same e s _ refl refl refl refl j)

deepens : (e : Bool) (column : ℕ) (s : TapState) → Idle e s → Idle e (deepened column s)
unfolding deepened
deepens e column s j = choose (Idle e) (nat_lt s.subtest.column column) _ _ (subtest e column _ s j) j

leaves_to : (e : Bool) (outer : List Subtest) (s : TapState) → Idle e s → Idle e (left_to outer s)
leaves_to e [] s j = j
leaves_to e (parent ∷ others) s j =
    closes_span e s.subtest.span parent.span _ (fails_with e (codes "unfinished") s.subtest.span _ (same e s _ refl refl refl refl j))

leaves_inner : (e : Bool) (column : ℕ) (outer : List Subtest) (s : TapState) → Idle e s → Idle e (inner_left column outer s)
leaves_inner e column [] s j = j
leaves_inner e column (parent ∷ others) s j =
    choose (Idle e) (nat_lt column parent.column) _ _ (leaves_inner e column others _ (leaves_to e (parent ∷ others) s j)) j

leaves_deeper : (e : Bool) (column : ℕ) (s : TapState) → Idle e s → Idle e (deeper_left column s)
unfolding deeper_left
leaves_deeper e column s j =
    let t = inner_left column s.outer s in
    let k = leaves_inner e column s.outer s j in
    choose (Idle e) (nat_lt column t.subtest.column) (subtest_left t) t (leaves_to e t.outer t k) k

-- ---- plans

misses_plan : (e : Bool) (planned : Option ℕ) (ran : ℕ) (span : Option Id) (s : TapState) → Idle e s → Idle e (plan_missed planned ran span s)
misses_plan e (Some count) ran span s j = choose (Idle e) (count == ran) _ _ j (fails_with e (plan_text count ran) span s j)
misses_plan e None ran span s j = j

misses_script : (e : Bool) (planned : Option ℕ) (ran : ℕ) (span : Option Id) (s : TapState) → Idle e s → Idle e (script_missed planned ran span s)
misses_script e (Some count) ran span s j = misses_plan e (Some count) ran span s j
misses_script e None ran span s j = choose (Idle e) (is_unjudged s.mode) _ _ (fails_with e (no_plan_text ran) span s j) j

closes_script : (e : Bool) (s : TapState) → Idle e s → Idle e (script_closed s)
unfolding script_closed
closes_script e s j =
    closes_span e s.subtest.span None _ (misses_script e s.subtest.planned s.subtest.ran s.subtest.span _ (same e s (record s { subtest = script }) refl refl refl refl j))

restarts : (e : Bool) (s : TapState) → Idle e s → Idle e (restarted s)
restarts e s j =
    same e (results_missed s) _ refl refl refl refl
    (choose (Idle e) (length s.outer == 0) _ _ (misses_script e s.subtest.planned s.subtest.ran s.subtest.span s j) (misses_plan e s.subtest.planned s.subtest.ran s.subtest.span s j))

keeps_plan : (e : Bool) (count : ℕ) (s : TapState) → Idle e s → Idle e (plan_kept count s)
keeps_plan e count s j = choose (Idle e) (is_kept_plan s) _ _ (same e s _ refl refl refl refl j) j

sets_plan : (e : Bool) (count : ℕ) (s : TapState) → Idle e s → Idle e (plan_set count s)
unfolding plan_set
sets_plan e count s j = keeps_plan e count _ (choose (Idle e) (is_some s.subtest.planned) _ _ (restarts e s j) j)

skips : (e : Bool) (reason : List ℕ) (s : TapState) → Idle e s → Idle e (skip_emitted reason s)
unfolding skip_emitted
skips e reason s j = quiet e Good _ s refl refl j

takes_plan : (e : Bool) (column : ℕ) (text : List ℕ) (s : TapState) → Idle e s → Idle e (plan_taken column text s)
unfolding plan_taken
takes_plan e column text s j =
    let set : TapState = plan_set (planned text) (deepened column (deeper_left column s)) in
    let k = sets_plan e (planned text) _ (deepens e column _ (leaves_deeper e column s j)) in
    choose (Idle e) (planned text == 0) (skip_emitted (plan_reason text) set) set (skips e (plan_reason text) set k) k

-- ---- results

misses : (e : Bool) (first number : ℕ) (s : TapState) → Idle e s → Idle e (missed first number s)
misses e first number s j = choose (Idle e) (nat_le number first) _ _ j (fails_with e (missing_text first (number - 1)) s.subtest.span s j)

counts_one : (e : Bool) (number : ℕ) (s : TapState) → Idle e s → Idle e (one_counted number s)
counts_one e number s j = same e s _ refl refl refl refl j

begins_anew : (e : Bool) (number : ℕ) (s : TapState) → Idle e s → Idle e (begun_anew number s)
begins_anew e number s j = choose (Idle e) ((number == 1) && not (s.subtest.ran == 0)) _ _ (restarts e s j) j

takes_number : (e : Bool) (number : Option ℕ) (s : TapState) → Idle e s → Idle e (number_taken number s)
unfolding number_taken
takes_number e (Some number) s j =
    counts_one e number _ (misses e (one_more (begun_anew number s).subtest.last) number _ (begins_anew e number s j))
takes_number e None s j = counts_one e _ s j

-- a result waits
record Waits (e : Bool) (s : TapState) : Type 0 where
  agrees : Agrees e (pending s.waiting) s
  bare : s.braced ≡ None

waits_held : (e : Bool) (s : TapState) → Waits e s → Held e s
waits_held e s k = record { agrees = k.agrees; one = inr k.bare }

nonzero : (n : ℕ) → not (one_more n == 0) ≡ true
nonzero n = grind arith

counted : (verdict : Verdict) (x : Bool) (t : Tally) → (x || false) ≡ tally_has_failure t → (x || fails verdict) ≡ tally_has_failure (counted_tally verdict t)
counted Failed x t h = or_true x ∙ sym (ap (λ b. t.is_broken || b) (nonzero t.failed) ∙ or_true t.is_broken)
counted Passed x t h = h
counted Skipped x t h = h
counted Todo x t h = h

emits_result : (e : Bool) (span : Option Id) (name : List ℕ) (mark : Mark) (rest : List ℕ) (s : TapState) → Idle e s → Waits e (result_emitted span name mark rest s)
emits_result e span name mark rest s j = record {
  agrees = counted (waiting_of span name mark rest s).verdict (e || has_error s.queue.ready) s.tally j.agrees;
  bare = j.bare;
}

result : (e : Bool) (span : Option Id) (name : List ℕ) (mark : Mark) (rest : List ℕ) (s : TapState) → Idle e s → Waits e (result_in span name mark rest s)
unfolding result_in
result e span name mark rest s j = emits_result e span name mark rest _ (takes_number e (first_number rest) s j)

ends_subtest_to : (e : Bool) (outer : List Subtest) (mark : Mark) (rest : List ℕ) (s : TapState) → Idle e s → Held e (subtest_ended_to outer mark rest s)
ends_subtest_to e [] mark rest s j = held e s j
ends_subtest_to e (parent ∷ others) mark rest s j =
    waits_held e _ (result e s.subtest.span s.subtest.name mark rest _
    (misses_plan e s.subtest.planned s.subtest.ran s.subtest.span _ (same e s _ refl refl refl refl j)))

ends_subtest : (e : Bool) (mark : Mark) (rest : List ℕ) (s : TapState) → Idle e s → Held e (subtest_ended mark rest s)
unfolding subtest_ended
ends_subtest e mark rest s j = ends_subtest_to e s.outer mark rest s j

beside : (e : Bool) (mark : Mark) (rest : List ℕ) (s : TapState) → Idle e s → Held e (result_beside mark rest s)
beside e mark rest s j =
    choose (Held e) (is_braced rest) (result_held mark rest s) (result_in None [] mark rest s)
    (record { agrees = (held e s j).agrees; one = inl j.none }) (waits_held e _ (result e None [] mark rest s j))

deeper : (e : Bool) (braced : Option Braced) (mark : Mark) (rest : List ℕ) (s : TapState) → Idle e s → Held e (result_deeper braced mark rest s)
deeper e (Some braced) mark rest s j = beside e mark rest (subtest_left s) (leaves_to e s.outer s j)
deeper e None mark rest s j = ends_subtest e mark rest s j

places : (e : Bool) (mark : Mark) (rest : List ℕ) (s : TapState) → Idle e s → Held e (result_placed mark rest s)
places e mark rest s j =
    choose (Held e) (nat_lt mark.column s.subtest.column) _ _ (deeper e s.subtest.result mark rest s j) (beside e mark rest s j)

takes_result : (e : Bool) (mark : Mark) (rest : List ℕ) (s : TapState) → Idle e s → Held e (result_taken mark rest s)
unfolding result_taken
takes_result e mark rest s j =
    places e mark rest _ (same e (deepened mark.column (inner_left mark.column s.outer s)) _ refl refl refl refl
    (deepens e mark.column _ (leaves_inner e mark.column s.outer s j)))

-- ---- braces, headings, comments and output

opens_braces : (e : Bool) (b : Braced) (column : ℕ) (s : TapState) → Idle e s → Idle e (braces_opened b column s)
unfolding braces_opened
opens_braces e b column s j = same e _ _ refl refl refl refl (subtest e _ _ s j)

takes_heading : (e : Bool) (column : ℕ) (name : List ℕ) (s : TapState) → Idle e s → Idle e (heading_taken column name s)
unfolding heading_taken
takes_heading e column name s j =
    let t = deeper_left column s in
    let k = leaves_deeper e column s j in
    choose (Idle e) (nat_lt t.subtest.column column) _ _ (subtest e column _ t k) (same e t _ refl refl refl refl k)

takes_comment : (e : Bool) (comment : List ℕ) (s : TapState) → Idle e s → Idle e (comment_taken comment s)
unfolding comment_taken
takes_comment e comment s j = choose (Idle e) (reporter_counts s && is_count comment) _ _ j (quiet e CommentLine _ s refl refl j)

takes_output : (e : Bool) (text : List ℕ) (s : TapState) → Idle e s → Idle e (output_taken text s)
unfolding output_taken
takes_output e text s j = quiet e OutputLine _ s refl refl j

takes_brace_at : (e : Bool) (braced : Option Braced) (column : ℕ) (text : List ℕ) (s : TapState) → Idle e s → Held e (brace_taken_at braced column text s)
takes_brace_at e (Some b) column text s j =
    choose (Held e) (b.mark.column == column) _ _
    (ends_subtest e b.mark (unbraced b.rest) (without_heading (without_result s)) (same e s _ refl refl refl refl j))
    (held e _ (takes_output e text s j))
takes_brace_at e None column text s j = held e _ (takes_output e text s j)

takes_brace : (e : Bool) (column : ℕ) (text : List ℕ) (s : TapState) → Idle e s → Held e (brace_taken column text s)
unfolding brace_taken
takes_brace e column text s j = takes_brace_at e s.subtest.result column text s j

bails : (e : Bool) (text : List ℕ) (s : TapState) → Idle e s → Idle e (bailed_out text s)
unfolding bailed_out
bails e text s j =
    same e (deeper_left 0 (without_heading (error_emitted text s.subtest.span s))) _ refl refl refl refl
    (leaves_deeper e 0 _ (same e (error_emitted text s.subtest.span s) _ refl refl refl refl (fails_with e text s.subtest.span s j)))

-- ---- what prove prints

comes_file : (e : Bool) (name : List ℕ) (s : TapState) → Idle e s → Idle e (file_come name s)
unfolding file_come
comes_file e name s j =
    choose (Idle e) (Rattle.ttree_tap.specs.Tap.is_in_file name s) _ _ j
    (same e (test_span_opened name None (script_closed s)) _ refl refl refl refl (opens_span e name None _ (closes_script e s j)))

emits_verdict : (e : Bool) (level : Level) (text : List ℕ) (s : TapState) → Idle e s → Idle e (verdict_emitted level text s)
emits_verdict e Error text s j = same e (error_emitted text s.subtest.span s) _ refl refl refl refl (fails_with e text s.subtest.span s j)
emits_verdict e Warn text s j = same e (good_emitted Warn text s) _ refl refl refl refl (quiet e End _ s refl refl j)
emits_verdict e Info text s j = same e (good_emitted Info text s) _ refl refl refl refl (quiet e End _ s refl refl j)
emits_verdict e Debug text s j = same e (good_emitted Debug text s) _ refl refl refl refl (quiet e End _ s refl refl j)
emits_verdict e Trace text s j = same e (good_emitted Trace text s) _ refl refl refl refl (quiet e End _ s refl refl j)

emits_tail : (e : Bool) (level : Option Level) (tail : List ℕ) (s : TapState) → Idle e s → Idle e (tail_emitted level tail s)
emits_tail e (Some level) tail s j = emits_verdict e level tail s j
emits_tail e None tail s j = j

outside : (e : Bool) (s : TapState) → Idle e s → Idle e (deeper_left 0 (without_heading s))
outside e s j = leaves_deeper e 0 _ (same e s _ refl refl refl refl j)

takes_file : (e : Bool) (text : List ℕ) (s : TapState) → Idle e s → Idle e (file_taken text s)
unfolding file_taken
takes_file e text s j = emits_tail e _ _ _ (comes_file e (name_of_file text) _ (outside e s j))

takes_verdict : (e : Bool) (level : Level) (text : List ℕ) (s : TapState) → Idle e s → Idle e (verdict_taken level text s)
unfolding verdict_taken
takes_verdict e level text s j = emits_verdict e level _ _ (outside e s j)

begins_summary : (e : Bool) (s : TapState) → Idle e s → Idle e (summary_begun s)
unfolding summary_begun
begins_summary e s j = same e (script_closed (deeper_left 0 (without_heading s))) _ refl refl refl refl (closes_script e _ (outside e s j))

ends_the_summary : (e : Bool) (text : List ℕ) (s : TapState) → Held e s → Held e (summary_taken text s)
unfolding summary_taken
ends_the_summary e text s k =
    choose (Held e) (ends_summary text) _ _
    (choose (Held e) (is_failed_summary text && not (tally_has_failure s.tally)) _ _
    (record { agrees = emitted_error e (pending s.waiting) text None (record s { mode = Over }); one = k.one }) (record { agrees = k.agrees; one = k.one }))
    k

-- ---- lines

begins_first : (e : Bool) (kind : Kind) (s : TapState) → Idle e s → Idle e (begun_first kind s)
begins_first e Comment s j = j
begins_first e Output s j = j
begins_first e Brace s j = j
begins_first e Passing s j = same e s _ refl refl refl refl j
begins_first e Failing s j = same e s _ refl refl refl refl j
begins_first e Plan s j = same e s _ refl refl refl refl j
begins_first e BailOut s j = same e s _ refl refl refl refl j
begins_first e HeadingLine s j = same e s _ refl refl refl refl j
begins_first e Frame s j = same e s _ refl refl refl refl j

begins_as : (e : Bool) (mode : Mode) (kind : Kind) (s : TapState) → Idle e s → Idle e (begun_as mode kind s)
begins_as e Start kind s j = begins_first e kind s j
begins_as e Over kind s j = begins_first e kind s j
begins_as e Script kind s j = j
begins_as e File kind s j = j
begins_as e Judged kind s j = j
begins_as e Summary kind s j = j
begins_as e Bailed kind s j = j

begins : (e : Bool) (kind : Kind) (s : TapState) → Idle e s → Idle e (script_begun kind s)
unfolding script_begun
begins e kind s j = begins_as e s.mode kind s j

takes_as : (e : Bool) (kind : Kind) (column : ℕ) (text inner : List ℕ) (s : TapState) → Idle e s → Held e (taken_as kind column text inner s)
takes_as e Passing column text inner s j = takes_result e _ _ s j
takes_as e Failing column text inner s j = takes_result e _ _ s j
takes_as e Plan column text inner s j = held e _ (takes_plan e column inner s j)
takes_as e BailOut column text inner s j = held e _ (bails e inner s j)
takes_as e HeadingLine column text inner s j = held e _ (takes_heading e column _ s j)
takes_as e Comment column text inner s j = held e _ (takes_comment e (comment_of inner) s j)
takes_as e Frame column text inner s j = held e s j
takes_as e Brace column text inner s j = takes_brace e column text s j
takes_as e Output column text inner s j = held e _ (takes_output e text s j)

takes_kind : (e : Bool) (kind : Kind) (column : ℕ) (text inner : List ℕ) (s : TapState) → Idle e s → Held e (kind_taken kind column text inner s)
unfolding kind_taken
takes_kind e kind column text inner s j = takes_as e kind column text inner _ (comes e column _ (begins e kind s j))

takes_part : (e : Bool) (part : Part) (text inner : List ℕ) (s : TapState) → Idle e s → Held e (part_taken part text inner s)
unfolding part_taken
takes_part e FileLine text inner s j = held e _ (takes_file e text s j)
takes_part e (VerdictLine level) text inner s j = held e _ (takes_verdict e level text s j)
takes_part e StampLine text inner s j = held e s j
takes_part e SummaryLine text inner s j = held e _ (begins_summary e s j)
takes_part e Line text inner s j = takes_kind e (kind_of_line inner) _ text inner s j

takes_next : (e : Bool) (text : List ℕ) (s : TapState) → Idle e s → Held e (next_taken text s)
unfolding next_taken
takes_next e text s j =
    choose (Held e) (is_empty (without_leading 32 text)) _ _ (held e s j) (takes_part e (part_of s.mode text) text (without_leading 32 text) s j)

-- ---- blocks

-- a result was taken out
record Taken (e : Bool) (w : Waiting) (s : TapState) : Type 0 where
  agrees : Agrees e (fails w.verdict) s
  none : s.waiting ≡ None
  bare : s.braced ≡ None

finishes : (e : Bool) (w : Waiting) (s : TapState) → Taken e w s → Idle e (result_finished w s)
finishes e w s k = finish e w s k.agrees k.none k.bare

spans : (e : Bool) (is : Bool) (w : Waiting) (span : Option Id) (label text : List ℕ) (s t : TapState) → Agrees e (fails w.verdict) s → Agrees e (fails w.verdict) t →
    Agrees e (fails (if is then w else record w { span = span; label = label }).verdict)
    (tap_line_emitted OutputLine text (if is then w else record w { span = span; label = label }).span (if is then s else t))
spans e true w span label text s t i k = emitted_quiet e _ OutputLine _ s refl refl i
spans e false w span label text s t i k = emitted_quiet e _ OutputLine _ t refl refl k

bare_if : (is : Bool) (s t : TapState) → s.braced ≡ None → t.braced ≡ None → (if is then s else t).braced ≡ None
bare_if true s t hs ht = hs
bare_if false s t hs ht = ht

details : (e : Bool) (w : Waiting) (text : List ℕ) (s : TapState) → Taken e w s → Held e (detail_taken w text s)
unfolding detail_taken
details e w text s k = record {
  agrees = spans e (is_some w.span) w _ [] text s (test_span_opened w.label w.parent s) k.agrees (open_agrees e _ w.label w.parent s k.agrees);
  one = inr (bare_if (is_some w.span) s (test_span_opened w.label w.parent s) k.bare k.bare);
}

times_or_emits : (e : Bool) (time : Option ℕ) (w : Waiting) (rest : List ℕ) (s : TapState) → Taken e w s → Held e (timed_or_emitted time w rest s)
times_or_emits e (Some nanoseconds) w rest s k = record { agrees = k.agrees; one = inr k.bare }
times_or_emits e None w rest s k = details e w rest s k

takes_inside : (e : Bool) (w : Waiting) (rest : List ℕ) (s : TapState) → Taken e w s → Held e (inside_taken w rest s)
unfolding inside_taken
takes_inside e w rest s k =
    choose (Held e) (bytes_eq rest (codes "...")) _ _ (held e _ (finishes e w s k)) (times_or_emits e (duration_of rest) w rest s k)

takes_outside : (e : Bool) (w : Waiting) (text : List ℕ) (s : TapState) → Taken e w s → Held e (outside_taken w text s)
unfolding outside_taken
takes_outside e w text s k =
    choose (Held e) (is_empty (without_leading 32 text)) _ _ (details e w [] s k) (takes_next e text _ (finishes e w s k))

takes_block : (e : Bool) (w : Waiting) (text : List ℕ) (s : TapState) → Taken e w s → Held e (block_taken w text s)
unfolding block_taken
takes_block e w text s k = by (after_mark w.margin text) refl where
  by : (o : Option (List ℕ)) → after_mark w.margin text ≡ o → Held e (block_taken w text s)
  by (Some rest) is = rw is (takes_inside e w rest s k)
  by None is = rw is (takes_outside e w text s k)

takes_after : (e : Bool) (w : Waiting) (text : List ℕ) (s : TapState) → Taken e w s → Held e (after_taken w text s)
unfolding after_taken
takes_after e w text s k =
    choose (Held e) (not (is_empty w.margin)) _ _ (takes_block e w text s k)
    (choose (Held e) (begins_block w.column text) _ _ (record { agrees = k.agrees; one = inr k.bare }) (takes_next e text _ (finishes e w s k)))

takes_if : (e : Bool) (o : Option Waiting) (text : List ℕ) (s : TapState) → Agrees e (pending o) s → s.waiting ≡ None → s.braced ≡ None → Held e (taken_if o text s)
takes_if e (Some w) text s i none bare = takes_after e w text s (record { agrees = i; none = none; bare = bare })
takes_if e None text s i none bare = takes_next e text s (record { agrees = i; none = none; bare = bare })

takes_unheld : (e : Bool) (text : List ℕ) (s : TapState) → Waits e s → Held e (unheld_taken text s)
unfolding unheld_taken
takes_unheld e text s k = takes_if e s.waiting text (record s { waiting = None }) k.agrees refl k.bare

takes_held_at : (e : Bool) (place : Place) (b : Braced) (text : List ℕ) (s : TapState) → Idle e s → Held e (held_taken_at place b text s)
takes_held_at e Inside b text s j = takes_next e text _ (opens_braces e b _ s j)
takes_held_at e After b text s j = waits_held e _ (result e None [] b.mark _ s j)
takes_held_at e Beside b text s j = takes_unheld e text _ (result e None [] b.mark b.rest s j)

takes_text_if : (e : Bool) (o : Option Braced) (text : List ℕ) (s : TapState) → Agrees e (pending s.waiting) s → (s.waiting ≡ None) ⊎ (o ≡ None) → s.braced ≡ None
    → Held e (text_taken_if o text s)
unfolding held_taken
takes_text_if e (Some b) text s i (inl none) bare =
    takes_held_at e _ b text s (record { agrees = subst (λ o. Agrees e (pending o) s) none i; none = none; bare = bare })
takes_text_if e (Some b) text s i (inr none) bare = cc
takes_text_if e None text s i one bare = takes_unheld e text s (record { agrees = i; bare = bare })

takes_text : (e : Bool) (text : List ℕ) (s : TapState) → Held e s → Held e (text_taken text s)
unfolding text_taken
takes_text e text s k = takes_text_if e s.braced text (record s { braced = None }) k.agrees k.one refl

takes_in : (e : Bool) (mode : Mode) (text : List ℕ) (s : TapState) → Held e s → Held e (taken_in mode text s)
takes_in e Bailed text s k = k
takes_in e Summary text s k = ends_the_summary e text s k
takes_in e Start text s k = takes_text e text s k
takes_in e Over text s k = takes_text e text s k
takes_in e Script text s k = takes_text e text s k
takes_in e File text s k = takes_text e text s k
takes_in e Judged text s k = takes_text e text s k

takes_line : (e : Bool) (line : List ℕ) (s : TapState) → Held e s → Held e (tap_line_taken line s)
unfolding tap_line_taken
takes_line e line s k = takes_in e s.mode _ s k

-- ---- all lines

-- the ready calls are returned
returns_ready : (e : Bool) (s : TapState) → Held e s → Held (e || has_error s.queue.ready) (handed_out s).source
returns_ready e s k = record {
  agrees = ap (λ b. b || pending s.waiting) (or_false (e || has_error s.queue.ready)) ∙ k.agrees;
  one = k.one;
}

-- an ERROR was returned before these calls, or by them
abbrev AfterLine : Bool → Interpreted TapState → Type 0
AfterLine e interpreted = Held (e || has_error interpreted.calls) interpreted.source

known_line : (e : Bool) (s : TapState) (line : List ℕ) (value : Option Json) → Held e s → AfterLine e (interpreted_step s (tap_takes s line value))
known_line e s line value k =
    returns_ready e _ (choose (Held e) (is_passed_over line s) s (tap_line_taken line s) k (takes_line e line s k))

nothing_new : (e : Bool) (s : TapState) → Held e s → Held (e || false) s
nothing_new e s k = subst (λ b. Held b s) (sym (or_false e)) k

one_line : (e : Bool) (s : TapState) (line : List ℕ) → Held e s → AfterLine e (interpret_line tap_takes s line)
one_line e s line k = by (is_utf8 line) where
  by : (is : Bool) → AfterLine e (if is then interpreted_step s (tap_takes s line (document line)) else interpreted_step s None)
  by true = known_line e s line (document line) k
  by false = nothing_new e s k

two : (e : Bool) (first next : Interpreted TapState) → AfterLine (e || has_error first.calls) next → AfterLine e (then_interpreted first next)
two e first next k =
    subst (λ b. Held b next.source) (or_assoc e (has_error first.calls) (has_error next.calls) ∙ ap (λ b. e || b) (sym (list_any-append is_error_row first.calls next.calls))) k

all_lines : (lines : List (List ℕ)) (e : Bool) (s : TapState) → Held e s → AfterLine e (interpret tap_takes s lines)
all_lines [] e s k = nothing_new e s k
all_lines (line ∷ lines) e s k =
    two e (interpret_line tap_takes s line) (interpret tap_takes (interpret_line tap_takes s line).source lines)
    (all_lines lines (e || has_error (interpret_line tap_takes s line).calls) (interpret_line tap_takes s line).source (one_line e s line k))

-- ---- the end

ends_brace_if : (e : Bool) (o : Option Braced) (s : TapState) → Agrees e (pending s.waiting) s → (s.waiting ≡ None) ⊎ (o ≡ None) → s.braced ≡ None → Waits e (brace_ended_if o s)
ends_brace_if e (Some b) s i (inl none) bare =
    result e None [] b.mark b.rest s (record { agrees = subst (λ o. Agrees e (pending o) s) none i; none = none; bare = bare })
ends_brace_if e (Some b) s i (inr none) bare = cc
ends_brace_if e None s i one bare = record { agrees = i; bare = bare }

ends_brace : (e : Bool) (s : TapState) → Held e s → Waits e (brace_ended s)
unfolding brace_ended
ends_brace e s k = ends_brace_if e s.braced (record s { braced = None }) k.agrees k.one refl

ends_heading_if : (e : Bool) (heading : Option Heading) (s : TapState) → Idle e s → Idle e (heading_ended_if heading s)
ends_heading_if e (Some heading) s j = fails_with e (unfinished_text heading.name) s.subtest.span s j
ends_heading_if e None s j = j

ends_heading : (e : Bool) (s : TapState) → Idle e s → Idle e (heading_ended s)
unfolding heading_ended
ends_heading e s j = ends_heading_if e s.heading _ (same e s (record s { heading = None }) refl refl refl refl j)

ends_input_in : (e : Bool) (mode : Mode) (s : TapState) → Idle e s → Idle e (input_ended_in mode s)
ends_input_in e Start s j = fails_with e (codes "no line of TAP") None s j
ends_input_in e Summary s j = fails_with e (codes "unfinished summary") None s j
ends_input_in e Script s j = j
ends_input_in e File s j = j
ends_input_in e Judged s j = j
ends_input_in e Over s j = j
ends_input_in e Bailed s j = j

ends_input : (e : Bool) (s : TapState) → Idle e s → Idle e (input_ended s)
unfolding input_ended
ends_input e s j = ends_input_in e s.mode s j

ends_all : (e : Bool) (s : TapState) → Held e s → Idle e (all_ended s)
unfolding all_ended
ends_all e s k =
    let waiting = ends_brace e s k in
    ends_input e _ (closes_script e _ (leaves_deeper e 0 _ (ends_heading e _ (flush e _ waiting.agrees waiting.bare))))

at_first : (is_failed_only : Bool) (next : ℕ) (moment : Moment) → Held false (nothing_run is_failed_only next moment)
at_first is_failed_only next moment = record { agrees = refl; one = inl refl }

-- a run of TAP has failed exactly if a row is an ERROR
pub failed_by_a_row : (is_failed_only : Bool) (next : ℕ) (moment : Moment) (lines : List (List ℕ)) →
    tally_has_failure (source_after tap_takes tap_ended (nothing_run is_failed_only next moment) lines).tally
    ≡ has_error (calls_before_counts (nothing_run is_failed_only next moment) lines)
failed_by_a_row is_failed_only next moment lines =
    let s = nothing_run is_failed_only next moment in
    let interpreted = interpret tap_takes s lines in
    let j = ends_all (has_error interpreted.calls) interpreted.source (all_lines lines false s (at_first is_failed_only next moment)) in
    sym (list_any-append is_error_row interpreted.calls (all_ended interpreted.source).queue.ready ∙ sym (or_false _) ∙ j.agrees)

-- the last row has the counts, and is an ERROR exactly if the run has failed
pub last_row_counts : (is_failed_only : Bool) (next : ℕ) (moment : Moment) (lines : List (List ℕ)) →
    calls_of tap_takes tap_ends (nothing_run is_failed_only next moment) lines
    ≡ calls_before_counts (nothing_run is_failed_only next moment) lines ++ tally_call (after_all (nothing_run is_failed_only next moment) lines) ∷ []
last_row_counts is_failed_only next moment lines =
    let s = nothing_run is_failed_only next moment in
    sym (append_assoc (interpret tap_takes s lines).calls (after_all s lines).queue.ready (tally_call (after_all s lines) ∷ []))
