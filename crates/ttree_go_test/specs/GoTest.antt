-- Go's tests: what each line of `go test -json` means.
use Rattle.std.specs.Prelude.{◌≡◌, ℕ, zero, suc, pos, ◌+◌, ◌-◌, ◌==◌, ◌&&◌, ◌||◌, nat_le, Bool, true, false, not, if◌then◌else◌, List, [], ◌∷◌, ◌++◌, length, take, drop, Option, Some, None, is_some, unwrap_or, option_map, option_and_then, codes, bytes_eq}
use Rattle.std.specs.Fmt.{digits}
use Rattle.std.specs.List.{position_or_len}
use Rattle.json.specs.Json.{Json}
use Rattle.json.specs.Find.{get, as_number}
use Rattle.tracing_tree_base.specs.Field.{rendered_field, truth_field, whole_field}
use Rattle.tracing_tree_spans.specs.Registry.Ids.{id_of}
use Rattle.tracing_tree_base.specs.declared.context.Id.{Id}
use Rattle.tracing_tree_base.specs.declared.context.Moment.{Moment}
use Rattle.tracing_tree_base.specs.declared.field.Field.{Field}
use Rattle.tracing_tree_base.specs.declared.style.Level.{Level}
use Rattle.tracing_tree_base.specs.declared.style.Level.TheVariants.{Info, Warn, Error}
use Rattle.tracing_tree_layer.specs.declared.call.Call.{Call}
use Rattle.tracing_tree_lines.specs.Lines.Spelled.{is_skipped}
use Rattle.ttree_go_test.specs.Names.{named, put, without}
use Rattle.ttree_go_test.specs.Texts.{coverage_in, ends_line, ends_word, is_cached, is_frame, is_frame_line, is_package_frame, is_progress, own_name, up_to_space, without_line_end}
use Rattle.ttree_source.specs.Source.{Step}
use Rattle.ttree_source.specs.Counts.{one_more}
use Rattle.ttree_source.specs.Marks.{after_mark, begins, is_empty}
use Rattle.ttree_source.specs.Traces.{begins_trace}
use Rattle.ttree_source.specs.Values.{text_at}
use Rattle.ttree_source.specs.declared.notes.Problem.{Problem}
use Rattle.ttree_source.specs.declared.notes.Problem.TheVariants.{Object, Action, Package, Output}
use Rattle.ttree_source.specs.Moments.{moment_after}
use Rattle.ttree_source.specs.Calls.{close_call, event_call, message_field, shown_text, span_call}
use Rattle.ttree_go_test.specs.declared.go_test.builds.Build.{Build}
use Rattle.ttree_go_test.specs.declared.go_test.running.Kind.{Kind}
use Rattle.ttree_go_test.specs.declared.go_test.running.Kind.TheVariants.{Plain, Frame, Failure}
use Rattle.ttree_go_test.specs.declared.go_test.running.Running.{Running}
use Rattle.ttree_go_test.specs.declared.go_test.tally.Ending.{Ending}
use Rattle.ttree_go_test.specs.declared.go_test.tally.Ending.TheVariants.{Passed, Failed, Skipped, Unfinished}
use Rattle.ttree_go_test.specs.declared.go_test.tally.Failing.{Failing}
use Rattle.ttree_go_test.specs.declared.go_test.tally.Tally.{Tally}

-- what runs of a package by the names of its tests; the package itself has the empty name
abbrev pub Tests : Type 0
Tests = List (List ℕ × Running)

-- What is known of the running tests: the id of the next span, the moment of the last line, what
-- runs by package path, the build output that isn't reported yet, the counts of tests and packages
-- by their ends, the names of those that failed, the package whose build prints lines that aren't
-- JSON, the span of the last call, and the calls that weren't returned yet.
pub record GoState : Type 0 where
  pub next : ℕ
  pub moment : Moment
  pub packages : List (List ℕ × Tests)
  pub builds : List (List ℕ × Build)
  pub tally : Tally
  pub failing : Failing
  pub building : List ℕ
  pub last : Option Id
  pub calls : List Call

-- nothing is counted yet
abbrev pub no_counts : Tally
no_counts = record {
  passed = 0;
  failed = 0;
  skipped = 0;
  unfinished = 0;
  packages = 0;
  packages_failed = 0;
}

-- no test runs yet
abbrev pub nothing_run : ℕ → Moment → GoState
nothing_run next moment = record {
  next = next;
  moment = moment;
  packages = [];
  builds = [];
  tally = no_counts;
  failing = record { packages = []; tests = [] };
  building = [];
  last = None;
  calls = [];
}

-- ---- endings

abbrev pub ending_word : Ending → List ℕ
ending_word Passed = codes "pass"
ending_word Failed = codes "fail"
ending_word Skipped = codes "skip"
ending_word Unfinished = codes "unfinished"

abbrev pub level_of_ending : Ending → Level
level_of_ending Passed = Info
level_of_ending Failed = Error
level_of_ending Skipped = Warn
level_of_ending Unfinished = Error

-- ---- counts

-- a test or a package failed, or a package didn't end
abbrev pub counts_failure : Tally → Bool
counts_failure tally = not (tally.failed == 0) || not (tally.packages_failed == 0)

-- something has failed
abbrev pub any_failed : GoState → Bool
any_failed s = counts_failure s.tally

-- the names of what failed, after one more: at most ten of them
abbrev pub more_names : ℕ → List ℕ → List ℕ → List ℕ
more_names count names name =
    if nat_le 10 count then names
    else if is_empty names then name
    else names ++ codes " " ++ name

-- a test that failed
abbrev pub failed_counted : List ℕ → List ℕ → GoState → GoState
failed_counted path test s = record s {
  tally = record s.tally { failed = one_more s.tally.failed };
  failing = record s.failing
      { tests = more_names s.tally.failed s.failing.tests (path ++ codes "." ++ test) };
}

-- a test that came to this end
abbrev pub end_counted : Ending → List ℕ → List ℕ → GoState → GoState
end_counted Passed path test s =
    record s { tally = record s.tally { passed = one_more s.tally.passed } }
end_counted Failed path test s = failed_counted path test s
end_counted Skipped path test s =
    record s { tally = record s.tally { skipped = one_more s.tally.skipped } }
end_counted Unfinished path test s =
    record s { tally = record s.tally { unfinished = one_more s.tally.unfinished } }

-- a package that came to an end
abbrev pub one_ended : GoState → GoState
one_ended s = record s { tally = record s.tally { packages = one_more s.tally.packages } }

-- a package that failed
abbrev pub package_failed : List ℕ → GoState → GoState
package_failed path s = record s {
  tally = record s.tally { packages_failed = one_more s.tally.packages_failed };
  failing = record s.failing
      { packages = more_names s.tally.packages_failed s.failing.packages path };
}

-- a package that came to this end; a package that doesn't end has failed
abbrev pub package_counted : Ending → List ℕ → GoState → GoState
package_counted Passed path s = one_ended s
package_counted Failed path s = package_failed path (one_ended s)
package_counted Skipped path s = one_ended s
package_counted Unfinished path s = package_failed path (one_ended s)

-- ---- calls

-- adds a call, after which this is the last span
abbrev pub emitted_with_last : Option Id → Call → GoState → GoState
emitted_with_last last call s = record s { calls = s.calls ++ call ∷ []; last = last }

-- an event with these further fields in this span, unless its message is blank
abbrev pub text_event_emitted : Level → List ℕ → List Field → Option Id → GoState → GoState
text_event_emitted level text rest parent s =
    if is_skipped text then s
    else emitted_with_last parent (event_call s.moment level (message_field text ∷ rest) parent) s

abbrev pub elapsed_fields : Option (List ℕ) → List Field
elapsed_fields None = []
elapsed_fields (Some elapsed) = rendered_field (codes "elapsed") elapsed ∷ []

-- whether a package's result is cached from an earlier run, and its coverage
abbrev pub cached_fields : Bool → List Field
cached_fields is_cached = if is_cached then truth_field (codes "cached") true ∷ [] else []

abbrev pub coverage_fields : List ℕ → List Field
coverage_fields coverage =
    if is_empty coverage then []
    else record { name = codes "coverage"; value = shown_text coverage } ∷ []

-- what the event of its end shows
abbrev pub test_end_fields : Option (List ℕ) → Running → List Field
test_end_fields elapsed one =
    elapsed_fields elapsed ++ cached_fields one.is_cached ++ coverage_fields one.coverage

-- the end of a test without a span, as an event
abbrev pub quiet_emitted : Ending → List ℕ → List Field → Option Id → GoState → GoState
quiet_emitted ending name rest parent s =
    text_event_emitted (level_of_ending ending)
    (ending_word ending ++ codes " " ++ name) rest parent s

-- the whole name of a test, or the path of a package
abbrev pub whole_name : Running → List ℕ
whole_name one = if is_empty one.test then one.path else one.test

-- ---- packages

-- what runs of a package
abbrev pub tests_of : List ℕ → GoState → Tests
tests_of path s = unwrap_or (named path s.packages) []

-- this test runs, or with an empty name its package
abbrev pub runs : List ℕ → List ℕ → GoState → Bool
runs path test s = is_some (named test (tests_of path s))

-- nothing runs of a package
abbrev pub without_package : List ℕ → GoState → GoState
without_package path s = record s { packages = without path s.packages }

-- this runs of a package
abbrev pub with_package : List ℕ → Tests → GoState → GoState
with_package path tests s = record s { packages = put path tests s.packages }

-- ---- what runs, removed from the state while it is used

pub record Held : Type 0 where
  pub one : Running
  pub state : GoState

abbrev pub holds : Running → GoState → Held
holds one state = record { one = one; state = state }

unfoldable pub test_kept : Held → GoState
test_kept h =
    with_package h.one.path (put h.one.test h.one (tests_of h.one.path h.state))
    (without_package h.one.path h.state)

-- its span is opened, unless it is open
abbrev pub opened_as : Option Id → Held → Held
opened_as (Some id) h = h
opened_as None h = record {
  one = record h.one { span = Some (id_of h.state.next) };
  state = record (emitted_with_last (Some (id_of h.state.next))
      (span_call h.state.moment h.one.name [] h.one.parent) h.state)
      { next = one_more h.state.next };
}

abbrev pub held_opened : Held → Held
held_opened h = opened_as h.one.span h

-- an event in its span
abbrev pub said : Level → List ℕ → Held → Held
said level text h = record h { state = text_event_emitted level text [] h.one.span h.state }

-- a line of a package may say how it ended
abbrev pub end_noted : List ℕ → Running → Running
end_noted line one = record one {
  is_cached = one.is_cached || is_cached line;
  coverage = unwrap_or (coverage_in line) one.coverage;
}

-- a line that only frames
abbrev pub framed : List ℕ → Held → Held
framed line h = if is_empty h.one.test then record h { one = end_noted line h.one } else h

-- reports this line of it, unless it only frames
abbrev pub line_reported : Level → List ℕ → Held → Held
line_reported level text h =
    let line = without_line_end text in
    if is_frame h.one.test line then framed line h else said level line (held_opened h)

abbrev pub level_of_line : Bool → Level
level_of_line is_error = if is_error then Error else Info

-- reports the line that it has printed
abbrev pub part_line_emitted : Held → Held
part_line_emitted h =
    line_reported (level_of_line h.one.is_error) h.one.part
    (record h { one = record h.one { part = []; is_error = false } })

abbrev pub part_emitted : Held → Held
part_emitted h = if is_empty h.one.part then h else part_line_emitted h

abbrev pub span_ended : Ending → List Field → Option Id → Held → GoState
span_ended ending rest (Some id) h =
    emitted_with_last h.one.parent (close_call h.state.moment id h.one.parent)
    (text_event_emitted (level_of_ending ending) (ending_word ending) rest (Some id) h.state)
span_ended ending rest None h = quiet_emitted ending h.one.name rest h.one.parent h.state

-- it runs no longer
abbrev pub held_finished : Ending → Option (List ℕ) → Held → GoState
held_finished ending elapsed h =
    let last = part_emitted h in
    span_ended ending (test_end_fields elapsed last.one) last.one.span last

-- its span closes, if it has one, and nothing is reported of an end
abbrev pub only_closed : Option Id → Held → GoState
only_closed None h = h.state
only_closed (Some id) h =
    emitted_with_last h.one.parent (close_call h.state.moment id h.one.parent) h.state

-- the whole name of a test, or with an empty name the path of its package
abbrev pub name_at_first : List ℕ → List ℕ → List ℕ
name_at_first path test = if is_empty test then path else test

abbrev pub new_running : List ℕ → List ℕ → Running
new_running path test = record {
  path = path;
  test = test;
  name = name_at_first path test;
  parent = None;
  span = None;
  part = [];
  is_error = false;
  has_begun = not (is_empty test);
  is_cached = false;
  coverage = [];
}

-- it has started, and not only its build
abbrev pub started : Held → Held
started h = record h { one = record h.one { has_begun = true } }

-- what runs under this name; an unknown package starts
abbrev pub running_as : List ℕ → List ℕ → Tests → Running
running_as path name tests = unwrap_or (named name tests) (new_running path [])

-- the longest running test among a name's prefixes of at most n bytes that end at a `/` or are the
-- name; otherwise the empty name, which is the package's
abbrev pub owner_within : Tests → List ℕ → ℕ → List ℕ
owner_within tests test zero = []
owner_within tests test (suc n) =
    if ends_word 47 (drop (suc n) test) && is_some (named (take (suc n) test) tests)
    then take (suc n) test else owner_within tests test n

-- the longest prefix of a name that runs
abbrev pub owner : Tests → List ℕ → List ℕ
owner tests test = owner_within tests test (length test)

-- its span, if it runs and has one
abbrev pub span_of_test : Tests → List ℕ → Option Id
span_of_test tests name = option_and_then (λ (one : Running). one.span) (named name tests)

-- what has a span
abbrev pub if_has_span : Option Running → Option Running
if_has_span (Some one) = if is_some one.span then Some one else None
if_has_span None = None

-- what runs under the name's prefix of n bytes that ends at a `/`, if it has a span
abbrev pub shown_at : Tests → List ℕ → ℕ → Option Running
shown_at tests test n =
    if ends_word 47 (drop n test) then if_has_span (named (take n test) tests) else None

-- of the name's prefixes of at most n bytes, the longest that runs and has a span
abbrev pub outer_within : Tests → List ℕ → ℕ → Option Running
outer_within tests test zero = None
outer_within tests test (suc n) =
    found_or (shown_at tests test (suc n)) (outer_within tests test n) where
      found_or : Option Running → Option Running → Option Running
      found_or (Some one) shorter = Some one
      found_or None shorter = shorter

-- the span of the test that it is nested in, or the package's
abbrev pub outer_span : Option Id → Option Running → Option Id
outer_span root (Some outer) = outer.span
outer_span root None = root

-- its name as shown in that test, or in the package
abbrev pub shown_name : Option Running → Running → List ℕ
shown_name (Some outer) one = own_name outer.test one.test
shown_name None one = whole_name one

-- It is nested in this test, or in the package, whose span `root` is. The name is that in the test
-- in which its span opened.
abbrev pub placed_in : Option Id → Option Running → Running → Running
placed_in root outer one = record one {
  parent = outer_span root outer;
  name = if is_some one.span then one.name else shown_name outer one;
}

-- It is nested in the test with the longest prefix of its name that still runs and has a span,
-- otherwise in the package: its first parent may have ended.
abbrev pub test_placed : Option Id → Tests → Running → Running
test_placed root others one =
    placed_in root (outer_within others one.test (length one.test)) one

-- removes what runs under the longest prefix of a name
unfoldable pub held_test : List ℕ → List ℕ → GoState → Held
held_test path test s =
    let tests : Tests = tests_of path s in
    let name : List ℕ = owner tests test in
    let others : Tests = without name tests in
    holds (test_placed (span_of_test others []) others (running_as path name tests))
    (with_package path others (without_package path s))

-- a test or package without a reported end is counted
abbrev pub noted_left : Ending → Running → GoState → GoState
noted_left ending one s =
    if is_empty one.test then package_counted ending one.path s
    else end_counted ending one.path one.test s

-- what still runs comes to this end; a package doesn't run before it has started
abbrev pub left_one : Ending → Running → GoState → GoState
left_one ending one s =
    if one.has_begun then held_finished ending None (holds one (noted_left ending one s)) else s

-- ---- actions

-- where a new test is nested; if a test of its name runs already, that one ends unfinished
unfoldable pub above_held : List ℕ → List ℕ → GoState → Held
above_held path test s =
    let h = held_test path test s in
    if is_empty test || not (bytes_eq h.one.test test) then h
    else held_test path test (left_one Unfinished h.one h.state)

-- a test, or its package, starts in what is held
abbrev pub begun_in : List ℕ → List ℕ → Held → GoState
begun_in path test h =
    if is_empty test then test_kept h else test_kept (holds (new_running path test) (test_kept h))

-- a line that isn't ended yet comes before what starts after it
abbrev pub ran : List ℕ → List ℕ → GoState → GoState
ran path test s = begun_in path test (started (held_opened (part_emitted (above_held path test s))))

-- reports the line that this string ends
abbrev pub emitted_if_ended : List ℕ → Held → Held
emitted_if_ended text h = if ends_line text then part_line_emitted h else h

-- a string after what is printed of a line; an error makes its line an error
abbrev pub more_printed : Bool → List ℕ → Held → Held
more_printed is_error text h =
    record h {
      one = record h.one {
        part = h.one.part ++ text;
        is_error = h.one.is_error || is_error;
      };
    }

-- a string that isn't a frame
abbrev pub text_printed : Bool → List ℕ → Held → Held
text_printed is_error text h = emitted_if_ended text (more_printed is_error text h)

-- a frame ends the line before it
abbrev pub frame_printed : List ℕ → Held → Held
frame_printed text h = framed (without_line_end text) (part_emitted h)

abbrev pub fails_as : Kind → Bool
fails_as Plain = false
fails_as Frame = false
fails_as Failure = true

-- a string only frames: the line's type says so, or it has the form of a frame
abbrev pub is_framing : Kind → List ℕ → List ℕ → Bool
is_framing Plain test text = is_frame_line test text
is_framing Frame test text = true
is_framing Failure test text = is_frame_line test text

-- a string of a test or its package
abbrev pub string_printed : Kind → List ℕ → Held → Held
string_printed kind text h =
    if is_framing kind h.one.test text then frame_printed text h
    else text_printed (fails_as kind) text h

-- a test prints, or a package
abbrev pub printed : Kind → List ℕ → List ℕ → List ℕ → GoState → GoState
printed kind path test text s =
    test_kept (string_printed kind text (started (held_test path test s)))

-- ---- builds

-- the build output that isn't reported yet
abbrev pub build_of : List ℕ → GoState → Build
build_of path s = unwrap_or (named path s.builds) (record { path = path; texts = [] })

abbrev pub without_build : List ℕ → GoState → GoState
without_build path s = record s { builds = without path s.builds }

abbrev pub with_build : List ℕ → Build → GoState → GoState
with_build path build s = record s { builds = put path build s.builds }

-- with one more string
abbrev pub more_built : List ℕ → Build → Build
more_built text build = record build { texts = build.texts ++ text ∷ [] }

-- a build prints: its output is reported once it is known whether the build fails
abbrev pub build_printed : List ℕ → List ℕ → GoState → GoState
build_printed path text s =
    with_build path (more_built text (build_of path s)) (without_build path s)

-- a string without its first line, if that names the package
abbrev pub without_heading : List ℕ → List ℕ
without_heading text =
    if begins (codes "# ") text then drop (position_or_len (λ b. b == 10) text + 1) text else text

-- what `go` says about what it fetches is no part of a failure
abbrev pub level_of_build : Level → List ℕ → Level
level_of_build level line = if is_progress line then Info else level

-- reports a string that a build printed, unless nothing is left of it
abbrev pub build_said : Level → List ℕ → Held → Held
build_said level text h =
    let line = without_line_end (without_heading text) in
    if is_skipped line then h else said (level_of_build level line) line (held_opened h)

abbrev pub builds_said : Level → List (List ℕ) → Held → Held
builds_said level [] h = h
builds_said level (text ∷ later) h = builds_said level later (build_said level text h)

-- reports the build output in its package
abbrev pub texts_emitted : Level → Build → GoState → GoState
texts_emitted level build s = test_kept (builds_said level build.texts (held_test build.path [] s))

abbrev pub emitted_of_build : Level → Option Build → GoState → GoState
emitted_of_build level None s = s
emitted_of_build level (Some build) s = texts_emitted level build s

abbrev pub build_emitted : Level → List ℕ → GoState → GoState
build_emitted level path s = emitted_of_build level (named path s.builds) (without_build path s)

-- what still runs of a package comes to this end, from the last name on: a test ends after those in
-- it, and is nested in those of earlier names
abbrev pub left_over : Ending → Option Id → Tests → Tests → GoState → GoState
left_over ending root earlier [] s = s
left_over ending root earlier (test ∷ later) s =
    left_one ending (test_placed root earlier test.1)
    (left_over ending root (earlier ++ test ∷ []) later s)

-- only the package itself still runs of a package
abbrev pub all_left_over : Ending → List ℕ → GoState → GoState
all_left_over ending path s =
    let tests : Tests = tests_of path s in
    left_over ending (running_as path [] tests).span [] (without [] tests)
    (without_package path s)

-- how a test ends that still runs when its package ends: Go doesn't report that a benchmark passed
abbrev pub left_as : Ending → Ending
left_as Passed = Passed
left_as Failed = Unfinished
left_as Skipped = Unfinished
left_as Unfinished = Unfinished

-- a package ends
unfoldable pub package_ended : Ending → List ℕ → Option (List ℕ) → GoState → GoState
package_ended ending path elapsed s =
    let counted_too : GoState = package_counted ending path s in
    held_finished ending elapsed
    (holds (running_as path [] (tests_of path counted_too))
    (all_left_over (left_as ending) path counted_too))

-- a test ends, whether it runs or not
abbrev pub test_ended : Ending → List ℕ → Option (List ℕ) → Held → GoState
test_ended ending test elapsed h =
    if bytes_eq h.one.test test then held_finished ending elapsed h
    else
    let parent : Held = held_opened h in
    test_kept (record parent {
      state = quiet_emitted ending (own_name parent.one.test test)
          (elapsed_fields elapsed) parent.one.span parent.state;
    })

-- the build of this package prints no more lines
abbrev pub build_over : List ℕ → GoState → GoState
build_over path s =
    record s { building = if bytes_eq s.building path then [] else s.building }

abbrev pub test_or_package_ended : Ending → List ℕ → List ℕ → Option (List ℕ) → GoState → GoState
test_or_package_ended ending path test elapsed s =
    if is_empty test then package_ended ending path elapsed (build_over path s)
    else test_ended ending test elapsed (held_test path test (end_counted ending path test s))

-- ---- lines

-- the level of a line that isn't a build's
abbrev pub level_of_text : List ℕ → Level
level_of_text line = if begins_trace line then Error else Info

-- a line outside of builds: no build is known to print, or `go` says what it does
abbrev pub is_aside : List ℕ → GoState → Bool
is_aside line s = is_empty s.building || is_progress line

-- a line that a build prints, or any other line
abbrev pub takes_plain : List ℕ → GoState → GoState
takes_plain line s =
    if is_package_frame line then s
    else if is_aside line s then text_event_emitted (level_of_text line) line [] s.last s
    else test_kept (said Error line (held_opened (held_test s.building [] s)))

abbrev pub takes_failure : Option (List ℕ) → List ℕ → GoState → GoState
takes_failure (Some rest) line s =
    package_ended Failed (up_to_space rest) None (record s { building = [] })
takes_failure None line s = takes_plain line s

-- the package that a heading names; a name in brackets, as of `go vet`, names no other package
abbrev pub built_after : List ℕ → List ℕ → List ℕ
built_after rest building = if begins (codes "[") rest then building else up_to_space rest

abbrev pub takes_heading : Option (List ℕ) → List ℕ → GoState → GoState
takes_heading (Some rest) line s = record s { building = built_after rest s.building }
takes_heading None line s = takes_failure (after_mark (codes "FAIL\t") line) line s

-- a line that isn't JSON: a failing build's, or any other output
abbrev pub takes_text : List ℕ → GoState → GoState
takes_text line s =
    if is_skipped line then s else takes_heading (after_mark (codes "# ") line) line s

-- the test of a line; empty on a package's line
abbrev pub test_of : Json → List ℕ
test_of value = unwrap_or (text_at (codes "Test") value) []

abbrev pub elapsed_in : Json → Option (List ℕ)
elapsed_in value = option_and_then as_number (get (codes "Elapsed") value)

-- the package of a line; that of a build's line is the first word of its import path
abbrev pub package_of : Json → Option (List ℕ)
package_of value = package_or_path (text_at (codes "Package") value) where
  package_or_path : Option (List ℕ) → Option (List ℕ)
  package_or_path (Some path) = Some path
  package_or_path None = option_map up_to_space (text_at (codes "ImportPath") value)

-- the kind of a string, by what its line says
abbrev pub kind_named : List ℕ → Kind
kind_named word =
    if bytes_eq word (codes "frame") then Frame
    else if begins (codes "error") word then Failure
    else Plain

abbrev pub output_kind : Json → Kind
output_kind value = kind_named (unwrap_or (text_at (codes "OutputType") value) [])

abbrev pub printed_if : Kind → List ℕ → List ℕ → Option (List ℕ) → GoState → Option GoState
printed_if kind path test None s = None
printed_if kind path test (Some text) s =
    Some (printed kind path test text (build_emitted Warn path s))

abbrev pub build_printed_if : List ℕ → Option (List ℕ) → GoState → Option GoState
build_printed_if path None s = None
build_printed_if path (Some text) s = Some (build_printed path text s)

-- a package starts
abbrev pub package_started : List ℕ → GoState → GoState
package_started path s = test_kept (started (held_test path [] s))

-- a test or its package starts or ends; every other action does nothing
abbrev pub moved : List ℕ → List ℕ → List ℕ → Option (List ℕ) → GoState → GoState
moved action path test elapsed s =
    if bytes_eq action (codes "run") then ran path test s
    else if bytes_eq action (codes "pass") || bytes_eq action (codes "bench")
    then test_or_package_ended Passed path test elapsed s
    else if bytes_eq action (codes "fail") then test_or_package_ended Failed path test elapsed s
    else if bytes_eq action (codes "skip") then test_or_package_ended Skipped path test elapsed s
    else if bytes_eq action (codes "start") then package_started path s
    else s

-- What a line does. What the package's build printed is an error if the build fails; if another
-- line of the package comes, the build has succeeded.
abbrev pub acted : List ℕ → List ℕ → List ℕ → Json → GoState → Option GoState
acted action path test value s =
    if bytes_eq action (codes "build-output")
    then build_printed_if path (text_at (codes "Output") value) s
    else if bytes_eq action (codes "output")
    then printed_if (output_kind value) path test (text_at (codes "Output") value) s
    else if bytes_eq action (codes "build-fail") then Some (build_emitted Error path s)
    else Some (moved action path test (elapsed_in value) (build_emitted Warn path s))

abbrev pub acted_for : Option (List ℕ) → Option (List ℕ) → Json → GoState → Option GoState
acted_for (Some action) (Some path) value s =
    acted action path (test_of value) value s
acted_for (Some action) None value s = None
acted_for None path value s = None

abbrev pub takes_json : Json → GoState → Option GoState
takes_json value s = acted_for (text_at (codes "Action") value) (package_of value) value s

-- the line that is taken next happens at its own time
abbrev pub at_action_time : Json → GoState → GoState
at_action_time value s = record s { moment = moment_after (text_at (codes "Time") value) s.moment }

-- a known line is processed, and an unknown one changes nothing
abbrev pub takes_value_as : Option GoState → GoState → GoState → Bool → Type 0
takes_value_as (Some state) old new known = (new ≡ state) × (known ≡ true)
takes_value_as None old new known = (new ≡ old) × (known ≡ false)

abbrev pub takes_timed : Json → GoState → GoState → Bool → Type 0
takes_timed value old new known = takes_value_as (takes_json value old) old new known

abbrev pub takes_value : Json → GoState → GoState → Bool → Type 0
takes_value value old new known =
    takes_value_as (takes_json value (at_action_time value old)) old new known

abbrev pub handed_out : GoState → Step GoState
handed_out s = record { calls = s.calls; source = record s { calls = [] } }

-- what a line means
abbrev pub go_takes : GoState → List ℕ → Option Json → Option (Step GoState)
go_takes s line None = Some (handed_out (takes_text line s))
go_takes s line (Some value) = option_map handed_out (takes_json value (at_action_time value s))

-- the first key that an unknown line lacks
abbrev pub problem_in : Json → Problem
problem_in value =
    if not (is_some (text_at (codes "Action") value)) then Action
    else if not (is_some (package_of value)) then Package
    else Output

abbrev pub go_problem : Option Json → Problem
go_problem None = Object
go_problem (Some value) = problem_in value

-- how many names aren't in the list
abbrev pub more_text : ℕ → List ℕ
more_text count =
    if nat_le count 10 then []
    else codes " and " ++ digits 10 false (count - 10) ++ codes " more"

-- the names of what failed, and how many more did
abbrev pub names_field : List ℕ → ℕ → List ℕ → List Field
names_field key count names =
    if is_empty names then []
    else record { name = key; value = shown_text (names ++ more_text count) } ∷ []

-- the line that counts the tests and packages, and names those that failed
abbrev pub tally_fields : Tally → List Field
tally_fields tally =
    whole_field (codes "passed") (pos tally.passed)
    ∷ whole_field (codes "failed") (pos tally.failed)
    ∷ whole_field (codes "skipped") (pos tally.skipped)
    ∷ whole_field (codes "unfinished") (pos tally.unfinished)
    ∷ whole_field (codes "packages") (pos tally.packages)
    ∷ whole_field (codes "packages_failed") (pos tally.packages_failed) ∷ []

abbrev pub failing_fields : Tally → Failing → List Field
failing_fields tally failing =
    names_field (codes "failed_packages") tally.packages_failed failing.packages
    ++ names_field (codes "failed_tests") tally.failed failing.tests

abbrev pub tally_call : GoState → Call
tally_call s =
    event_call s.moment (if any_failed s then Error else Info)
    (tally_fields s.tally ++ failing_fields s.tally s.failing) None

-- a package ends unfinished; one of which only the build is known has no end
abbrev pub package_over : Running → GoState → GoState
package_over own s =
    if own.has_begun then left_one Unfinished own s else only_closed own.span (holds own s)

-- what still runs of a package ends unfinished, and the package after it
abbrev pub package_left : Tests → GoState → GoState
package_left tests s =
    left_last (named [] tests)
    (left_over Unfinished (span_of_test tests []) [] (without [] tests) s) where
      left_last : Option Running → GoState → GoState
      left_last None s = s
      left_last (Some own) s = package_over own s

-- what runs of one package after the other ends unfinished
abbrev pub packages_left : List (List ℕ × Tests) → GoState → GoState
packages_left [] s = s
packages_left (one ∷ others) s = packages_left others (package_left one.1 s)

-- reports the build output of a package that doesn't run, in a separate span
abbrev pub build_last : Build → GoState → GoState
build_last build s =
    let all : Held = builds_said Warn build.texts (holds (new_running build.path []) s) in
    only_closed all.one.span all

-- reports what builds printed, one after the other, when no package runs
abbrev pub builds_emitted : List (List ℕ × Build) → GoState → GoState
builds_emitted [] s = s
builds_emitted (one ∷ others) s = builds_emitted others (build_last one.1 s)

-- no package is running
abbrev pub packages_ended : GoState → GoState
packages_ended s = packages_left s.packages (record s { packages = [] })

-- nothing is running, and nothing is left that a build printed
abbrev pub all_ended : GoState → GoState
all_ended s = builds_emitted s.builds (packages_ended (record s { builds = [] }))

abbrev pub go_ends : GoState → List Call
go_ends s =
    let ended : GoState = all_ended s in
    ended.calls ++ tally_call ended ∷ []

-- the source after the end: nothing runs, and all calls are returned
abbrev pub go_ended : GoState → GoState
go_ended s = (handed_out (all_ended s)).source
