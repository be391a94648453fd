-- What a document's tokens mean, one after another.
use Rattle.std.specs.Prelude.{ℕ, zero, suc, ◌-◌, ◌==◌, ◌&&◌, ◌||◌, not, Bool, true, false, if◌then◌else◌, List, [], ◌∷◌, ◌++◌, length, take, slice_get, Option, Some, None, is_some, codes, bytes_eq, pos}
use Rattle.tracing_tree_spans.specs.Registry.Ids.{id_of}
use Rattle.tracing_tree_base.specs.declared.context.Id.{Id}
use Rattle.tracing_tree_base.specs.declared.context.Moment.{Moment}
use Rattle.tracing_tree_base.specs.Field.{whole_field}
use Rattle.tracing_tree_base.specs.declared.field.Field.{Field}
use Rattle.tracing_tree_base.specs.declared.style.Level.{Level}
use Rattle.tracing_tree_base.specs.declared.style.Level.TheVariants.{Info, Warn, Error}
use Rattle.tracing_tree_layer.specs.declared.call.Call.{Call}
use Rattle.ttree_source.specs.Counts.{one_more}
use Rattle.ttree_source.specs.Calls.{close_call, event_call, message_field, record_call, shown_text, span_call}
use Rattle.xml.specs.Decoded.{cdata_decoded, text_decoded}
use Rattle.xml.specs.Token.{XmlToken, start_tag, attribute, tag_end, empty_tag_end, end_tag, characters, cdata, skipped}
use Rattle.ttree_junit.specs.Case.{bare_case_fields, case_end_fields, case_of, is_bare, level_of_outcome, outcome_of, time_fields, with_cut, with_failure, with_printed, with_property, with_skip}
use Rattle.ttree_junit.specs.Element.{attribute_in, element_named, is_of_report, role_of}
use Rattle.ttree_junit.specs.Failure.{failure_rows}
use Rattle.ttree_junit.specs.Junit.{JunitState}
use Rattle.ttree_junit.specs.Lines.{is_blank_text, printed_rows}
use Rattle.ttree_junit.specs.Plain.{plain_calls}
use Rattle.ttree_junit.specs.Seconds.{seconds_as_nanoseconds}
use Rattle.ttree_junit.specs.States.{TagState, with_attribute}
use Rattle.ttree_junit.specs.declared.case.Outcome.{Outcome}
use Rattle.ttree_junit.specs.declared.case.Outcome.TheVariants.{Passed, Failed, Skipped as WasSkipped, Unfinished}
use Rattle.ttree_junit.specs.declared.element.Element.{Element}
use Rattle.ttree_junit.specs.declared.element.Element.TheVariants.{Suite as SuiteElement, Case, Failure, Rerun, Skipped, Output, Property, Other}
use Rattle.ttree_junit.specs.declared.lines.Row.{Row}
use Rattle.ttree_junit.specs.declared.reading.Before.{Before}
use Rattle.ttree_junit.specs.declared.reading.Class.{Class}
use Rattle.ttree_junit.specs.declared.reading.Selection.{Selection}
use Rattle.ttree_junit.specs.declared.reading.Selection.TheVariants.{All, Failures}
use Rattle.ttree_junit.specs.declared.reading.Suite.{Suite}
use Rattle.ttree_junit.specs.declared.reading.Tally.{Tally}

abbrev pub no_tag : TagState
no_tag = record { name = []; attributes = [] }

-- nothing is read yet
abbrev pub at_start : Selection → ℕ → Moment → JunitState
at_start selection next moment = record {
  selection = selection;
  next = next;
  moment = moment;
  outside = [];
  is_report = false;
  elements = [];
  tag = no_tag;
  suites = [];
  class = None;
  in_case = false;
  case = case_of no_tag;
  in_part = false;
  part = record { name = []; message = []; body = [] };
  tally = record { passed = 0; failed = 0; skipped = 0 };
  calls = [];
}

-- an element is open
abbrev pub is_open : JunitState → Bool
is_open s = not (length s.elements == 0)

-- ---- calls

abbrev pub called : Call → JunitState → JunitState
called call s = record s { calls = s.calls ++ call ∷ [] }

-- a span opens
abbrev pub report_span_opened : List ℕ → List Field → Option Id → JunitState → JunitState
report_span_opened name fields parent s =
    record (called (span_call s.moment name fields parent) s) { next = one_more s.next }

abbrev pub evented : Level → List Field → Option Id → JunitState → JunitState
evented level fields at s = called (event_call s.moment level fields at) s

abbrev pub report_span_closed : Id → Option Id → JunitState → JunitState
report_span_closed span parent s = called (close_call s.moment span parent) s

-- ---- what is innermost

abbrev pub innermost : {A : Type 0} → List A → Option A
innermost xs = slice_get xs (length xs - 1)

abbrev pub outer : {A : Type 0} → List A → List A
outer xs = take (length xs - 1) xs

abbrev pub span_if : Option Suite → Option Id
span_if (Some suite) = Some suite.span
span_if None = None

abbrev pub name_if : Option Suite → List ℕ
name_if (Some suite) = suite.name
name_if None = []

-- the span of the innermost suite, and its name
abbrev pub innermost_span : List Suite → Option Id
innermost_span suites = span_if (innermost suites)

abbrev pub innermost_name : List Suite → List ℕ
innermost_name suites = name_if (innermost suites)

-- ---- classes

-- a case is in a span of its class unless that says nothing: the suite's name, its own, or `test`
abbrev pub wants_class : JunitState → Bool
wants_class s =
    not ((length s.case.classname == 0) || bytes_eq s.case.classname (codes "test")
    || bytes_eq s.case.classname s.case.name
    || bytes_eq s.case.classname (innermost_name s.suites))

abbrev pub is_in_class : Option Class → List ℕ → Bool
is_in_class (Some class) name = bytes_eq class.name name
is_in_class None name = false

abbrev pub class_closed : Option Class → JunitState → JunitState
class_closed (Some class) s = report_span_closed class.span (innermost_span s.suites) s
class_closed None s = s

-- the span of a class closes, if one is open
abbrev pub class_left : JunitState → JunitState
class_left s = class_closed s.class (record s { class = None })

abbrev pub class_opened : JunitState → JunitState
class_opened s = record (report_span_opened s.case.classname [] (innermost_span s.suites) s) {
  class = Some (record { name = s.case.classname; span = id_of s.next });
}

-- a case enters the span of its class
abbrev pub class_entered : JunitState → JunitState
class_entered s =
    if wants_class s
    then (if is_in_class s.class s.case.classname then s else class_opened (class_left s))
    else class_left s

abbrev pub case_span : Option Class → List Suite → Option Id
case_span (Some class) suites = Some class.span
case_span None suites = innermost_span suites

-- ---- suites

-- what a suite that isn't shown leaves
abbrev pub before_now : JunitState → Before
before_now s = record { calls = length s.calls; next = s.next; failed = s.tally.failed }

abbrev pub suite_named : List ℕ → Option ℕ → JunitState → JunitState
suite_named name nanoseconds s = record (report_span_opened name [] (innermost_span s.suites) s) {
  suites = s.suites ++ (record {
    name = name;
    nanoseconds = nanoseconds;
    span = id_of s.next;
    before = before_now s;
  }) ∷ [];
}

-- a suite begins, in the suite around it
abbrev pub suite_begun : JunitState → JunitState
suite_begun s =
    suite_named (attribute_in (codes "name") s.tag.attributes)
    (seconds_as_nanoseconds (attribute_in (codes "time") s.tag.attributes)) (class_left s)

abbrev pub end_event : Suite → JunitState → JunitState
end_event suite s =
    if is_some suite.nanoseconds
    then evented Info (message_field (codes "end") ∷ [] ++ time_fields suite.nanoseconds)
    (Some suite.span) s
    else s

abbrev pub shows_failures_only : Selection → Bool
shows_failures_only All = false
shows_failures_only Failures = true

-- a suite isn't shown if only failures are, and it has none
abbrev pub is_suite_hidden : Suite → JunitState → Bool
is_suite_hidden suite s =
    shows_failures_only s.selection && (s.tally.failed == suite.before.failed)

-- the calls since the beginning of a suite are left out
abbrev pub suite_hidden : Suite → JunitState → JunitState
suite_hidden suite s =
    record s { calls = take suite.before.calls s.calls; next = suite.before.next }

abbrev pub shut : Suite → JunitState → JunitState
shut suite s = report_span_closed suite.span (innermost_span s.suites) s

-- a suite with a time ends with an event
abbrev pub ended_with : Suite → JunitState → JunitState
ended_with suite s =
    if is_suite_hidden suite s then suite_hidden suite s else shut suite (end_event suite s)

abbrev pub ended_if : Option Suite → JunitState → JunitState
ended_if (Some suite) s = ended_with suite s
ended_if None s = s

abbrev pub without_suite : JunitState → JunitState
without_suite s = record s { suites = outer s.suites }

abbrev pub innermost_ended : JunitState → JunitState
innermost_ended s = ended_if (innermost s.suites) (without_suite s)

abbrev pub suite_ended : JunitState → JunitState
suite_ended s = innermost_ended (class_left s)

-- ---- cases

abbrev pub case_begun : JunitState → JunitState
case_begun s = record s { case = case_of s.tag; in_case = true }

abbrev pub counted_as : Outcome → Tally → Tally
counted_as Passed tally = record tally { passed = one_more tally.passed }
counted_as Failed tally = record tally { failed = one_more tally.failed }
counted_as WasSkipped tally = record tally { skipped = one_more tally.skipped }
counted_as Unfinished tally = tally

abbrev pub case_counted : JunitState → JunitState
case_counted s = record s { tally = counted_as (outcome_of s.case) s.tally }

-- a bare case is an event
abbrev pub event_shown : JunitState → JunitState
event_shown s =
    evented (level_of_outcome (outcome_of s.case)) (bare_case_fields s.case)
    (case_span s.class s.suites) s

abbrev pub row_call : Moment → Option Id → Row → Call
row_call moment at row = event_call moment row.level (message_field row.text ∷ []) at

abbrev pub row_calls : Moment → Option Id → List Row → List Call
row_calls moment at [] = []
row_calls moment at (row ∷ rows) = row_call moment at row ∷ row_calls moment at rows

abbrev pub rows_shown : Id → JunitState → JunitState
rows_shown span s =
    record s { calls = s.calls ++ row_calls s.moment (Some span) s.case.rows }

abbrev pub end_shown : Id → JunitState → JunitState
end_shown span s =
    evented (level_of_outcome (outcome_of s.case)) (case_end_fields s.case) (Some span) s

-- any other case is a span: its rows, and how it ended
abbrev pub case_span_shown : JunitState → JunitState
case_span_shown s =
    report_span_closed (id_of s.next) (case_span s.class s.suites)
    (end_shown (id_of s.next)
    (rows_shown (id_of s.next)
    (report_span_opened s.case.name s.case.fields (case_span s.class s.suites) s)))

abbrev pub case_shown : JunitState → JunitState
case_shown s = if is_bare s.case then event_shown s else case_span_shown s

abbrev pub is_fine : Outcome → Bool
is_fine Passed = true
is_fine Failed = false
is_fine WasSkipped = true
is_fine Unfinished = false

-- a case isn't shown if only failures are, and it passed or was skipped
abbrev pub is_case_hidden : JunitState → Bool
is_case_hidden s = shows_failures_only s.selection && is_fine (outcome_of s.case)

abbrev pub shown_unless_hidden : JunitState → JunitState
shown_unless_hidden s = if is_case_hidden s then s else case_shown (class_entered s)

-- a case is counted, and shown in the span of its class
abbrev pub case_ended : JunitState → JunitState
case_ended s = shown_unless_hidden (case_counted (record s { in_case = false }))

-- ---- parts

abbrev pub part_begun : JunitState → JunitState
part_begun s = record s {
  part = record {
    name = s.tag.name;
    message = attribute_in (codes "message") s.tag.attributes;
    body = [];
  };
  in_part = true;
}

-- rows in the span of the innermost suite
abbrev pub rows_in_suite : List Row → JunitState → JunitState
rows_in_suite rows s =
    record s { calls = s.calls ++ row_calls s.moment (innermost_span s.suites) rows }

-- a failure of a suite counts as one, and its rows are in the suite's span
abbrev pub suite_failed : Level → JunitState → JunitState
suite_failed level s =
    rows_in_suite (failure_rows level s.part)
    (class_left (record s { tally = counted_as Failed s.tally }))

abbrev pub failure_of : Level → JunitState → JunitState
failure_of level s =
    if s.in_case then record s { case = with_failure level s.part s.case } else suite_failed level s

-- a failure is of the case, otherwise of the suite
abbrev pub failure_ended : Level → JunitState → JunitState
failure_ended level s = failure_of level (record s { in_part = false })

abbrev pub skip_ended : JunitState → JunitState
skip_ended s = record s { in_part = false; case = with_skip s.part s.case }

-- what a suite printed is in its span
abbrev pub output_shown : JunitState → JunitState
output_shown s = rows_in_suite (printed_rows s.part.body) (class_left s)

abbrev pub output_of : JunitState → JunitState
output_of s =
    if s.in_case then record s { case = with_printed s.part s.case } else output_shown s

abbrev pub output_ended : JunitState → JunitState
output_ended s = output_of (record s { in_part = false })

abbrev pub property_of : TagState → Field
property_of tag = record {
  name = shown_text (attribute_in (codes "name") tag.attributes);
  value = shown_text (attribute_in (codes "value") tag.attributes);
}

abbrev pub recorded_in : Option Id → Field → JunitState → JunitState
recorded_in (Some span) field s = called (record_call span (field ∷ [])) s
recorded_in None field s = s

-- a property is a field of its case or of its suite
abbrev pub property_added : JunitState → JunitState
property_added s =
    if s.in_case
    then record s { case = with_property (property_of s.tag) s.case }
    else recorded_in (innermost_span s.suites) (property_of s.tag) s

abbrev pub added_to_body : List ℕ → JunitState → JunitState
added_to_body text s = record s { part = record s.part { body = s.part.body ++ text } }

abbrev pub added_outside : List ℕ → JunitState → JunitState
added_outside run s = if is_open s then s else record s { outside = s.outside ++ run }

-- characters count in a part, and outside of all elements
abbrev pub text_added : List ℕ → JunitState → JunitState
text_added run s =
    if s.in_part then added_to_body (text_decoded run) s else added_outside run s

abbrev pub cdata_added : List ℕ → JunitState → JunitState
cdata_added part s = if s.in_part then added_to_body (cdata_decoded part) s else s

-- ---- around the document

abbrev pub plain_shown : List ℕ → JunitState → JunitState
plain_shown text s = record s { calls = s.calls ++ plain_calls s.moment text }

-- the lines of the text before this place are shown
abbrev pub outside_shown : JunitState → JunitState
outside_shown s =
    if is_blank_text s.outside then record s { outside = [] }
    else plain_shown s.outside (class_left (record s { outside = [] }))

-- ---- elements

-- what the element of the tag is here
abbrev pub element_of : JunitState → Element
element_of s = role_of (element_named s.tag.name) s.in_case s.in_part

abbrev pub begun_as : Element → JunitState → JunitState
begun_as SuiteElement s = suite_begun s
begun_as Case s = case_begun s
begun_as Failure s = part_begun s
begun_as Rerun s = part_begun s
begun_as Skipped s = part_begun s
begun_as Output s = part_begun s
begun_as Property s = property_added s
begun_as Other s = cdata_added (codes "\n") s

abbrev pub element_begun : JunitState → JunitState
element_begun s = begun_as (element_of s) (record s {
  is_report = s.is_report || is_of_report s.tag.name;
  elements = s.elements ++ element_of s ∷ [];
})

-- an element begins: that of the tag; in a part its contents begin a line
abbrev pub next_element_begun : JunitState → JunitState
next_element_begun s = element_begun (outside_shown s)

abbrev pub ended_as : Element → JunitState → JunitState
ended_as SuiteElement s = suite_ended s
ended_as Case s = case_ended s
ended_as Failure s = failure_ended Error s
ended_as Rerun s = failure_ended Warn s
ended_as Skipped s = skip_ended s
ended_as Output s = output_ended s
ended_as Property s = s
ended_as Other s = s

abbrev pub ended_element : Option Element → JunitState → JunitState
ended_element (Some element) s = ended_as element s
ended_element None s = s

-- the innermost element ends
abbrev pub last_element_ended : JunitState → JunitState
last_element_ended s =
    ended_element (innermost s.elements) (record s { elements = outer s.elements })

-- ---- tokens

abbrev pub tag_begun : List ℕ → JunitState → JunitState
tag_begun name s = record s { tag = record { name = name; attributes = [] } }

-- what a token means
abbrev pub taken : XmlToken → JunitState → JunitState
taken (start_tag name) s = tag_begun name s
taken (attribute name value) s = record s { tag = with_attribute name value s.tag }
taken tag_end s = next_element_begun s
taken empty_tag_end s = last_element_ended (next_element_begun s)
taken (end_tag name) s = last_element_ended s
taken (characters run) s = text_added run s
taken (cdata part) s = cdata_added part s
taken skipped s = s

-- ---- the end

-- the case that a document ends in is shown, and isn't counted
abbrev pub case_cut : JunitState → JunitState
case_cut s = shown_unless_hidden (record s { case = with_cut s.case })

-- a part of a case or of a suite ends with the document; suites close later
abbrev pub cut_as : Element → JunitState → JunitState
cut_as SuiteElement s = s
cut_as Case s = case_cut s
cut_as Failure s = failure_ended Error s
cut_as Rerun s = failure_ended Warn s
cut_as Skipped s = skip_ended s
cut_as Output s = output_ended s
cut_as Property s = s
cut_as Other s = s

abbrev pub cut_if : Option Element → JunitState → JunitState
cut_if (Some element) s = cut_as element s
cut_if None s = s

abbrev pub innermost_cut : JunitState → JunitState
innermost_cut s = cut_if (innermost s.elements) (record s { elements = outer s.elements })

abbrev pub cut_times : ℕ → JunitState → JunitState
cut_times zero s = s
cut_times (suc count) s = cut_times count (innermost_cut s)

-- the elements that are open end with the document, the innermost first
abbrev pub elements_cut : JunitState → JunitState
elements_cut s = cut_times (length s.elements) s

-- a suite with an open case is shown
abbrev pub cut_with : Suite → JunitState → JunitState
cut_with suite s =
    if is_suite_hidden suite s && not s.in_case then suite_hidden suite s else shut suite s

abbrev pub closed_if : Option Suite → JunitState → JunitState
closed_if (Some suite) s = cut_with suite s
closed_if None s = s

abbrev pub suite_closed : JunitState → JunitState
suite_closed s = closed_if (innermost s.suites) (without_suite s)

abbrev pub closed_times : ℕ → JunitState → JunitState
closed_times zero s = s
closed_times (suc count) s = closed_times count (suite_closed s)

-- the suites that are open close, the innermost first
abbrev pub suites_closed : JunitState → JunitState
suites_closed s = closed_times (length s.suites) s

abbrev pub tally_fields : Tally → List Field
tally_fields tally =
    whole_field (codes "passed") (pos tally.passed)
    ∷ whole_field (codes "failed") (pos tally.failed)
    ∷ whole_field (codes "skipped") (pos tally.skipped) ∷ []

abbrev pub tallied : JunitState → JunitState
tallied s =
    if s.is_report
    then evented (if s.tally.failed == 0 then Info else Error) (tally_fields s.tally) None s
    else s

-- what is open ends, and the last event counts the cases of a report
unfoldable pub report_finished : JunitState → JunitState
report_finished s = tallied (outside_shown (suites_closed (class_left (elements_cut s))))
