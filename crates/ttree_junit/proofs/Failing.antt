-- A report has failed exactly if a case or a suite of it has: each definition of what a token means
-- keeps the counts, or counts one outcome.
use Rattle.std.proofs.Common.{◌≡◌, ℕ, zero, suc, Bool, true, false, List, [], ◌∷◌, ◌++◌, Option, Some, None, Result, Ok, Err, refl, sym, ap, subst, ◌∙◌, arith}
use Rattle.std.specs.Prelude.{◌||◌, ◌&&◌, not, ◌==◌, if◌then◌else◌, length, codes, is_some, take, bytes_eq}
use Rattle.std.specs.List.{list_any}
use Rattle.std.proofs.lemmas.List.Folds.{list_any-append}
use Rattle.tracing_tree_base.specs.declared.context.Id.{Id}
use Rattle.tracing_tree_base.specs.declared.context.Moment.{Moment}
use Rattle.tracing_tree_base.specs.declared.style.Level.{Level}
use Rattle.tracing_tree_base.specs.declared.style.Level.TheVariants.{Info, Warn, Error}
use Rattle.ttree_source.specs.Counts.{one_more}
use Rattle.xml.specs.Reading.{Reading}
use Rattle.xml.specs.Token.{ReadStep, XmlToken, start_tag, attribute, tag_end, empty_tag_end, end_tag, characters, cdata, skipped}
use Rattle.xml.specs.Xml.{at_start as document_start}
use Rattle.xml.specs.declared.reader.Unfinished.{Unfinished}
use Rattle.xml.specs.declared.reader.Unfinished.TheVariants as In
use Rattle.ttree_junit.specs.Case.{is_bare, outcome_of}
use Rattle.ttree_junit.specs.Document.{ReadDocument, at_end, document_state, read_document, read_next, read_within, rest_taken, step_of}
use Rattle.ttree_junit.specs.Junit.{JunitState}
use Rattle.ttree_junit.specs.Lines.{is_blank_text}
use Rattle.ttree_junit.specs.Outcomes.{counted_all, cut_element_outcomes, cut_outcomes, cut_outcomes_if, cut_outcomes_times, element_outcomes, is_failed, next_outcomes, outcomes_if, outcomes_of, outcomes_within, some_failed, suite_outcomes, token_outcomes}
use Rattle.ttree_junit.specs.Reading.{at_start, begun_as, case_counted, case_cut, case_ended, case_shown, case_span_shown, cdata_added, class_closed, class_entered, class_left, class_opened, closed_if, closed_times, counted_as, cut_as, cut_if, cut_times, cut_with, element_begun, element_of, elements_cut, end_event, ended_as, ended_element, ended_if, ended_with, event_shown, failure_ended, failure_of, innermost, innermost_cut, innermost_ended, innermost_span, is_case_hidden, is_in_class, is_open, is_suite_hidden, last_element_ended, next_element_begun, outer, output_ended, output_of, output_shown, outside_shown, property_added, property_of, recorded_in, report_finished, row_calls, rows_in_suite, shown_unless_hidden, skip_ended, suite_begun, suite_closed, suite_ended, suite_failed, suite_hidden, suites_closed, taken, tallied, text_added, wants_class, without_suite}
use Rattle.ttree_junit.specs.declared.case.Outcome.{Outcome}
use Rattle.ttree_junit.specs.declared.case.Outcome.TheVariants.{Passed, Failed, Skipped as WasSkipped, Unfinished as WasUnfinished}
use Rattle.ttree_junit.specs.declared.element.Element.{Element}
use Rattle.ttree_junit.specs.declared.element.Element.TheVariants.{Suite as SuiteElement, Case, Failure, Rerun, Skipped, Output, Property, Other}
use Rattle.ttree_junit.specs.declared.reading.Class.{Class}
use Rattle.ttree_junit.specs.declared.reading.Selection.{Selection}
use Rattle.ttree_junit.specs.declared.reading.Suite.{Suite}
use Rattle.ttree_junit.specs.declared.reading.Tally.{Tally}

-- ---- what keeps the counts

-- the counts are the same
abbrev Keeps : JunitState → JunitState → Type 0
Keeps s t = t.tally ≡ s.tally

choose : (s : JunitState) (test : Bool) (x y : JunitState) → Keeps s x → Keeps s y → Keeps s (if test then x else y)
choose s true x y hx hy = hx
choose s false x y hx hy = hy

closes_class : (class : Option Class) (s : JunitState) → Keeps s (class_closed class s)
closes_class (Some class) s = refl
closes_class None s = refl

leaves_class : (s : JunitState) → Keeps s (class_left s)
leaves_class s = closes_class s.class (record s { class = None })

enters_class : (s : JunitState) → Keeps s (class_entered s)
enters_class s =
    choose s (wants_class s) (if is_in_class s.class s.case.classname then s else class_opened (class_left s)) (class_left s)
    (choose s (is_in_class s.class s.case.classname) s (class_opened (class_left s)) refl (leaves_class s)) (leaves_class s)

ends_event : (suite : Suite) (s : JunitState) → Keeps s (end_event suite s)
ends_event suite s = choose s (is_some suite.nanoseconds) _ s refl refl

ends_with : (suite : Suite) (s : JunitState) → Keeps s (ended_with suite s)
ends_with suite s = choose s (is_suite_hidden suite s) (suite_hidden suite s) _ refl (ends_event suite s)

ends_if : (suite : Option Suite) (s : JunitState) → Keeps s (ended_if suite s)
ends_if (Some suite) s = ends_with suite s
ends_if None s = refl

ends_suite : (s : JunitState) → Keeps s (suite_ended s)
ends_suite s = ends_if (innermost (class_left s).suites) (without_suite (class_left s)) ∙ leaves_class s

shows_case : (s : JunitState) → Keeps s (case_shown s)
shows_case s = choose s (is_bare s.case) (event_shown s) (case_span_shown s) refl refl

shows : (s : JunitState) → Keeps s (shown_unless_hidden s)
shows s = choose s (is_case_hidden s) s (case_shown (class_entered s)) refl (shows_case (class_entered s) ∙ enters_class s)

shows_output : (s : JunitState) → Keeps s (output_shown s)
shows_output s = leaves_class s

ends_output : (s : JunitState) → Keeps s (output_ended s)
ends_output s = choose s s.in_case _ (output_shown (record s { in_part = false })) refl (shows_output (record s { in_part = false }))

records_in : (span : Option Id) (s : JunitState) → Keeps s (recorded_in span (property_of s.tag) s)
records_in (Some span) s = refl
records_in None s = refl

adds_property : (s : JunitState) → Keeps s (property_added s)
adds_property s = choose s s.in_case _ (recorded_in (innermost_span s.suites) (property_of s.tag) s) refl (records_in (innermost_span s.suites) s)

adds_cdata : (part : List ℕ) (s : JunitState) → Keeps s (cdata_added part s)
adds_cdata part s = choose s s.in_part _ s refl refl

adds_text : (run : List ℕ) (s : JunitState) → Keeps s (text_added run s)
adds_text run s = choose s s.in_part _ (Rattle.ttree_junit.specs.Reading.added_outside run s) refl (choose s (is_open s) s _ refl refl)

shows_outside : (s : JunitState) → Keeps s (outside_shown s)
shows_outside s = choose s (is_blank_text s.outside) (record s { outside = [] }) _ refl (leaves_class (record s { outside = [] }))

begins_suite : (s : JunitState) → Keeps s (suite_begun s)
begins_suite s = leaves_class s

begins_as : (element : Element) (s : JunitState) → Keeps s (begun_as element s)
begins_as SuiteElement s = begins_suite s
begins_as Case s = refl
begins_as Failure s = refl
begins_as Rerun s = refl
begins_as Skipped s = refl
begins_as Output s = refl
begins_as Property s = adds_property s
begins_as Other s = adds_cdata (codes "\n") s

begins_element : (s : JunitState) → Keeps s (element_begun s)
begins_element s = begins_as (element_of s) _

begins : (s : JunitState) → Keeps s (next_element_begun s)
begins s = begins_element (outside_shown s) ∙ shows_outside s

-- ---- what counts

abbrev pub has_failures : Tally → Bool
has_failures t = not (t.failed == 0)

-- these outcomes are counted
abbrev Counts : List Outcome → JunitState → JunitState → Type 0
Counts outcomes s t = t.tally ≡ counted_all outcomes s.tally

pub counted_after : (first others : List Outcome) (t : Tally) → counted_all (first ++ others) t ≡ counted_all others (counted_all first t)
counted_after [] others t = refl
counted_after (outcome ∷ rest) others t = counted_after rest others (counted_as outcome t)

or_false : (a : Bool) → (a || false) ≡ a
or_false true = refl
or_false false = refl

or_true : (a : Bool) → (a || true) ≡ true
or_true true = refl
or_true false = refl

or_assoc : (a b c : Bool) → ((a || b) || c) ≡ (a || (b || c))
or_assoc true b c = refl
or_assoc false b c = refl

counts_none : (s t : JunitState) → Keeps s t → Counts [] s t
counts_none s t same = same

nonzero : (n : ℕ) → not (one_more n == 0) ≡ true
nonzero n = grind arith

counts_as : (outcome : Outcome) (t : Tally) → has_failures (counted_as outcome t) ≡ (has_failures t || some_failed (outcome ∷ []))
counts_as Passed t = sym (or_false (has_failures t))
counts_as WasSkipped t = sym (or_false (has_failures t))
counts_as WasUnfinished t = sym (or_false (has_failures t))
counts_as Failed t = nonzero t.failed ∙ sym (or_true (has_failures t))

ends_case : (s : JunitState) → Counts (outcome_of s.case ∷ []) s (case_ended s)
ends_case s = shows (case_counted (record s { in_case = false }))

fails_suite : (level : Level) (s : JunitState) → Counts (Failed ∷ []) s (suite_failed level s)
fails_suite level s = leaves_class (record s { tally = counted_as Failed s.tally })

fails_in : (in_case : Bool) (s x y : JunitState) → Keeps s x → Counts (Failed ∷ []) s y
    → Counts (if in_case then [] else Failed ∷ []) s (if in_case then x else y)
fails_in true s x y hx hy = counts_none s x hx
fails_in false s x y hx hy = hy

ends_failure : (level : Level) (s : JunitState) → Counts (suite_outcomes s) s (failure_ended level s)
ends_failure level s =
    fails_in s.in_case s _ (suite_failed level (record s { in_part = false })) refl (fails_suite level (record s { in_part = false }))

ends_as : (element : Element) (s : JunitState) → Counts (element_outcomes element s) s (ended_as element s)
ends_as SuiteElement s = counts_none s (suite_ended s) (ends_suite s)
ends_as Case s = ends_case s
ends_as Failure s = ends_failure Error s
ends_as Rerun s = ends_failure Warn s
ends_as Skipped s = counts_none s (skip_ended s) refl
ends_as Output s = counts_none s (output_ended s) (ends_output s)
ends_as Property s = counts_none s s refl
ends_as Other s = counts_none s s refl

ends_element : (element : Option Element) (s : JunitState) → Counts (outcomes_if element s) s (ended_element element s)
ends_element (Some element) s = ends_as element s
ends_element None s = counts_none s s refl

-- what ends doesn't depend on the elements that are open
pub elements_apart : (element : Option Element) (elements : List Element) (s : JunitState) → outcomes_if element (record s { elements = elements }) ≡ outcomes_if element s
elements_apart (Some SuiteElement) elements s = refl
elements_apart (Some Case) elements s = refl
elements_apart (Some Failure) elements s = refl
elements_apart (Some Rerun) elements s = refl
elements_apart (Some Skipped) elements s = refl
elements_apart (Some Output) elements s = refl
elements_apart (Some Property) elements s = refl
elements_apart (Some Other) elements s = refl
elements_apart None elements s = refl

ends : (s : JunitState) → Counts (outcomes_if (innermost s.elements) s) s (last_element_ended s)
ends s =
    ends_element (innermost s.elements) (record s { elements = outer s.elements })
    ∙ ap (λ outcomes. counted_all outcomes s.tally) (elements_apart (innermost s.elements) (outer s.elements) s)

takes : (token : XmlToken) (s : JunitState) → Counts (token_outcomes token s) s (taken token s)
takes (start_tag name) s = counts_none s (taken (start_tag name) s) refl
takes (attribute name value) s = counts_none s (taken (attribute name value) s) refl
takes tag_end s = counts_none s (next_element_begun s) (begins s)
takes empty_tag_end s =
    ends (next_element_begun s) ∙ ap (counted_all (outcomes_if (innermost (next_element_begun s).elements) (next_element_begun s))) (begins s)
takes (end_tag name) s = ends s
takes (characters run) s = counts_none s (text_added run s) (adds_text run s)
takes (cdata part) s = counts_none s (cdata_added part s) (adds_cdata part s)
takes skipped s = counts_none s s refl

-- ---- the end

cuts_as : (element : Element) (s : JunitState) → Counts (cut_element_outcomes element s) s (cut_as element s)
cuts_as SuiteElement s = counts_none s s refl
cuts_as Case s = counts_none s (case_cut s) (shows (record s { case = Rattle.ttree_junit.specs.Case.with_cut s.case }))
cuts_as Failure s = ends_failure Error s
cuts_as Rerun s = ends_failure Warn s
cuts_as Skipped s = counts_none s (skip_ended s) refl
cuts_as Output s = counts_none s (output_ended s) (ends_output s)
cuts_as Property s = counts_none s s refl
cuts_as Other s = counts_none s s refl

cuts_if : (element : Option Element) (elements : List Element) (s : JunitState) → Counts (cut_outcomes_if element s) s (cut_if element (record s { elements = elements }))
cuts_if (Some SuiteElement) elements s = cuts_as SuiteElement (record s { elements = elements })
cuts_if (Some Case) elements s = cuts_as Case (record s { elements = elements })
cuts_if (Some Failure) elements s = cuts_as Failure (record s { elements = elements })
cuts_if (Some Rerun) elements s = cuts_as Rerun (record s { elements = elements })
cuts_if (Some Skipped) elements s = cuts_as Skipped (record s { elements = elements })
cuts_if (Some Output) elements s = cuts_as Output (record s { elements = elements })
cuts_if (Some Property) elements s = cuts_as Property (record s { elements = elements })
cuts_if (Some Other) elements s = cuts_as Other (record s { elements = elements })
cuts_if None elements s = counts_none s (record s { elements = elements }) refl

then_counts : (first others : List Outcome) (s t u : JunitState) → Counts first s t → Counts others t u → Counts (first ++ others) s u
then_counts first others s t u one next =
    next ∙ ap (counted_all others) one ∙ sym (counted_after first others s.tally)

cuts_times : (count : ℕ) (s : JunitState) → Counts (cut_outcomes_times count s) s (cut_times count s)
cuts_times zero s = counts_none s s refl
cuts_times (suc count) s =
    then_counts (cut_outcomes_if (innermost s.elements) s) (cut_outcomes_times count (innermost_cut s)) s (innermost_cut s) (cut_times count (innermost_cut s))
    (cuts_if (innermost s.elements) (outer s.elements) s) (cuts_times count (innermost_cut s))

cuts_suite : (suite : Suite) (s : JunitState) → Keeps s (cut_with suite s)
cuts_suite suite s = choose s (is_suite_hidden suite s && not s.in_case) (suite_hidden suite s) _ refl refl

closes_suite_if : (suite : Option Suite) (s : JunitState) → Keeps s (closed_if suite s)
closes_suite_if (Some suite) s = cuts_suite suite s
closes_suite_if None s = refl

closes_times : (count : ℕ) (s : JunitState) → Keeps s (closed_times count s)
closes_times zero s = refl
closes_times (suc count) s = closes_times count (suite_closed s) ∙ closes_suite_if (innermost s.suites) (without_suite s)

emits_counts : (s : JunitState) → Keeps s (tallied s)
emits_counts s = choose s s.is_report _ s refl refl

finishes : (s : JunitState) → Counts (cut_outcomes s) s (report_finished s)
unfolding report_finished
finishes s =
    let cut = elements_cut s in
    let left = class_left cut in
    emits_counts (outside_shown (suites_closed left)) ∙ shows_outside (suites_closed left) ∙ closes_times (length left.suites) left ∙ leaves_class cut
    ∙ cuts_times (length s.elements) s

takes_rest : (unfinished : Unfinished) (rest : List ℕ) (s : JunitState) → Keeps s (rest_taken unfinished rest s)
takes_rest In.Cdata rest s = adds_cdata rest s
takes_rest In.Tag rest s = refl
takes_rest In.Comment rest s = refl
takes_rest In.Instruction rest s = refl
takes_rest In.Doctype rest s = refl

reads_next : (found : Result (Option ReadStep) Unfinished) (rest : List ℕ) (s : JunitState) (others : Reading → JunitState → ReadDocument) (more : Reading → JunitState → List Outcome) →
    ((reading : Reading) (t : JunitState) → Counts (more reading t) t (report_finished (others reading t).state)) → Counts (next_outcomes found rest s more) s (report_finished (read_next found rest s others).state)
reads_next (Ok (Some step)) rest s others more later =
    then_counts (token_outcomes step.token s) (more step.after (taken step.token s)) s (taken step.token s) (report_finished (others step.after (taken step.token s)).state)
    (takes step.token s) (later step.after (taken step.token s))
reads_next (Ok None) rest s others more later = finishes s
reads_next (Err unfinished) rest s others more later =
    let t = rest_taken unfinished rest s in
    finishes t ∙ ap (counted_all (cut_outcomes t)) (takes_rest unfinished rest s)

reads_within : (tokens : ℕ) (reading : Reading) (s : JunitState) → Counts (outcomes_within tokens reading s) s (report_finished (read_within tokens reading s).state)
reads_within zero reading s = finishes s
reads_within (suc tokens) reading s =
    reads_next (step_of reading s) reading.rest s (λ rest t. read_within tokens rest t) (λ rest t. outcomes_within tokens rest t) (reads_within tokens)

-- the counts are those of the cases that ended and of the failures of suites
pub counts_of_outcomes : (selection : Selection) (next : ℕ) (moment : Moment) (text : List ℕ) →
    (document_state selection next moment text).tally ≡ counted_all (outcomes_of selection next moment text) (record { passed = 0; failed = 0; skipped = 0 })
counts_of_outcomes selection next moment text = reads_within (length text) (document_start text) (at_start selection next moment)

pub failures_among : (outcomes : List Outcome) (t : Tally) → has_failures (counted_all outcomes t) ≡ (has_failures t || some_failed outcomes)
failures_among [] t = sym (or_false (has_failures t))
failures_among (outcome ∷ others) t =
    failures_among others (counted_as outcome t) ∙ ap (λ b. b || some_failed others) (counts_as outcome t)
    ∙ or_assoc (has_failures t) (is_failed outcome || false) (some_failed others) ∙ ap (λ b. has_failures t || (b || some_failed others)) (or_false (is_failed outcome))

-- a report has failed exactly if a case or a suite of it has
pub failed_by_an_outcome : (selection : Selection) (next : ℕ) (moment : Moment) (text : List ℕ) →
    not ((document_state selection next moment text).tally.failed == 0) ≡ some_failed (outcomes_of selection next moment text)
failed_by_an_outcome selection next moment text =
    ap has_failures (counts_of_outcomes selection next moment text) ∙ failures_among (outcomes_of selection next moment text) (record { passed = 0; failed = 0; skipped = 0 })
