-- Each case of a document is shown once: each definition of what a token means keeps that.
use Rattle.std.proofs.Common.{◌≡◌, ℕ, zero, suc, Bool, true, false, List, [], ◌∷◌, ◌++◌, Option, Some, None, Result, Ok, Err, refl, sym, ap, subst, ◌∙◌, append_assoc}
use Rattle.std.specs.Prelude.{◌||◌, ◌&&◌, not, ◌==◌, if◌then◌else◌, flat_map, length, codes, is_some}
use Rattle.std.proofs.lemmas.Bool.{true≢false}
use Rattle.std.proofs.lemmas.Grind.{flat_map-append}
use Rattle.std.proofs.lemmas.List.{append-nil}
use Rattle.tracing_tree_base.specs.declared.context.Id.{Id}
use Rattle.tracing_tree_base.specs.declared.context.Moment.{Moment}
use Rattle.tracing_tree_base.specs.declared.style.Level.{Level}
use Rattle.tracing_tree_base.specs.declared.style.Level.TheVariants.{Info, Warn, Error}
use Rattle.tracing_tree_layer.specs.declared.call.Call.{Call}
use Rattle.tracing_tree_spans.specs.Registry.Ids.{id_of}
use Rattle.ttree_source.specs.Calls.{close_call, event_call, message_field, record_call, span_call}
use Rattle.xml.specs.Reading.{Reading}
use Rattle.xml.specs.Token.{ReadStep, XmlToken, start_tag, attribute, tag_end, empty_tag_end, end_tag, characters, cdata, skipped}
use Rattle.xml.specs.Xml.{at_start as document_start}
use Rattle.xml.specs.declared.reader.Unfinished.{Unfinished}
use Rattle.xml.specs.declared.reader.Unfinished.TheVariants as In
use Rattle.ttree_junit.specs.Case.{bare_case_fields, case_end_fields, is_bare, level_of_outcome, outcome_of, time_fields, with_cut, with_failure, with_printed, with_property}
use Rattle.ttree_junit.specs.Document.{ReadDocument, document_calls, read_next, read_within, rest_taken, step_of}
use Rattle.ttree_junit.specs.Failure.{failure_rows}
use Rattle.ttree_junit.specs.Junit.{JunitState}
use Rattle.ttree_junit.specs.Lines.{is_blank_text, printed_rows}
use Rattle.ttree_junit.specs.Plain.{plain_calls}
use Rattle.ttree_junit.specs.Reading.{added_outside, added_to_body, at_start, begun_as, called, case_counted, case_shown, case_span, case_span_shown, cdata_added, class_closed, class_entered, class_left, class_opened, closed_if, closed_times, cut_if, cut_times, cut_with, element_begun, element_of, elements_cut, end_event, ended_as, ended_element, ended_if, ended_with, event_shown, failure_ended, innermost, innermost_cut, innermost_span, is_case_hidden, is_fine, is_in_class, is_open, is_suite_hidden, last_element_ended, next_element_begun, outer, output_ended, outside_shown, plain_shown, property_added, property_of, recorded_in, report_finished, row_calls, rows_in_suite, shown_unless_hidden, shows_failures_only, shut, skip_ended, suite_begun, suite_closed, suite_ended, suite_failed, suite_hidden, suites_closed, taken, tallied, tally_fields, text_added, wants_class, without_suite}
use Rattle.ttree_junit.specs.Said.{Place, Said, Said.TestCase, Said.SuiteFailure, Said.SuiteOutput, Said.Around, after_cut, after_cuts, after_element, after_if, after_last, after_last_cut, after_rest, after_token, around_said, at_cdata, at_text, cut_said, cuts_said, element_said, end_said, in_element, in_next, last_said, next_element, of_case, of_suite, said_by, said_if, said_next, said_within, token_said}
use Rattle.ttree_junit.specs.Shown.{AllRight, IsCaseShown, IsRight, Item, Item.Shown, Item.Frame, Item.SuiteEnd, Item.Counts, Shows, ShowsEachOnce, calls_in, said_in}
use Rattle.ttree_junit.specs.declared.element.Element.{Element}
use Rattle.ttree_junit.specs.declared.element.Element.TheVariants.{Suite as SuiteElement, Case, Failure, Rerun, Skipped, Output, Property, Other}
use Rattle.ttree_junit.specs.declared.lines.Row.{Row}
use Rattle.ttree_junit.specs.declared.reading.Class.{Class}
use Rattle.ttree_junit.specs.declared.reading.Selection.{Selection}
use Rattle.ttree_junit.specs.declared.reading.Selection.TheVariants.{All}
use Rattle.ttree_junit.specs.declared.reading.Suite.{Suite}

-- ---- calls that show something

abbrev pub place_of : JunitState → Place
place_of s = record {
  outside = s.outside;
  elements = s.elements;
  tag = s.tag;
  in_case = s.in_case;
  case = s.case;
  in_part = s.in_part;
  part = s.part;
}

right_one : (moment : Moment) (items : List Item) (item : Item) → AllRight moment items → IsRight moment item → AllRight moment (items ++ item ∷ [])
right_one moment [] item all is = (is, tt)
right_one moment (first ∷ items) item all is = (all.0, right_one moment items item all.1 is)

flat_one : {A : Type 0} (f : Item → List A) (items : List Item) (item : Item) → flat_map f (items ++ item ∷ []) ≡ flat_map f items ++ f item
flat_one f items item = flat_map-append f items (item ∷ []) ∙ ap (λ more. flat_map f items ++ more) (append-nil (f item))

module _ (first : Moment) where
  pub record Account (said : List Said) (calls : List Call) (selection : Selection) (moment : Moment) : Type 0 where
    pub items : List Item
    pub calls_are : flat_map calls_in items ≡ calls
    pub said_is : flat_map said_in items ≡ said
    pub right : AllRight moment items
    pub all : selection ≡ All
    pub at : moment ≡ first

  abbrev pub Acc : List Said → JunitState → Type 0
  Acc said s = Account said s.calls s.selection s.moment

  -- from one place to another; this is said
  abbrev pub Steps : Place → List Said → JunitState → JunitState → Type 0
  Steps place more s t = (place_of t ≡ place) × ((said : List Said) → Acc said s → Acc (said ++ more) t)

  abbrev Keeps : JunitState → JunitState → Type 0
  Keeps s t = (place_of t ≡ place_of s) × ((said : List Said) → Acc said s → Acc said t)

  one : (said : List Said) (calls : List Call) (selection : Selection) (moment : Moment) (item : Item) → IsRight moment item → Account said calls selection moment
      → Account (said ++ said_in item) (calls ++ calls_in item) selection moment
  one said calls selection moment item is a = record {
    items = a.items ++ item ∷ [];
    calls_are = flat_one calls_in a.items item ∙ ap (λ (calls : List Call). calls ++ calls_in item) a.calls_are;
    said_is = flat_one said_in a.items item ∙ ap (λ (said : List Said). said ++ said_in item) a.said_is;
    right = right_one moment a.items item a.right is;
    all = a.all;
    at = a.at;
  }

  quiet : (said : List Said) (calls : List Call) (selection : Selection) (moment : Moment) (item : Item) → said_in item ≡ [] → IsRight moment item → Account said calls selection moment
      → Account said (calls ++ calls_in item) selection moment
  quiet said calls selection moment item none is a =
      subst (λ (said : List Said). Account said (calls ++ calls_in item) selection moment) (ap (λ (more : List Said). said ++ more) none ∙ append-nil said)
      (one said calls selection moment item is a)

  keeps_two : (s t u : JunitState) → Keeps s t → Keeps t u → Keeps s u
  keeps_two s t u h k = (k.0 ∙ h.0, λ said a. k.1 said (h.1 said a))

  nothing_said : (s t : JunitState) → Keeps s t → Steps (place_of s) [] s t
  nothing_said s t h = (h.0, λ said a. subst (λ (said : List Said). Acc said t) (sym (append-nil said)) (h.1 said a))

  moved : (s t : JunitState) → ((said : List Said) → Acc said s → Acc said t) → Steps (place_of t) [] s t
  moved s t h = (refl, λ said a. subst (λ (said : List Said). Acc said t) (sym (append-nil said)) (h said a))

  two : (s t u : JunitState) (place : Place) (more last : List Said) (p : Place) → Steps p more s t → Steps place last t u → Steps place (more ++ last) s u
  two s t u place more last p h k =
      (k.0, λ said a. subst (λ (said : List Said). Acc said u) (append_assoc said more last) (k.1 (said ++ more) (h.1 said a)))

  keeps_then : (s t u : JunitState) (place : Place) (more : List Said) → Keeps s t → Steps place more t u → Steps place more s u
  keeps_then s t u place more h k = (k.0, λ said a. k.1 said (h.1 said a))

  then_keeps : (s t u : JunitState) (place : Place) (more : List Said) → Steps place more s t → Keeps t u → Steps place more s u
  then_keeps s t u place more h k = (k.0 ∙ h.0, λ said a. k.1 (said ++ more) (h.1 said a))

  choose : (s : JunitState) (test : Bool) (x y : JunitState) → Keeps s x → Keeps s y → Keeps s (if test then x else y)
  choose s true x y hx hy = hx
  choose s false x y hx hy = hy

  fork : (s : JunitState) (test : Bool) (p q : Place) (m n : List Said) (x y : JunitState) → Steps p m s x → Steps q n s y
      → Steps (if test then p else q) (if test then m else n) s (if test then x else y)
  fork s true p q m n x y hx hy = hx
  fork s false p q m n x y hx hy = hy

  either : (s : JunitState) (test : Bool) (p q : Place) (m : List Said) (x y : JunitState) → Steps p m s x → Steps q m s y
      → Steps (if test then p else q) m s (if test then x else y)
  either s true p q m x y hx hy = hx
  either s false p q m x y hx hy = hy

  stays : (s : JunitState) → Keeps s s
  stays s = (refl, λ said a. a)

  -- all is shown
  none_hidden : (selection : Selection) (test : Bool) → selection ≡ All → (shows_failures_only selection && test) ≡ true → ⊥
  none_hidden selection test all h = true≢false (sym (subst (λ (selection : Selection). (shows_failures_only selection && test) ≡ true) all h))

  unless_hidden : (s : JunitState) (test : Bool) (x y : JunitState) → place_of x ≡ place_of s → ((said : List Said) → Acc said s → test ≡ true → ⊥) → Keeps s y → Keeps s (if test then x else y)
  unless_hidden s true x y hx never hy = (hx, λ said a. absurd (never said a refl))
  unless_hidden s false x y hx never hy = hy

  -- ---- spans

  closes_class : (class : Option Class) (s : JunitState) → Keeps s (class_closed class s)
  closes_class (Some class) s = (refl, λ said a. quiet said s.calls s.selection s.moment (Frame (close_call s.moment class.span (innermost_span s.suites))) refl refl a)
  closes_class None s = stays s

  leaves_class : (s : JunitState) → Keeps s (class_left s)
  leaves_class s = closes_class s.class (record s { class = None })

  opens_class : (s : JunitState) → Keeps s (class_opened s)
  opens_class s = (refl, λ said a. quiet said s.calls s.selection s.moment (Frame (span_call s.moment s.case.classname [] (innermost_span s.suites))) refl refl a)

  enters_class : (s : JunitState) → Keeps s (class_entered s)
  enters_class s =
      choose s (wants_class s) (if is_in_class s.class s.case.classname then s else class_opened (class_left s)) (class_left s)
      (choose s (is_in_class s.class s.case.classname) s (class_opened (class_left s)) (stays s) (keeps_two s (class_left s) (class_opened (class_left s)) (leaves_class s) (opens_class (class_left s))))
      (leaves_class s)

  begins_suite : (s : JunitState) → Keeps s (suite_begun s)
  begins_suite s =
      let t = class_left s in
      let k = leaves_class s in
      (k.0, λ said a. quiet said t.calls t.selection t.moment (Frame (span_call t.moment (Rattle.ttree_junit.specs.Element.attribute_in (codes "name") s.tag.attributes) [] (innermost_span t.suites))) refl refl (k.1 said a))

  ends_event : (suite : Suite) (s : JunitState) → Keeps s (end_event suite s)
  ends_event suite s =
      let call = event_call s.moment Info (message_field (codes "end") ∷ time_fields suite.nanoseconds) (Some suite.span) in
      choose s (is_some suite.nanoseconds) (called call s) s
      (refl, λ said a. quiet said s.calls s.selection s.moment (SuiteEnd suite.nanoseconds (Some suite.span) call) refl refl a) (stays s)

  shuts : (suite : Suite) (s : JunitState) → Keeps s (shut suite s)
  shuts suite s = (refl, λ said a. quiet said s.calls s.selection s.moment (Frame (close_call s.moment suite.span (innermost_span s.suites))) refl refl a)

  ends_with : (suite : Suite) (s : JunitState) → Keeps s (ended_with suite s)
  ends_with suite s =
      unless_hidden s (is_suite_hidden suite s) (suite_hidden suite s) (shut suite (end_event suite s)) refl
      (λ said a. none_hidden s.selection (s.tally.failed == suite.before.failed) a.all)
      (keeps_two s (end_event suite s) (shut suite (end_event suite s)) (ends_event suite s) (shuts suite (end_event suite s)))

  ends_if : (suite : Option Suite) (s : JunitState) → Keeps s (ended_if suite s)
  ends_if (Some suite) s = ends_with suite s
  ends_if None s = stays s

  ends_suite : (s : JunitState) → Keeps s (suite_ended s)
  ends_suite s = keeps_two s (class_left s) (suite_ended s) (leaves_class s) (ends_if (innermost (class_left s).suites) (without_suite (class_left s)))

  -- ---- cases

  shows_event : (s : JunitState) → is_bare s.case ≡ true → Steps (place_of s) (TestCase s.case ∷ []) s (event_shown s)
  shows_event s is =
      let call = event_call s.moment (level_of_outcome (outcome_of s.case)) (bare_case_fields s.case) (case_span s.class s.suites) in (
        refl,
        λ said a. one said s.calls s.selection s.moment (Shown (TestCase s.case) (call ∷ []))
            (subst (λ bare. IsCaseShown bare s.moment s.case (call ∷ [])) (sym is) (case_span s.class s.suites, refl)) a,
      )

  in_a_row : (calls rows : List Call) (opens ends closes : Call) → (((calls ++ opens ∷ []) ++ rows) ++ ends ∷ []) ++ closes ∷ [] ≡ calls ++ (opens ∷ (rows ++ (ends ∷ closes ∷ [])))
  in_a_row calls rows opens ends closes =
      append_assoc ((calls ++ opens ∷ []) ++ rows) (ends ∷ []) (closes ∷ [])
      ∙ append_assoc (calls ++ opens ∷ []) rows (ends ∷ closes ∷ [])
      ∙ append_assoc calls (opens ∷ []) (rows ++ (ends ∷ closes ∷ []))

  shows_span : (s : JunitState) → is_bare s.case ≡ false → Steps (place_of s) (TestCase s.case ∷ []) s (case_span_shown s)
  shows_span s is =
      let id = id_of s.next in
      let at = case_span s.class s.suites in
      let opens = span_call s.moment s.case.name s.case.fields at in
      let rows = row_calls s.moment (Some id) s.case.rows in
      let ends = event_call s.moment (level_of_outcome (outcome_of s.case)) (case_end_fields s.case) (Some id) in
      let closes = close_call s.moment id at in
      let group : List Call = opens ∷ (rows ++ (ends ∷ closes ∷ [])) in (
        refl,
        λ said a. subst (λ (calls : List Call). Account (said ++ TestCase s.case ∷ []) calls s.selection s.moment) (sym (in_a_row s.calls rows opens ends closes))
            (one said s.calls s.selection s.moment (Shown (TestCase s.case) group) (subst (λ bare. IsCaseShown bare s.moment s.case group) (sym is) (id, at, refl)) a),
      )

  shows_case : (s : JunitState) → Steps (place_of s) (TestCase s.case ∷ []) s (case_shown s)
  shows_case s = by (is_bare s.case) refl where
    by : (test : Bool) → is_bare s.case ≡ test → Steps (place_of s) (TestCase s.case ∷ []) s (if test then event_shown s else case_span_shown s)
    by true is = shows_event s is
    by false is = shows_span s is

  shows_entered : (s : JunitState) → Steps (place_of s) (TestCase s.case ∷ []) s (case_shown (class_entered s))
  shows_entered s =
      let t = class_entered s in
      let k = enters_class s in
      let h = keeps_then s t (case_shown t) (place_of t) (TestCase t.case ∷ []) k (shows_case t) in
      subst (λ (place : Place). Steps place (TestCase place.case ∷ []) s (case_shown t)) k.0 h

  shows : (s : JunitState) → Steps (place_of s) (TestCase s.case ∷ []) s (shown_unless_hidden s)
  shows s = by (is_case_hidden s) refl where
    by : (test : Bool) → is_case_hidden s ≡ test → Steps (place_of s) (TestCase s.case ∷ []) s (if test then s else case_shown (class_entered s))
    by true is = (refl, λ said a. absurd (none_hidden s.selection (is_fine (outcome_of s.case)) a.all is))
    by false is = shows_entered s

  -- ---- parts

  says_rows : (what : Said) (rows : List Row) (s : JunitState) → ((moment : Moment) (at : Option Id) → Shows moment what (row_calls moment at rows))
      → Steps (place_of s) (what ∷ []) s (rows_in_suite rows s)
  says_rows what rows s right =
      (refl, λ said a. one said s.calls s.selection s.moment (Shown what (row_calls s.moment (innermost_span s.suites) rows)) (right s.moment (innermost_span s.suites)) a)

  left_rows : (what : Said) (rows : List Row) (s : JunitState) → ((moment : Moment) (at : Option Id) → Shows moment what (row_calls moment at rows))
      → Steps (place_of s) (what ∷ []) s (rows_in_suite rows (class_left s))
  left_rows what rows s right =
      let t = class_left s in
      let k = leaves_class s in
      subst (λ (place : Place). Steps place (what ∷ []) s (rows_in_suite rows t)) k.0 (keeps_then s t (rows_in_suite rows t) (place_of t) (what ∷ []) k (says_rows what rows t right))

  ends_failure : (level : Level) (s : JunitState) → Steps (of_case (with_failure level s.part) (place_of s)) (of_suite (SuiteFailure (failure_rows level s.part)) (place_of s)) s (failure_ended level s)
  ends_failure level s =
      let t : JunitState = record s { in_part = false } in
      let inside : JunitState = record t { case = with_failure level s.part s.case } in
      fork s s.in_case (place_of inside) (place_of t) [] (SuiteFailure (failure_rows level s.part) ∷ []) inside (suite_failed level t)
      (moved s inside (λ said a. a)) (left_rows (SuiteFailure (failure_rows level s.part)) (failure_rows level s.part) (record t { tally = Rattle.ttree_junit.specs.Reading.counted_as Rattle.ttree_junit.specs.declared.case.Outcome.TheVariants.Failed t.tally }) (λ moment at. (at, refl)))

  ends_output : (s : JunitState) → Steps (of_case (with_printed s.part) (place_of s)) (of_suite (SuiteOutput (printed_rows s.part.body)) (place_of s)) s (output_ended s)
  ends_output s =
      let t : JunitState = record s { in_part = false } in
      let inside : JunitState = record t { case = with_printed s.part s.case } in
      fork s s.in_case (place_of inside) (place_of t) [] (SuiteOutput (printed_rows s.part.body) ∷ []) inside (Rattle.ttree_junit.specs.Reading.output_shown t)
      (moved s inside (λ said a. a)) (left_rows (SuiteOutput (printed_rows s.part.body)) (printed_rows s.part.body) t (λ moment at. (at, refl)))

  ends_as : (element : Element) (s : JunitState) → Steps (after_element element (place_of s)) (element_said element (place_of s)) s (ended_as element s)
  ends_as SuiteElement s = nothing_said s (suite_ended s) (ends_suite s)
  ends_as Case s = shows (case_counted (record s { in_case = false }))
  ends_as Failure s = ends_failure Error s
  ends_as Rerun s = ends_failure Warn s
  ends_as Skipped s = moved s (skip_ended s) (λ said a. a)
  ends_as Output s = ends_output s
  ends_as Property s = moved s s (λ said a. a)
  ends_as Other s = moved s s (λ said a. a)

  ends_element : (element : Option Element) (s : JunitState) → Steps (after_if element (place_of s)) (said_if element (place_of s)) s (ended_element element s)
  ends_element (Some element) s = ends_as element s
  ends_element None s = moved s s (λ said a. a)

  ends : (s : JunitState) → Steps (after_last (place_of s)) (last_said (place_of s)) s (last_element_ended s)
  ends s = ends_element (innermost s.elements) (record s { elements = outer s.elements })

  -- ---- text, and elements that begin

  adds_cdata : (part : List ℕ) (s : JunitState) → Steps (at_cdata part (place_of s)) [] s (cdata_added part s)
  adds_cdata part s =
      let t = added_to_body (Rattle.xml.specs.Decoded.cdata_decoded part) s in
      either s s.in_part (place_of t) (place_of s) [] t s (moved s t (λ said a. a)) (moved s s (λ said a. a))

  adds_text : (run : List ℕ) (s : JunitState) → Steps (at_text run (place_of s)) [] s (text_added run s)
  adds_text run s =
      let t = added_to_body (Rattle.xml.specs.Decoded.text_decoded run) s in
      let u : JunitState = record s { outside = s.outside ++ run } in
      either s s.in_part (place_of t) (if is_open s then place_of s else place_of u) [] t (added_outside run s) (moved s t (λ said a. a))
      (either s (is_open s) (place_of s) (place_of u) [] s u (moved s s (λ said a. a)) (moved s u (λ said a. a)))

  shows_plain : (text : List ℕ) (s : JunitState) → Steps (place_of s) (Around text ∷ []) s (plain_shown text (class_left s))
  shows_plain text s =
      let t = class_left s in
      let k = leaves_class s in
      subst (λ (place : Place). Steps place (Around text ∷ []) s (plain_shown text t)) k.0
      (keeps_then s t (plain_shown text t) (place_of t) (Around text ∷ []) k
      (refl, λ said a. one said t.calls t.selection t.moment (Shown (Around text) (plain_calls t.moment text)) refl a))

  shows_outside : (s : JunitState) → Steps (record (place_of s) { outside = [] }) (around_said (place_of s)) s (outside_shown s)
  shows_outside s = by (is_blank_text s.outside) where
    by : (test : Bool) → Steps (record (place_of s) { outside = [] }) (if test then [] else Around s.outside ∷ []) s (if test then record s { outside = [] } else plain_shown s.outside (class_left (record s { outside = [] })))
    by true = moved s (record s { outside = [] }) (λ said a. a)
    by false = shows_plain s.outside (record s { outside = [] })

  records_in : (span : Option Id) (s : JunitState) → Keeps s (recorded_in span (property_of s.tag) s)
  records_in (Some span) s = (refl, λ said a. quiet said s.calls s.selection s.moment (Frame (record_call span (property_of s.tag ∷ []))) refl refl a)
  records_in None s = stays s

  adds_property : (s : JunitState) → Steps (in_element Property (place_of s)) [] s (property_added s)
  adds_property s =
      let t : JunitState = record s { case = with_property (property_of s.tag) s.case } in
      either s s.in_case (place_of t) (place_of s) [] t (recorded_in (innermost_span s.suites) (property_of s.tag) s) (moved s t (λ said a. a))
      (nothing_said s (recorded_in (innermost_span s.suites) (property_of s.tag) s) (records_in (innermost_span s.suites) s))

  begins_as : (element : Element) (s : JunitState) → Steps (in_element element (place_of s)) [] s (begun_as element s)
  begins_as SuiteElement s = nothing_said s (suite_begun s) (begins_suite s)
  begins_as Case s = moved s (begun_as Case s) (λ said a. a)
  begins_as Failure s = moved s (begun_as Failure s) (λ said a. a)
  begins_as Rerun s = moved s (begun_as Rerun s) (λ said a. a)
  begins_as Skipped s = moved s (begun_as Skipped s) (λ said a. a)
  begins_as Output s = moved s (begun_as Output s) (λ said a. a)
  begins_as Property s = adds_property s
  begins_as Other s = adds_cdata (codes "\n") s

  abbrev entered : Place → Place
  entered place = in_element (next_element place) (record place { elements = place.elements ++ next_element place ∷ [] })

  begins_element : (s : JunitState) → Steps (entered (place_of s)) [] s (element_begun s)
  begins_element s = begins_as (element_of s) (record s { is_report = s.is_report || Rattle.ttree_junit.specs.Element.is_of_report s.tag.name; elements = s.elements ++ element_of s ∷ [] })

  pub begins : (s : JunitState) → Steps (in_next (place_of s)) (around_said (place_of s)) s (next_element_begun s)
  begins s =
      let t = outside_shown s in
      let h = shows_outside s in
      let both = two s t (element_begun t) (entered (place_of t)) (around_said (place_of s)) [] (record (place_of s) { outside = [] }) h (begins_element t) in
      let said = subst (λ (more : List Said). Steps (entered (place_of t)) more s (element_begun t)) (append-nil (around_said (place_of s))) both in
      subst (λ (place : Place). Steps (entered place) (around_said (place_of s)) s (element_begun t)) h.0 said

  pub takes : (token : XmlToken) (s : JunitState) → Steps (after_token token (place_of s)) (token_said token (place_of s)) s (taken token s)
  takes (start_tag name) s = moved s (taken (start_tag name) s) (λ said a. a)
  takes (attribute name value) s = moved s (taken (attribute name value) s) (λ said a. a)
  takes tag_end s = begins s
  takes empty_tag_end s =
      let t = next_element_begun s in
      let h = begins s in
      let around = around_said (place_of s) in
      subst (λ (place : Place). Steps (after_last place) (around ++ last_said place) s (last_element_ended t)) h.0
      (two s t (last_element_ended t) (after_last (place_of t)) around (last_said (place_of t)) (in_next (place_of s)) h (ends t))
  takes (end_tag name) s = ends s
  takes (characters run) s = adds_text run s
  takes (cdata part) s = adds_cdata part s
  takes skipped s = moved s s (λ said a. a)

  -- ---- the end

  pub cuts_as : (element : Option Element) (s : JunitState) → Steps (after_cut element (place_of s)) (cut_said element (place_of s)) s (cut_if element s)
  cuts_as (Some SuiteElement) s = moved s s (λ said a. a)
  cuts_as (Some Case) s = shows (record s { case = with_cut s.case })
  cuts_as (Some Failure) s = ends_as Failure s
  cuts_as (Some Rerun) s = ends_as Rerun s
  cuts_as (Some Skipped) s = ends_as Skipped s
  cuts_as (Some Output) s = ends_as Output s
  cuts_as (Some Property) s = moved s s (λ said a. a)
  cuts_as (Some Other) s = moved s s (λ said a. a)
  cuts_as None s = moved s s (λ said a. a)

  cuts_times : (count : ℕ) (s : JunitState) → Steps (after_cuts count (place_of s)) (cuts_said count (place_of s)) s (cut_times count s)
  cuts_times zero s = moved s s (λ said a. a)
  cuts_times (suc count) s =
      let t = innermost_cut s in
      let h : Steps (after_last_cut (place_of s)) (cut_said (innermost s.elements) (record (place_of s) { elements = outer s.elements })) s t =
      cuts_as (innermost s.elements) (record s { elements = outer s.elements }) in
      let cut = cut_said (innermost s.elements) (record (place_of s) { elements = outer s.elements }) in
      subst (λ (place : Place). Steps (after_cuts count place) (cut ++ cuts_said count place) s (cut_times count t)) h.0
      (two s t (cut_times count t) (after_cuts count (place_of t)) cut (cuts_said count (place_of t)) (after_last_cut (place_of s)) h (cuts_times count t))

  cuts_suite : (suite : Suite) (s : JunitState) → Keeps s (cut_with suite s)
  cuts_suite suite s =
      unless_hidden s (is_suite_hidden suite s && not s.in_case) (suite_hidden suite s) (shut suite s) refl
      (λ said a h. none_hidden s.selection (s.tally.failed == suite.before.failed) a.all (and_left (is_suite_hidden suite s) (not s.in_case) h)) (shuts suite s) where
        and_left : (a b : Bool) → (a && b) ≡ true → a ≡ true
        and_left true b h = refl
        and_left false b h = h

  closes_suite_if : (suite : Option Suite) (s : JunitState) → Keeps s (closed_if suite s)
  closes_suite_if (Some suite) s = cuts_suite suite s
  closes_suite_if None s = stays s

  closes_times : (count : ℕ) (s : JunitState) → Keeps s (closed_times count s)
  closes_times zero s = stays s
  closes_times (suc count) s =
      keeps_two s (suite_closed s) (closed_times count (suite_closed s)) (closes_suite_if (innermost s.suites) (without_suite s)) (closes_times count (suite_closed s))

  emits_counts : (s : JunitState) → Keeps s (tallied s)
  emits_counts s =
      let level : Level = if s.tally.failed == 0 then Info else Error in
      let call = event_call s.moment level (tally_fields s.tally) None in
      choose s s.is_report (called call s) s (refl, λ said a. quiet said s.calls s.selection s.moment (Counts s.tally level call) refl refl a) (stays s)

  finishes : (s : JunitState) (said : List Said) → Acc said s → Acc (said ++ end_said (place_of s)) (report_finished s)
  unfolding report_finished
  finishes s said a =
      let count = length s.elements in
      let cut = elements_cut s in
      let left = class_left cut in
      let closed = suites_closed left in
      let shown = outside_shown closed in
      let h : Steps (after_cuts count (place_of s)) (cuts_said count (place_of s)) s cut = cuts_times count s in
      let k : Keeps cut closed = keeps_two cut left closed (leaves_class cut) (closes_times (length left.suites) left) in
      let to_closed : Steps (after_cuts count (place_of s)) (cuts_said count (place_of s)) s closed = then_keeps s cut closed (after_cuts count (place_of s)) (cuts_said count (place_of s)) h k in
      let around : (place_of closed ≡ after_cuts count (place_of s)) = to_closed.0 in
      let more = two s closed shown (record (place_of closed) { outside = [] }) (cuts_said count (place_of s)) (around_said (place_of closed)) (after_cuts count (place_of s)) to_closed (shows_outside closed) in
      (emits_counts shown).1 (said ++ end_said (place_of s))
      (subst (λ (place : Place). Acc (said ++ (cuts_said count (place_of s) ++ around_said place)) shown) around (more.1 said a))

  pub takes_rest : (unfinished : Unfinished) (rest : List ℕ) (s : JunitState) → Steps (after_rest unfinished rest (place_of s)) [] s (rest_taken unfinished rest s)
  takes_rest In.Cdata rest s = adds_cdata rest s
  takes_rest In.Tag rest s = moved s s (λ said a. a)
  takes_rest In.Comment rest s = moved s s (λ said a. a)
  takes_rest In.Instruction rest s = moved s s (λ said a. a)
  takes_rest In.Doctype rest s = moved s s (λ said a. a)

  reads_next : (found : Result (Option ReadStep) Unfinished) (rest : List ℕ) (s : JunitState) (others : Reading → JunitState → ReadDocument) (more : Reading → Place → List Said)
      → ((reading : Reading) (t : JunitState) (said : List Said) → Acc said t → Acc (said ++ more reading (place_of t)) (report_finished (others reading t).state))
      → (said : List Said) → Acc said s → Acc (said ++ said_next found rest (place_of s) more) (report_finished (read_next found rest s others).state)
  reads_next (Ok (Some step)) rest s others more later said a =
      let t = taken step.token s in
      let h = takes step.token s in
      let token = token_said step.token (place_of s) in
      subst (λ (place : Place). Acc (said ++ (token ++ more step.after place)) (report_finished (others step.after t).state)) h.0
      (subst (λ (said : List Said). Acc said (report_finished (others step.after t).state)) (append_assoc said token (more step.after (place_of t)))
      (later step.after t (said ++ token) (h.1 said a)))
  reads_next (Ok None) rest s others more later said a = finishes s said a
  reads_next (Err unfinished) rest s others more later said a =
      let t = rest_taken unfinished rest s in
      let h = takes_rest unfinished rest s in
      subst (λ (place : Place). Acc (said ++ end_said place) (report_finished t)) h.0
      (finishes t said (subst (λ (said : List Said). Acc said t) (append-nil said) (h.1 said a)))

  reads_within : (tokens : ℕ) (reading : Reading) (s : JunitState) (said : List Said) → Acc said s → Acc (said ++ said_within tokens reading (place_of s)) (report_finished (read_within tokens reading s).state)
  reads_within zero reading s said a = finishes s said a
  reads_within (suc tokens) reading s said a =
      reads_next (step_of reading s) reading.rest s (λ rest t. read_within tokens rest t) (λ rest at. said_within tokens rest at) (reads_within tokens) said a

-- each case of a document is shown once
pub each_case_shown : (next : ℕ) (moment : Moment) (text : List ℕ) → ShowsEachOnce moment (said_by text) (document_calls All next moment text)
each_case_shown next moment text =
    let a = reads_within moment (length text) (document_start text) (at_start All next moment) []
    (record { items = []; calls_are = refl; said_is = refl; right = tt; all = refl; at = refl }) in
    record {
      items = a.items;
      calls_are = a.calls_are;
      said_is = a.said_is;
      right = subst (λ (m : Moment). AllRight m a.items) a.at a.right;
    }
