-- The counts are those of the cases that a document says, and of failures outside of cases.
use Rattle.std.proofs.Common.{◌≡◌, ℕ, zero, suc, Bool, true, false, List, [], ◌∷◌, ◌++◌, Option, Some, None, Result, Ok, Err, refl, sym, ap, ◌∙◌}
use Rattle.std.specs.Prelude.{◌==◌, not, if◌then◌else◌, flat_map, length}
use Rattle.std.proofs.lemmas.Grind.{flat_map-append}
use Rattle.tracing_tree_base.specs.declared.context.Moment.{Moment}
use Rattle.xml.specs.Reading.{Reading}
use Rattle.xml.specs.Token.{ReadStep, XmlToken, start_tag, attribute, tag_end, empty_tag_end, end_tag, characters, cdata, skipped}
use Rattle.xml.specs.Xml.{at_start as document_start}
use Rattle.xml.specs.declared.reader.Unfinished.{Unfinished}
use Rattle.ttree_junit.specs.Document.{document_state, rest_taken, step_of}
use Rattle.ttree_junit.specs.Junit.{JunitState}
use Rattle.ttree_junit.specs.Lines.{is_blank_text}
use Rattle.ttree_junit.specs.Outcomes.{counted_all, cut_outcomes, cut_outcomes_if, cut_outcomes_times, element_outcomes, next_outcomes, outcomes_if, outcomes_within, some_failed, token_outcomes}
use Rattle.ttree_junit.specs.Reading.{at_start, innermost, innermost_cut, next_element_begun, outer, taken}
use Rattle.ttree_junit.specs.Said.{Place, Said, Said.SuiteFailure, Said.SuiteOutput, Said.Around, after_cuts, after_last_cut, after_token, around_said, cut_said, cuts_said, element_said, end_said, in_next, last_said, outcome_in, outcomes_said, said_if, said_next, said_within, token_said}
use Rattle.ttree_junit.specs.declared.case.Outcome.{Outcome}
use Rattle.ttree_junit.specs.declared.case.Outcome.TheVariants.{Failed}
use Rattle.ttree_junit.specs.declared.element.Element.{Element}
use Rattle.ttree_junit.specs.declared.element.Element.TheVariants.{Suite as SuiteElement, Case, Failure, Rerun, Skipped, Output, Property, Other}
use Rattle.ttree_junit.specs.declared.lines.Row.{Row}
use Rattle.ttree_junit.specs.declared.reading.Selection.{Selection}
use Rattle.ttree_junit.specs.declared.reading.Tally.{Tally}
use Rattle.ttree_junit.proofs.Failing.{counted_after, counts_of_outcomes, elements_apart, failures_among, has_failures}
use Rattle.ttree_junit.proofs.ShownOnce.{begins, cuts_as, place_of, takes, takes_rest}

abbrev outcomes : List Said → List Outcome
outcomes said = flat_map outcome_in said

outcomes_two : (first more : List Said) → outcomes (first ++ more) ≡ outcomes first ++ outcomes more
outcomes_two first more = flat_map-append outcome_in first more

fails_outside : (test : Bool) (rows : List Row) → outcomes (if test then [] else SuiteFailure rows ∷ []) ≡ (if test then [] else Failed ∷ [])
fails_outside true rows = refl
fails_outside false rows = refl

prints_outside : (test : Bool) (rows : List Row) → outcomes (if test then [] else SuiteOutput rows ∷ []) ≡ []
prints_outside true rows = refl
prints_outside false rows = refl

of_element : (element : Element) (s : JunitState) → outcomes (element_said element (place_of s)) ≡ element_outcomes element s
of_element SuiteElement s = refl
of_element Case s = refl
of_element Failure s = fails_outside s.in_case _
of_element Rerun s = fails_outside s.in_case _
of_element Skipped s = refl
of_element Output s = prints_outside s.in_case _
of_element Property s = refl
of_element Other s = refl

of_option : (element : Option Element) (s : JunitState) → outcomes (said_if element (place_of s)) ≡ outcomes_if element s
of_option (Some element) s = of_element element s
of_option None s = refl

of_last : (s : JunitState) → outcomes (last_said (place_of s)) ≡ outcomes_if (innermost s.elements) s
of_last s = of_option (innermost s.elements) (record s { elements = outer s.elements }) ∙ elements_apart (innermost s.elements) (outer s.elements) s

of_around : (place : Place) → outcomes (around_said place) ≡ []
of_around place = by (is_blank_text place.outside) where
  by : (test : Bool) → outcomes (if test then [] else Around place.outside ∷ []) ≡ []
  by true = refl
  by false = refl

of_token : (first : Moment) (token : XmlToken) (s : JunitState) → outcomes (token_said token (place_of s)) ≡ token_outcomes token s
of_token first (start_tag name) s = refl
of_token first (attribute name value) s = refl
of_token first tag_end s = of_around (place_of s)
of_token first empty_tag_end s =
    let t = next_element_begun s in
    outcomes_two (around_said (place_of s)) (last_said (in_next (place_of s)))
    ∙ ap (λ (first : List Outcome). first ++ outcomes (last_said (in_next (place_of s)))) (of_around (place_of s))
    ∙ ap (λ (place : Place). outcomes (last_said place)) (sym (begins first s).0) ∙ of_last t
of_token first (end_tag name) s = of_last s
of_token first (characters run) s = refl
of_token first (cdata part) s = refl
of_token first skipped s = refl

-- ---- the end

cut_apart : (element : Option Element) (elements : List Element) (s : JunitState) → cut_outcomes_if element (record s { elements = elements }) ≡ cut_outcomes_if element s
cut_apart (Some SuiteElement) elements s = refl
cut_apart (Some Case) elements s = refl
cut_apart (Some Failure) elements s = refl
cut_apart (Some Rerun) elements s = refl
cut_apart (Some Skipped) elements s = refl
cut_apart (Some Output) elements s = refl
cut_apart (Some Property) elements s = refl
cut_apart (Some Other) elements s = refl
cut_apart None elements s = refl

-- a case that the document ends in isn't counted
of_cut : (element : Option Element) (s : JunitState) (t : Tally) → counted_all (outcomes (cut_said element (place_of s))) t ≡ counted_all (cut_outcomes_if element s) t
of_cut (Some SuiteElement) s t = refl
of_cut (Some Case) s t = refl
of_cut (Some Failure) s t = ap (λ outcomes. counted_all outcomes t) (fails_outside s.in_case _)
of_cut (Some Rerun) s t = ap (λ outcomes. counted_all outcomes t) (fails_outside s.in_case _)
of_cut (Some Skipped) s t = refl
of_cut (Some Output) s t = ap (λ outcomes. counted_all outcomes t) (prints_outside s.in_case _)
of_cut (Some Property) s t = refl
of_cut (Some Other) s t = refl
of_cut None s t = refl

counted_two : (first more : List Said) (t : Tally) → counted_all (outcomes (first ++ more)) t ≡ counted_all (outcomes more) (counted_all (outcomes first) t)
counted_two first more t = ap (λ all. counted_all all t) (outcomes_two first more) ∙ counted_after (outcomes first) (outcomes more) t

of_cuts : (first : Moment) (count : ℕ) (s : JunitState) (t : Tally) → counted_all (outcomes (cuts_said count (place_of s))) t ≡ counted_all (cut_outcomes_times count s) t
of_cuts first zero s t = refl
of_cuts first (suc count) s t =
    let last : JunitState = record s { elements = outer s.elements } in
    let cut = cut_said (innermost s.elements) (place_of last) in
    let next = innermost_cut s in
    let ended = cut_outcomes_if (innermost s.elements) s in
    counted_two cut (cuts_said count (after_last_cut (place_of s))) t
    ∙ ap (λ (place : Place). counted_all (outcomes (cuts_said count place)) (counted_all (outcomes cut) t)) (sym (cuts_as first (innermost s.elements) last).0)
    ∙ of_cuts first count next (counted_all (outcomes cut) t)
    ∙ ap (λ (t : Tally). counted_all (cut_outcomes_times count next) t) (of_cut (innermost s.elements) last t ∙ ap (λ outcomes. counted_all outcomes t) (cut_apart (innermost s.elements) (outer s.elements) s))
    ∙ sym (counted_after ended (cut_outcomes_times count next) t)

of_end : (first : Moment) (s : JunitState) (t : Tally) → counted_all (outcomes (end_said (place_of s))) t ≡ counted_all (cut_outcomes s) t
of_end first s t =
    let count = length s.elements in
    counted_two (cuts_said count (place_of s)) (around_said (after_cuts count (place_of s))) t
    ∙ ap (λ last. counted_all last (counted_all (outcomes (cuts_said count (place_of s))) t)) (of_around (after_cuts count (place_of s)))
    ∙ of_cuts first count s t

of_next : (first : Moment) (found : Result (Option ReadStep) Unfinished) (rest : List ℕ) (s : JunitState) (t : Tally) (others : Reading → Place → List Said) (more : Reading → JunitState → List Outcome)
    → ((reading : Reading) (s : JunitState) (t : Tally) → counted_all (outcomes (others reading (place_of s))) t ≡ counted_all (more reading s) t)
    → counted_all (outcomes (said_next found rest (place_of s) others)) t ≡ counted_all (next_outcomes found rest s more) t
of_next first (Ok (Some step)) rest s t others more later =
    let token = token_said step.token (place_of s) in
    let next = taken step.token s in
    let ended = token_outcomes step.token s in
    counted_two token (others step.after (after_token step.token (place_of s))) t
    ∙ ap (λ (place : Place). counted_all (outcomes (others step.after place)) (counted_all (outcomes token) t)) (sym (takes first step.token s).0)
    ∙ later step.after next (counted_all (outcomes token) t)
    ∙ ap (λ all. counted_all (more step.after next) (counted_all all t)) (of_token first step.token s)
    ∙ sym (counted_after ended (more step.after next) t)
of_next first (Ok None) rest s t others more later = of_end first s t
of_next first (Err unfinished) rest s t others more later =
    ap (λ (place : Place). counted_all (outcomes (end_said place)) t) (sym (takes_rest first unfinished rest s).0) ∙ of_end first (rest_taken unfinished rest s) t

of_within : (first : Moment) (tokens : ℕ) (reading : Reading) (s : JunitState) (t : Tally) → counted_all (outcomes (said_within tokens reading (place_of s))) t ≡ counted_all (outcomes_within tokens reading s) t
of_within first zero reading s t = of_end first s t
of_within first (suc tokens) reading s t =
    of_next first (step_of reading s) reading.rest s t (λ rest at. said_within tokens rest at) (λ rest s. outcomes_within tokens rest s) (of_within first tokens)

abbrev nothing : Tally
nothing = record { passed = 0; failed = 0; skipped = 0 }

-- the counts are those of the cases, and of the failures outside of cases
pub counts_of_cases : (selection : Selection) (next : ℕ) (moment : Moment) (text : List ℕ) →
    (document_state selection next moment text).tally ≡ counted_all (outcomes_said text) nothing
counts_of_cases selection next moment text =
    counts_of_outcomes selection next moment text ∙ sym (of_within moment (length text) (document_start text) (at_start selection next moment) nothing)

-- a report fails exactly if one of them failed
pub fails_by_cases : (selection : Selection) (next : ℕ) (moment : Moment) (text : List ℕ) →
    not ((document_state selection next moment text).tally.failed == 0) ≡ some_failed (outcomes_said text)
fails_by_cases selection next moment text =
    ap has_failures (counts_of_cases selection next moment text) ∙ failures_among (outcomes_said text) nothing
