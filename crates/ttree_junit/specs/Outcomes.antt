-- How the cases of a document ended.
use Rattle.std.specs.Prelude.{ℕ, zero, suc, Bool, true, false, if◌then◌else◌, List, [], ◌∷◌, ◌++◌, length, Option, Some, None, Result, Ok, Err}
use Rattle.std.specs.List.{list_any}
use Rattle.tracing_tree_base.specs.declared.context.Moment.{Moment}
use Rattle.xml.specs.Reading.{Reading}
use Rattle.xml.specs.Token.{ReadStep, XmlToken, start_tag, attribute, tag_end, empty_tag_end, end_tag, characters, cdata, skipped}
use Rattle.xml.specs.Xml.{at_start as document_start}
use Rattle.xml.specs.declared.reader.Unfinished.{Unfinished}
use Rattle.ttree_junit.specs.Case.{outcome_of}
use Rattle.ttree_junit.specs.Document.{rest_taken, step_of}
use Rattle.ttree_junit.specs.Junit.{JunitState}
use Rattle.ttree_junit.specs.Reading.{at_start, counted_as, innermost, innermost_cut, next_element_begun, taken}
use Rattle.ttree_junit.specs.declared.case.Outcome.{Outcome}
use Rattle.ttree_junit.specs.declared.case.Outcome.TheVariants.{Passed, Failed, Skipped as WasSkipped, Unfinished as WasUnfinished}
use Rattle.ttree_junit.specs.declared.element.Element.{Element}
use Rattle.ttree_junit.specs.declared.element.Element.TheVariants.{Suite, Case, Failure, Rerun, Skipped, Output, Property, Other}
use Rattle.ttree_junit.specs.declared.reading.Selection.{Selection}
use Rattle.ttree_junit.specs.declared.reading.Tally.{Tally}

abbrev pub is_failed : Outcome → Bool
is_failed Failed = true
is_failed Passed = false
is_failed WasSkipped = false
is_failed WasUnfinished = false

-- a failure outside of cases is one of a suite, and counts as a failed case
abbrev pub suite_outcomes : JunitState → List Outcome
suite_outcomes s = if s.in_case then [] else Failed ∷ []

-- what ends with an element: a case, or a failure of a suite
abbrev pub element_outcomes : Element → JunitState → List Outcome
element_outcomes Case s = outcome_of s.case ∷ []
element_outcomes Failure s = suite_outcomes s
element_outcomes Rerun s = suite_outcomes s
element_outcomes Suite s = []
element_outcomes Skipped s = []
element_outcomes Output s = []
element_outcomes Property s = []
element_outcomes Other s = []

abbrev pub outcomes_if : Option Element → JunitState → List Outcome
outcomes_if (Some element) s = element_outcomes element s
outcomes_if None s = []

abbrev pub token_outcomes : XmlToken → JunitState → List Outcome
token_outcomes (start_tag name) s = []
token_outcomes (attribute name value) s = []
token_outcomes tag_end s = []
token_outcomes empty_tag_end s =
    outcomes_if (innermost (next_element_begun s).elements) (next_element_begun s)
token_outcomes (end_tag name) s = outcomes_if (innermost s.elements) s
token_outcomes (characters run) s = []
token_outcomes (cdata part) s = []
token_outcomes skipped s = []

-- a case that the document ends in isn't counted
abbrev pub cut_element_outcomes : Element → JunitState → List Outcome
cut_element_outcomes Case s = []
cut_element_outcomes Failure s = suite_outcomes s
cut_element_outcomes Rerun s = suite_outcomes s
cut_element_outcomes Suite s = []
cut_element_outcomes Skipped s = []
cut_element_outcomes Output s = []
cut_element_outcomes Property s = []
cut_element_outcomes Other s = []

abbrev pub cut_outcomes_if : Option Element → JunitState → List Outcome
cut_outcomes_if (Some element) s = cut_element_outcomes element s
cut_outcomes_if None s = []

abbrev pub cut_outcomes_times : ℕ → JunitState → List Outcome
cut_outcomes_times zero s = []
cut_outcomes_times (suc count) s =
    cut_outcomes_if (innermost s.elements) s ++ cut_outcomes_times count (innermost_cut s)

-- what ends with the document
abbrev pub cut_outcomes : JunitState → List Outcome
cut_outcomes s = cut_outcomes_times (length s.elements) s

abbrev pub next_outcomes : Result (Option ReadStep) Unfinished → List ℕ → JunitState
    → (Reading → JunitState → List Outcome) → List Outcome
next_outcomes (Ok (Some step)) rest s others =
    token_outcomes step.token s ++ others step.after (taken step.token s)
next_outcomes (Ok None) rest s others = cut_outcomes s
next_outcomes (Err unfinished) rest s others = cut_outcomes (rest_taken unfinished rest s)

abbrev pub outcomes_within : ℕ → Reading → JunitState → List Outcome
outcomes_within zero reading s = cut_outcomes s
outcomes_within (suc tokens) reading s =
    next_outcomes (step_of reading s) reading.rest s (λ rest t. outcomes_within tokens rest t)

-- the outcomes of the cases that ended and of the failures of suites, one after another
abbrev pub outcomes_of : Selection → ℕ → Moment → List ℕ → List Outcome
outcomes_of selection next moment text =
    outcomes_within (length text) (document_start text) (at_start selection next moment)

-- each outcome is counted once
abbrev pub counted_all : List Outcome → Tally → Tally
counted_all [] tally = tally
counted_all (outcome ∷ others) tally = counted_all others (counted_as outcome tally)

abbrev pub some_failed : List Outcome → Bool
some_failed outcomes = list_any is_failed outcomes
