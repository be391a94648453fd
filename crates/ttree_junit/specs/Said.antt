-- What a document says, by its elements: its cases, what its suites print, and what is around it.
use Rattle.std.specs.Prelude.{ℕ, zero, suc, ◌==◌, ◌||◌, not, Bool, true, false, if◌then◌else◌, List, [], ◌∷◌, ◌++◌, flat_map, length, Option, Some, None, Result, Ok, Err, codes}
use Rattle.tracing_tree_base.specs.declared.style.Level.TheVariants.{Warn, Error}
use Rattle.xml.specs.Decoded.{cdata_decoded, text_decoded}
use Rattle.xml.specs.Reading.{Reading}
use Rattle.xml.specs.Token.{ReadStep, XmlToken, start_tag, attribute, tag_end, empty_tag_end, end_tag, characters, cdata, skipped}
use Rattle.xml.specs.Xml.{next_plain_step, next_step}
use Rattle.xml.specs.Xml.{at_start as document_start}
use Rattle.xml.specs.declared.reader.Unfinished.{Unfinished}
use Rattle.xml.specs.declared.reader.Unfinished.TheVariants as In
use Rattle.ttree_junit.specs.Case.{case_of, outcome_of, with_cut, with_failure, with_printed, with_property, with_skip}
use Rattle.ttree_junit.specs.Element.{attribute_in, begins_document, element_named, role_of}
use Rattle.ttree_junit.specs.Failure.{failure_rows}
use Rattle.ttree_junit.specs.Lines.{is_blank_text, printed_rows}
use Rattle.ttree_junit.specs.Reading.{innermost, no_tag, outer, property_of}
use Rattle.ttree_junit.specs.States.{CaseState, PartState, TagState, with_attribute}
use Rattle.ttree_junit.specs.declared.case.Outcome.{Outcome}
use Rattle.ttree_junit.specs.declared.case.Outcome.TheVariants.{Failed}
use Rattle.ttree_junit.specs.declared.element.Element.{Element}
use Rattle.ttree_junit.specs.declared.element.Element.TheVariants.{Suite, Case, Failure, Rerun, Skipped, Output, Property, Other}
use Rattle.ttree_junit.specs.declared.lines.Row.{Row}

-- What is said: a test case, with its attributes and what its elements say; the lines of a failure
-- outside of cases, or of output outside of cases; or text around the document.
pub data Said : Type 0 where
  TestCase : CaseState → Said
  SuiteFailure : List Row → Said
  SuiteOutput : List Row → Said
  Around : List ℕ → Said

-- The place of a token: the text around the document so far, the open elements, the tag that is
-- read, and the case and the part that are open.
pub record Place : Type 0 where
  pub outside : List ℕ
  pub elements : List Element
  pub tag : TagState
  pub in_case : Bool
  pub case : CaseState
  pub in_part : Bool
  pub part : PartState

abbrev pub first_place : Place
first_place = record {
  outside = [];
  elements = [];
  tag = no_tag;
  in_case = false;
  case = case_of no_tag;
  in_part = false;
  part = record { name = []; message = []; body = [] };
}

-- ---- text

abbrev pub around_said : Place → List Said
around_said place = if is_blank_text place.outside then [] else Around place.outside ∷ []

abbrev pub with_text : List ℕ → Place → Place
with_text text place = record place { part = record place.part { body = place.part.body ++ text } }

abbrev pub is_inside : Place → Bool
is_inside place = not (length place.elements == 0)

-- characters count in a part, and outside of all elements
abbrev pub at_text : List ℕ → Place → Place
at_text run place =
    if place.in_part then with_text (text_decoded run) place
    else if is_inside place then place
    else record place { outside = place.outside ++ run }

abbrev pub at_cdata : List ℕ → Place → Place
at_cdata part place = if place.in_part then with_text (cdata_decoded part) place else place

-- ---- an element begins

abbrev pub in_new_part : Place → Place
in_new_part place = record place {
  part = record {
    name = place.tag.name;
    message = attribute_in (codes "message") place.tag.attributes;
    body = [];
  };
  in_part = true;
}

abbrev pub in_element : Element → Place → Place
in_element Suite place = place
in_element Case place = record place { case = case_of place.tag; in_case = true }
in_element Failure place = in_new_part place
in_element Rerun place = in_new_part place
in_element Skipped place = in_new_part place
in_element Output place = in_new_part place
in_element Property place =
    if place.in_case
    then record place { case = with_property (property_of place.tag) place.case }
    else place
in_element Other place = at_cdata (codes "\n") place

-- what the element of the tag is here
abbrev pub next_element : Place → Element
next_element place = role_of (element_named place.tag.name) place.in_case place.in_part

abbrev pub in_next : Place → Place
in_next place =
    in_element (next_element place) (record place {
      outside = [];
      elements = place.elements ++ next_element place ∷ [];
    })

-- ---- an element ends

-- a failure or output in a case is of the case
abbrev pub of_case : (CaseState → CaseState) → Place → Place
of_case change place =
    if place.in_case then record place { in_part = false; case = change place.case }
    else record place { in_part = false }

-- what is outside of cases is of a suite
abbrev pub of_suite : Said → Place → List Said
of_suite said place = if place.in_case then [] else said ∷ []

abbrev pub after_element : Element → Place → Place
after_element Suite place = place
after_element Case place = record place { in_case = false }
after_element Failure place = of_case (with_failure Error place.part) place
after_element Rerun place = of_case (with_failure Warn place.part) place
after_element Skipped place =
    record place { in_part = false; case = with_skip place.part place.case }
after_element Output place = of_case (with_printed place.part) place
after_element Property place = place
after_element Other place = place

abbrev pub element_said : Element → Place → List Said
element_said Suite place = []
element_said Case place = TestCase place.case ∷ []
element_said Failure place = of_suite (SuiteFailure (failure_rows Error place.part)) place
element_said Rerun place = of_suite (SuiteFailure (failure_rows Warn place.part)) place
element_said Skipped place = []
element_said Output place = of_suite (SuiteOutput (printed_rows place.part.body)) place
element_said Property place = []
element_said Other place = []

abbrev pub after_if : Option Element → Place → Place
after_if (Some element) place = after_element element place
after_if None place = place

abbrev pub said_if : Option Element → Place → List Said
said_if (Some element) place = element_said element place
said_if None place = []

-- the innermost element ends
abbrev pub after_last : Place → Place
after_last place =
    after_if (innermost place.elements) (record place { elements = outer place.elements })

abbrev pub last_said : Place → List Said
last_said place =
    said_if (innermost place.elements) (record place { elements = outer place.elements })

-- ---- tokens

abbrev pub after_token : XmlToken → Place → Place
after_token (start_tag name) place =
    record place { tag = record { name = name; attributes = [] } }
after_token (attribute name value) place =
    record place { tag = with_attribute name value place.tag }
after_token tag_end place = in_next place
after_token empty_tag_end place = after_last (in_next place)
after_token (end_tag name) place = after_last place
after_token (characters run) place = at_text run place
after_token (cdata part) place = at_cdata part place
after_token skipped place = place

abbrev pub token_said : XmlToken → Place → List Said
token_said (start_tag name) place = []
token_said (attribute name value) place = []
token_said tag_end place = around_said place
token_said empty_tag_end place = around_said place ++ last_said (in_next place)
token_said (end_tag name) place = last_said place
token_said (characters run) place = []
token_said (cdata part) place = []
token_said skipped place = []

-- ---- the end

-- the document ends in an element: a case is unfinished
abbrev pub after_cut : Option Element → Place → Place
after_cut (Some Suite) place = place
after_cut (Some Case) place = record place { case = with_cut place.case }
after_cut (Some Failure) place = after_element Failure place
after_cut (Some Rerun) place = after_element Rerun place
after_cut (Some Skipped) place = after_element Skipped place
after_cut (Some Output) place = after_element Output place
after_cut (Some Property) place = place
after_cut (Some Other) place = place
after_cut None place = place

abbrev pub cut_said : Option Element → Place → List Said
cut_said (Some Suite) place = []
cut_said (Some Case) place = TestCase (with_cut place.case) ∷ []
cut_said (Some Failure) place = element_said Failure place
cut_said (Some Rerun) place = element_said Rerun place
cut_said (Some Skipped) place = []
cut_said (Some Output) place = element_said Output place
cut_said (Some Property) place = []
cut_said (Some Other) place = []
cut_said None place = []

abbrev pub after_last_cut : Place → Place
after_last_cut place =
    after_cut (innermost place.elements) (record place { elements = outer place.elements })

abbrev pub after_cuts : ℕ → Place → Place
after_cuts zero place = place
after_cuts (suc count) place = after_cuts count (after_last_cut place)

abbrev pub cuts_said : ℕ → Place → List Said
cuts_said zero place = []
cuts_said (suc count) place =
    cut_said (innermost place.elements) (record place { elements = outer place.elements })
    ++ cuts_said count (after_last_cut place)

-- what is open at the end, the innermost first, and then the text after the document
abbrev pub end_said : Place → List Said
end_said place =
    cuts_said (length place.elements) place
    ++ around_said (after_cuts (length place.elements) place)

-- of what a document ends in, only a CDATA section has characters
abbrev pub after_rest : Unfinished → List ℕ → Place → Place
after_rest In.Cdata rest place = at_cdata rest place
after_rest In.Tag rest place = place
after_rest In.Comment rest place = place
after_rest In.Instruction rest place = place
after_rest In.Doctype rest place = place

-- outside of all elements, what doesn't begin a document is plain text
abbrev pub step_at : Reading → Place → Result (Option ReadStep) Unfinished
step_at reading place =
    if is_inside place || begins_document reading.rest then next_step reading
    else next_plain_step reading

abbrev pub said_next : Result (Option ReadStep) Unfinished → List ℕ → Place
    → (Reading → Place → List Said) → List Said
said_next (Ok (Some step)) rest place others =
    token_said step.token place ++ others step.after (after_token step.token place)
said_next (Ok None) rest place others = end_said place
said_next (Err unfinished) rest place others = end_said (after_rest unfinished rest place)

abbrev pub said_within : ℕ → Reading → Place → List Said
said_within zero reading place = end_said place
said_within (suc tokens) reading place =
    said_next (step_at reading place) reading.rest place (λ rest at. said_within tokens rest at)

-- what a document says, in the order of the ends of its elements
abbrev pub said_by : List ℕ → List Said
said_by text = said_within (length text) (document_start text) first_place

abbrev pub case_in : Said → List CaseState
case_in (TestCase case) = case ∷ []
case_in (SuiteFailure rows) = []
case_in (SuiteOutput rows) = []
case_in (Around text) = []

-- the cases of a document, in order
abbrev pub cases_of : List ℕ → List CaseState
cases_of text = flat_map case_in (said_by text)

-- how a case ended; a failure outside of cases counts as a failed case
abbrev pub outcome_in : Said → List Outcome
outcome_in (TestCase case) = outcome_of case ∷ []
outcome_in (SuiteFailure rows) = Failed ∷ []
outcome_in (SuiteOutput rows) = []
outcome_in (Around text) = []

abbrev pub outcomes_said : List ℕ → List Outcome
outcomes_said text = flat_map outcome_in (said_by text)
