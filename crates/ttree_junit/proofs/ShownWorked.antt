-- What the tokens of reports say.
use Rattle.std.proofs.Common.{◌≡◌, List, [], ◌∷◌, ◌++◌, codes, refl}
use Rattle.std.specs.Prelude.{flat_map}
use Rattle.xml.specs.Token.{XmlToken, start_tag, tag_end, empty_tag_end, end_tag}
use Rattle.ttree_junit.specs.Said.{Place, Said, after_token, end_said, first_place, outcome_in, token_said}
use Rattle.ttree_junit.specs.declared.case.Outcome.{Outcome}
use Rattle.ttree_junit.specs.declared.case.Outcome.TheVariants.{Passed, Failed, Skipped as WasSkipped, Unfinished as WasUnfinished}

abbrev said_over : List XmlToken → Place → List Said
said_over [] place = end_said place
said_over (token ∷ tokens) place = token_said token place ++ said_over tokens (after_token token place)

abbrev outcomes_over : List XmlToken → List Outcome
outcomes_over tokens = flat_map outcome_in (said_over tokens first_place)

abbrev in_suite : List XmlToken → List XmlToken
in_suite tokens = start_tag (codes "testsuite") ∷ tag_end ∷ tokens ++ end_tag (codes "testsuite") ∷ []

-- a case that passed, one that failed, one whose failure was expected, and a suite that failed
pub cases_of_pytest :
    outcomes_over (in_suite (start_tag (codes "testcase") ∷ empty_tag_end ∷ start_tag (codes "testcase") ∷ tag_end ∷ start_tag (codes "failure") ∷ empty_tag_end ∷ end_tag (codes "testcase")
    ∷ start_tag (codes "testcase") ∷ tag_end ∷ start_tag (codes "failure") ∷ empty_tag_end ∷ start_tag (codes "skipped") ∷ empty_tag_end ∷ end_tag (codes "testcase")
    ∷ start_tag (codes "error") ∷ empty_tag_end ∷ []))
    ≡ Passed ∷ Failed ∷ WasSkipped ∷ Failed ∷ []
cases_of_pytest = refl

-- a case in a case is none, and the document ends in a case
pub a_truncated_report :
    outcomes_over (start_tag (codes "testsuite") ∷ tag_end ∷ start_tag (codes "testcase") ∷ tag_end ∷ start_tag (codes "testcase") ∷ empty_tag_end ∷ [])
    ≡ WasUnfinished ∷ []
a_truncated_report = refl
