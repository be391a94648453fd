-- Examples computed from the definitions.
use Rattle.std.proofs.Common.{◌≡◌, None, Some, true, false, [], ◌∷◌, codes, refl}
use Rattle.tracing_tree_base.specs.declared.style.Level.TheVariants.{Warn, Error}
use Rattle.ttree_junit.specs.Case.{case_of, outcome_of, with_failure, with_skip}
use Rattle.ttree_junit.specs.Element.{begins_document, element_named, is_off, role_of}
use Rattle.ttree_junit.specs.Lines.{head_of, info_row, printed_rows}
use Rattle.ttree_junit.specs.Reading.{no_tag}
use Rattle.ttree_junit.specs.Seconds.{seconds_as_nanoseconds}
use Rattle.ttree_junit.specs.States.{PartState}
use Rattle.ttree_junit.specs.declared.case.Outcome.TheVariants.{Passed, Failed, Skipped as WasSkipped}
use Rattle.ttree_junit.specs.declared.element.Element.TheVariants.{Failure, Output, Other}

-- ---- times

pub a_time_of_ctest : seconds_as_nanoseconds (codes "0.0666751") ≡ Some 66_675_100
a_time_of_ctest = refl

pub a_short_time_of_ctest : seconds_as_nanoseconds (codes "6.2e-05") ≡ Some 62_000
a_short_time_of_ctest = refl

pub a_time_below_zero : seconds_as_nanoseconds (codes "-0.000000") ≡ Some 0
a_time_below_zero = refl

pub a_time_with_a_comma : seconds_as_nanoseconds (codes "1,234.5") ≡ Some 1_234_500_000_000
a_time_with_a_comma = refl

pub no_time : seconds_as_nanoseconds (codes "") ≡ None
no_time = refl

-- ---- elements

pub a_suite_in_a_case : role_of (element_named (codes "testsuite")) true false ≡ Other
a_suite_in_a_case = refl

pub an_error_in_a_case : role_of (element_named (codes "error")) true false ≡ Failure
an_error_in_a_case = refl

pub output_in_a_rerun : role_of (element_named (codes "system-out")) true true ≡ Other
output_in_a_rerun = refl

pub output_of_a_suite : role_of (element_named (codes "system-out")) false false ≡ Output
output_of_a_suite = refl

pub an_error_of_a_suite : role_of (element_named (codes "error")) false false ≡ Failure
an_error_of_a_suite = refl

pub a_banner_is_no_document : begins_document (codes "<nil> was expected") ≡ false
a_banner_is_no_document = refl

pub suites_begin_a_document : begins_document (codes "<testsuites>") ≡ true
suites_begin_a_document = refl

-- ---- outcomes

abbrev pub a_part : PartState
a_part = record { name = codes "failure"; message = []; body = [] }

pub a_case_without_a_failure : outcome_of (case_of no_tag) ≡ Passed
a_case_without_a_failure = refl

pub a_case_with_a_failure : outcome_of (with_failure Error a_part (case_of no_tag)) ≡ Failed
a_case_with_a_failure = refl

pub a_flaky_case : outcome_of (with_failure Warn a_part (case_of no_tag)) ≡ Passed
a_flaky_case = refl

pub a_failure_that_was_expected : outcome_of (with_skip a_part (with_failure Error a_part (case_of no_tag))) ≡ WasSkipped
a_failure_that_was_expected = refl

pub a_disabled_case : is_off (codes "disabled") ≡ true
a_disabled_case = refl

-- ---- rows

pub a_failure_without_a_message : head_of [] (codes "failure") ≡ codes "failure"
a_failure_without_a_message = refl

pub a_message_of_two_lines : head_of (codes "bad -1\n  second line") (codes "failure") ≡ codes "bad -1"
a_message_of_two_lines = refl

pub blank_lines_are_not_shown : printed_rows (codes "a\n \t\n\n b \n") ≡ info_row (codes "a") ∷ info_row (codes " b ") ∷ []
blank_lines_are_not_shown = refl

pub a_separator_around_nothing :
    printed_rows (codes "--------------------------------- Captured Log ---------------------------------\n\n--------------------------------- Captured Out ---------------------------------\na\n") ≡
    info_row (codes "--------------------------------- Captured Out ---------------------------------") ∷ info_row (codes "a") ∷ []
a_separator_around_nothing = refl
