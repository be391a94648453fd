-- Test cases.
use Rattle.std.specs.Prelude.{ℕ, ◌==◌, ◌||◌, ◌&&◌, Bool, true, false, if◌then◌else◌, List, [], ◌∷◌, ◌++◌, length, Option, Some, None, codes}
use Rattle.tracing_tree_base.specs.declared.field.Field.{Field}
use Rattle.tracing_tree_base.specs.declared.style.Level.{Level}
use Rattle.tracing_tree_base.specs.declared.style.Level.TheVariants.{Trace, Debug, Info, Warn, Error}
use Rattle.ttree_source.specs.Calls.{message_field, shown_text}
use Rattle.ttree_junit.specs.Element.{attribute_in, is_off}
use Rattle.ttree_junit.specs.Failure.{failure_rows}
use Rattle.ttree_source.specs.Length.{length_text}
use Rattle.ttree_junit.specs.Lines.{printed_rows, reason_of}
use Rattle.ttree_junit.specs.Seconds.{seconds_as_nanoseconds}
use Rattle.ttree_junit.specs.States.{CaseState, PartState, TagState}
use Rattle.ttree_junit.specs.declared.case.Outcome.{Outcome}
use Rattle.ttree_junit.specs.declared.case.Outcome.TheVariants.{Passed, Failed, Skipped, Unfinished}

-- a case with the attributes of this tag
abbrev pub case_of : TagState → CaseState
case_of tag = record {
  name = attribute_in (codes "name") tag.attributes;
  classname = attribute_in (codes "classname") tag.attributes;
  nanoseconds = seconds_as_nanoseconds (attribute_in (codes "time") tag.attributes);
  is_off = is_off (attribute_in (codes "status") tag.attributes);
  is_failed = false;
  is_skipped = false;
  is_cut = false;
  reason = [];
  fields = [];
  rows = [];
}

abbrev pub with_property : Field → CaseState → CaseState
with_property field case = record case { fields = case.fields ++ field ∷ [] }

abbrev pub is_error : Level → Bool
is_error Trace = false
is_error Debug = false
is_error Info = false
is_error Warn = false
is_error Error = true

-- a failure is its rows; the case failed if it is an error
abbrev pub with_failure : Level → PartState → CaseState → CaseState
with_failure level part case = record case {
  is_failed = case.is_failed || is_error level;
  rows = case.rows ++ failure_rows level part;
}

abbrev pub with_printed : PartState → CaseState → CaseState
with_printed part case = record case { rows = case.rows ++ printed_rows part.body }

abbrev pub with_skip : PartState → CaseState → CaseState
with_skip part case = record case {
  is_skipped = true;
  reason = reason_of part.message part.body;
}

-- the document ends in the case
abbrev pub with_cut : CaseState → CaseState
with_cut case = record case { is_cut = true }

-- how a case ended: a failure that was expected skips it
abbrev pub outcome_of : CaseState → Outcome
outcome_of case =
    if case.is_cut then Unfinished
    else if case.is_skipped then Skipped
    else if case.is_failed then Failed
    else if case.is_off then Skipped else Passed

-- there is nothing more to show than how it ended
abbrev pub is_bare : CaseState → Bool
is_bare case = (length case.rows == 0) && (length case.fields == 0)

abbrev pub outcome_word : Outcome → List ℕ
outcome_word Passed = codes "pass"
outcome_word Failed = codes "fail"
outcome_word Skipped = codes "skip"
outcome_word Unfinished = codes "unfinished"

abbrev pub level_of_outcome : Outcome → Level
level_of_outcome Passed = Info
level_of_outcome Failed = Error
level_of_outcome Skipped = Warn
level_of_outcome Unfinished = Error

abbrev pub word_and_name : List ℕ → List ℕ → List ℕ
word_and_name word name = word ++ codes " " ++ name

abbrev pub reason_fields : List ℕ → List Field
reason_fields reason =
    if length reason == 0 then []
    else record { name = codes "reason"; value = shown_text reason } ∷ []

abbrev pub time_fields : Option ℕ → List Field
time_fields (Some nanoseconds) =
    record { name = codes "time"; value = length_text nanoseconds } ∷ []
time_fields None = []

abbrev pub outcome_fields : List ℕ → CaseState → List Field
outcome_fields message case =
    message_field message ∷ [] ++ reason_fields case.reason ++ time_fields case.nanoseconds

-- the event of a bare case
abbrev pub bare_case_fields : CaseState → List Field
bare_case_fields case =
    outcome_fields (word_and_name (outcome_word (outcome_of case)) case.name) case

-- the last event in the span of a case
abbrev pub case_end_fields : CaseState → List Field
case_end_fields case = outcome_fields (outcome_word (outcome_of case)) case
