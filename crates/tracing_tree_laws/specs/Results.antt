-- Results of tests: each is shown once.
use Rattle.std.specs.Prelude.{ℕ, List}
use Rattle.tracing_tree_base.specs.declared.context.Moment.{Moment}
use Rattle.tracing_tree_layer.specs.declared.call.Call.{Call}
use Rattle.ttree_junit.specs.Said.{said_by as said_in_report}
use Rattle.ttree_junit.specs.Shown.{ShowsEachOnce as ShowsReportOnce}
use Rattle.ttree_tap.specs.Rows.{rows_of}
use Rattle.ttree_tap.specs.Said.{said_by}
use Rattle.ttree_tap.specs.Shown.{ShowsEachOnce}

-- The events of these calls show what lines of TAP say: each result, and each other line that says
-- something, is one event. The first span has this number.
abbrev pub EachResultIsShownOnce : ℕ → List (List ℕ) → List Call → Type 0
EachResultIsShownOnce next lines calls = ShowsEachOnce (said_by lines) (rows_of next calls)

-- These calls show what a document of JUnit XML says: each case is one event or one span, and so is
-- what is said outside of cases.
abbrev pub EachCaseIsShownOnce : Moment → List ℕ → List Call → Type 0
EachCaseIsShownOnce moment text calls = ShowsReportOnce moment (said_in_report text) calls
