-- What failed of Go's tests: a line is kept until its outermost test, or its package, ends.
use Rattle.std.specs.Prelude.{◌≡◌, ℕ, ◌==◌, ◌&&◌, ◌||◌, Bool, true, false, not, if◌then◌else◌, List, [], ◌∷◌, ◌++◌, length, take, Option, Some, None, unwrap_or, option_map, codes, bytes_eq}
use Rattle.std.specs.List.{list_any, position_or_len}
use Rattle.json.specs.Json.{Json, document}
use Rattle.tracing_tree_base.specs.declared.context.Moment.{Moment}
use Rattle.tracing_tree_layer.specs.declared.call.Call.{Call}
use Rattle.ttree_source.specs.Source.{Step}
use Rattle.ttree_go_test.specs.GoTest.{GoState, all_ended, at_action_time, go_ended, go_takes, nothing_run, package_of, runs, takes_json, takes_text, tally_call, test_of}
use Rattle.ttree_go_test.specs.Names.{named, put, without}
use Rattle.ttree_source.specs.Values.{text_at}
use Rattle.ttree_go_test.specs.declared.failed.HeldLine.{HeldLine}
use Rattle.ttree_go_test.specs.declared.failed.Verdict.{Verdict}
use Rattle.ttree_go_test.specs.declared.failed.Verdict.TheVariants.{Open, Good, Bad}

-- what is kept of a package by its outermost tests; the package's own lines have the empty name
abbrev pub Pending : Type 0
Pending = List (List ℕ × List HeldLine)

-- what is known of all lines and of those that were shown, and what is kept by the packages' paths
pub record FailedState : Type 0 where
  pub whole : GoState
  pub shown : GoState
  pub packages : List (List ℕ × Pending)

-- no test runs yet
abbrev pub none_failed : ℕ → Moment → FailedState
none_failed next moment = record {
  whole = nothing_run next moment;
  shown = nothing_run next moment;
  packages = [];
}

-- ---- what a line says

-- a test passed or was skipped, it failed, or neither
abbrev pub verdict_of : List ℕ → Verdict
verdict_of action =
    if bytes_eq action (codes "pass") || bytes_eq action (codes "bench")
    || bytes_eq action (codes "skip") then Good
    else if bytes_eq action (codes "fail") || bytes_eq action (codes "build-fail") then Bad
    else Open

abbrev pub verdict_in : Json → Verdict
verdict_in value = verdict_of (unwrap_or (text_at (codes "Action") value) [])

abbrev pub is_open : Verdict → Bool
is_open Open = true
is_open Good = false
is_open Bad = false

abbrev pub is_good : Verdict → Bool
is_good Open = false
is_good Good = true
is_good Bad = false

abbrev pub is_bad : Verdict → Bool
is_bad Open = false
is_bad Good = false
is_bad Bad = true

-- the name of a test in another
abbrev pub is_inner : List ℕ → Bool
is_inner test = list_any (λ b. b == 47) test

-- the outermost test around a test, by name
abbrev pub outermost : List ℕ → List ℕ
outermost test = take (position_or_len (λ b. b == 47) test) test

-- a line says that the test came to such an end
abbrev pub says : (Verdict → Bool) → HeldLine → List ℕ → Bool
says is one test = is one.verdict && bytes_eq one.test test

-- one of these lines says so
abbrev pub someone_says : (Verdict → Bool) → List HeldLine → List ℕ → Bool
someone_says is kept test = list_any (λ one. says is one test) kept

-- the test passed or was skipped, as these lines say, and no line says that it failed
abbrev pub is_over : List HeldLine → List ℕ → Bool
is_over kept test = someone_says is_good kept test && not (someone_says is_bad kept test)

-- ---- what is shown

-- shows a line
abbrev pub line_shown : List ℕ → Option Json → GoState → GoState
line_shown line None shown = takes_text line shown
line_shown line (Some value) shown = unwrap_or (takes_json value (at_action_time value shown)) shown

abbrev pub kept_shown : HeldLine → GoState → GoState
kept_shown one shown = line_shown one.line (document one.line) shown

-- shows a line of a package, unless its test is over and wasn't shown in part
abbrev pub released_one : List ℕ → (List ℕ → Bool) → HeldLine → GoState → GoState
released_one path over one shown =
    if over one.test && not (runs path one.test shown) then shown else kept_shown one shown

abbrev pub released_each : List ℕ → (List ℕ → Bool) → List HeldLine → GoState → GoState
released_each path over [] shown = shown
released_each path over (one ∷ others) shown =
    released_each path over others (released_one path over one shown)

-- shows lines of a package, without those of tests that passed or were skipped
abbrev pub released : List ℕ → List HeldLine → GoState → GoState
released path kept shown = released_each path (is_over kept) kept shown

-- what is kept of one outermost test after the other
abbrev pub tests_released : List ℕ → Pending → GoState → GoState
tests_released path [] shown = shown
tests_released path (one ∷ others) shown = tests_released path others (released path one.1 shown)

-- the lines of an outermost test, or with an empty name the package's own
abbrev pub kept_in : List ℕ → Pending → List HeldLine
kept_in test pending = unwrap_or (named test pending) []

-- what is kept of a package: of its tests, and then its own lines
abbrev pub package_released : List ℕ → Pending → GoState → GoState
package_released path pending shown =
    released path (kept_in [] pending) (tests_released path (without [] pending) shown)

-- ---- what is kept

-- adds a line to those of an outermost test, or with an empty name to the package's own
abbrev pub with_kept_line : List ℕ → HeldLine → Pending → Pending
with_kept_line test one pending = put test (kept_in test pending ++ one ∷ []) (without test pending)

-- what is kept of a package
abbrev pub pending_of : List ℕ → FailedState → Pending
pending_of path s = unwrap_or (named path s.packages) []

abbrev pub without_pending : List ℕ → FailedState → FailedState
without_pending path s = record s { packages = without path s.packages }

abbrev pub with_pending : List ℕ → Pending → FailedState → FailedState
with_pending path pending s = record s { packages = put path pending s.packages }

abbrev pub line_kept : List ℕ → List ℕ → Verdict → List ℕ → FailedState → FailedState
line_kept path test verdict line s =
    with_pending path
    (with_kept_line (outermost test) (record { test = test; verdict = verdict; line = line })
    (pending_of path s)) (without_pending path s)

-- nothing is kept of an outermost test any more, or of a package if the name is empty
abbrev pub forgotten : List ℕ → List ℕ → FailedState → FailedState
forgotten path test s =
    if length test == 0 then without_pending path s
    else with_pending path (without test (pending_of path s)) (without_pending path s)

-- shows what is kept of an outermost test, or of a package if the name is empty
abbrev pub emitted_of : List ℕ → List ℕ → FailedState → FailedState
emitted_of path test s =
    record (forgotten path test s) {
      shown =
          if length test == 0 then package_released path (pending_of path s) s.shown
          else released path (kept_in test (pending_of path s)) s.shown;
    }

-- ---- lines

abbrev pub package_path : Json → List ℕ
package_path value = unwrap_or (package_of value) []

-- a line that is shown
abbrev pub value_shown : List ℕ → Json → FailedState → FailedState
value_shown line value s = record s { shown = line_shown line (Some value) s.shown }

-- A line is kept, unless it ends an outermost test or a package. Then what is kept of that is shown
-- with it if it failed or was shown in part, and otherwise forgotten.
abbrev pub value_taken_of : List ℕ → List ℕ → Verdict → List ℕ → Json → FailedState → FailedState
value_taken_of path test verdict line value s =
    if is_open verdict || is_inner test then line_kept path test verdict line s
    else if is_good verdict && not (runs path test s.shown) then forgotten path test s
    else value_shown line value (emitted_of path test s)

abbrev pub value_taken : List ℕ → Json → FailedState → FailedState
value_taken line value s =
    value_taken_of (package_path value) (test_of value) (verdict_in value) line value s

-- a line that isn't JSON is shown at once
abbrev pub failed_line_taken : List ℕ → Option Json → FailedState → FailedState
failed_line_taken line None s = record s { shown = line_shown line None s.shown }
failed_line_taken line (Some value) s = value_taken line value s

-- a known line updates what is known of all lines; an unknown line changes nothing
abbrev pub Knows : Option (Step GoState) → FailedState → FailedState → Bool → Type 0
Knows (Some step) old new known = (new ≡ record old { whole = step.source }) × (known ≡ true)
Knows None old new known = (new ≡ old) × (known ≡ false)

abbrev pub failed_handed_out : FailedState → Step FailedState
failed_handed_out s = record {
  calls = s.shown.calls;
  source = record s { shown = record s.shown { calls = [] } };
}

abbrev pub failed_step : List ℕ → Option Json → FailedState → Step GoState → Step FailedState
failed_step line value s step =
    failed_handed_out (failed_line_taken line value (record s { whole = step.source }))

-- what is shown when a line comes; what is known of all lines says whether it is known
abbrev pub failed_takes : FailedState → List ℕ → Option Json → Option (Step FailedState)
failed_takes s line value = option_map (failed_step line value s) (go_takes s.whole line value)

-- what is kept of packages that didn't end
abbrev pub all_released : List (List ℕ × Pending) → GoState → GoState
all_released [] shown = shown
all_released (one ∷ others) shown = all_released others (package_released one.0 one.1 shown)

abbrev pub failed_ends : FailedState → List Call
failed_ends s =
    (all_ended (all_released s.packages s.shown)).calls ++ tally_call (all_ended s.whole) ∷ []

-- the source after the end: nothing is kept, nothing runs, and what was shown is returned
abbrev pub failed_ended : FailedState → FailedState
failed_ended s = record {
  whole = all_ended s.whole;
  shown = go_ended (all_released s.packages s.shown);
  packages = [];
}
