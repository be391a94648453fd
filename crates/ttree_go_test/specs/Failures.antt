-- When Go's tests have failed.
use Rattle.std.specs.Prelude.{ℕ, Bool, false, ◌||◌, if◌then◌else◌, List, [], Option, Some, None, bytes_eq, codes}
use Rattle.std.specs.List.{list_any}
use Rattle.std.specs.Str.{is_utf8}
use Rattle.json.specs.Json.{Json, document}
use Rattle.tracing_tree_lines.specs.Lines.Spelled.{is_skipped}
use Rattle.ttree_go_test.specs.declared.go_test.running.Running.{Running}
use Rattle.ttree_go_test.specs.GoTest.{GoState, Tests, package_of}
use Rattle.ttree_go_test.specs.Names.{named}
use Rattle.ttree_source.specs.Marks.{begins}
use Rattle.ttree_source.specs.Values.{text_at}

-- a line whose action is `fail`, of a test or a package
abbrev pub is_fail : Option (List ℕ) → Option (List ℕ) → Bool
is_fail (Some action) (Some path) = bytes_eq action (codes "fail")
is_fail (Some action) None = false
is_fail None path = false

-- whether a line reports a failure, by the line and its JSON value, if it has one: a build's line
-- that isn't JSON does if it begins with `FAIL` and a tab
abbrev pub reports_failure : List ℕ → Option Json → Bool
reports_failure line None = if is_skipped line then false else begins (codes "FAIL\t") line
reports_failure line (Some value) = is_fail (text_at (codes "Action") value) (package_of value)

-- a line reports that a test or a package failed
abbrev pub emits_failure : List ℕ → Bool
emits_failure line =
    if is_utf8 line then reports_failure line (document line) else false

abbrev pub has_begun : Option Running → Bool
has_begun (Some one) = one.has_begun
has_begun None = false

-- a package runs; the package itself has the empty name among what runs of it
abbrev pub package_runs : List ℕ × Tests → Bool
package_runs (path, tests) = has_begun (named [] tests)

-- a line reports a failure, or a package still runs after all lines
abbrev pub some_failed : List (List ℕ) → GoState → Bool
some_failed lines s = list_any emits_failure lines || list_any package_runs s.packages
