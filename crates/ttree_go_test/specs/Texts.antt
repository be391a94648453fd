-- Strings of Go's tests: names, lines that only frame, and how a package ended.
use Rattle.std.specs.Prelude.{ℕ, ◌+◌, ◌-◌, ◌==◌, ◌&&◌, ◌||◌, Bool, true, if◌then◌else◌, List, [], ◌∷◌, length, take, drop, Option, Some, None, is_some, unwrap_or, option_and_then, codes, bytes_eq}
use Rattle.std.specs.List.{ends_with, position_or_len}
use Rattle.ttree_source.specs.Marks.{after_mark, begins, is_empty}

-- the name of a test in the span of this outer test: what follows that one's name and a `/`
abbrev pub own_name : List ℕ → List ℕ → List ℕ
own_name outer test =
    if is_empty outer then test
    else unwrap_or (option_and_then (after_mark (codes "/")) (after_mark outer test)) test

-- the rest is empty, or begins with this byte
abbrev pub ends_word : ℕ → List ℕ → Bool
ends_word byte [] = true
ends_word byte (b ∷ rest) = b == byte

abbrev pub without_spaces : List ℕ → List ℕ
without_spaces [] = []
without_spaces (b ∷ rest) = if b == 32 then without_spaces rest else b ∷ rest

abbrev pub up_to_space : List ℕ → List ℕ
up_to_space text = take (position_or_len (λ b. b == 32) text) text

abbrev pub ends_line : List ℕ → Bool
ends_line text = ends_with (λ a b. a == b) text (codes "\n")

abbrev pub without_line_end : List ℕ → List ℕ
without_line_end text = if ends_line text then take (length text - 1) text else text

-- a message of the command `go` about what it fetches
abbrev pub is_progress : List ℕ → Bool
is_progress line =
    begins (codes "go: downloading ") line || begins (codes "go: finding ") line
    || begins (codes "go: extracting ") line

-- ---- how a package ended

-- what comes after the first tab
abbrev pub after_tab : List ℕ → List ℕ
after_tab text = drop (position_or_len (λ b. b == 9) text + 1) text

-- the word before the first space, if it is a percentage
abbrev pub percent : List ℕ → Option (List ℕ)
percent text = as_percent (up_to_space text) where
  as_percent : List ℕ → Option (List ℕ)
  as_percent word = if ends_with (λ a b. a == b) word (codes "%") then Some word else None

-- the percentage of `coverage: 80.0% of statements`
abbrev pub coverage_of : List ℕ → Option (List ℕ)
coverage_of text = option_and_then percent (after_mark (codes "coverage: ") text)

-- what comes after the status and the path in `ok  \tpath\t0.003s\tcoverage: 80.0% of statements`
abbrev pub after_path : List ℕ → List ℕ
after_path line = after_tab (after_tab line)

-- the result of a package is cached from an earlier run
abbrev pub is_cached : List ℕ → Bool
is_cached line = begins (codes "(cached)") (after_path line)

-- the percentage in a line by itself, or after a package's time
unfoldable pub coverage_in : List ℕ → Option (List ℕ)
coverage_in line = or_behind (coverage_of line) where
  or_behind : Option (List ℕ) → Option (List ℕ)
  or_behind (Some word) = Some word
  or_behind None = coverage_of (after_tab (after_path line))

-- ---- lines that only frame

-- the line is only this mark and the test's name, or has a time after them
abbrev pub frames : List ℕ → List ℕ → List ℕ → Bool
frames line test mark =
    begins mark line && begins test (drop (length mark) line)
    && ends_word 32 (drop (length test) (drop (length mark) line))

abbrev pub is_package_frame : List ℕ → Bool
is_package_frame line =
    bytes_eq line (codes "PASS") || bytes_eq line (codes "FAIL") || begins (codes "ok  \t") line
    || begins (codes "FAIL\t") line || begins (codes "?   \t") line

abbrev pub is_step_frame : List ℕ → List ℕ → Bool
is_step_frame test line =
    frames line test (codes "=== RUN   ") || frames line test (codes "=== PAUSE ")
    || frames line test (codes "=== CONT  ") || frames line test (codes "=== NAME  ")
    || frames line test (codes "=== ATTR  ") || frames line test (codes "=== ARTIFACTS ")

abbrev pub is_end_frame : List ℕ → List ℕ → Bool
is_end_frame test line =
    frames line test (codes "--- PASS: ") || frames line test (codes "--- FAIL: ")
    || frames line test (codes "--- SKIP: ") || frames line test (codes "--- BENCH: ")

-- a benchmark's name by itself, which Go prints before it measures
abbrev pub is_name_frame : List ℕ → List ℕ → Bool
is_name_frame test line = begins (codes "Benchmark") test && bytes_eq line test

abbrev pub is_test_frame : List ℕ → List ℕ → Bool
is_test_frame test line =
    is_step_frame test line || is_end_frame test line || is_name_frame test line

-- a line of a package that only frames, or reports its coverage
abbrev pub is_summary : List ℕ → Bool
is_summary line = is_package_frame line || is_some (coverage_in line)

unfoldable pub is_frame : List ℕ → List ℕ → Bool
is_frame test line =
    if is_empty test then is_summary line else is_test_frame test (without_spaces line)

-- a string is a whole line that only frames
abbrev pub is_frame_line : List ℕ → List ℕ → Bool
is_frame_line test text = ends_line text && is_frame test (without_line_end text)
