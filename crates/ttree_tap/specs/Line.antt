-- What a line of TAP is.
use Rattle.std.specs.Prelude.{ℕ, ◌+◌, ◌==◌, ◌&&◌, ◌||◌, nat_lt, Bool, true, false, if◌then◌else◌, List, [], ◌∷◌, length, take, drop, Option, Some, None, is_some, unwrap_or, option_and_then, codes, bytes_eq}
use Rattle.std.specs.List.{list_any, position_or_len, before_first, after_first}
use Rattle.tracing_tree_base.specs.declared.style.Level.{Level}
use Rattle.tracing_tree_base.specs.declared.style.Level.TheVariants.{Error, Info, Warn}
use Rattle.ttree_source.specs.Marks.{after_mark, begins, is_empty}
use Rattle.ttree_tap.specs.declared.line.Kind.{Kind}
use Rattle.ttree_tap.specs.declared.line.Kind.TheVariants.{Passing, Failing, Plan, BailOut, Heading, Comment, Frame, Brace, Output}
use Rattle.ttree_tap.specs.declared.line.Directive.{Directive}
use Rattle.ttree_tap.specs.declared.line.Directive.TheVariants.{Absent, Skip, Todo, Time}
use Rattle.ttree_tap.specs.Length.{milliseconds}
use Rattle.ttree_tap.specs.Strings.{after_word, before_mark, dashless, first_word, has_space, is_digits, is_space, rest_after, same_word, whole_of, without_end, without_leading}

-- ---- kinds

abbrev pub ends_word : List ℕ → Bool
ends_word rest = is_empty rest || begins (codes " ") rest

-- `ok` or `not ok`, and then nothing or a space
abbrev pub is_result : List ℕ → List ℕ → Bool
is_result mark text = if_mark (after_mark mark text) where
  if_mark : Option (List ℕ) → Bool
  if_mark (Some rest) = ends_word rest
  if_mark None = false

-- nothing, or a comment
abbrev pub begins_note : List ℕ → Bool
begins_note text = is_empty text || begins (codes "#") text

-- `1..N`, and then nothing or a comment
abbrev pub is_plan : List ℕ → Bool
is_plan text = if_mark (after_mark (codes "1..") text) where
  if_mark : Option (List ℕ) → Bool
  if_mark (Some rest) = is_some (whole_of (first_word rest)) && begins_note (after_word rest)
  if_mark None = false

abbrev pub kind_of_comment : List ℕ → Kind
kind_of_comment text = if begins (codes "# Subtest: ") text then Heading else Comment

-- a version or a pragma
abbrev pub is_frame : List ℕ → Bool
is_frame text =
    begins (codes "TAP version ") text || begins (codes "KTAP version ") text
    || begins (codes "pragma ") text

-- the kind of a line, by what follows its indentation
unfoldable pub kind_of_line : List ℕ → Kind
kind_of_line text =
    if is_result (codes "ok") text then Passing
    else if is_result (codes "not ok") text then Failing
    else if begins (codes "#") text then kind_of_comment text
    else if is_plan text then Plan
    else if begins (codes "Bail out!") text then BailOut
    else if is_frame text then Frame
    else if bytes_eq text (codes "}") then Brace
    else Output

-- ---- notes: what follows a `#`

-- what comes after a `#` and spaces
abbrev pub tail_from : List ℕ → List ℕ
tail_from note = without_leading 32 (rest_after (codes "#") (without_leading 32 note))

-- the first word, without a colon at its end
abbrev pub without_colon : List ℕ → List ℕ
without_colon word = unwrap_or (before_mark (codes ":") word) word

abbrev pub word_in : List ℕ → List ℕ
word_in text = without_colon (first_word text)

abbrev pub is_skip : List ℕ → Bool
is_skip word = same_word word (codes "skip") || same_word word (codes "skipped")

-- ---- plans

abbrev pub planned : List ℕ → ℕ
planned text = unwrap_or (whole_of (first_word (rest_after (codes "1..") text))) 0

abbrev pub reason_in_note : List ℕ → List ℕ
reason_in_note note = if is_skip (word_in note) then after_word note else note

-- why a plan without tests skips everything: `1..0 # SKIP why`
abbrev pub plan_reason : List ℕ → List ℕ
plan_reason text = reason_in_note (tail_from (after_word (rest_after (codes "1..") text)))

-- ---- comments

abbrev pub comment_of : List ℕ → List ℕ
comment_of text = unwrap_or (after_mark (codes " ") (rest_after (codes "#") text)) (rest_after
    (codes "#") text)

-- the words of a count in a reporter's summary
abbrev pub is_reporters : List ℕ → Bool
is_reporters word =
    bytes_eq word (codes "tests") || bytes_eq word (codes "suites") || bytes_eq word (codes "pass")
    || bytes_eq word (codes "fail") || bytes_eq word (codes "cancelled")
    || bytes_eq word (codes "skipped") || bytes_eq word (codes "skip")
    || bytes_eq word (codes "todo") || bytes_eq word (codes "duration_ms")

-- a count of a reporter's summary, as `tests 14`
abbrev pub is_count : List ℕ → Bool
is_count comment = is_reporters (first_word comment) && is_some (milliseconds (after_word comment))

-- ---- results, by what follows `ok`

abbrev pub first_number : List ℕ → Option ℕ
first_number rest = whole_of (first_word (without_leading 32 rest))

-- what follows the number and the dash
abbrev pub described : List ℕ → List ℕ
described rest =
    if is_some (first_number rest) then dashless (after_word (without_leading 32 rest))
    else dashless (without_leading 32 rest)

-- the nanoseconds of `time=12ms`
abbrev pub elapsed_word : List ℕ → Option ℕ
elapsed_word word =
    option_and_then milliseconds
    (option_and_then (before_mark (codes "ms")) (after_mark (codes "time=") word))

-- the nanoseconds that a note gives, if it says nothing else
abbrev pub elapsed_of : List ℕ → Option ℕ
elapsed_of tail = if is_empty (after_word tail) then elapsed_word (first_word tail) else None

-- what a note says of a result: `SKIP why`, `TODO why` in any case, or how long it took
unfoldable pub directive_of : List ℕ → Directive
directive_of tail =
    if is_skip (word_in tail) then Skip
    else if same_word (word_in tail) (codes "todo") then Todo
    else if is_some (elapsed_of tail) then Time
    else Absent

abbrev pub is_said : Directive → Bool
is_said Skip = true
is_said Todo = true
is_said Time = true
is_said Absent = false

abbrev pub has_hash : List ℕ → Bool
has_hash text = list_any (λ byte. byte == 35) text

-- a `#` after which a directive comes
abbrev pub is_note : List ℕ → Bool
is_note text = begins (codes "#") text && is_said (directive_of (tail_from text))

-- such a `#` after a space
abbrev pub is_spaced_note : List ℕ → Bool
is_spaced_note text = begins (codes " #") text && is_said (directive_of (tail_from text))

abbrev pub space_note_place : List ℕ → ℕ
space_note_place [] = 0
space_note_place (byte ∷ rest) =
    if is_spaced_note (byte ∷ rest) then 0 else space_note_place rest + 1

-- the place of the note: the first `#` at the front or after a space, with that space, after which
-- a directive comes; the length if there is no note. A `\#` follows a backslash.
abbrev pub note_place : List ℕ → ℕ
note_place text = if is_note text then 0 else space_note_place text

abbrev pub label_part : List ℕ → List ℕ
label_part text = take (note_place text) text

-- the note of a description, without its `#`
abbrev pub tail_of : List ℕ → List ℕ
tail_of text = tail_from (drop (note_place text) text)

abbrev pub reason_of : List ℕ → List ℕ
reason_of tail = after_word tail

-- a result with ` {` at its end, which may open a subtest
abbrev pub is_braced : List ℕ → Bool
is_braced rest = is_some (before_mark (codes " {") rest)

abbrev pub unbraced : List ℕ → List ℕ
unbraced rest = without_end (codes " {") rest

-- a line that may be the first of a subtest in braces
abbrev pub begins_inside : Kind → Bool
begins_inside Passing = true
begins_inside Failing = true
begins_inside Plan = true
begins_inside BailOut = true
begins_inside Heading = true
begins_inside Comment = true
begins_inside Frame = true
begins_inside Brace = false
begins_inside Output = false

-- ---- what prove prints

-- digits, this mark, and digits
abbrev pub is_pair : ℕ → List ℕ → Bool
is_pair mark word =
    nat_lt (position_or_len (λ b. b == mark) word) (length word)
    && is_digits (before_first (λ b. b == mark) word)
    && is_digits (after_first (λ b. b == mark) word)

abbrev pub is_colon : ℕ → Bool
is_colon byte = byte == 58

-- a time of day, as `12:00:01`
abbrev pub is_clock : List ℕ → Bool
is_clock word =
    nat_lt (position_or_len is_colon word) (length word) && is_digits (before_first is_colon word)
    && is_pair 58 (after_first is_colon word)

abbrev pub bracketed : List ℕ → Option (List ℕ)
bracketed word = option_and_then (before_mark (codes "]")) (after_mark (codes "[") word)

-- when prove says something with --timer: `[12:00:01]`
abbrev pub is_stamp : List ℕ → Bool
is_stamp word = if_clock (bracketed word) where
  if_clock : Option (List ℕ) → Bool
  if_clock (Some time) = is_clock time
  if_clock None = false

abbrev pub unstamped : List ℕ → List ℕ
unstamped line = if is_stamp (first_word line) then after_word line else line

-- a line that counts the tests that failed, as `Failed 2/5 subtests`
abbrev pub counts_failures : List ℕ → Bool
counts_failures line = if_mark (after_mark (codes "Failed ") line) where
  if_mark : Option (List ℕ) → Bool
  if_mark (Some rest) = is_pair 47 (first_word rest)
  if_mark None = false

-- a line that counts tests without a failure, though the file failed: `All 2 subtests passed`
abbrev pub is_success : List ℕ → Bool
is_success line = if_mark (after_mark (codes "All ") line) where
  if_mark : Option (List ℕ) → Bool
  if_mark (Some rest) =
      is_digits (first_word rest) && begins (codes "subtests passed") (after_word rest)
  if_mark None = false

abbrev pub is_unit : List ℕ → Bool
is_unit text = bytes_eq text (codes "ms") || begins (codes "ms (") text

abbrev pub timer_of : List ℕ → Option ℕ
timer_of text = if is_unit (after_word text) then milliseconds (first_word text) else None

-- how long a file took: `ok 12 ms`, and perhaps more in parentheses
abbrev pub verdict_time : List ℕ → Option ℕ
verdict_time line =
    option_and_then (λ rest. timer_of (without_leading 32 rest)) (after_mark (codes "ok ") line)

abbrev pub is_good_verdict : List ℕ → Bool
is_good_verdict line = bytes_eq line (codes "ok") || is_some (verdict_time line)

abbrev pub is_bad_verdict : List ℕ → Bool
is_bad_verdict line =
    begins (codes "Dubious, test returned ") line || begins (codes "No subtests run") line
    || counts_failures line || is_success line

-- the level of a verdict on a file
unfoldable pub verdict_level : List ℕ → Option Level
verdict_level line =
    if is_good_verdict line then Some Info
    else if begins (codes "skipped: ") line then Some Warn
    else if is_bad_verdict line then Some Error
    else None

abbrev pub after_dots : List ℕ → List ℕ
after_dots text = without_leading 46 text

abbrev pub is_named : List ℕ → Bool
is_named rest = if_space (after_mark (codes " ") rest) where
  if_space : Option (List ℕ) → Bool
  if_space (Some verdict) = is_empty verdict || is_some (verdict_level verdict)
  if_space None = false

abbrev pub is_named_file : List ℕ → Bool
is_named_file line =
    has_space line && begins (codes "..") (after_first is_space line)
    && is_named (after_dots (after_first is_space line))

-- A line that names a file: the name, a space, two dots or more, a space, and perhaps a verdict.
-- With --timer the time of day comes before the name.
abbrev pub is_file : List ℕ → Bool
is_file line = is_named_file (unstamped line)

abbrev pub name_of_file : List ℕ → List ℕ
name_of_file line = first_word (unstamped line)

-- what follows the name and the dots
abbrev pub tail_of_file : List ℕ → List ℕ
tail_of_file line = rest_after (codes " ") (after_dots (after_word (unstamped line)))

abbrev pub begins_summary : List ℕ → Bool
begins_summary line =
    bytes_eq line (codes "All tests successful.") || bytes_eq line (codes "Test Summary Report")
    || begins (codes "Files=") line

abbrev pub ends_summary : List ℕ → Bool
ends_summary line = begins (codes "Result: ") line

abbrev pub is_failed_summary : List ℕ → Bool
is_failed_summary line = begins (codes "Result: FAIL") line
