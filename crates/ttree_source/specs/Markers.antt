-- Lines that only one format has: of TAP, of JUnit XML, and of OTLP.
use Rattle.std.specs.Prelude.{ℕ, ◌&&◌, ◌||◌, Bool, false, if◌then◌else◌, List, [], ◌∷◌, Option, Some, None, codes}
use Rattle.tracing_tree_lines.specs.Lines.Spelled.{is_skipped}
use Rattle.ttree_source.specs.Blanks.{after_blanks}
use Rattle.ttree_source.specs.Marks.{after_mark, begins}
use Rattle.ttree_source.specs.Traces.{after_digits, is_digit}
use Rattle.ttree_source.specs.declared.first.Format.{Format}
use Rattle.ttree_source.specs.declared.first.Format.TheVariants.{Otlp, Junit, Tap}

-- a mark was there, and this holds of what follows it
abbrev pub follows : (List ℕ → Bool) → Option (List ℕ) → Bool
follows holds (Some rest) = holds rest
follows holds None = false

-- ---- TAP

abbrev pub begins_digit : List ℕ → Bool
begins_digit [] = false
begins_digit (byte ∷ rest) = is_digit byte

-- a line ends here, or a directive begins
abbrev pub ends_line : List ℕ → Bool
ends_line text = is_skipped text || begins (codes " #") text

-- a description begins with a dash, or the line ends without one
abbrev pub describes : List ℕ → Bool
describes text = begins (codes " - ") text || ends_line text

-- The number of a result and its description, or only the description. After the number of the
-- first result, which is 1, a description needs no dash.
abbrev pub is_numbered : List ℕ → Bool
is_numbered text =
    begins (codes "- ") text || begins (codes "1 ") text
    || (begins_digit text && describes (after_digits text))

abbrev pub is_version : List ℕ → List ℕ → Bool
is_version mark line = follows begins_digit (after_mark mark line)

abbrev pub counts : List ℕ → Bool
counts text = begins_digit text && ends_line (after_digits text)

abbrev pub is_plan : List ℕ → Bool
is_plan line = follows counts (after_mark (codes "1..") line)

abbrev pub is_result : List ℕ → List ℕ → Bool
is_result mark line = follows is_numbered (after_mark mark line)

-- TAP's version, a plan, a result, or the name of a subtest
abbrev pub is_tap : List ℕ → Bool
is_tap line =
    is_version (codes "TAP version ") line || is_version (codes "KTAP version ") line || is_plan
    line
    || is_result (codes "ok ") line || is_result (codes "not ok ") line
    || begins (codes "# Subtest: ") line

-- ---- JSON lines

unfoldable pub begins_level_key : List ℕ → Bool
begins_level_key text =
    begins (codes "\"level\"") text || begins (codes "\"severity\"") text
    || begins (codes "\"lvl\"") text || begins (codes "\"log.level\"") text
    || begins (codes "\"PRIORITY\"") text

unfoldable pub begins_time_key : List ℕ → Bool
begins_time_key text =
    begins (codes "\"time\"") text || begins (codes "\"ts\"") text
    || begins (codes "\"timestamp\"") text || begins (codes "\"@timestamp\"") text
    || begins (codes "\"Time\"") text

unfoldable pub begins_message_key : List ℕ → Bool
begins_message_key text =
    begins (codes "\"msg\"") text || begins (codes "\"message\"") text
    || begins (codes "\"event\"") text || begins (codes "\"MESSAGE\"") text

unfoldable pub begins_call_key : List ℕ → Bool
begins_call_key text = begins (codes "\"Action\"") text || begins (codes "\"call\"") text

-- a key with which a line of logs, of Go's tests or of calls begins, and no trace does
abbrev pub begins_line_key : List ℕ → Bool
begins_line_key text =
    begins_level_key text || begins_time_key text || begins_message_key text
    || begins_call_key text

-- ---- JUnit XML

-- what follows the first `?>`
abbrev pub after_declaration : List ℕ → List ℕ
after_declaration [] = []
after_declaration (byte ∷ rest) =
    past (after_mark (codes "?>") (byte ∷ rest)) (after_declaration rest) where
      past : Option (List ℕ) → List ℕ → List ℕ
      past (Some after) others = after
      past None others = others

abbrev pub begins_suite : List ℕ → Bool
begins_suite text = begins (codes "<testsuite") (after_blanks text)

abbrev pub declares_suite : List ℕ → Bool
declares_suite text = begins (codes "<?xml") text && begins_suite (after_declaration text)

-- a root of suites of tests, with or without the XML declaration on the same line
abbrev pub is_junit : List ℕ → Bool
is_junit line = begins_suite line || declares_suite (after_blanks line)

-- ---- OTLP

abbrev pub begins_otlp_key : List ℕ → Bool
begins_otlp_key text =
    begins (codes "\"resourceSpans\"") text || begins (codes "\"resourceLogs\"") text
    || begins (codes "\"resourceMetrics\"") text

abbrev pub has_otlp_key : List ℕ → Bool
has_otlp_key text = begins_otlp_key (after_blanks text)

-- an object whose first key is one of OTLP's
abbrev pub is_otlp : List ℕ → Bool
is_otlp text = follows has_otlp_key (after_mark (codes "{") (after_blanks text))

-- the format that has such a line
abbrev pub format_marked : List ℕ → Option Format
format_marked line =
    if is_otlp line then Some Otlp
    else if is_junit line then Some Junit
    else if is_tap line then Some Tap
    else None
