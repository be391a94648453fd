-- What enumerations mean, by number or by name, as protobuf's JSON mapping allows both.
use Rattle.std.specs.Prelude.{ℕ, ◌==◌, nat_le, Bool, ◌||◌, if◌then◌else◌, List, Option, Some, None, unwrap_or, option_and_then, codes, bytes_eq}
use Rattle.std.specs.Str.{str_eq_ignore_ascii_case}
use Rattle.json.specs.Json.{Json}
use Rattle.tracing_tree_base.specs.declared.style.Level.{Level}
use Rattle.tracing_tree_base.specs.declared.style.Level.TheVariants.{Trace, Debug, Info, Warn, Error}
use Rattle.ttree_source.specs.Marks.{after_mark}
use Rattle.ttree_otlp.specs.Read.{count_at, number_at, string_at}

-- ---- kinds and statuses

abbrev pub kind_named : List ℕ → ℕ
kind_named name =
    if bytes_eq name (codes "SPAN_KIND_SERVER") then 2
    else if bytes_eq name (codes "SPAN_KIND_CLIENT") then 3
    else if bytes_eq name (codes "SPAN_KIND_PRODUCER") then 4
    else if bytes_eq name (codes "SPAN_KIND_CONSUMER") then 5
    else 0

-- the kind of a span: a number or a name
abbrev pub kind_at : Json → ℕ
kind_at value =
    unwrap_or (number_at (codes "kind") value) (kind_named (string_at (codes "kind") value))

-- a status is an error by its number or its name
abbrev pub status_is_error : Json → Bool
status_is_error status =
    (count_at (codes "code") status == 2)
    || bytes_eq (string_at (codes "code") status) (codes "STATUS_CODE_ERROR")

-- ---- levels

-- the level of a log's severity number; INFO if it has no number
abbrev pub level_of_severity : ℕ → Level
level_of_severity severity =
    if nat_le 17 severity then Error
    else if nat_le 13 severity then Warn
    else if nat_le 9 severity then Info
    else if nat_le 5 severity then Debug
    else if nat_le 1 severity then Trace
    else Info

-- two words are equal, except for the case of their letters
unfoldable pub same_word : List ℕ → List ℕ → Bool
same_word word other = str_eq_ignore_ascii_case word other

-- a word is one of the four grades of a level
abbrev pub has_grade : List ℕ → List ℕ → List ℕ → List ℕ → List ℕ → Bool
has_grade word first second third fourth =
    ((same_word word first || same_word word second) || same_word word third)
    || same_word word fourth

abbrev pub is_trace : List ℕ → Bool
is_trace word =
    has_grade word (codes "trace") (codes "trace2") (codes "trace3") (codes "trace4")

abbrev pub is_debug : List ℕ → Bool
is_debug word =
    has_grade word (codes "debug") (codes "debug2") (codes "debug3") (codes "debug4")

abbrev pub is_info : List ℕ → Bool
is_info word =
    has_grade word (codes "info") (codes "info2") (codes "info3") (codes "info4")
    || has_grade word (codes "information") (codes "informational") (codes "notice")
    (codes "default")

abbrev pub is_warn : List ℕ → Bool
is_warn word =
    has_grade word (codes "warn") (codes "warn2") (codes "warn3") (codes "warn4")
    || same_word word (codes "warning")

abbrev pub names_error : List ℕ → Bool
names_error word =
    has_grade word (codes "error") (codes "error2") (codes "error3") (codes "error4")
    || has_grade word (codes "err") (codes "critical") (codes "crit") (codes "severe")

abbrev pub is_fatal : List ℕ → Bool
is_fatal word =
    has_grade word (codes "fatal") (codes "fatal2") (codes "fatal3") (codes "fatal4")
    || has_grade word (codes "panic") (codes "alert") (codes "emerg") (codes "emergency")

-- the level of this name, in any case
abbrev pub level_by_name : List ℕ → Option Level
level_by_name word =
    if is_info word then Some Info
    else if names_error word || is_fatal word then Some Error
    else if is_warn word then Some Warn
    else if is_debug word then Some Debug
    else if is_trace word then Some Trace
    else None

-- the level of a severity number's name, such as `SEVERITY_NUMBER_WARN2`
abbrev pub severity_named : List ℕ → Option Level
severity_named name = option_and_then level_by_name (after_mark (codes "SEVERITY_NUMBER_") name)

abbrev pub level_or : Level → Option Level → Level
level_or other (Some level) = level
level_or other None = other

abbrev pub level_at_name : Json → Level
level_at_name value =
    level_or
    (unwrap_or (level_by_name (string_at (codes "severityText") value)) Info)
    (severity_named (string_at (codes "severityNumber") value))

-- the level of a log: that of its severity number, otherwise of its severity's text, otherwise INFO
abbrev pub level_at : Json → Level
level_at value =
    if count_at (codes "severityNumber") value == 0 then level_at_name value
    else level_of_severity (count_at (codes "severityNumber") value)
