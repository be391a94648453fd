-- What a line determines about the format of its input.
use Rattle.std.specs.Prelude.{ℕ, ◌+◌, ◌-◌, ◌^◌, ◌&&◌, ◌||◌, ◌==◌, nat_lt, Bool, true, false, not, if◌then◌else◌, List, [], ◌∷◌, length, min, Option, Some, None, is_some, is_none, bytes_eq, codes}
use Rattle.std.specs.List.{list_any}
use Rattle.std.specs.Str.{is_utf8}
use Rattle.json.specs.Json.{Json, Members, no_members, member, document}
use Rattle.json.specs.Find.{as_object, get}
use Rattle.ttree_source.specs.Blanks.{after_blanks, first_byte}
use Rattle.ttree_source.specs.Counts.{one_more}
use Rattle.ttree_source.specs.Levels.{level_in}
use Rattle.ttree_source.specs.Markers.{begins_line_key, format_marked}
use Rattle.ttree_source.specs.Marks.{after_mark}
use Rattle.ttree_source.specs.Values.{array_at, text_at}
use Rattle.ttree_source.specs.declared.first.Detector.{Detector}
use Rattle.ttree_source.specs.declared.first.Detection.{Detection}
use Rattle.ttree_source.specs.declared.first.Detection.TheVariants.{Determined, Held, Full}
use Rattle.ttree_source.specs.declared.first.Format.{Format}
use Rattle.ttree_source.specs.declared.first.Format.TheVariants.{Lines, GoTest, Tracing, Chrome, Logs, Otlp}

-- the fields of an event, whose message is among them, or a target with the fields beside it
abbrev pub has_event_of_tracing : Json → Bool
has_event_of_tracing value =
    if is_some (get (codes "fields") value) then is_none (get (codes "message") value)
    else is_some (get (codes "target") value)

-- one of the five levels, and an event as tracing-subscriber writes it: logs have a `msg`
abbrev pub is_of_tracing : Json → Bool
is_of_tracing value =
    is_some (level_in value) && is_none (get (codes "msg") value) && has_event_of_tracing value

abbrev pub has_key_of_level : Json → Bool
has_key_of_level value =
    is_some (get (codes "level") value) || is_some (get (codes "severity") value)
    || is_some (get (codes "lvl") value) || is_some (get (codes "log.level") value)
    || is_some (get (codes "PRIORITY") value)

abbrev pub has_key_of_message : Json → Bool
has_key_of_message value =
    is_some (get (codes "msg") value) || is_some (get (codes "message") value)
    || is_some (get (codes "event") value) || is_some (get (codes "MESSAGE") value)

-- a log of a service: anything at a key of levels, and at a key of messages
abbrev pub is_log : Json → Bool
is_log value = has_key_of_level value && has_key_of_message value

-- the keys of settings
abbrev pub setting_keys : List (List ℕ)
setting_keys =
    codes "indent_amount" ∷ codes "wraparound" ∷ codes "ansi" ∷ codes "indent_lines" ∷ codes
    "targets"
    ∷ codes "thread_ids" ∷ codes "thread_names" ∷ codes "verbose_entry" ∷ codes "verbose_exit"
    ∷ codes "span_retrace" ∷ codes "deferred_spans" ∷ codes "close_retrace" ∷ codes "span_modes"
    ∷ codes "bracketed_fields" ∷ codes "timer" ∷ []

abbrev pub is_setting : List ℕ → Bool
is_setting key = list_any (bytes_eq key) setting_keys

abbrev pub are_settings : Members → Bool
are_settings no_members = true
are_settings (member key value others) = is_setting key && are_settings others

abbrev pub has_settings : Members → Bool
has_settings no_members = false
has_settings (member key value others) = is_setting key && are_settings others

-- settings: an object with a key, and each of its keys is a setting's
abbrev pub spells_settings : Json → Bool
spells_settings value = among (as_object value) where
  among : Option Members → Bool
  among None = false
  among (Some members) = has_settings members

abbrev pub call_words : List (List ℕ)
call_words = codes "new" ∷ codes "clone" ∷ codes "record" ∷ codes "event" ∷ codes "close" ∷ []

-- a call: an object with one of the five words at `call`
abbrev pub spells_call : Json → Bool
spells_call value = among (text_at (codes "call") value) where
  among : Option (List ℕ) → Bool
  among None = false
  among (Some word) = list_any (bytes_eq word) call_words

-- an array at one of OTLP's keys
abbrev pub is_of_otlp : Json → Bool
is_of_otlp value =
    is_some (array_at (codes "resourceSpans") value) || is_some (array_at (codes "resourceLogs")
    value)
    || is_some (array_at (codes "resourceMetrics") value)

abbrev pub format_of_value : Json → Option Format
format_of_value value =
    if is_some (text_at (codes "Action") value) then Some GoTest
    else if is_some (array_at (codes "traceEvents") value) then Some Chrome
    else if is_of_otlp value then Some Otlp
    else if spells_settings value || spells_call value then Some Lines
    else if is_of_tracing value then Some Tracing
    else if is_log value then Some Logs
    else None

-- a line that isn't JSON determines nothing
abbrev pub format_of : Option Json → Option Format
format_of None = None
format_of (Some value) = format_of_value value

-- an object that isn't whole continues in the lines below
abbrev pub format_by : Bool → Option Json → Option Format
format_by begins_object value =
    if begins_object && is_none value then Some Chrome else format_of value

abbrev pub may_follow : Option ℕ → Bool
may_follow None = true
may_follow (Some byte) = (byte == 123) || (byte == 93)

abbrev pub list_begins : List ℕ → Bool
list_begins [] = false
list_begins (byte ∷ rest) = if byte == 91 then may_follow (first_byte rest) else false

-- a list begins, and then an object (123), the list's end (93) or nothing follows: 91 begins a list
abbrev pub begins_list : List ℕ → Bool
begins_list line = list_begins (after_blanks line)

abbrev pub ends_object : List ℕ → Bool
ends_object [] = false
ends_object (byte ∷ rest) = if byte == 125 then is_none (first_byte rest) else false

abbrev pub only_ends : List ℕ → Bool
only_ends [] = false
only_ends (byte ∷ rest) = if byte == 123 then ends_object (after_blanks rest) else false

-- an object without a key: 125 ends an object
abbrev pub is_empty_object : List ℕ → Bool
is_empty_object line = only_ends (after_blanks line)

-- a quotation mark, or nothing
abbrev pub may_be_key : Option ℕ → Bool
may_be_key None = true
may_be_key (Some byte) = byte == 34

abbrev pub object_begins : List ℕ → Bool
object_begins [] = false
object_begins (byte ∷ rest) =
    if byte == 123 then may_be_key (first_byte rest) && not (begins_line_key (after_blanks rest))
    else false

-- An object (123) begins, and then a key or nothing follows. The key may be one of a trace.
abbrev pub begins_object : List ℕ → Bool
begins_object line = object_begins (after_blanks line)

abbrev pub format_of_json : List ℕ → Option Format
format_of_json line = format_by (begins_object line) (if is_utf8 line then document line else None)

abbrev pub or_format : Option Format → Option Format → Option Format
or_format (Some format) other = Some format
or_format None other = other

-- the format that a line determines, if it determines one
abbrev pub format_of_line : List ℕ → Option Format
format_of_line line =
    if begins_list line then Some Chrome else or_format (format_marked line) (format_of_json line)

-- a line without the byte order mark at its front
abbrev pub without_mark : List ℕ → List ℕ
without_mark line = after (after_mark (239 ∷ 187 ∷ 191 ∷ []) line) where
  after : Option (List ℕ) → List ℕ
  after (Some rest) = rest
  after None = line

-- 1,000 lines, or 1 MiB with their line ends, are held at most
abbrev pub is_full : Detector → Bool
is_full detector = nat_lt 999 detector.lines || nat_lt 1048575 detector.bytes

-- one more line is held, with its line end
abbrev pub holding : List ℕ → Detector → Detector
holding line detector = record {
  lines = one_more detector.lines;
  bytes = one_more (min (detector.bytes + length line) (2 ^ 64 - 1));
}

abbrev pub detected : Option Format → Detector → Detection
detected (Some format) detector = Determined format
detected None detector = if is_full detector then Full else Held

-- what is known of the format after one more line: no line before it determined one
abbrev pub detects : List ℕ → Detector → Detection
detects line detector = detected (format_of_line line) (holding line detector)
