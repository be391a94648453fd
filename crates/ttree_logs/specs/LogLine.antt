-- What an object of a service's log means.
use Rattle.std.specs.Prelude.{ℕ, zero, suc, ◌==◌, nat_lt, Bool, false, if◌then◌else◌, List, [], ◌∷◌, ◌++◌, length, Option, Some, None, is_some, unwrap_or, option_and_then, option_map, codes, bytes_eq}
use Rattle.std.specs.List.{list_any, position_or_len, before_first, after_first}
use Rattle.std.specs.Str.{str_eq_ignore_ascii_case}
use Rattle.json.specs.Json.{Json, null, boolean, number, string, array, object, no_members}
use Rattle.json.specs.Find.{as_object, get}
use Rattle.tracing_tree_base.specs.declared.context.Moment.{Moment}
use Rattle.tracing_tree_base.specs.declared.field.Field.{Field}
use Rattle.tracing_tree_base.specs.declared.style.Level.{Level}
use Rattle.tracing_tree_base.specs.declared.style.Level.TheVariants.{Trace, Debug, Info, Warn, Error}
use Rattle.ttree_source.specs.Marks.{is_empty}
use Rattle.ttree_source.specs.Calls.{message_field}
use Rattle.ttree_logs.specs.LogFields.{Used, members_fields}
use Rattle.ttree_logs.specs.LogTime.{is_time, moment_of_word}

-- ---- keys

abbrev pub level_keys : List (List ℕ)
level_keys =
    codes "level" ∷ codes "severity" ∷ codes "lvl" ∷ codes "log.level" ∷ codes "PRIORITY" ∷ []

abbrev pub time_keys : List (List ℕ)
time_keys =
    codes "time" ∷ codes "ts" ∷ codes "timestamp" ∷ codes "@timestamp"
    ∷ codes "__REALTIME_TIMESTAMP" ∷ []

abbrev pub message_keys : List (List ℕ)
message_keys = codes "msg" ∷ codes "message" ∷ codes "event" ∷ codes "MESSAGE" ∷ []

abbrev pub trace_keys : List (List ℕ)
trace_keys = codes "trace_id" ∷ codes "traceId" ∷ codes "trace.id" ∷ []

-- a trace counts before a request
abbrev pub group_keys : List (List ℕ)
group_keys =
    codes "trace_id" ∷ codes "traceId" ∷ codes "trace.id" ∷ codes "request_id" ∷ codes "requestId"
    ∷ codes "req_id" ∷ codes "reqId" ∷ codes "correlation_id" ∷ []

-- ---- words

-- a word: a nonempty string, or a number as written
abbrev pub log_word : Json → Option (List ℕ)
log_word null = None
log_word (boolean _) = None
log_word (number text) = Some text
log_word (string text) = if is_empty text then None else Some text
log_word (array _) = None
log_word (object _) = None

abbrev pub word_at : List ℕ → Json → Option (List ℕ)
word_at key value = option_and_then log_word (get key value)

-- the first of these keys that has a word
abbrev pub first_key : List (List ℕ) → Json → Option (List ℕ)
first_key [] value = None
first_key (key ∷ others) value =
    if is_some (word_at key value) then Some key else first_key others value

abbrev pub first_word : List (List ℕ) → Json → Option (List ℕ)
first_word keys value = option_and_then (λ key. word_at key value) (first_key keys value)

-- ---- paths

abbrev pub is_key_point : ℕ → Bool
is_key_point byte = byte == 46

abbrev pub has_point : List ℕ → Bool
has_point path = nat_lt (position_or_len is_key_point path) (length path)

-- the rest of a path after its first key, and what the object has at that key
abbrev pub inner_of : List ℕ → Json → Option (List ℕ × Json)
inner_of path value =
    if has_point path
    then option_map (λ inner. (after_first is_key_point path, inner))
    (get (before_first is_key_point path)
    value)
    else None

abbrev pub further : Option (List ℕ) → Option (List ℕ × Json) → (List ℕ → Json → Option (List ℕ)) →
    Option (List ℕ)
further (Some word) inner others = Some word
further None (Some inner) others = others inner.0 inner.1
further None None others = None

abbrev pub word_within : ℕ → List ℕ → Json → Option (List ℕ)
word_within zero path value = None
word_within (suc keys) path value =
    further (word_at path value) (inner_of path value) (λ rest inner. word_within keys rest inner)

-- The word at a key. A key with points is also a path through objects.
abbrev pub word_along : List ℕ → Json → Option (List ℕ)
word_along path value = word_within (length path) path value

-- ---- levels

abbrev pub is_plus : ℕ → Bool
is_plus byte = byte == 43

-- a level without what Go's slog adds to it: `INFO+2`
abbrev pub bare_level : List ℕ → List ℕ
bare_level word =
    if nat_lt (position_or_len is_plus word) (length word) then before_first is_plus word else word

-- two words are equal, except for the case of their letters
unfoldable pub same_word : List ℕ → List ℕ → Bool
same_word word other = str_eq_ignore_ascii_case word other

-- a word is one of these, in any case
abbrev pub is_one_of : List (List ℕ) → List ℕ → Bool
is_one_of names word = list_any (same_word word) names

-- the levels' names, with the numbers 10 to 60 of pino and bunyan, and 0 to 7 of syslog
abbrev pub trace_names : List (List ℕ)
trace_names = codes "trace" ∷ codes "debug-4" ∷ codes "10" ∷ []

abbrev pub debug_names : List (List ℕ)
debug_names = codes "debug" ∷ codes "20" ∷ codes "7" ∷ []

abbrev pub info_names : List (List ℕ)
info_names =
    codes "info" ∷ codes "information" ∷ codes "informational" ∷ codes "notice" ∷ codes "default"
    ∷ codes "30" ∷ codes "6" ∷ codes "5" ∷ []

abbrev pub warn_names : List (List ℕ)
warn_names = codes "warn" ∷ codes "warning" ∷ codes "40" ∷ codes "4" ∷ []

abbrev pub error_names : List (List ℕ)
error_names =
    codes "error" ∷ codes "err" ∷ codes "fatal" ∷ codes "panic" ∷ codes "dpanic" ∷ codes "critical"
    ∷ codes "crit" ∷ codes "alert" ∷ codes "emerg" ∷ codes "emergency" ∷ codes "severe"
    ∷ codes "50" ∷ codes "60" ∷ codes "3" ∷ codes "2" ∷ codes "1" ∷ codes "0" ∷ []

abbrev pub low_level_of_name : List ℕ → Option Level
low_level_of_name name =
    if is_one_of debug_names name then Some Debug
    else if is_one_of trace_names name then Some Trace
    else None

-- the level of this name
abbrev pub level_of_name : List ℕ → Option Level
level_of_name name =
    if is_one_of info_names name then Some Info
    else if is_one_of error_names name then Some Error
    else if is_one_of warn_names name then Some Warn
    else low_level_of_name name

abbrev pub level_of_word : List ℕ → Option Level
level_of_word word = level_of_name (bare_level word)

abbrev pub level_at : List ℕ → Json → Option Level
level_at key value = option_and_then level_of_word (word_at key value)

-- the key of a line's level
abbrev pub level_key : Json → Option (List ℕ)
level_key value = if_level (first_key level_keys value) where
  if_level : Option (List ℕ) → Option (List ℕ)
  if_level (Some key) = if is_some (level_at key value) then Some key else None
  if_level None = None

-- the level of a line; INFO if the line has no level
abbrev pub line_level : Json → Level
line_level value = unwrap_or (option_and_then (λ key. level_at key value) (level_key value)) Info

-- ---- time

-- the moment of a line; that of the line before if the line has no time
abbrev pub moment_in : Json → Moment → Moment
moment_in value before = moment_of_word (first_word time_keys value) before

abbrev pub is_time_at : List ℕ → Json → Bool
is_time_at key value = if_time (word_at key value) where
  if_time : Option (List ℕ) → Bool
  if_time (Some word) = is_time word
  if_time None = false

-- the key of a line's time
abbrev pub time_key : Json → Option (List ℕ)
time_key value = if_key (first_key time_keys value) where
  if_key : Option (List ℕ) → Option (List ℕ)
  if_key (Some key) = if is_time_at key value then Some key else None
  if_key None = None

-- ---- groups

-- A group: the name of its span and its id. The group of a unit also has its process.
pub record Group : Type 0 where
  pub name : List ℕ
  pub id : List ℕ
  pub process : Option (List ℕ)

-- the keys of groups: the given one, otherwise those of traces and requests
abbrev pub keys_of_groups : Option (List ℕ) → List (List ℕ)
keys_of_groups (Some asked) = asked ∷ []
keys_of_groups None = group_keys

-- the span of a group is a `trace` or a `request`
abbrev pub group_name : List ℕ → List ℕ
group_name key = if list_any (bytes_eq key) trace_keys then codes "trace" else codes "request"

abbrev pub group_of : List ℕ → Option (List ℕ) → Option (List ℕ) → Option Group
group_of name (Some id) process = Some (record { name = name; id = id; process = process })
group_of name None process = None

-- journald wrote a line
abbrev pub is_of_journal : Json → Bool
is_of_journal value = is_some (word_at (codes "__REALTIME_TIMESTAMP") value)

-- a line of journald is in the group of its unit and its process
abbrev pub unit_in : Json → Option Group
unit_in value =
    if is_of_journal value
    then group_of (codes "unit") (word_at (codes "_SYSTEMD_UNIT") value)
    (word_at (codes "_PID") value)
    else None

abbrev pub group_at : Option (List ℕ) → Json → Option Group
group_at (Some key) value = group_of (group_name key) (word_at key value) None
group_at None value = unit_in value

-- the group of a line: that at the given key, otherwise its trace, its request or its
-- unit
abbrev pub group_in : Option (List ℕ) → Json → Option Group
group_in (Some asked) value = group_of asked (word_along asked value) None
group_in None value = group_at (first_key group_keys value) value

abbrev pub process_key : Option (List ℕ) → List ℕ
process_key (Some process) = codes " " ++ process
process_key None = []

-- what identifies a group: its name, its id and its process
abbrev pub group_key : Group → List ℕ
group_key group = group.name ++ codes " " ++ group.id ++ process_key group.process

-- ---- fields

abbrev pub listed : Option (List ℕ) → List (List ℕ)
listed (Some key) = key ∷ []
listed None = []

-- the keys that aren't fields: those of the level, the time, the message and the group
abbrev pub used_keys : Option (List ℕ) → Json → Used
used_keys asked value = record {
  keys =
      listed (level_key value) ++ listed (time_key value)
      ++ listed (first_key message_keys value)
      ++ listed (first_key (keys_of_groups asked) value);
  is_of_journal = is_of_journal value;
}

abbrev pub message_fields : Option (List ℕ) → List Field
message_fields (Some text) = message_field text ∷ []
message_fields None = []

-- the fields of a line's event: its message, and what else it has
abbrev pub log_event_fields : Option (List ℕ) → Json → List Field
log_event_fields asked value =
    message_fields (first_word message_keys value)
    ++ members_fields (used_keys asked value) (unwrap_or (as_object value) no_members)
