-- What one element of a trace in Chrome's trace event format says.
use Rattle.std.specs.Prelude.{ℕ, ◌+◌, ◌-◌, ◌^◌, ◌++◌, ◌||◌, min, ℤ, if◌then◌else◌, List, [], ◌∷◌, Option, Some, None, unwrap_or, option_and_then, Result, Ok, Err, codes, bytes_eq}
use Rattle.json.specs.Json.{Json, null, boolean, number, string, array, object}
use Rattle.json.specs.Find.{get, as_number}
use Rattle.tracing_tree_base.specs.declared.field.Field.{Field}
use Rattle.ttree_source.specs.Values.{text_at}
use Rattle.ttree_source.specs.Fields.{object_fields}
use Rattle.ttree_source.specs.Calls.{shown_text}
use Rattle.ttree_chrome.specs.Number.{integer_of, length_of, microseconds_time}
use Rattle.ttree_source.specs.declared.notes.Problem.{Problem}
use Rattle.ttree_source.specs.declared.notes.Problem.TheVariants.{Phase as NoPhase, Process as NoProcess, Thread as NoThread, Start as NoStart, Duration as NoDuration}
use Rattle.ttree_chrome.specs.declared.element.Ident.{Ident}
use Rattle.ttree_chrome.specs.declared.element.Ident.TheVariants.{Number, Name}
use Rattle.ttree_chrome.specs.declared.element.Owner.{Owner}
use Rattle.ttree_chrome.specs.declared.element.Entry.{Entry}
use Rattle.ttree_chrome.specs.declared.element.Element.{Element}
use Rattle.ttree_chrome.specs.declared.element.Element.TheVariants.{Span, Begin, End, Instant, Async, ProcessName, ThreadName, Metadata, Undrawn}
use Rattle.ttree_chrome.specs.declared.element.Phase.{Phase}
use Rattle.ttree_chrome.specs.declared.element.Phase.TheVariants.{Complete, Begin as Begins, End as Ends, Instant as Happens}
use Rattle.ttree_chrome.specs.declared.element.Track.{Track}
use Rattle.ttree_chrome.specs.declared.element.Track.TheVariants.{Begin as TrackBegins, End as TrackEnds, Instant as TrackHappens}
use Rattle.ttree_chrome.specs.declared.element.Naming.{Naming}
use Rattle.ttree_chrome.specs.declared.element.Naming.TheVariants.{Process as OfProcess, Thread as OfThread}

-- ---- keys

-- the time at a key
abbrev pub time_at : List ℕ → Json → Option ℕ
time_at key value = option_and_then microseconds_time (option_and_then as_number (get key value))

-- the length at a key, in nanoseconds
abbrev pub length_at : List ℕ → Json → Option ℕ
length_at key value = option_and_then length_of (option_and_then as_number (get key value))

abbrev pub number_or : Option ℤ → Problem → Result (Option Ident) Problem
number_or (Some found) problem = Ok (Some (Number found))
number_or None problem = Err problem

-- a whole number or a string; `None` for null
abbrev pub ident_in : Problem → Json → Result (Option Ident) Problem
ident_in problem null = Ok None
ident_in problem (boolean _) = Err problem
ident_in problem (number text) = number_or (integer_of text) problem
ident_in problem (string text) = Ok (Some (Name text))
ident_in problem (array _) = Err problem
ident_in problem (object _) = Err problem

-- what identifies a process or a thread: the whole number or the string at a key; `None` if the key
-- is absent or its value is null
abbrev pub ident_at : List ℕ → Problem → Json → Result (Option Ident) Problem
ident_at key problem value = if_any (get key value) where
  if_any : Option Json → Result (Option Ident) Problem
  if_any None = Ok None
  if_any (Some found) = ident_in problem found

abbrev pub owner_of : Result (Option Ident) Problem → Result (Option Ident) Problem → Result Owner Problem
owner_of (Err problem) thread = Err problem
owner_of (Ok process) (Err problem) = Err problem
owner_of (Ok process) (Ok thread) = Ok (record { process = process; thread = thread })

-- the process and the thread of an element
abbrev pub owner_in : Json → Result Owner Problem
owner_in value =
    owner_of (ident_at (codes "pid") NoProcess value) (ident_at (codes "tid") NoThread value)

-- the name of an element, or an empty string
abbrev pub element_name : Json → List ℕ
element_name value = unwrap_or (text_at (codes "name") value) []

-- the members of the object at `args` as fields
abbrev pub fields_in : Json → List Field
fields_in value = at_args (get (codes "args") value) where
  at_args : Option Json → List Field
  at_args None = []
  at_args (Some args) = object_fields args

-- ---- elements

abbrev pub entry_of : Result Owner Problem → Option ℕ → Json → Result Entry Problem
entry_of (Err problem) start value = Err problem
entry_of (Ok owner) None value = Err NoStart
entry_of (Ok owner) (Some start) value = Ok (record {
  owner = owner;
  start = start;
  name = element_name value;
  fields = fields_in value;
})

-- what most elements say
abbrev pub entry_in : Json → Result Entry Problem
entry_in value = entry_of (owner_in value) (time_at (codes "ts") value) value

-- the phase that a string names, of an element at a time
abbrev pub phase_of : List ℕ → Option Phase
phase_of text =
    if bytes_eq text (codes "X") then Some Complete
    else if bytes_eq text (codes "B") then Some Begins
    else if bytes_eq text (codes "E") then Some Ends
    else if bytes_eq text (codes "i") || bytes_eq text (codes "I") then Some Happens
    else None

-- a span by how long it takes
abbrev pub span_element : Entry → Option ℕ → Result Element Problem
span_element entry None = Err NoDuration
span_element entry (Some length) = Ok (Span entry (min (entry.start + length) (2 ^ 64 - 1)))

abbrev pub phased : Phase → Entry → Json → Result Element Problem
phased Complete entry value = span_element entry (length_at (codes "dur") value)
phased Begins entry value = Ok (Begin entry)
phased Ends entry value = Ok (End entry)
phased Happens entry value = Ok (Instant entry)

abbrev pub timed_of : Phase → Result Entry Problem → Json → Result Element Problem
timed_of phase (Err problem) value = Err problem
timed_of phase (Ok entry) value = phased phase entry value

-- an element of this phase
abbrev pub timed_in : Phase → Json → Result Element Problem
timed_in phase value = timed_of phase (entry_in value) value

-- ---- asynchronous tracks

-- what an element of this phase says about its asynchronous track, if it has one
abbrev pub async_of : List ℕ → Option Track
async_of text =
    if bytes_eq text (codes "b") || bytes_eq text (codes "S") then Some TrackBegins
    else if bytes_eq text (codes "e") || bytes_eq text (codes "F") then Some TrackEnds
    else if bytes_eq text (codes "n") || bytes_eq text (codes "T") || bytes_eq text (codes "p")
    then Some TrackHappens
    else None

-- a string or a number as written, empty for any other value
abbrev pub written_text : Option Json → List ℕ
written_text None = []
written_text (Some null) = []
written_text (Some (boolean _)) = []
written_text (Some (number text)) = text
written_text (Some (string text)) = text
written_text (Some (array _)) = []
written_text (Some (object _)) = []

abbrev pub local_or : Option Json → Option Json → List ℕ
local_or (Some local) other = written_text (Some local)
local_or None other = written_text other

abbrev pub id_or : Option Json → Option Json → List ℕ
id_or (Some id) other = local_or (get (codes "local") id) (get (codes "global") id)
id_or None other = written_text other

-- the id of an element's asynchronous track, empty if it has no such id
abbrev pub track_id : Json → List ℕ
track_id value = id_or (get (codes "id2") value) (get (codes "id") value)

-- the key of an element's asynchronous track: its category, its scope and its id
abbrev pub track_in : Json → List ℕ
track_in value =
    ((((written_text (get (codes "cat") value)) ++ 0 ∷ [])
    ++ written_text (get (codes "scope") value))
    ++ 0 ∷ []) ++ track_id value

abbrev pub id_field : List ℕ → Field
id_field id = record { name = codes "id"; value = shown_text id }

-- the span of an asynchronous track shows the track's id
abbrev pub with_id : Track → Entry → Json → Entry
with_id TrackBegins entry value = record entry { fields = id_field (track_id value) ∷ entry.fields }
with_id TrackEnds entry value = entry
with_id TrackHappens entry value = entry

abbrev pub async_emitted : Track → Result Entry Problem → Json → Result Element Problem
async_emitted track (Err problem) value = Err problem
async_emitted track (Ok entry) value = Ok (Async track (with_id track entry value) (track_in value))

-- an element of an asynchronous track
abbrev pub async_in : Track → Json → Result Element Problem
async_in track value = async_emitted track (entry_in value) value

-- ---- names

-- what an element names
abbrev pub naming_of : List ℕ → Option Naming
naming_of name =
    if bytes_eq name (codes "process_name") then Some OfProcess
    else if bytes_eq name (codes "thread_name") then Some OfThread
    else None

abbrev pub named_as : Naming → Owner → List ℕ → Element
named_as OfProcess owner text = ProcessName owner text
named_as OfThread owner text = ThreadName owner text

abbrev pub owner_named : Naming → Result Owner Problem → List ℕ → Result Element Problem
owner_named naming (Err problem) text = Err problem
owner_named naming (Ok owner) text = Ok (named_as naming owner text)

abbrev pub named_of : Option Naming → Option (List ℕ) → Result Owner Problem → Result Element Problem
named_of None text owner = Ok Metadata
named_of (Some naming) None owner = Ok Metadata
named_of (Some naming) (Some text) owner = owner_named naming owner text

-- the string at `args`.`name`
abbrev pub given_name : Json → Option (List ℕ)
given_name value = option_and_then (text_at (codes "name")) (get (codes "args") value)

-- an element of metadata: it may name its process or its thread
abbrev pub named_in : Json → Result Element Problem
named_in value = named_of (naming_of (element_name value)) (given_name value) (owner_in value)

abbrev pub async_if : Option Track → Json → Result Element Problem
async_if None value = Ok Undrawn
async_if (Some track) value = async_in track value

abbrev pub timed_if : Option Phase → Option Track → Json → Result Element Problem
timed_if None track value = async_if track value
timed_if (Some phase) track value = timed_in phase value

abbrev pub emitted_as : Option (List ℕ) → Json → Result Element Problem
emitted_as None value = Err NoPhase
emitted_as (Some phase) value =
    if bytes_eq phase (codes "M") then named_in value else timed_if (phase_of phase) (async_of
    phase) value

-- what an element says, or what it lacks
abbrev pub element_of : Json → Result Element Problem
element_of value = emitted_as (text_at (codes "ph") value) value
