-- The streams of lines: the lines with one prefix are a separate stream.
use Rattle.std.specs.Prelude.{ℕ, Bool, true, false, if◌then◌else◌, List, [], ◌∷◌, ◌++◌, map, position, remove, Option, Some, None, bytes_eq}
use Rattle.tracing_tree_base.specs.declared.context.Id.{Id}
use Rattle.tracing_tree_layer.specs.declared.call.Call.{Call}
use Rattle.tracing_tree_layer.specs.declared.call.Call.TheVariants.{New, Clone, Record, Event, Close}
use Rattle.ttree_prefix.specs.declared.mark.Mark.{Mark}
use Rattle.ttree_prefix.specs.declared.mark.Mark.TheVariants.{Bar, Bracket, Job, Time, Tab, Colon, DateTime, Pod, Stamp}
use Rattle.ttree_prefix.specs.declared.streams.Stream.{Stream}

-- Whether a prefix names a stream: a service, a pod or a program. Another one may have a time,
-- which changes from line to line.
abbrev pub names_stream : Mark → Bool
names_stream Bar = true
names_stream Bracket = true
names_stream Job = false
names_stream Time = false
names_stream Tab = true
names_stream Colon = false
names_stream DateTime = false
names_stream Pod = true
names_stream Stamp = false

abbrev pub is_of : List ℕ → Stream → Bool
is_of prefix stream = bytes_eq stream.prefix prefix

-- the span of a stream's last event
abbrev pub stream_span : List ℕ → List Stream → Option Id
stream_span prefix [] = None
stream_span prefix (stream ∷ streams) =
    if is_of prefix stream then stream.span else stream_span prefix streams

abbrev pub without : List ℕ → List Stream → List Stream
without prefix streams = by (position (is_of prefix) streams) where
  by : Option ℕ → List Stream
  by None = streams
  by (Some place) = remove streams place

-- a stream whose last event was in this span; it comes last
abbrev pub with_stream_span : List ℕ → Option Id → List Stream → List Stream
with_stream_span prefix span streams =
    without prefix streams ++ record { prefix = prefix; span = span } ∷ []

-- whether the last stream is the one with this prefix
abbrev pub has_last : List ℕ → List Stream → Bool
has_last prefix [] = false
has_last prefix (stream ∷ streams) = of streams (has_last prefix streams) where
  of : List Stream → Bool → Bool
  of [] later = is_of prefix stream
  of (next ∷ others) later = later

-- the span of the last event among calls, otherwise this one
abbrev pub last_span : Option Id → List Call → Option Id
last_span before [] = before
last_span before (New attributes context ∷ calls) = last_span before calls
last_span before (Clone id ∷ calls) = last_span before calls
last_span before (Record id record_of_it ∷ calls) = last_span before calls
last_span before (Event event context ∷ calls) = last_span context.current calls
last_span before (Close id context ∷ calls) = last_span before calls

-- an event in this span
abbrev pub placed_in : Option Id → Call → Call
placed_in span (Event event context) = Event event (record context { current = span })
placed_in span (New attributes context) = New attributes context
placed_in span (Clone id) = Clone id
placed_in span (Record id record_of_it) = Record id record_of_it
placed_in span (Close id context) = Close id context

-- The calls of a line that isn't an object. If the last object was of another stream, its events
-- are in the span of its stream's last event.
abbrev pub calls_in : List ℕ → List Stream → List Call → List Call
calls_in prefix streams calls =
    if has_last prefix streams then calls
    else map (placed_in (stream_span prefix streams)) calls
