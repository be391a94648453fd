-- Lines that begin with a prefix.
use Rattle.std.specs.Prelude.{ℕ, Bool, ◌&&◌, is_some, false, not, if◌then◌else◌, List, [], ◌∷◌, ◌++◌, map, Option, Some, None, option_map, codes}
use Rattle.json.specs.Find.{as_object}
use Rattle.json.specs.Json.{Json, document}
use Rattle.tracing_tree_base.specs.declared.field.Field.{Field}
use Rattle.tracing_tree_layer.specs.declared.call.Call.{Call}
use Rattle.tracing_tree_layer.specs.declared.call.Call.TheVariants.{New, Clone, Record, Event, Close}
use Rattle.ttree_source.specs.Source.{Step}
use Rattle.ttree_source.specs.Calls.{shown_text}
use Rattle.ttree_prefix.specs.Mark.{split}
use Rattle.ttree_prefix.specs.Streams.{calls_in, last_span, names_stream, stream_span, with_stream_span}
use Rattle.ttree_prefix.specs.declared.mark.Mark.{Mark}
use Rattle.ttree_prefix.specs.declared.streams.Stream.{Stream}

-- a source, the mark at which prefixes end, if lines have prefixes, and the streams so far
pub record Marked (S : Type 0) : Type 0 where
  pub source : S
  pub mark : Option Mark
  pub streams : List Stream

-- the prefix of a line that isn't JSON, and what comes after it
abbrev pub prefix_parts : Option Mark → List ℕ → Option Json → Option (List ℕ × List ℕ)
prefix_parts None line value = None
prefix_parts (Some mark) line None = split mark line
prefix_parts (Some mark) line (Some value) = None

abbrev pub prefix_field : List ℕ → List Field
prefix_field prefix = record { name = codes "prefix"; value = shown_text prefix } ∷ []

-- an event has the prefix as its last field
abbrev pub with_prefix : List ℕ → Call → Call
with_prefix prefix (Event event context) =
    Event (record event { fields = event.fields ++ prefix_field prefix }) context
with_prefix prefix (New attributes context) = New attributes context
with_prefix prefix (Clone id) = Clone id
with_prefix prefix (Record id record_of_it) = Record id record_of_it
with_prefix prefix (Close id context) = Close id context

abbrev pub is_object : Option Json → Bool
is_object None = false
is_object (Some value) = is_some (as_object value)

abbrev pub has_streams : Option Mark → Bool
has_streams None = false
has_streams (Some mark) = names_stream mark

-- the calls of a line with a prefix: what isn't an object stays in its own stream
abbrev pub calls_of_line : Option Mark → List ℕ → Bool → List Stream → List Call → List Call
calls_of_line mark prefix object streams calls =
    if has_streams mark && not object then calls_in prefix streams calls else calls

-- the streams after a line with a prefix: an object says which span its stream is in
abbrev pub streams_after : Option Mark → List ℕ → Bool → List Call → List Stream → List Stream
streams_after mark prefix object calls streams =
    if has_streams mark && object
    then with_stream_span prefix (last_span (stream_span prefix streams) calls) streams
    else streams

module _ {S : Type 0} where
  abbrev pub marked_step : Option Mark → List Stream → Step S → Step (Marked S)
  marked_step mark streams step = record {
    calls = step.calls;
    source = record { source = step.source; mark = mark; streams = streams };
  }

  abbrev pub prefixed_step : Option Mark → List Stream → List ℕ → Bool → Step S → Step (Marked S)
  prefixed_step mark streams prefix object step = record {
    calls =
        map (with_prefix prefix) (calls_of_line mark prefix object streams step.calls);
    source = record {
      source = step.source;
      mark = mark;
      streams = streams_after mark prefix object step.calls streams;
    };
  }

  -- what the rest of a line means, with this value, after a prefix
  abbrev pub value_taken : (S → List ℕ → Option Json → Option (Step S)) → List ℕ → List ℕ
      → Option Json → Marked S → Option (Step (Marked S))
  value_taken takes prefix rest value marked =
      option_map (prefixed_step marked.mark marked.streams prefix (is_object value)) (takes
      marked.source rest value)

  -- A line means what its rest after the prefix means, in its own stream and with the prefix in
  -- each event. A line without a prefix means what it means to the source.
  abbrev pub prefixed_takes : (S → List ℕ → Option Json → Option (Step S)) → Marked S → List ℕ
      → Option Json → Option (Step (Marked S))
  prefixed_takes takes marked line value = by_parts (prefix_parts marked.mark line value) where
    by_parts : Option (List ℕ × List ℕ) → Option (Step (Marked S))
    by_parts None =
        option_map (marked_step marked.mark marked.streams) (takes marked.source line value)
    by_parts (Some parts) = value_taken takes parts.0 parts.1 (document parts.1) marked

  abbrev pub prefixed_ends : (S → List Call) → Marked S → List Call
  prefixed_ends ends marked = ends marked.source

  abbrev pub prefixed_ended : (S → S) → Marked S → Marked S
  prefixed_ended ended marked = record marked { source = ended marked.source }
