-- Without the counts of tests below a level.
use Rattle.std.specs.Prelude.{◌||◌, Bool, true, List, bytes_eq, codes, filter, Option}
use Rattle.std.specs.List.{list_any}
use Rattle.json.specs.Json.{Json}
use Rattle.tracing_tree_base.specs.declared.field.Field.{Field}
use Rattle.tracing_tree_base.specs.declared.style.Level.{Level}
use Rattle.tracing_tree_layer.specs.declared.call.Call.{Call}
use Rattle.tracing_tree_layer.specs.declared.call.Call.TheVariants.{New, Clone, Record, Event, Close}
use Rattle.ttree_source.specs.Levels.{is_shown}
use Rattle.ttree_adapters.specs.Mapping.{Made}
use Rattle.ttree_adapters.specs.declared.counts.CountsAtLeast.{CountsAtLeast}

abbrev pub is_message_field : Field → Bool
is_message_field field = bytes_eq field.name (codes "message")

-- an event with a message, or a call that isn't an event
abbrev pub has_message : Call → Bool
has_message (Event event context) = list_any is_message_field event.fields
has_message (New attributes context) = true
has_message (Clone id) = true
has_message (Record id record_of_it) = true
has_message (Close id context) = true

-- only an event without a message is left out below the level
abbrev pub is_counted : Level → Call → Bool
is_counted min_level call = is_shown min_level call || has_message call

abbrev pub makes_counted : CountsAtLeast → Option Json → List Call → Made CountsAtLeast
makes_counted s value calls = record {
  calls = filter (is_counted s.min_level) calls;
  mapping = s;
}
