-- The level of a line, and a source that shows only events of a level and above.
use Rattle.std.specs.Prelude.{ℕ, nat_le, Bool, true, List, Option, option_map, option_and_then, codes}
use Rattle.std.specs.List.{filter}
use Rattle.json.specs.Json.{Json}
use Rattle.tracing_tree_base.specs.Style.{level_named}
use Rattle.tracing_tree_base.specs.declared.style.Level.{Level}
use Rattle.tracing_tree_base.specs.declared.style.Level.TheVariants.{Trace, Debug, Info, Warn, Error}
use Rattle.tracing_tree_layer.specs.declared.call.Call.{Call}
use Rattle.tracing_tree_layer.specs.declared.call.Call.TheVariants.{New, Clone, Record, Event, Close}
use Rattle.ttree_source.specs.Source.{Step}
use Rattle.ttree_source.specs.Values.{text_at}

-- the level that an object names
abbrev pub level_in : Json → Option Level
level_in value = option_and_then level_named (text_at (codes "level") value)

-- a source, and the minimum level of the events that are shown
pub record Leveled (S : Type 0) : Type 0 where
  pub source : S
  pub min_level : Level

-- the order of the levels: the higher, the more an event matters
abbrev pub rank : Level → ℕ
rank Trace = 0
rank Debug = 1
rank Info = 2
rank Warn = 3
rank Error = 4

-- an event is shown from the minimum level on, and every other call is shown
abbrev pub is_shown : Level → Call → Bool
is_shown min_level (Event event context) = nat_le (rank min_level) (rank event.level)
is_shown min_level (New attributes context) = true
is_shown min_level (Clone id) = true
is_shown min_level (Record id record_of_it) = true
is_shown min_level (Close id context) = true

abbrev pub shown_calls : Level → List Call → List Call
shown_calls min_level calls = filter (is_shown min_level) calls

module _ {S : Type 0} where
  -- what is shown of a source's step, and the source afterwards, with the same minimum level
  abbrev pub shown_step : Level → Step S → Step (Leveled S)
  shown_step min_level step = record {
    calls = shown_calls min_level step.calls;
    source = record { source = step.source; min_level = min_level };
  }

  -- of a line that the source takes, what is shown of its calls; no other line is known
  abbrev pub level_takes : (S → List ℕ → Option Json → Option (Step S)) → Leveled S → List ℕ →
      Option Json
      → Option (Step (Leveled S))
  level_takes takes leveled line value =
      option_map (shown_step leveled.min_level) (takes leveled.source line value)

  abbrev pub level_ends : (S → List Call) → Leveled S → List Call
  level_ends ends leveled = shown_calls leveled.min_level (ends leveled.source)

  abbrev pub level_ended : (S → S) → Leveled S → Leveled S
  level_ended ended leveled = record leveled { source = ended leveled.source }
