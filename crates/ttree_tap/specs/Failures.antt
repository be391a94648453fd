-- Which rows of TAP are errors.
use Rattle.std.specs.Prelude.{ℕ, Bool, true, false, List, ◌++◌}
use Rattle.std.specs.List.{list_any}
use Rattle.tracing_tree_base.specs.declared.style.Level.{Level}
use Rattle.tracing_tree_base.specs.declared.style.Level.TheVariants.{Trace, Debug, Error, Info, Warn}
use Rattle.tracing_tree_layer.specs.declared.call.Call.{Call}
use Rattle.tracing_tree_layer.specs.declared.call.Call.TheVariants.{New, Clone, Record, Event, Close}
use Rattle.ttree_source.specs.Source.{interpret}
use Rattle.ttree_tap.specs.Tap.{TapState, all_ended, tap_takes}

abbrev pub is_error : Level → Bool
is_error Trace = false
is_error Debug = false
is_error Info = false
is_error Warn = false
is_error Error = true

-- a row of level ERROR
abbrev pub is_error_row : Call → Bool
is_error_row (Event event context) = is_error event.level
is_error_row (New attributes context) = false
is_error_row (Clone id) = false
is_error_row (Record id record_of_it) = false
is_error_row (Close id context) = false

abbrev pub has_error : List Call → Bool
has_error calls = list_any is_error_row calls

-- the state after all lines and their end
abbrev pub after_all : TapState → List (List ℕ) → TapState
after_all s lines = all_ended (interpret tap_takes s lines).source

-- the calls of all lines and of their end, without the last row, which counts the results
abbrev pub calls_before_counts : TapState → List (List ℕ) → List Call
calls_before_counts s lines = (interpret tap_takes s lines).calls ++ (after_all s lines).queue.ready
