-- Events from a level on, and the lines of what failed.
use Rattle.std.specs.Prelude.{◌≡◌, ℕ, nat_le, if◌then◌else◌, Bool, true, false, List, [], ◌∷◌, ◌++◌, Option, Some, None, unwrap_or, bytes_eq, codes}
use Rattle.std.specs.BTreeMap.{insert_entry, is_at}
use Rattle.std.specs.List.{list_any}
use Rattle.std.specs.Map.{lookup, remove_entry}
use Rattle.std.specs.Ordering.{nat_cmp}
use Rattle.json.specs.Json.{Json}
use Rattle.tracing_tree_base.specs.declared.context.Context.{Context}
use Rattle.tracing_tree_base.specs.declared.context.Id.{Id}
use Rattle.tracing_tree_layer.specs.declared.call.Call.{Call}
use Rattle.tracing_tree_layer.specs.declared.call.Call.TheVariants.{New, Clone, Record, Event, Close}
use Rattle.ttree_source.specs.Levels.{rank, shown_calls}
use Rattle.tracing_tree_spans.specs.declared.registry.Event.{Event as EventParts}
use Rattle.tracing_tree_base.specs.declared.field.Field.{Field}
use Rattle.tracing_tree_base.specs.declared.style.Level.{Level}
use Rattle.tracing_tree_base.specs.declared.style.Level.TheVariants.{Trace, Debug, Info, Warn, Error}
use Rattle.ttree_adapters.specs.Mapping.{Made}

-- the least level of the events that are shown, and the lines that open spans hold, by their ids
pub record FailuresState : Type 0 where
  pub min_level : Level
  pub held : List (ℕ × List Call)

abbrev pub no_lines : Level → FailuresState
no_lines min_level = record { min_level = min_level; held = [] }

-- ---- what a call is

abbrev pub is_failure_level : Level → Bool
is_failure_level Error = true
is_failure_level Warn = false
is_failure_level Info = false
is_failure_level Debug = false
is_failure_level Trace = false

-- The end of a test says how long the test took. Any other event is a line.
abbrev pub is_end : List Field → Bool
is_end fields = list_any (λ (field : Field). bytes_eq field.name (codes "elapsed")) fields

-- ---- the lines of a span

abbrev pub lines_of : ℕ → FailuresState → List Call
lines_of span s = unwrap_or (lookup (is_at (nat_cmp span)) s.held) []

abbrev pub without_lines : ℕ → FailuresState → FailuresState
without_lines span s = record s { held = remove_entry (is_at (nat_cmp span)) s.held }

-- one more line of a span
abbrev pub with_held_line : ℕ → Call → FailuresState → FailuresState
with_held_line span line s = record s {
  held = insert_entry nat_cmp (without_lines span s).held span (lines_of span s ++ line ∷ []);
}

-- the lines of the span that an event is in, if it is in one
abbrev pub lines_in : Option Id → FailuresState → List Call
lines_in (Some span) s = lines_of span.0 s
lines_in None s = []

abbrev pub without_lines_in : Option Id → FailuresState → FailuresState
without_lines_in (Some span) s = without_lines span.0 s
without_lines_in None s = s

-- a line of a span is held, and one without a span is left out
abbrev pub with_line_in : Option Id → Call → FailuresState → FailuresState
with_line_in (Some span) line s = with_held_line span.0 line s
with_line_in None line s = s

-- ---- calls

-- a call that is made at once
abbrev pub alone : Call → FailuresState → Made FailuresState
alone call s = record { calls = call ∷ []; mapping = s }

-- a failure comes after the lines of its span
abbrev pub failed : Option Id → Call → FailuresState → Made FailuresState
failed span call s =
    record { calls = lines_in span s ++ call ∷ []; mapping = without_lines_in span s }

-- an event below the least level
abbrev pub event_left_out : List Field → Option Id → Call → FailuresState → Made FailuresState
event_left_out fields span call s =
    record { calls = []; mapping = if is_end fields then s else with_line_in span call s }

abbrev pub event_kept : EventParts → Context → FailuresState → Made FailuresState
event_kept event context s =
    if is_failure_level event.level then failed context.current (Event event context) s
    else if nat_le (rank s.min_level) (rank event.level) then alone (Event event context) s
    else event_left_out event.fields context.current (Event event context) s

-- An event below the least level is held with its span, unless it is the end of a test. A failure
-- in the span brings back what is held, and the end of the span drops it.
abbrev pub call_kept : Call → FailuresState → Made FailuresState
call_kept (Event event context) s = event_kept event context s
call_kept (Close id context) s = alone (Close id context) (without_lines id.0 s)
call_kept (New attributes context) s = alone (New attributes context) s
call_kept (Clone id) s = alone (Clone id) s
call_kept (Record id record_of_it) s = alone (Record id record_of_it) s

abbrev pub all_kept : List Call → FailuresState → Made FailuresState
all_kept [] s = record { calls = []; mapping = s }
all_kept (call ∷ others) s =
    let first = call_kept call s in
    let rest = all_kept others first.mapping in
    record { calls = first.calls ++ rest.calls; mapping = rest.mapping }

-- Whatever spans hold, the calls that aren't events below the level are all made, in their order.
-- What is made besides are lines of what failed.
abbrev pub KeepsShown : Level → Type 0
KeepsShown min_level =
    (calls : List Call)
    → shown_calls min_level (all_kept calls (no_lines min_level)).calls ≡ shown_calls min_level calls

abbrev pub makes_kept : FailuresState → Option Json → List Call → Made FailuresState
makes_kept s value calls = all_kept calls s
