-- What the rows of a run show of the spans that an event is in.
use Rattle.std.specs.Prelude.{◌≡◌, ℕ, ◌-◌, ◌<◌, ◌==◌, ◌&&◌, ◌||◌, Bool, true, false, not, IsTrue, List, [], ◌∷◌, ◌++◌, length, take, filter, slice_get, Option, Some, None, is_some, option_and_then, Contains}
use Rattle.std.specs.Option.{option_map_or}
use Rattle.std.specs.List.{list_any, last_or}
use Rattle.tracing_tree_drawing.specs.Format.Settings.{Settings, retraces}
use Rattle.tracing_tree_spans.specs.Registry.Ids.{same_id}
use Rattle.tracing_tree_time.specs.Clock.{Timer}
use Rattle.tracing_tree_spans.specs.Registry.Forest.{Forest, path_of, path_of_any, parent_of, is_printed, closing_of}
use Rattle.tracing_tree_drawing.specs.Format.Picture.{Row}
use Rattle.tracing_tree_base.specs.declared.context.Id.{Id}
use Rattle.tracing_tree_base.specs.declared.context.Context.{Context}
use Rattle.tracing_tree_drawing.specs.declared.format.SpanMode.{SpanMode}
use Rattle.tracing_tree_drawing.specs.declared.format.SpanMode.TheVariants.{Open, Retrace}
use Rattle.tracing_tree_spans.specs.declared.registry.Event.{Event}
use Rattle.tracing_tree_layer.specs.Layered.State.{State, opening_state}
use Rattle.tracing_tree_layer.specs.Layer.Turns.{current_of, event_parent, turn_of_close}
use Rattle.tracing_tree_layer.specs.Layered.Refused.{cause_of}
use Rattle.tracing_tree_layer.specs.Layered.Run.{run, run_one}
use Rattle.tracing_tree_layer.specs.declared.call.Call.{Call}
use Rattle.tracing_tree_layer.specs.declared.call.Call.TheVariants as A

-- ---- rows that open a span

abbrev pub is_opening_mode : SpanMode → Bool
is_opening_mode (Open verbose) = true
is_opening_mode (Retrace verbose) = true
is_opening_mode mode = false

-- an open or retrace row of this level
abbrev pub opens_at : ℕ → Row → Bool
opens_at level row = is_opening_mode row.mode && (row.level == level)

-- the span of the last open or retrace row of a level before a place
abbrev pub latest : List Row → ℕ → ℕ → Option Id
latest rows place level =
    option_and_then (λ row. row.span) (last_or None (filter (opens_at level) (take place rows)))

-- an open or retrace row of the span
abbrev pub opens_span : Id → Row → Bool
opens_span i row = is_opening_mode row.mode && option_map_or (same_id i) row.span false

-- ---- closes on the current branch

-- a close that draws a row found the span's parent, if it has one, on the current branch
abbrev pub close_is_on_path : Settings → Forest → Option Id → Id → Bool
close_is_on_path settings forest last i =
    (settings.deferred_spans && not (is_printed forest i))
    || option_map_or (λ j. list_any (same_id j) (path_of_any forest last)) (parent_of forest i) true

-- the same of closes, one after another
abbrev pub closes_are_on_path : Settings → Context → List Id → Forest → Option Id → Bool
closes_are_on_path settings context [] forest last = true
closes_are_on_path settings context (i ∷ others) forest last =
    let closed = turn_of_close settings context forest last i in
    close_is_on_path settings forest last i
    && closes_are_on_path settings context others closed.forest closed.last

-- the same of a call that is accepted
abbrev pub call_is_on_path : Settings → State → Call → Bool
call_is_on_path settings state (A.Close i context) =
    closes_are_on_path settings context (closing_of state.forest i) state.forest state.last
call_is_on_path settings state call = true

-- the same of each accepted call of a run
abbrev pub run_is_on_path : Settings → Timer → State → List Call → Bool
run_is_on_path settings timer state [] = true
run_is_on_path settings timer state (call ∷ calls) =
    (is_some (cause_of settings timer state call) || call_is_on_path settings state call)
    && run_is_on_path settings timer (run_one settings timer state call).state calls

-- ---- events of a run

-- the rows of a run that began empty
abbrev pub rows_of : Settings → Timer → Option Id → List Call → List Row
rows_of settings timer first calls = (run settings timer (opening_state first) calls).rows

-- After the calls before it an event is accepted. Its row is the last that these calls and it draw.
pub record EventInRun (settings : Settings) (timer : Timer) (first : Option Id)
    (calls : List Call) : Type 0 where
  pub before : List Call
  pub event : Event
  pub context : Context
  pub after : List Call
  pub whole : calls ≡ before ++ A.Event event context ∷ after
  pub no_cause : cause_of settings timer (run settings timer (opening_state first) before).state
      (A.Event event context) ≡ None

module _ {settings : Settings} {timer : Timer} {first : Option Id} {calls : List Call} where
  -- the forest at the event
  abbrev pub forest_at : EventInRun settings timer first calls → Forest
  forest_at e = (run settings timer (opening_state first) e.before).state.forest

  -- the place of its row
  abbrev pub place_of : EventInRun settings timer first calls → ℕ
  place_of e =
      length (rows_of settings timer first (e.before ++ A.Event e.event e.context ∷ [])) - 1

  -- its parent is its current span, which is live
  abbrev pub IsInCurrent : EventInRun settings timer first calls → Id → Type 0
  IsInCurrent e i =
      (current_of (forest_at e) e.context ≡ Some i)
      × (event_parent (forest_at e) e.event e.context ≡ Some i)

-- ---- laws

-- Before an event in its current span, the last open or retrace row of each level up to that span's
-- is of the span that its path has at that level.
abbrev pub ReadingLaw : Settings → Timer → Option Id → List Call → Type 0
ReadingLaw settings timer first calls =
    (e : EventInRun settings timer first calls) (i : Id) → IsInCurrent e i → (level : ℕ) →
    level < length (path_of (forest_at e) i) →
    latest (rows_of settings timer first calls) (place_of e) level
    ≡ slice_get (path_of (forest_at e) i) level

-- Before an event there is an open or retrace row of each span on its current span's path.
abbrev pub OpenedBefore : Settings → Timer → Option Id → List Call → Type 0
OpenedBefore settings timer first calls =
    (e : EventInRun settings timer first calls) (current : Id) (i : Id) →
    current_of (forest_at e) e.context ≡ Some current → Contains (path_of (forest_at e) current) i →
    IsTrue (list_any (opens_span i) (take (place_of e) (rows_of settings timer first calls)))

-- the laws of every run that began empty; the first has premises
pub record ReadingLaws (settings : Settings) (timer : Timer) (first : Option Id)
    (calls : List Call) : Type 0 where
  pub reading : IsTrue (retraces settings) →
      IsTrue (settings.close_retrace || run_is_on_path settings timer (opening_state first) calls) →
      ReadingLaw settings timer first calls
  pub opened : OpenedBefore settings timer first calls
