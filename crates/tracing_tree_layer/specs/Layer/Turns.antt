-- The rows of a call, and the last span and the printed marks after it.
use Rattle.std.specs.Prelude.{ℕ, ◌-◌, Bool, false, not, ◌&&◌, if◌then◌else◌, List, [], ◌∷◌, ◌++◌, length, map, Option, Some, None, is_some, option_map, option_and_then}
use Rattle.std.specs.Option.{option_map_or, option_or}
use Rattle.tracing_tree_drawing.specs.Format.Settings.{Settings, retraces}
use Rattle.tracing_tree_drawing.specs.Format.Texts.{prefix_text}
use Rattle.tracing_tree_time.specs.Clock.{Timer, elapsed}
use Rattle.tracing_tree_spans.specs.Registry.Forest.{Forest, span_at, if_live, is_printed, parent_of, path_of_any, level_of, fresh_ids, mark_printed, mark_all, named_parent}
use Rattle.tracing_tree_layer.specs.Layer.Block.{span_block, event_block}
use Rattle.tracing_tree_drawing.specs.Format.Picture.{Row}
use Rattle.tracing_tree_base.specs.declared.context.Id.{Id}
use Rattle.tracing_tree_base.specs.declared.context.Context.{Context}
use Rattle.tracing_tree_drawing.specs.declared.format.SpanMode.{SpanMode}
use Rattle.tracing_tree_drawing.specs.declared.format.SpanMode.TheVariants.{PreOpen, Open, Close, Retrace, PostClose}
use Rattle.tracing_tree_drawing.specs.declared.format.SpanMode.TheVariants.{Event as EventMode}
use Rattle.tracing_tree_spans.specs.declared.registry.Event.{Event}
use Rattle.tracing_tree_layer.specs.Layered.State.{Turn, quiet_turn}
use Rattle.tracing_tree_layer.specs.Layer.CloseRetrace.{retraces_before_close}

-- ---- single rows

-- the block of a row about a live span
abbrev pub block_of : Settings → Forest → SpanMode → Id → List ℕ
block_of settings forest mode i =
    option_map_or (λ span. span_block settings mode span.target span.name span.kept.fields)
    (span_at forest i) []

-- the current span of an event, if it is live
abbrev pub current_of : Forest → Context → Option Id
current_of forest context = if_live forest context.current

-- the parent of an event, if it is live
abbrev pub event_parent : Forest → Event → Context → Option Id
event_parent forest event context = if_live forest (named_parent event.parent context.current)

-- the count of spans that an event is in
abbrev pub event_depth : Forest → Event → Context → ℕ
event_depth forest event context = length (path_of_any forest (event_parent forest event context))

-- an event is one level below its parent, but without lines at the same level
abbrev pub event_level : Settings → List Id → ℕ
event_level settings scope = if settings.indent_lines then length scope else length scope - 1

-- how long ago the current span was made, if it is live
abbrev pub time_in_current : Forest → Context → Option ℕ
time_in_current forest context =
    option_map (λ span. elapsed span.kept.start context.moment.mono)
    (option_and_then (span_at forest) (current_of forest context))

abbrev pub event_row : Settings → Timer → Forest → Event → Context → Row
event_row settings timer forest event context = record {
  mode = EventMode;
  span = event_parent forest event context;
  level = event_level settings (path_of_any forest (event_parent forest event context));
  block = event_block settings timer context.moment (time_in_current forest context) event;
  prefix = prefix_text settings context;
}

-- one turn and then another, which begins with the state after the first
abbrev pub then_turn : Turn → (Forest → Option Id → Turn) → Turn
then_turn first next =
    let rest = next first.forest first.last in
    record rest { rows = first.rows ++ rest.rows }

-- only an event's row
abbrev pub turn_of_row : Row → Forest → Option Id → Turn
turn_of_row row forest last = record { rows = row ∷ []; forest = forest; last = last }

module _ (settings : Settings) (context : Context) (forest : Forest) where
  -- a row about a live span
  abbrev pub span_row : SpanMode → Id → Row
  span_row mode i = record {
    mode = mode;
    span = Some i;
    level = level_of forest i;
    block = block_of settings forest mode i;
    prefix = prefix_text settings context;
  }

  -- a row about the parent of a span, if the setting is on and there is a parent
  abbrev pub parent_rows : Bool → SpanMode → Id → List Row
  parent_rows on mode i =
      if on then option_map_or (λ parent. span_row mode parent ∷ []) (parent_of forest i) [] else []

  -- ---- retracing

  -- a span that was printed before is retraced, and any other opens
  abbrev pub fresh_row : Bool → Id → Row
  fresh_row verbose i = span_row (if is_printed forest i then Retrace verbose else Open verbose) i

  -- the rows of fresh spans: the first is verbose if its parent is shown before it
  abbrev pub fresh_rows : List Id → List Row
  fresh_rows [] = []
  fresh_rows (first ∷ others) =
      parent_rows settings.verbose_entry PreOpen first
      ++ fresh_row (settings.verbose_entry && is_some (parent_of forest first)) first
      ∷ map (fresh_row false) others

  -- the path to a span is shown: the rows of the fresh spans, which are printed from now on, and
  -- the span is the last
  abbrev pub retrace_to : Option Id → Id → Turn
  retrace_to last i =
      let fresh = fresh_ids forest last i in
      record { rows = fresh_rows fresh; forest = mark_all fresh forest; last = Some i }

  -- what comes before an event's row: its current span is retraced, if it is live and the settings
  -- say so
  abbrev pub turn_before_event : Option Id → Option Id → Turn
  turn_before_event last None = quiet_turn forest last
  turn_before_event last (Some current) =
      if retraces settings then retrace_to last current else quiet_turn forest last

-- ---- calls

-- A new span, which is already in the forest. If it is retraced to, it counts as printed before, so
-- its own row is a retrace row, as in tracing-tree.
abbrev pub turn_of_new : Settings → Context → Forest → Option Id → Id → Turn
turn_of_new settings context forest last i =
    let parent = parent_rows settings context forest settings.verbose_entry PreOpen i in
    let row = span_row settings context forest (Open settings.verbose_entry) i in
    if settings.deferred_spans then quiet_turn forest last
    else (if settings.span_retrace then retrace_to settings context (mark_printed i forest) last i
    else record { rows = parent ++ row ∷ []; forest = mark_printed i forest; last = Some i })

abbrev pub turn_of_event : Settings → Timer → Context → Forest → Option Id → Event → Turn
turn_of_event settings timer context forest last event =
    then_turn (turn_before_event settings context forest last (current_of forest context))
    (turn_of_row (event_row settings timer forest event context))

-- a span that closes, and its parent, which is the last span from then on; after a root the last
-- span stays, even if it is no longer live
abbrev pub close_turn : Settings → Context → Id → Forest → Option Id → Turn
close_turn settings context i forest last =
    let row = span_row settings context forest (Close settings.verbose_exit) i in
    let parent = parent_rows settings context forest settings.verbose_exit PostClose i in
    record { rows = row ∷ parent; forest = forest; last = option_or (parent_of forest i) last }

-- the close of one span, while all that closes is still live: nothing if the span was deferred and
-- never printed
abbrev pub turn_of_close : Settings → Context → Forest → Option Id → Id → Turn
turn_of_close settings context forest last i =
    if settings.deferred_spans && not (is_printed forest i) then quiet_turn forest last
    else (if retraces_before_close settings forest last i
    then then_turn (retrace_to settings context forest last i) (close_turn settings context i)
    else close_turn settings context i forest last)

-- the closes of these spans, one after another
abbrev pub turn_of_closes : Settings → Context → List Id → Forest → Option Id → Turn
turn_of_closes settings context [] forest last = quiet_turn forest last
turn_of_closes settings context (i ∷ others) forest last =
    then_turn (turn_of_close settings context forest last i)
    (turn_of_closes settings context others)
