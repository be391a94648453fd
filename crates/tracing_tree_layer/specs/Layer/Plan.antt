-- What a call will do, before any of it is done. No public contract names it.
use Rattle.std.specs.Prelude.{Bool, false, not, ◌&&◌, if◌then◌else◌, List, [], ◌∷◌, ◌++◌, map, Option, Some, None, is_some}
use Rattle.std.specs.Option.{option_map_or, option_or}
use Rattle.tracing_tree_drawing.specs.Format.Settings.{Settings, retraces}
use Rattle.tracing_tree_drawing.specs.Format.Texts.{prefix_text}
use Rattle.tracing_tree_spans.specs.Registry.Forest.{Forest, is_printed, parent_of, level_of, fresh_ids, mark_all}
use Rattle.tracing_tree_drawing.specs.Format.Picture.{Row}
use Rattle.tracing_tree_base.specs.declared.context.Id.{Id}
use Rattle.tracing_tree_base.specs.declared.context.Context.{Context}
use Rattle.tracing_tree_drawing.specs.declared.format.SpanMode.{SpanMode}
use Rattle.tracing_tree_drawing.specs.declared.format.SpanMode.TheVariants.{PreOpen, Open, Close, Retrace, PostClose}
use Rattle.tracing_tree_layer.specs.Layered.State.{Turn}
use Rattle.tracing_tree_layer.specs.Layer.Turns.{block_of}
use Rattle.tracing_tree_layer.specs.Layer.CloseRetrace.{retraces_before_close}
use Rattle.tracing_tree_layer.specs.declared.layer.path.Path.{Path}
use Rattle.tracing_tree_layer.specs.declared.layer.path.Path.TheVariants.{Borrowed, Walked}
use Rattle.tracing_tree_layer.specs.declared.layer.plan.PlannedRow.{PlannedRow}

-- the ids on a path
abbrev pub ids_of : Path → List Id
ids_of (Borrowed ids) = ids.now
ids_of (Walked ids) = ids.items

-- the rows about spans, the spans that become printed, and the last span afterwards
pub record PlanView : Type 0 where
  pub rows : List PlannedRow
  pub fresh : List Id
  pub last : Option Id

-- nothing to do, and the last span stays
abbrev pub empty_plan : Option Id → PlanView
empty_plan last = record { rows = []; fresh = []; last = last }

-- ---- what a plan does

-- the row that a planned row draws
abbrev pub row_of_planned : Settings → Context → Forest → PlannedRow → Row
row_of_planned settings context forest planned = record {
  mode = planned.mode;
  span = Some planned.id;
  level = planned.level;
  block = block_of settings forest planned.mode planned.id;
  prefix = prefix_text settings context;
}

abbrev pub rows_of_planned : Settings → Context → Forest → List PlannedRow → List Row
rows_of_planned settings context forest planned =
    map (row_of_planned settings context forest) planned

-- the turn of a plan
abbrev pub turn_of_plan : Settings → Context → Forest → PlanView → Turn
turn_of_plan settings context forest plan = record {
  rows = rows_of_planned settings context forest plan.rows;
  forest = mark_all plan.fresh forest;
  last = plan.last;
}

-- the forest once the fresh spans of a plan are marked
abbrev pub marked_by : PlanView → Forest → Forest
marked_by plan forest = mark_all plan.fresh forest

-- ---- rows

-- a row about a span
abbrev pub planned_row : Forest → SpanMode → Id → PlannedRow
planned_row forest mode i = record { mode = mode; id = i; level = level_of forest i }

-- a row about the parent of a span, if it is shown and there is a parent
abbrev pub planned_parent : Bool → Forest → SpanMode → Id → List PlannedRow
planned_parent shown forest mode i =
    if shown then option_map_or (λ parent. planned_row forest mode parent ∷ []) (parent_of forest i)
    []
    else []

-- further rows at the end of a plan
abbrev pub with_rows : List PlannedRow → PlanView → PlanView
with_rows rows plan = record plan { rows = plan.rows ++ rows }

-- ---- retracing

-- a span that was printed before is retraced, and any other opens
abbrev pub fresh_mode : Forest → Id → Bool → SpanMode
fresh_mode forest i verbose = if is_printed forest i then Retrace verbose else Open verbose

-- a row about a fresh span; the first forest has the marks, and both the same spans
abbrev pub planned_fresh : Forest → Forest → Bool → Id → PlannedRow
planned_fresh marked forest verbose i = planned_row forest (fresh_mode marked i verbose) i

-- the rows about fresh spans: the first is verbose if its parent is shown before it
abbrev pub planned_fresh_rows : Settings → Forest → Forest → List Id → List PlannedRow
planned_fresh_rows settings marked forest [] = []
planned_fresh_rows settings marked forest (first ∷ others) =
    planned_parent settings.verbose_entry forest PreOpen first
    ++ planned_fresh marked forest (settings.verbose_entry && is_some (parent_of forest first))
    first
    ∷ map (planned_fresh marked forest false) others

-- the spans that a plan has to show again, or for the first time, down to the span of this id
abbrev pub fresh_after : Forest → Id → PlanView → List Id
fresh_after forest i plan = fresh_ids forest plan.last i

-- The span is retraced to: its fresh spans are shown and printed, and it is the last span.
abbrev pub retraced_plan : Settings → Forest → Id → PlanView → PlanView
retraced_plan settings forest i plan = record {
  rows = plan.rows
      ++ planned_fresh_rows settings (marked_by plan forest) forest (fresh_after forest i plan);
  fresh = plan.fresh ++ fresh_after forest i plan;
  last = Some i;
}

-- ---- calls

-- a new span is printed at once, unless spans are deferred
abbrev pub plan_of_new : Settings → Forest → Id → PlanView → PlanView
plan_of_new settings forest i plan =
    let printed = record plan { fresh = plan.fresh ++ i ∷ [] } in
    if settings.deferred_spans then plan
    else (if settings.span_retrace then retraced_plan settings forest i printed
    else record printed {
      rows = plan.rows ++ planned_parent settings.verbose_entry forest PreOpen i
          ++ planned_row forest (Open settings.verbose_entry) i ∷ [];
      last = Some i;
    })

-- before an event its current span is retraced to, if it is live and the settings say so
abbrev pub plan_before_event : Settings → Forest → Option Id → PlanView → PlanView
plan_before_event settings forest None plan = plan
plan_before_event settings forest (Some current) plan =
    if retraces settings then retraced_plan settings forest current plan else plan

-- a span closes, and its parent is the last span from then on
abbrev pub closed_plan : Settings → Forest → Id → PlanView → PlanView
closed_plan settings forest i plan = record plan {
  rows = plan.rows ++ planned_row forest (Close settings.verbose_exit) i
      ∷ planned_parent settings.verbose_exit forest PostClose i;
  last = option_or (parent_of forest i) plan.last;
}

-- the close of one span: nothing if the span was deferred and never printed
abbrev pub plan_of_close : Settings → Forest → Id → PlanView → PlanView
plan_of_close settings forest i plan =
    if settings.deferred_spans && not (is_printed (marked_by plan forest) i) then plan
    else (if retraces_before_close settings (marked_by plan forest) plan.last i
    then closed_plan settings forest i (retraced_plan settings forest i plan)
    else closed_plan settings forest i plan)

-- the closes of these spans, one after another
abbrev pub plan_of_closes : Settings → Forest → List Id → PlanView → PlanView
plan_of_closes settings forest [] plan = plan
plan_of_closes settings forest (i ∷ others) plan =
    plan_of_closes settings forest others (plan_of_close settings forest i plan)
