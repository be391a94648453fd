-- What the calls of a run do, one step after another.
use Rattle.std.specs.Prelude.{ℕ, ℤ, pos, ◌-ℤ◌, Bool, true, false, List, [], ◌∷◌, ◌++◌, map, Option, Some, None, decimal}
use Rattle.tracing_tree_base.specs.declared.context.Context.{Context}
use Rattle.tracing_tree_base.specs.declared.context.Id.{Id}
use Rattle.tracing_tree_layer.specs.declared.call.Call.{Call}
use Rattle.tracing_tree_layer.specs.declared.call.Call.TheVariants as Calls
use Rattle.tracing_tree_layer.specs.Layered.Step.{new_id}
use Rattle.tracing_tree_spans.specs.Registry.Forest.{Forest, named_parent, if_live, is_live, new_span, add_span, add_handle, closing_of, after_close}
use Rattle.tracing_tree_spans.specs.declared.registry.Attributes.{Attributes}
use Rattle.tracing_tree_spans.specs.declared.registry.Event as Recorded
use Rattle.tracing_tree_base.specs.declared.style.Level.{Level}
use Rattle.tracing_tree_base.specs.declared.field.Field.{Field}
use Rattle.tracing_tree_drawing.specs.Format.Texts.{thread_name_text}

-- when and in which thread a step happens: the nanoseconds of the monotonic clock, how far the wall
-- clock is ahead of it, and the thread
pub record Stamp : Type 0 where
  pub mono : ℕ
  pub ahead : ℤ
  pub thread : List ℕ

-- the number of a thread and its name, as a row's prefix shows both
abbrev pub thread_text : Context → List ℕ
thread_text context = decimal context.thread_id ++ thread_name_text true context.thread_name

abbrev pub stamp_of : Context → Stamp
stamp_of context = record {
  mono = context.moment.mono;
  ahead = context.moment.wall.nanosecond -ℤ pos context.moment.mono;
  thread = thread_text context;
}

-- A step: the start of a run with its title, a new span, fields that are recorded later, an event,
-- a span that closes, and the end of the run. Spans are named by their ids; 0 means no span.
pub data Step : Type 0 where
  About : (title : List ℕ) → Step
  New : (stamp : Stamp) (id parent : ℕ) (name target : List ℕ) (fields : List Field) → Step
  Record : (id : ℕ) (fields : List Field) → Step
  Event : (stamp : Stamp) (parent current : ℕ) (level : Level) (target : List ℕ)
      (fields : List Field) → Step
  Close : (stamp : Stamp) (id : ℕ) → Step
  End : Step

-- ---- the steps of calls

-- the number of a span that may be missing
abbrev pub span_number : Option Id → ℕ
span_number None = 0
span_number (Some i) = i.0

abbrev pub new_step : Context → Id → Attributes → Step
new_step context i attributes =
    New (stamp_of context) i.0 (span_number (named_parent attributes.parent context.current))
    attributes.name attributes.target attributes.fields

-- the event in its parent, while this span is the current one
abbrev pub event_step : Context → Option Id → Option Id → Recorded.Event → Step
event_step context parent current event =
    Event (stamp_of context) (span_number parent) (span_number current) event.level event.target
    event.fields

-- a record's call has no moment, and neither has its step
abbrev pub record_step : Id → List Field → Step
record_step i fields = Record i.0 fields

abbrev pub close_step : Context → Id → Step
close_step context i = Close (stamp_of context) i.0

-- a record of a live span
abbrev pub record_steps : Bool → Id → List Field → List Step
record_steps true i fields = record_step i fields ∷ []
record_steps false i fields = []

-- What an accepted call does. An event is in its span if that is live, otherwise at the root, and
-- its current span is named if that is live. A record of a span that isn't live does nothing. A
-- close has one step for each span that closes, the deepest first.
abbrev pub steps_of : Forest → Call → List Step
steps_of forest (Calls.New attributes context) =
    new_step context (new_id forest) attributes ∷ []
steps_of forest (Calls.Clone i) = []
steps_of forest (Calls.Record i values) = record_steps (is_live forest i) i values.fields
steps_of forest (Calls.Event event context) =
    event_step context (if_live forest (named_parent event.parent context.current))
    (if_live forest context.current) event ∷ []
steps_of forest (Calls.Close i context) = map (close_step context) (closing_of forest i)

-- the live spans after an accepted call; fields that are recorded later are written, and not kept
abbrev pub forest_after : Forest → Call → Forest
forest_after forest (Calls.New attributes context) =
    add_span (new_span (new_id forest) attributes context.current context.moment.mono) forest
forest_after forest (Calls.Clone i) = add_handle i forest
forest_after forest (Calls.Record i values) = forest
forest_after forest (Calls.Event event context) = forest
forest_after forest (Calls.Close i context) = after_close i forest
