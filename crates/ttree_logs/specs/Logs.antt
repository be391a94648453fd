-- JSON logs of services: what each line means.
use Rattle.std.specs.Prelude.{ℕ, if◌then◌else◌, List, [], ◌∷◌, ◌++◌, Option, Some, None, is_some, codes}
use Rattle.json.specs.Find.{as_object}
use Rattle.json.specs.Json.{Json}
use Rattle.tracing_tree_spans.specs.Registry.Ids.{id_of}
use Rattle.tracing_tree_base.specs.declared.context.Id.{Id}
use Rattle.tracing_tree_base.specs.declared.context.Moment.{Moment}
use Rattle.tracing_tree_base.specs.declared.field.Field.{Field}
use Rattle.tracing_tree_layer.specs.declared.call.Call.{Call}
use Rattle.tracing_tree_lines.specs.Lines.Spelled.{is_skipped}
use Rattle.ttree_source.specs.Source.{Step}
use Rattle.ttree_source.specs.declared.notes.Problem.{Problem}
use Rattle.ttree_source.specs.declared.notes.Problem.TheVariants.{Object}
use Rattle.ttree_source.specs.Counts.{one_more}
use Rattle.ttree_source.specs.Calls.{close_call, event_call, shown_text, span_call}
use Rattle.ttree_source.specs.Traces.{plain_event}
use Rattle.ttree_logs.specs.Groups.{group_span, with_group_span}
use Rattle.ttree_logs.specs.LogLine.{Group, group_in, group_key, line_level, log_event_fields, moment_in}

-- What is known of the groups: the given key, the id of the next span, the moment of
-- the last line, the span of each group, that of the last line's group, and the calls that weren't
-- returned yet.
pub record LogsState : Type 0 where
  pub asked : Option (List ℕ)
  pub next : ℕ
  pub moment : Moment
  pub groups : List (List ℕ × Id)
  pub at : Option Id
  pub calls : List Call

-- no group is known yet
abbrev pub no_group : ℕ → Moment → LogsState
no_group next moment = record {
  asked = None;
  next = next;
  moment = moment;
  groups = [];
  at = None;
  calls = [];
}

abbrev pub log_call_emitted : Call → LogsState → LogsState
log_call_emitted call s = record s { calls = s.calls ++ call ∷ [] }

-- ---- groups

-- a line is in this span, or at the root
abbrev pub arrived : Option Id → LogsState → LogsState
arrived at s = record s { at = at }

-- events are grouped by this key in place of their traces and requests
abbrev pub grouped_by : List ℕ → LogsState → LogsState
grouped_by key s = record s { asked = Some key }

abbrev pub id_field : List ℕ → Field
id_field id = record { name = codes "id"; value = shown_text id }

abbrev pub process_fields : Option (List ℕ) → List Field
process_fields (Some process) = (record { name = codes "pid"; value = shown_text process }) ∷ []
process_fields None = []

abbrev pub group_fields : Group → List Field
group_fields group = id_field group.id ∷ [] ++ process_fields group.process

-- the span of a new group opens, and nothing closes: no line says that a group ends
abbrev pub group_opened : Group → LogsState → LogsState
group_opened group s =
    record (log_call_emitted (span_call s.moment group.name (group_fields group) None) s) {
      next = one_more s.next;
      groups = with_group_span (group_key group) (id_of s.next) s.groups;
      at = Some (id_of s.next);
    }

abbrev pub at_or_opened : Option Id → Group → LogsState → LogsState
at_or_opened (Some span) group s = arrived (Some span) s
at_or_opened None group s = group_opened group s

-- a line enters the span of this group
abbrev pub group_entered : Group → LogsState → LogsState
group_entered group s = at_or_opened (group_span (group_key group) s.groups) group s

-- a line is in the span of its group; at the root if it has no group
abbrev pub located : Option Group → LogsState → LogsState
located (Some group) s = group_entered group s
located None s = arrived None s

-- ---- lines

abbrev pub log_event_emitted : Json → LogsState → LogsState
log_event_emitted value s =
    log_call_emitted (event_call s.moment (line_level value) (log_event_fields s.asked value) s.at)
    s

-- a line happens at its own time
abbrev pub at_line_time : Json → LogsState → LogsState
at_line_time value s = record s { moment = moment_in value s.moment }

-- an object is an event at its own time in the span of its group
abbrev pub object_emitted : Json → LogsState → LogsState
object_emitted value s =
    log_event_emitted value (located (group_in s.asked value) (at_line_time value s))

-- a line that isn't an object is an event where the last object was
abbrev pub plain_emitted : List ℕ → LogsState → LogsState
plain_emitted line s =
    if is_skipped line then s else log_call_emitted (plain_event s.moment line s.at) s

abbrev pub log_line_emitted : List ℕ → Option Json → LogsState → LogsState
log_line_emitted line None s = plain_emitted line s
log_line_emitted line (Some value) s =
    if is_some (as_object value) then object_emitted value s else plain_emitted line s

abbrev pub handed_out : LogsState → Step LogsState
handed_out s = record { calls = s.calls; source = record s { calls = [] } }

-- what a line means: each is known
abbrev pub logs_takes : LogsState → List ℕ → Option Json → Option (Step LogsState)
logs_takes s line value = Some (handed_out (log_line_emitted line value s))

abbrev pub logs_problem : Option Json → Problem
logs_problem value = Object

-- At the end only the group of the last line closes: the row of any other would be drawn again.
abbrev pub close_of : Moment → Option Id → List Call
close_of moment (Some span) = close_call moment span None ∷ []
close_of moment None = []

abbrev pub logs_ends : LogsState → List Call
logs_ends s = close_of s.moment s.at

abbrev pub logs_ended : LogsState → LogsState
logs_ended s = s
