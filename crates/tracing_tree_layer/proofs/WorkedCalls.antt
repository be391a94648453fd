-- Settings and calls of the worked examples.
use Rattle.std.specs.Prelude.{ℕ, true, false, List, [], ◌∷◌, Some, None, codes, pos}
use Rattle.jiff_core.specs.Timestamp.{IsTimestampNanos}
use Rattle.jiff_core.specs.declared.timestamp.Timestamp.{Timestamp}
use Rattle.tracing_tree_drawing.specs.Format.Settings.{Settings, default_settings}
use Rattle.tracing_tree_spans.specs.Registry.Ids.{id_of}
use Rattle.tracing_tree_base.specs.Field.{rendered_field}
use Rattle.tracing_tree_time.specs.Clock.{no_timer}
use Rattle.tracing_tree_base.specs.declared.context.Context.{Context}
use Rattle.tracing_tree_base.specs.declared.field.Field.{Field}
use Rattle.tracing_tree_spans.specs.declared.registry.Parent.{Parent}
use Rattle.tracing_tree_spans.specs.declared.registry.Parent.TheVariants.{Current}
use Rattle.tracing_tree_base.specs.declared.style.Level.{Level}
use Rattle.tracing_tree_base.specs.declared.style.Level.TheVariants.{Info, Warn}
use Rattle.tracing_tree_layer.specs.Layered.State.{State, opening_state}
use Rattle.tracing_tree_output.specs.Writers.{SeenWriter}
use Rattle.tracing_tree_layer.specs.Layered.Run.{run, text_of}
use Rattle.tracing_tree_layer.specs.declared.call.Call.{Call}
use Rattle.tracing_tree_layer.specs.declared.call.Call.TheVariants.{New, Event, Close}

-- amount 2, no colours and all other options off
abbrev pub plain : Settings
plain = record default_settings { ansi = false }

-- the same with lines
abbrev pub lined : Settings
lined = record plain { indent_lines = true }

-- the start of 1970 is an instant
pub start_in_range : IsTimestampNanos (pos 0)
start_in_range = (Prim.search, Prim.search)

abbrev pub start_of_1970 : Timestamp
start_of_1970 = record { nanosecond = pos 0; in_range = start_in_range }

-- no current span
abbrev pub outside : Context
outside = record { current = None; thread_id = 1; thread_name = None; moment = record { mono = 0; wall = start_of_1970 } }

abbrev pub inside : ℕ → Context
inside i = record outside { current = Some (id_of i) }

-- a new span, with this current span
abbrev pub made_with : List Field → List ℕ → Context → Call
made_with fields name context = New (record { name = name; target = []; parent = Current; fields = fields }) context

abbrev pub made : List ℕ → Context → Call
made name context = made_with [] name context

abbrev pub message : List ℕ → Field
message text = rendered_field (codes "message") text

abbrev pub emitted : Level → Parent → List Field → Context → Call
emitted level parent fields context = Event (record { level = level; target = []; parent = parent; fields = fields }) context

abbrev pub informed : List ℕ → Context → Call
informed text context = emitted Info Current (message text ∷ []) context

abbrev pub warned : List ℕ → Context → Call
warned text context = emitted Warn Current (message text ∷ []) context

abbrev pub closed : ℕ → Call
closed i = Close (id_of i) outside

-- what a run writes from the start, without a timer
abbrev pub written : Settings → List Call → List ℕ
written settings calls = text_of settings no_timer (opening_state (Some (id_of 1))) calls

-- the state after a run from the start
abbrev pub left_by : Settings → List Call → State
left_by settings calls = (run settings no_timer (opening_state (Some (id_of 1))) calls).state

-- what the last calls write after the first ones
abbrev pub written_after : Settings → List Call → List Call → List ℕ
written_after settings first calls = text_of settings no_timer (left_by settings first) calls

-- the root `a` and its child `b`
abbrev pub root_and_child : List Call
root_and_child = made (codes "a") outside ∷ made (codes "b") (inside 1) ∷ []

-- the roots `a` and `b`
abbrev pub two_roots : List Call
two_roots = made (codes "a") outside ∷ made (codes "b") outside ∷ []

-- what further calls write once the root `a` is made
abbrev pub written_after_root : Settings → List Call → List ℕ
written_after_root settings calls = written_after settings (made (codes "a") outside ∷ []) calls

-- at this time on the monotonic clock
abbrev pub at_mono : ℕ → Context → Context
at_mono mono context = record context { moment = record context.moment { mono = mono } }

-- a writer in memory that holds these bytes
abbrev pub holding : List ℕ → SeenWriter
holding bytes = record { bytes = Some bytes; faults = 0; whole = true }
