-- The spans of a trace nested by time, and its events in them, as calls.
use Rattle.std.specs.Prelude.{ℕ, ◌+◌, ◌-◌, ◌^◌, ◌==◌, nat_le, min, max, pos, Bool, true, false, ◌||◌, if◌then◌else◌, List, [], ◌∷◌, ◌++◌, length, find, reverse, Option, Some, None, option_map, unwrap_or, codes}
use Rattle.tracing_tree_base.specs.Field.{rendered_field, whole_field}
use Rattle.tracing_tree_base.specs.declared.context.Id.{Id}
use Rattle.tracing_tree_base.specs.declared.context.Moment.{Moment}
use Rattle.tracing_tree_base.specs.declared.field.Field.{Field}
use Rattle.tracing_tree_base.specs.declared.style.Level.TheVariants.{Info}
use Rattle.tracing_tree_spans.specs.Registry.Ids.{id_of}
use Rattle.tracing_tree_layer.specs.declared.call.Call.{Call}
use Rattle.ttree_chrome.specs.Gather.{process_of, same_lane}
use Rattle.ttree_chrome.specs.Later.{is_long_item}
use Rattle.ttree_chrome.specs.Number.{zero_time}
use Rattle.ttree_chrome.specs.Strings.{label_field, same_label}
use Rattle.ttree_source.specs.Length.{length_text}
use Rattle.ttree_source.specs.Counts.{one_more}
use Rattle.ttree_source.specs.Calls.{close_call, event_call, message_field, span_call}
use Rattle.ttree_source.specs.declared.cut.Cut.{Cut}
use Rattle.ttree_chrome.specs.declared.gather.Item.{Item}
use Rattle.ttree_chrome.specs.declared.gather.Lane.{Lane}
use Rattle.ttree_chrome.specs.declared.gather.Name.{Name}
use Rattle.ttree_chrome.specs.declared.gather.Point.{Point}
use Rattle.ttree_chrome.specs.declared.gather.Shape.{Shape}
use Rattle.ttree_chrome.specs.declared.gather.Shape.TheVariants.{Event, Whole, Unended}
use Rattle.ttree_chrome.specs.declared.leaves.Leaves.{Leaves}
use Rattle.ttree_chrome.specs.declared.leaves.Leaves.TheVariants.{Rows, Spans}
use Rattle.ttree_chrome.specs.declared.strings.Label.{Label}
use Rattle.ttree_chrome.specs.declared.tree.Frame.{Frame}
use Rattle.ttree_chrome.specs.declared.tree.Left.{Left}
use Rattle.ttree_chrome.specs.declared.tree.Until.{Until}
use Rattle.ttree_chrome.specs.declared.tree.Until.TheVariants.{Depth, Ended}
use Rattle.ttree_chrome.specs.declared.tree.Waiting.{Waiting}

-- The id of the next span, the moment of the last item, the start of the drawing's clock, what is
-- left out, how leaves are drawn, the thread of the last item, what is open with the innermost
-- first and the root last, the innermost span if nothing was drawn in it yet and it may be a leaf,
-- the names of processes and threads and the strings that identify them, and the calls so far.
pub record TreeState : Type 0 where
  pub next : ℕ
  pub moment : Moment
  pub origin : ℕ
  pub cut : Cut
  pub leaves : Leaves
  pub lane : Option Lane
  pub frames : List Frame
  pub waiting : Option Waiting
  pub processes : List Name
  pub threads : List Name
  pub strings : List (List ℕ)
  pub calls : List Call

abbrev pub nothing_left_out : Left
nothing_left_out = record { spans = 0; time = 0; lane = None; until = 0 }

abbrev pub frame_of : Option Id → Option Id → Option Point → Frame
frame_of id parent end = record { id = id; parent = parent; end = end; left = nothing_left_out }

-- only the root is open
abbrev pub begun_tree :
    ℕ → Moment → ℕ → Cut → Leaves → List Name → List Name → List (List ℕ) → TreeState
begun_tree next moment origin cut leaves processes threads strings = record {
  next = next;
  moment = moment;
  origin = origin;
  cut = cut;
  leaves = leaves;
  lane = None;
  frames = frame_of None None None ∷ [];
  waiting = None;
  processes = processes;
  threads = threads;
  strings = strings;
  calls = [];
}

abbrev pub trace_call_emitted : Call → TreeState → TreeState
trace_call_emitted call s = record s { calls = s.calls ++ call ∷ [] }

-- the moment of a time
abbrev pub moment_at : ℕ → TreeState → Moment
moment_at time s = record s.moment { mono = time - s.origin }

abbrev pub at_moment : ℕ → TreeState → TreeState
at_moment time s = record s { moment = moment_at time s }

-- ---- leaves

-- a span opens at its start
abbrev pub span_opened : Waiting → TreeState → TreeState
span_opened span s =
    record (trace_call_emitted
    (span_call (moment_at span.start s) span.name span.fields span.parent) s) {
      next = one_more s.next;
    }

abbrev pub with_settled : Option Waiting → TreeState → TreeState
with_settled None s = s
with_settled (Some span) s = span_opened span (record s { waiting = None })

-- something is drawn in the innermost span: it isn't a leaf
abbrev pub settled : TreeState → TreeState
settled s = with_settled s.waiting s

abbrev pub trace_event_emitted : List Field → Option Id → TreeState → TreeState
trace_event_emitted fields parent s =
    trace_call_emitted (event_call s.moment Info fields parent) (settled s)

-- a leaf as an event at its start
abbrev pub leaf_call : Waiting → TreeState → Call
leaf_call span s =
    event_call (moment_at span.start s) Info (message_field span.name ∷ span.fields) span.parent

-- ---- what is open

-- the innermost span
abbrev pub id_on_top : List Frame → Option Id
id_on_top [] = None
id_on_top (frame ∷ below) = frame.id

abbrev pub current : TreeState → Option Id
current s = id_on_top s.frames

abbrev pub end_on_top : List Frame → Option Point
end_on_top [] = None
end_on_top (frame ∷ below) = frame.end

abbrev pub current_end : TreeState → Option Point
current_end s = end_on_top s.frames

abbrev pub waiting_in : Option Id → List ℕ → List Field → ℕ → Waiting
waiting_in parent name fields start = record {
  start = start;
  name = name;
  fields = fields;
  parent = parent;
}

abbrev pub put_in : Option Id → List ℕ → List Field → ℕ → Option Point → TreeState → TreeState
put_in parent name fields start end s = record s {
  frames = frame_of (Some (id_of s.next)) parent end ∷ s.frames;
  waiting = Some (waiting_in parent name fields start);
}

-- a span that starts at this time is the innermost one, and may be a leaf
abbrev pub put : List ℕ → List Field → ℕ → Option Point → TreeState → TreeState
put name fields start end s = put_in (current s) name fields start end (settled s)

-- ---- what is left

-- a point comes before another, or is equal to it
abbrev pub is_by : Point → Point → Bool
is_by point other =
    if point.time == other.time then nat_le point.index other.index else nat_le point.time
    other.time

abbrev pub ended_by : Option Point → Point → Bool
ended_by (Some end) point = is_by end point
ended_by None point = false

-- an open span with `below` spans below it is left
abbrev pub is_left : Until → Frame → ℕ → Bool
is_left (Depth depth) frame below = nat_le depth below
is_left (Ended point) frame below = ended_by frame.end point

abbrev pub leaving : Until → List Frame → Option Frame
leaving until [] = None
leaving until (frame ∷ below) = if is_left until frame (length below) then Some frame else None

abbrev pub leaving_count : Until → List Frame → ℕ
leaving_count until [] = 0
leaving_count until (frame ∷ below) = if is_left until frame (length below) then 1 else 0

abbrev pub length_field : ℕ → Field
length_field nanoseconds = rendered_field (codes "time") (length_text nanoseconds)

-- a span from which spans were left out says how many, and how long they took together
abbrev pub left_out_emitted : Frame → TreeState → TreeState
left_out_emitted frame s =
    if frame.left.spans == 0 then s
    else trace_event_emitted
    (message_field (codes "left out") ∷ whole_field (codes "spans") (pos frame.left.spans)
    ∷ length_field frame.left.time ∷ []) frame.id s

abbrev pub at_end : Option Point → TreeState → TreeState
at_end (Some end) s = at_moment end.time s
at_end None s = s

abbrev pub span_closed : Option Id → Option Id → TreeState → TreeState
span_closed (Some id) parent s = trace_call_emitted (close_call s.moment id parent) s
span_closed None parent s = s

abbrev pub closed_as : Option Waiting → Frame → TreeState → TreeState
closed_as None frame s = span_closed frame.id frame.parent s
closed_as (Some span) frame s = trace_call_emitted (leaf_call span s) (record s { waiting = None })

-- a span closes, or it is a leaf
abbrev pub closed_or_leaf : Frame → TreeState → TreeState
closed_or_leaf frame s = closed_as s.waiting frame s

abbrev pub frame_left : Frame → TreeState → TreeState
frame_left frame s = closed_or_leaf frame (left_out_emitted frame (at_end frame.end s))

-- spans are left from the innermost on
abbrev pub left_while : Until → List Frame → TreeState → TreeState
left_while until [] s = s
left_while until (frame ∷ below) s =
    if is_left until frame (length below)
    then left_while until below (frame_left frame (record s { frames = below })) else s

-- ---- processes and threads

abbrev pub is_lane : Lane → Option Lane → Bool
is_lane lane (Some before) = same_lane lane before
is_lane lane None = false

abbrev pub is_in_process : Lane → Option Lane → Bool
is_in_process lane (Some before) = same_label lane.process before.process
is_in_process lane None = false

abbrev pub text_in : Name → List ℕ
text_in name = name.text

abbrev pub is_of_lane : Lane → Name → Bool
is_of_lane lane name = same_lane name.lane lane

abbrev pub emitted_name : List Name → Lane → Option (List ℕ)
emitted_name names lane = option_map text_in (find (is_of_lane lane) (reverse names))

-- the name of a process or a thread, by the last element that names it
abbrev pub lane_name : List Name → Lane → List ℕ → List ℕ
lane_name names lane unnamed = unwrap_or (emitted_name names lane) unnamed

-- the count of levels above the threads of a process
abbrev pub process_depth : Lane → ℕ
process_depth lane = depth_of lane.process where
  depth_of : Option Label → ℕ
  depth_of (Some process) = 2
  depth_of None = 1

abbrev pub is_within : ℕ → Option ℕ → Bool
is_within levels (Some depth) = nat_le levels depth
is_within levels None = true

-- one more span isn't too deep; the root counts as open, too
abbrev pub fits_depth : TreeState → Bool
fits_depth s = is_within (length s.frames) s.cut.depth

-- the span of a process or a thread opens at this time, unless it would be too deep
abbrev pub lane_opened : List ℕ → Field → ℕ → TreeState → TreeState
lane_opened name field time s =
    if fits_depth s then settled (put name (field ∷ []) time None s) else s

abbrev pub process_opened_as : Option Label → Lane → ℕ → TreeState → TreeState
process_opened_as (Some process) lane time s =
    lane_opened (lane_name s.processes (process_of lane) (codes "process"))
    (label_field (codes "pid") process s.strings) time s
process_opened_as None lane time s = s

abbrev pub process_opened : Lane → ℕ → TreeState → TreeState
process_opened lane time s = process_opened_as lane.process lane time s

abbrev pub thread_opened_as : Option Label → Lane → ℕ → TreeState → TreeState
thread_opened_as (Some thread) lane time s =
    lane_opened (lane_name s.threads lane (codes "thread"))
    (label_field (codes "tid") thread s.strings) time s
thread_opened_as None lane time s = s

-- the previous process is left, unless it is this one; then its previous thread is left
abbrev pub entered_process : Lane → ℕ → TreeState → TreeState
entered_process lane time s =
    if is_in_process lane s.lane then left_while (Depth (process_depth lane)) s.frames s
    else process_opened lane time (at_moment time (left_while (Depth 1) s.frames s))

abbrev pub entered_thread : Lane → ℕ → TreeState → TreeState
entered_thread lane time s = thread_opened_as lane.thread lane time (at_moment time s)

-- the previous thread is left for this one
abbrev pub lane_entered : Lane → ℕ → TreeState → TreeState
lane_entered lane time s =
    if is_lane lane s.lane then s
    else record (entered_thread lane time (entered_process lane time s)) { lane = Some lane }

-- ---- items

abbrev pub within : Point → Option Point → Point
within end (Some parent) = if is_by end parent then end else parent
within end None = end

abbrev pub end_as : Shape → Item → Option Point → Option Point
end_as Event item parent = parent
end_as Whole item parent = Some (within item.end parent)
end_as Unended item parent = parent

-- where a span ends: at the latest where the one above does
abbrev pub span_end : Item → Option Point → Option Point
span_end item parent = end_as item.shape item parent

abbrev pub fields_as : Shape → Item → List Field
fields_as Event item = []
fields_as Whole item = length_field (item.end.time - item.start.time) ∷ []
fields_as Unended item = []

-- how long a span took, if that is known
abbrev pub duration_fields : Item → List Field
duration_fields item = fields_as item.shape item

-- a span may be a leaf if its end is known and leaves are rows
abbrev pub may_be_leaf : Leaves → Shape → Bool
may_be_leaf Spans shape = false
may_be_leaf Rows Event = false
may_be_leaf Rows Whole = true
may_be_leaf Rows Unended = false

abbrev pub span_put : Item → TreeState → TreeState
span_put item s =
    put item.name (duration_fields item ++ item.fields) item.start.time
    (span_end item (current_end s)) s

abbrev pub item_span_shown : Item → TreeState → TreeState
item_span_shown item s =
    if may_be_leaf s.leaves item.shape then span_put item s else settled (span_put item s)

abbrev pub extent_as : Shape → Item → ℕ
extent_as Event item = item.start.time
extent_as Whole item = item.end.time
extent_as Unended item = item.start.time

-- up to when a span is known to last
abbrev pub extent : Item → ℕ
extent item = extent_as item.shape item

-- up to which time what was left out is counted in the thread of this span
abbrev pub counted_until : Item → Left → ℕ
counted_until item was = if is_lane item.lane was.lane then was.until else 0

-- What was left out, and this span too. The time of a thread in which another span was left out
-- already isn't counted again.
abbrev pub with_left_out : Item → Left → Left
with_left_out item was = record {
  spans = one_more was.spans;
  time = min (was.time + (extent item - max item.start.time (counted_until item was))) (2 ^ 64 - 1);
  lane = Some item.lane;
  until = max (counted_until item was) (extent item);
}

abbrev pub added_on_top : Item → List Frame → List Frame
added_on_top item [] = []
added_on_top item (frame ∷ below) = record frame { left = with_left_out item frame.left } ∷ below

-- a span counts as left out in the innermost
abbrev pub span_left_out : Item → TreeState → TreeState
span_left_out item s = record s { frames = added_on_top item s.frames }

abbrev pub span_placed : Item → TreeState → TreeState
span_placed item s = if fits_depth s then item_span_shown item s else span_left_out item s

abbrev pub event_shown : Item → TreeState → TreeState
event_shown item s = trace_event_emitted (message_field item.name ∷ item.fields) (current s) s

abbrev pub placed_as : Shape → Item → TreeState → TreeState
placed_as Event item s = event_shown item s
placed_as Whole item s = span_placed item s
placed_as Unended item s = span_placed item s

-- an item is drawn in the innermost span
abbrev pub item_placed : Item → TreeState → TreeState
item_placed item s = placed_as item.shape item s

abbrev pub left_by : Point → TreeState → TreeState
left_by point s = left_while (Ended point) s.frames s

-- where a span that is too short counts: in its thread if that is drawn, otherwise in its process
-- if that is, otherwise at the root
abbrev pub shown_lane : Item → TreeState → Lane
shown_lane item s =
    if is_lane item.lane s.lane || item.later.in_thread then item.lane
    else if is_in_process item.lane s.lane || item.later.in_process then process_of item.lane
    else record { process = None; thread = None; track = None }

-- a span that is too short counts as left out in the innermost
abbrev pub passed_over : Item → TreeState → TreeState
passed_over item s =
    span_left_out item (left_by item.start (lane_entered (shown_lane item s) item.start.time s))

-- An item is drawn in the innermost span of its thread that hasn't ended.
abbrev pub item_stepped : Item → TreeState → TreeState
item_stepped item s =
    if is_long_item item s.cut.min_time
    then item_placed item
    (at_moment item.start.time (left_by item.start (lane_entered item.lane item.start.time s)))
    else passed_over item s

-- where the clock of the drawing starts: at the trace's zero, or at the first item before it
abbrev pub clock_start : List Item → ℕ
clock_start [] = zero_time
clock_start (item ∷ others) = min item.start.time (clock_start others)

abbrev pub stepped_all : List Item → TreeState → TreeState
stepped_all [] s = s
stepped_all (item ∷ others) s = stepped_all others (item_stepped item s)

-- all that is open closes
abbrev pub trace_finished : TreeState → TreeState
trace_finished s = left_while (Depth 0) s.frames s
