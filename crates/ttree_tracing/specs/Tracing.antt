-- Lines of Rust's tracing: what each line of tracing-subscriber's JSON format means.
use Rattle.std.specs.Prelude.{ℕ, ◌-◌, ◌&&◌, ◌||◌, nat_lt, Bool, true, false, not, if◌then◌else◌, List, [], ◌∷◌, ◌++◌, flat_map, length, map, reverse, find, position, remove, Option, Some, None, is_some, option_map, bytes_eq, codes}
use Rattle.std.specs.List.{list_any}
use Rattle.json.specs.Find.{as_object}
use Rattle.json.specs.Json.{Json}
use Rattle.tracing_tree_spans.specs.Registry.Ids.{id_of, same_id}
use Rattle.tracing_tree_base.specs.declared.context.Id.{Id}
use Rattle.tracing_tree_base.specs.declared.context.Moment.{Moment}
use Rattle.tracing_tree_base.specs.declared.field.Field.{Field}
use Rattle.tracing_tree_base.specs.Equal.{field_eq}
use Rattle.tracing_tree_base.specs.declared.style.Level.{Level}
use Rattle.tracing_tree_layer.specs.declared.call.Call.{Call}
use Rattle.tracing_tree_layer.specs.declared.call.Call.TheVariants.{Record as CallRecord}
use Rattle.tracing_tree_lines.specs.Lines.Spelled.{is_skipped}
use Rattle.ttree_source.specs.Source.{Step}
use Rattle.ttree_source.specs.declared.notes.Problem.{Problem}
use Rattle.ttree_source.specs.declared.notes.Problem.TheVariants.{Object, Level as NoLevel}
use Rattle.ttree_source.specs.Counts.{one_more}
use Rattle.ttree_source.specs.Values.{text_at}
use Rattle.ttree_source.specs.Moments.{moment_after}
use Rattle.ttree_source.specs.Calls.{all_on_thread, close_call, event_call, record_call, span_call}
use Rattle.ttree_source.specs.Levels.{level_in}
use Rattle.ttree_source.specs.Traces.{plain_event}
use Rattle.ttree_tracing.specs.TracingLine.{label_in, line_fields, line_kind, listed_span, may_be, parent_in, path_in, thread_in}
use Rattle.ttree_tracing.specs.declared.tracing.Live.{Live}
use Rattle.ttree_tracing.specs.declared.tracing.line.Listed.{Listed}
use Rattle.ttree_tracing.specs.declared.tracing.line.Kind.{Kind}
use Rattle.ttree_tracing.specs.declared.tracing.line.Kind.TheVariants.{Event, New, Enter, Exit, Close}

-- What is known of the live spans: the id of the next span, the moment of the last line and how its
-- thread is shown, the live spans with the oldest first, the last span of the last line, and the
-- calls that weren't returned yet.
pub record TracingState : Type 0 where
  pub next : ℕ
  pub moment : Moment
  pub thread_shown : Option (List ℕ)
  pub live : List Live
  pub at : Option Id
  pub calls : List Call

-- no span lives yet
abbrev pub nothing_open : ℕ → Moment → TracingState
nothing_open next moment = record {
  next = next;
  moment = moment;
  thread_shown = None;
  live = [];
  at = None;
  calls = [];
}

abbrev pub tracing_call_emitted : Call → TracingState → TracingState
tracing_call_emitted call s = record s { calls = s.calls ++ call ∷ [] }

abbrev pub tracing_event_emitted : Level → List Field → Option Id → TracingState → TracingState
tracing_event_emitted level fields parent s =
    tracing_call_emitted (event_call s.moment level fields parent) s

-- ---- which span is meant

abbrev pub same_above : Option Id → Option Id → Bool
same_above (Some one) (Some other) = same_id one other
same_above None None = true
same_above _ _ = false

-- a live span is nested in the one above, and an entry may be it
abbrev pub is_child : Option Id → Listed → Live → Bool
is_child parent listed one = same_above one.parent parent && may_be listed one.first

-- a live span is nested in the one above, and opened on this thread
abbrev pub is_child_of_thread : Option Id → List ℕ → Live → Bool
is_child_of_thread parent thread one = same_above one.parent parent && bytes_eq one.thread thread

abbrev pub live_id : Live → Id
live_id one = one.id

-- the newest of the spans that pass
abbrev pub newest : (Live → Bool) → List Live → Option Id
newest is live = option_map live_id (find is (reverse live))

abbrev pub child : List Live → Option Id → Listed → Option Id
child live parent listed = newest (is_child parent listed) live

abbrev pub may_be_first : Listed → Live → Bool
may_be_first listed one = may_be listed one.first

abbrev pub anywhere : List Live → Listed → Option Id
anywhere live listed = newest (may_be_first listed) live

abbrev pub child_of_thread : List Live → Option Id → List ℕ → Option Id
child_of_thread live parent thread = newest (is_child_of_thread parent thread) live

-- the span of an entry in the one above, otherwise one anywhere
abbrev pub id_or : Option Id → Option Id → Option Id
id_or (Some id) other = Some id
id_or None other = other

abbrev pub found : List Live → Option Id → Listed → Option Id
found live parent listed = id_or (child live parent listed) (anywhere live listed)

abbrev pub is_span : Id → Live → Bool
is_span id one = same_id one.id id

-- the span with this id, if it is live
abbrev pub live_span : List Live → Id → Option Live
live_span live id = find (is_span id) live

-- this id if its span is live
abbrev pub if_live : Option Id → List Live → Option Id
if_live (Some id) live = option_map live_id (live_span live id)
if_live None live = None

-- ---- fields that are recorded late

-- a span was listed with this field first, or it was recorded since then
abbrev pub is_known : Live → Field → Bool
is_known one field =
    list_any (λ f. field_eq f field) one.first.fields || list_any (λ f. field_eq f field) one.late

abbrev pub if_unknown : Live → Field → List Field
if_unknown one field = if is_known one field then [] else field ∷ []

-- the fields among these that aren't known of a span
abbrev pub unknown_in : Live → List Field → List Field
unknown_in one [] = []
unknown_in one (field ∷ others) = if_unknown one field ++ unknown_in one others

-- the fields of an entry that aren't known of the span with this id
abbrev pub late_in : Id → Listed → List Live → List Field
late_in id listed live = of_span (live_span live id) where
  of_span : Option Live → List Field
  of_span (Some one) = unknown_in one listed.fields
  of_span None = []

-- the fields of a span that were recorded late
abbrev pub late_of : Id → List Live → List Field
late_of id live = of_span (live_span live id) where
  of_span : Option Live → List Field
  of_span (Some one) = one.late
  of_span None = []

-- a span, which has these fields at its end if it has this id
abbrev pub with_late : Id → List Field → Live → Live
with_late id late one = if same_id one.id id then record one { late = one.late ++ late } else one

-- these fields are recorded, if there are any
abbrev pub learned : Id → List Field → TracingState → TracingState
learned id [] s = s
learned id (field ∷ others) s = record (tracing_call_emitted (record_call id (field ∷ others)) s) {
  live = map (with_late id (field ∷ others)) s.live;
}

-- the fields of an entry that aren't known of its span are recorded
abbrev pub met : Option Id → Listed → TracingState → TracingState
met (Some id) listed s = learned id (late_in id listed s.live) s
met None listed s = s

-- ---- closes

abbrev pub is_in : Option Id → List Id → Bool
is_in (Some parent) gone = list_any (same_id parent) gone
is_in None gone = false

-- a span is one of these or is nested in one
abbrev pub goes_with : Live → List Id → Bool
goes_with one gone = list_any (same_id one.id) gone || is_in one.parent gone

-- the spans that closed, and what is known then
pub record Parting : Type 0 where
  pub gone : List Id
  pub state : TracingState

-- a span that closes with these is closed, and any other is kept
abbrev pub parted_one : Live → List Id → TracingState → Parting
parted_one one gone s =
    if goes_with one gone
    then record {
      gone = gone ++ one.id ∷ [];
      state = tracing_call_emitted (close_call s.moment one.id one.parent) s;
    }
    else record { gone = gone; state = record s { live = s.live ++ one ∷ [] } }

abbrev pub parted : List Live → List Id → TracingState → TracingState
parted [] gone s = s
parted (one ∷ others) gone s =
    let next = parted_one one gone s in
    parted others next.gone next.state

-- a span closes with all live spans in it
abbrev pub live_span_closed : Id → TracingState → TracingState
live_span_closed id s = parted s.live (id ∷ []) (record s { live = [] })

-- ---- the path to a span

-- a span, `None` above the root, and what is known then
pub record Place : Type 0 where
  pub at : Option Id
  pub state : TracingState

abbrev pub lives : Bool → List ℕ → Listed → Option Id → Id → Live
lives is_emitted thread listed parent id = record {
  id = id;
  parent = parent;
  first = listed;
  late = [];
  thread = thread;
  is_emitted = is_emitted;
}

-- a span opens
abbrev pub live_span_opened : Bool → List ℕ → Listed → Option Id → TracingState → Place
live_span_opened emitted_by_new thread listed parent s = record {
  at = Some (id_of s.next);
  state = record (tracing_call_emitted (span_call s.moment listed.name listed.fields parent) s) {
    next = one_more s.next;
    live = s.live ++ (lives emitted_by_new thread listed parent (id_of s.next)) ∷ [];
  };
}

-- no `new` reported a span
abbrev pub is_pending : Live → Bool
is_pending one = not one.is_emitted

-- how many of these spans were reported by no `new`, counted on from a number
abbrev pub with_pending : Live → ℕ → ℕ
with_pending one count = if one.is_emitted then count else one_more count

abbrev pub pending_from : ℕ → List Live → ℕ
pending_from count [] = count
pending_from count (one ∷ others) = pending_from (with_pending one count) others

abbrev pub without : Option ℕ → List Live → List Live
without (Some place) live = if nat_lt place (length live) then remove live place else live
without None live = live

-- The oldest span that no `new` reported is forgotten if 64 such spans are known in addition to the
-- `depth` of a line. Nothing is drawn: it opens again with the next line that lists it.
abbrev pub spared : ℕ → TracingState → TracingState
spared depth s =
    if nat_lt (pending_from 0 s.live - 64) depth then s
    else record s { live = without (position is_pending s.live) s.live }

-- A span opens that no `new` reported. Nothing closes: the log never said so.
abbrev pub unreported_opened : ℕ → List ℕ → Listed → Option Id → TracingState → Place
unreported_opened depth thread listed parent s =
    live_span_opened false thread listed parent (spared depth s)

abbrev pub at_or_begun : Option Id → ℕ → List ℕ → Listed → Option Id → TracingState → Place
at_or_begun (Some id) depth thread listed parent s = record { at = Some id; state = s }
at_or_begun None depth thread listed parent s = unreported_opened depth thread listed parent s

-- the span of an entry in the one above
abbrev pub entry_stepped : ℕ → List ℕ → Listed → Option Id → TracingState → Place
entry_stepped depth thread listed parent s =
    let id = child s.live parent listed in
    at_or_begun id depth thread listed parent (met id listed s)

-- the last of these spans of a line that lists `depth` of them, each in the one before it
abbrev pub reached : ℕ → List ℕ → List Listed → Option Id → TracingState → Place
reached depth thread [] parent s = record { at = parent; state = s }
reached depth thread (listed ∷ others) parent s =
    let next = entry_stepped depth thread listed parent s in
    reached depth thread others next.at next.state

-- the newest span that an entry may be; a root opens if there is no such span
abbrev pub parent_found : List ℕ → Listed → TracingState → Place
parent_found thread listed s =
    let id = anywhere s.live listed in
    at_or_begun id 1 thread listed None (met id listed s)

abbrev pub parent_or : Option Listed → List ℕ → Place → Place
parent_or (Some listed) thread place = parent_found thread listed place.state
parent_or None thread place = place

-- the span of a line: its parent, if it names one, otherwise the last of its spans
abbrev pub located : Kind → Json → TracingState → Place
located kind value s =
    let thread = thread_in value in
    let path = path_in kind value in
    parent_or (parent_in kind value) thread (reached (length path) thread path None s)

-- the fields of a span's close, if there is more to show than the message
abbrev pub times_emitted : Level → List Field → Id → TracingState → TracingState
times_emitted level fields id s =
    if nat_lt 1 (length fields) then tracing_event_emitted level fields (Some id) s else s

-- a span ends: an event shows its times and its late fields, if there are any, and it closes
abbrev pub live_span_ended : Level → List Field → Id → TracingState → TracingState
live_span_ended level fields id s =
    live_span_closed id (times_emitted level (fields ++ late_of id s.live) id s)

abbrev pub at_or_opened : Option Id → List ℕ → Listed → Option Id → TracingState → Place
at_or_opened (Some id) thread listed parent s = record { at = Some id; state = s }
at_or_opened None thread listed parent s = live_span_opened false thread listed parent s

-- The span of an entry, whose close is reported: the one in the span above, otherwise one
-- elsewhere. It opens if there is no such span.
abbrev pub closing : List ℕ → Listed → Option Id → TracingState → Place
closing thread listed parent s =
    let id = found s.live parent listed in
    at_or_opened id thread listed parent (met id listed s)

abbrev pub ended_if : Level → List Field → Option Id → TracingState → TracingState
ended_if level fields (Some id) s = live_span_ended level fields id s
ended_if level fields None s = s

abbrev pub close_of : Level → List Field → Option Listed → List ℕ → Option Id → TracingState →
    TracingState
close_of level fields (Some listed) thread parent s =
    let place = closing thread listed parent s in
    ended_if level fields place.at place.state
close_of level fields None thread parent s =
    ended_if level fields (child_of_thread s.live parent thread) s

abbrev pub close_emitted : Level → List Field → Json → Option Id → TracingState → TracingState
close_emitted level fields value parent s =
    close_of level fields (listed_span value) (thread_in value) parent s

abbrev pub new_of : Option Listed → List ℕ → Option Id → TracingState → TracingState
new_of (Some listed) thread parent s = (live_span_opened true thread listed parent s).state
new_of None thread parent s = s

abbrev pub new_emitted : Json → Option Id → TracingState → TracingState
new_emitted value parent s = new_of (listed_span value) (thread_in value) parent s

-- ---- lines

-- the fields that a call records of this span
abbrev pub recorded_of : Option Id → Call → List Field
recorded_of (Some at) (CallRecord id record_of_it) =
    if same_id id at then record_of_it.fields else []
recorded_of at call = []

abbrev pub recorded_in : Option Id → List Call → List Field
recorded_in at calls = flat_map (recorded_of at) calls

-- An event's last fields are those that its line records of the span: what a log shows of a span
-- for the first time isn't lost if no line closes the span.
abbrev pub acted_as : Kind → Level → List Field → Json → Place → TracingState
acted_as Event level fields value place =
    tracing_event_emitted level (fields ++ recorded_in place.at place.state.calls)
    place.at place.state
acted_as New level fields value place = new_emitted value place.at place.state
acted_as Enter level fields value place = place.state
acted_as Exit level fields value place = place.state
acted_as Close level fields value place = close_emitted level fields value place.at place.state

abbrev pub arrived : Place → Place
arrived place = record place { state = record place.state { at = place.at } }

-- a line of this level: its spans open unless they are live, and then it does what it says
abbrev pub acted : Level → Json → TracingState → TracingState
acted level value s =
    let fields = line_fields value in
    let kind = line_kind fields value in
    acted_as kind level fields value (arrived (located kind value s))

abbrev pub handed_out : TracingState → Step TracingState
handed_out s = record {
  calls = all_on_thread s.thread_shown s.calls;
  source = record s { calls = [] };
}

-- a line happens at its own time, on its own thread
abbrev pub at_line_place : Json → TracingState → TracingState
at_line_place value s = record s {
  moment = moment_after (text_at (codes "timestamp") value) s.moment;
  thread_shown = label_in value;
}

abbrev pub takes_value : Json → TracingState → Option (Step TracingState)
takes_value value s = option_map (λ level. handed_out (acted level value (at_line_place value s)))
    (level_in value)

-- a line that isn't a JSON object is an event in the last span of the line before it
abbrev pub plain_emitted : List ℕ → TracingState → TracingState
plain_emitted line s =
    if is_skipped line then s
    else tracing_call_emitted (plain_event s.moment line (if_live s.at s.live)) s

-- what a line means
abbrev pub tracing_takes : TracingState → List ℕ → Option Json → Option (Step TracingState)
tracing_takes s line None = Some (handed_out (plain_emitted line s))
tracing_takes s line (Some value) =
    if is_some (as_object value) then takes_value value s
    else Some (handed_out (plain_emitted line s))

abbrev pub tracing_problem : Option Json → Problem
tracing_problem None = Object
tracing_problem (Some value) = NoLevel

-- Nothing closes at the end: a row that closes a span says that the log closed it.
abbrev pub tracing_ends : TracingState → List Call
tracing_ends s = []

abbrev pub tracing_ended : TracingState → TracingState
tracing_ended s = s
