-- What the elements of a trace say together.
use Rattle.std.specs.Prelude.{ℕ, ◌+◌, ◌-◌, ◌^◌, ◌==◌, max, Bool, false, ◌&&◌, List, [], ◌∷◌, ◌++◌, take, drop, slice_get, Option, Some, None, if◌then◌else◌}
use Rattle.std.specs.Option.{option_cmp, option_eq}
use Rattle.std.specs.Ordering.{nat_cmp, ordering_then}
use Rattle.std.specs.declared.cmp.Ordering.{Ordering}
use Rattle.ttree_source.specs.Counts.{one_more}
use Rattle.ttree_chrome.specs.declared.element.Element.{Element}
use Rattle.ttree_chrome.specs.declared.element.Element.TheVariants.{Span, Begin, End, Instant, Async, ProcessName, ThreadName, Metadata, Undrawn}
use Rattle.ttree_chrome.specs.Keys.{Keys, key_number, with_key}
use Rattle.ttree_chrome.specs.Strings.{StringsState, ident_taken, label_cmp, label_of, no_strings, same_label}
use Rattle.ttree_chrome.specs.declared.element.Entry.{Entry}
use Rattle.ttree_chrome.specs.declared.element.Owner.{Owner}
use Rattle.ttree_chrome.specs.declared.element.Track.{Track}
use Rattle.ttree_chrome.specs.declared.element.Track.TheVariants.{Begin as TrackBegins, End as TrackEnds, Instant as TrackHappens}
use Rattle.ttree_chrome.specs.declared.gather.Item.{Item}
use Rattle.ttree_chrome.specs.declared.gather.Lane.{Lane}
use Rattle.ttree_chrome.specs.declared.gather.Later.{Later}
use Rattle.ttree_chrome.specs.declared.gather.Name.{Name}
use Rattle.ttree_chrome.specs.declared.gather.Placed.{Placed}
use Rattle.ttree_chrome.specs.declared.gather.Point.{Point}
use Rattle.ttree_chrome.specs.declared.gather.Shape.{Shape}
use Rattle.ttree_chrome.specs.declared.gather.Shape.TheVariants.{Event, Whole, Unended}

-- What elements said: what is drawn, the spans that began and haven't ended with the newest last,
-- the names of processes and threads, the strings that identify them, the asynchronous tracks, and
-- the counts of elements and of those without a row.
pub record GatheredState : Type 0 where
  pub items : List Item
  pub begun : List Item
  pub processes : List Name
  pub threads : List Name
  pub strings : StringsState
  pub tracks : Keys
  pub count : ℕ
  pub undrawn : ℕ

abbrev pub nothing_gathered : GatheredState
nothing_gathered = record {
  items = [];
  begun = [];
  processes = [];
  threads = [];
  strings = no_strings;
  tracks = [];
  count = 0;
  undrawn = 0;
}

-- the largest possible time
abbrev pub last_time : ℕ
last_time = 2 ^ 64 - 1

abbrev pub point : ℕ → ℕ → Point
point time index = record { time = time; index = index }

abbrev pub none_later : Later
none_later = record { in_thread = false; in_process = false }

-- an item whose end comes before all that starts at its time
abbrev pub item_of : Placed → ℕ → Shape → ℕ → Item
item_of one end shape index = record {
  lane = one.lane;
  start = point one.start index;
  end = point end 0;
  name = one.name;
  fields = one.fields;
  shape = shape;
  later = none_later;
}

-- the lane of a process, for items without a thread
abbrev pub process_of : Lane → Lane
process_of lane = record lane { thread = None; track = None }

abbrev pub same_lane : Lane → Lane → Bool
same_lane one other =
    same_label one.process other.process && same_label one.thread other.thread
    && option_eq (λ a b. a == b) one.track other.track

-- one place further, or here
abbrev pub further_or : Option ℕ → Bool → Option ℕ
further_or (Some at) is_here = Some (at + 1)
further_or None is_here = if is_here then Some 0 else None

-- the index of the last of these in the lane
abbrev pub last_in : List Item → Lane → Option ℕ
last_in [] lane = None
last_in (one ∷ others) lane = further_or (last_in others lane) (same_lane one.lane lane)

-- a span that began, with the contents of its end's element, which is at place `index`
abbrev pub whole : Item → Placed → ℕ → Item
whole one last index = record one {
  end = point (max one.start.time last.start) index;
  fields = one.fields ++ last.fields;
  shape = Whole;
}

abbrev pub drawn : Item → GatheredState → GatheredState
drawn one s = record s { items = s.items ++ one ∷ [] }

-- a span begins
abbrev pub began : Placed → ℕ → GatheredState → GatheredState
began one index s = record s { begun = s.begun ++ item_of one last_time Unended index ∷ [] }

-- an element that has no row
abbrev pub undrawn_one : GatheredState → GatheredState
undrawn_one s = record s { undrawn = one_more s.undrawn }

abbrev pub ended_one : Option Item → ℕ → Placed → ℕ → GatheredState → GatheredState
ended_one (Some one) at last index s =
    drawn (whole one last index) (record s { begun = take at s.begun ++ drop (at + 1) s.begun })
ended_one None at last index s = undrawn_one s

abbrev pub ended_at : Option ℕ → Placed → ℕ → GatheredState → GatheredState
ended_at (Some at) last index s = ended_one (slice_get s.begun at) at last index s
ended_at None last index s = undrawn_one s

-- the span of the lane that began last ends
abbrev pub lane_span_ended : Placed → ℕ → GatheredState → GatheredState
lane_span_ended last index s = ended_at (last_in s.begun last.lane) last index s

-- an event happens
abbrev pub happened : Placed → ℕ → GatheredState → GatheredState
happened one index s = drawn (item_of one one.start Event index) s

-- ---- processes and threads

abbrev pub lane_of : Owner → StringsState → Lane
lane_of owner strings = record {
  process = label_of owner.process strings;
  thread = label_of owner.thread (ident_taken owner.process strings);
  track = None;
}

abbrev pub entry_placed : Entry → StringsState → Placed
entry_placed entry strings = record {
  lane = lane_of entry.owner strings;
  start = entry.start;
  name = entry.name;
  fields = entry.fields;
}

-- the strings of a process and a thread are known
abbrev pub owned : Owner → GatheredState → GatheredState
owned owner s =
    record s { strings = ident_taken owner.thread (ident_taken owner.process s.strings) }

abbrev pub name_in_lane : Lane → List ℕ → Name
name_in_lane lane text = record { lane = lane; text = text }

abbrev pub process_named : Lane → List ℕ → GatheredState → GatheredState
process_named lane text s =
    record s { processes = s.processes ++ name_in_lane (process_of lane) text ∷ [] }

abbrev pub thread_named : Lane → List ℕ → GatheredState → GatheredState
thread_named lane text s = record s { threads = s.threads ++ name_in_lane lane text ∷ [] }

-- ---- asynchronous tracks

-- an entry in the asynchronous track with this number
abbrev pub on_track : ℕ → Placed → Placed
on_track number one = record one {
  lane = record { process = one.lane.process; thread = None; track = Some number };
}

abbrev pub tracked_as : Track → Placed → ℕ → GatheredState → GatheredState
tracked_as TrackBegins one index s = began one index s
tracked_as TrackEnds one index s = lane_span_ended one index s
tracked_as TrackHappens one index s = happened one index s

-- what an element of the asynchronous track with this key says
abbrev pub tracked : Track → Placed → List ℕ → ℕ → GatheredState → GatheredState
tracked track one key index s =
    tracked_as track (on_track (key_number key s.tracks) one) index
    (record s { tracks = with_key key s.tracks })

-- ---- elements

abbrev pub gathered_as : Element → ℕ → GatheredState → GatheredState
gathered_as (Span entry end) index s =
    drawn (item_of (entry_placed entry s.strings) end Whole index) (owned entry.owner s)
gathered_as (Begin entry) index s = began (entry_placed entry s.strings) index (owned entry.owner s)
gathered_as (End entry) index s =
    lane_span_ended (entry_placed entry s.strings) index (owned entry.owner s)
gathered_as (Instant entry) index s =
    happened (entry_placed entry s.strings) index (owned entry.owner s)
gathered_as (Async track entry key) index s =
    tracked track (entry_placed entry s.strings) key index (owned entry.owner s)
gathered_as (ProcessName owner text) index s =
    process_named (lane_of owner s.strings) text (owned owner s)
gathered_as (ThreadName owner text) index s =
    thread_named (lane_of owner s.strings) text (owned owner s)
gathered_as Metadata index s = s
gathered_as Undrawn index s = undrawn_one s

-- one more element
abbrev pub gathered_one : Element → GatheredState → GatheredState
gathered_one element s = gathered_as element s.count (record s { count = one_more s.count })

-- all that is drawn, even a span without an end
abbrev pub all_items : GatheredState → List Item
all_items s = s.items ++ s.begun

abbrev pub lane_cmp : Lane → Lane → Ordering
lane_cmp a b =
    ordering_then (option_cmp label_cmp a.process b.process)
    (ordering_then (option_cmp label_cmp a.thread b.thread) (option_cmp nat_cmp a.track b.track))

-- by process, thread and track, by the start, the longer first, and then in their order
abbrev pub item_cmp : Item → Item → Ordering
item_cmp a b =
    ordering_then
    (ordering_then (ordering_then (lane_cmp a.lane b.lane) (nat_cmp a.start.time b.start.time))
    (nat_cmp b.end.time a.end.time))
    (nat_cmp a.start.index b.start.index)
