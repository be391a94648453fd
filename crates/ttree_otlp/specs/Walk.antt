-- The rows of an input nested by their ids, in drawing order.
use Rattle.std.specs.Prelude.{ℕ, ◌-◌, ◌*◌, ◌^◌, nat_lt, zero, suc, min, Bool, true, false, if◌then◌else◌, List, [], ◌∷◌, ◌++◌, length, Option, Some, None, unwrap_or}
use Rattle.ttree_otlp.specs.Keyed.{after_first, first_kept, first_time, head_of, kept_at, key_of, tail_of, trace_of, with_kept, without_kept}
use Rattle.ttree_otlp.specs.declared.item.Item.{Item}
use Rattle.ttree_otlp.specs.declared.item.Shape.{Shape}
use Rattle.ttree_otlp.specs.declared.item.Shape.TheVariants.{Trace, Span, Note, LeftOut}
use Rattle.ttree_otlp.specs.declared.walk.Row.{Row}

-- The rows that aren't nested in an open span, the rows that are left in what is open with the
-- innermost first, and the rows so far.
pub record WalkState : Type 0 where
  pub groups : List (List ℕ × List Item)
  pub frames : List (List Item)
  pub rows : List Row

-- ---- rows by the span that they are in

abbrev pub key_in : Item → List ℕ
key_in item = key_of item.trace item.parent

-- a row before the rows of its span that are already there
abbrev pub put_first : Item → List (List ℕ × List Item) → List (List ℕ × List Item)
put_first item groups =
    with_kept (key_in item) (item ∷ unwrap_or (kept_at (key_in item) groups) []) groups

abbrev pub grouped : List Item → List (List ℕ × List Item)
grouped [] = []
grouped (item ∷ others) = put_first item (grouped others)

-- ---- what is open

abbrev pub is_trace : Shape → Bool
is_trace (Trace id) = true
is_trace (Span span) = false
is_trace (Note note) = false
is_trace (LeftOut count) = false

abbrev pub own_key_as : Shape → List ℕ → Option (List ℕ)
own_key_as (Trace id) trace = Some (key_of id [])
own_key_as (Span span) trace = Some (key_of trace span.id)
own_key_as (Note note) trace = None
own_key_as (LeftOut count) trace = None

-- the key of the rows that are nested in a row
abbrev pub own_key : Item → Option (List ℕ)
own_key item = own_key_as item.shape item.trace

-- a row is nested in all that is open except for the root
abbrev pub row_added : Item → WalkState → WalkState
row_added item s =
    record s { rows = s.rows ++ (record { depth = length s.frames - 1; item = item }) ∷ [] }

abbrev pub pushed : List Item → WalkState → WalkState
pushed group s = record s { frames = group ∷ s.frames }

abbrev pub row_opened : Item → List Item → WalkState → WalkState
row_opened item group s = pushed group (row_added item s)

abbrev pub without_group : List ℕ → WalkState → WalkState
without_group key s = record s { groups = without_kept key s.groups }

-- a trace without rows isn't shown
abbrev pub opened_as : Option (List Item) → Item → WalkState → WalkState
opened_as (Some group) item s = row_opened item group s
opened_as None item s = if is_trace item.shape then s else row_opened item [] s

abbrev pub entered_at : List ℕ → Item → WalkState → WalkState
entered_at key item s = opened_as (kept_at key s.groups) item (without_group key s)

abbrev pub entered_as : Option (List ℕ) → Item → WalkState → WalkState
entered_as (Some key) item s = entered_at key item s
entered_as None item s = row_added item s

abbrev pub item_entered : Item → WalkState → WalkState
item_entered item s = entered_as (own_key item) item s

-- ---- the walk

abbrev pub next_item : List (List Item) → Option Item
next_item [] = None
next_item (group ∷ below) = head_of group

abbrev pub after_item : List (List Item) → List (List Item)
after_item [] = []
after_item (group ∷ below) = tail_of group ∷ below

abbrev pub trace_item : List ℕ → ℕ → Item
trace_item id time = record {
  trace = [];
  parent = [];
  place = record { time = time; rank = 1; number = 0; index = 0 };
  time = time;
  shape = Trace id;
}

-- Rows that no root leads to are nested in each other. The rows of the first span of these are
-- shown in their trace.
abbrev pub left_over_as : Option (List Item) → WalkState → WalkState
left_over_as None s = s
left_over_as (Some group) s = row_opened (trace_item (trace_of group) (first_time group)) group s

abbrev pub left_over : WalkState → WalkState
left_over s = left_over_as (first_kept s.groups) (record s { groups = after_first s.groups })

-- the innermost span is left, but not the root
abbrev pub innermost_left : WalkState → WalkState
innermost_left s =
    if nat_lt 1 (length s.frames) then record s { frames = tail_of s.frames } else left_over s

abbrev pub stepped_as : Option Item → WalkState → WalkState
stepped_as (Some item) s = item_entered item s
stepped_as None s = innermost_left s

-- the next row of the innermost span; if no row is left, the span is left
abbrev pub walk_stepped : WalkState → WalkState
walk_stepped s = stepped_as (next_item s.frames) (record s { frames = after_item s.frames })

abbrev pub stepped_times : ℕ → WalkState → WalkState
stepped_times zero s = s
stepped_times (suc n) s = walk_stepped (stepped_times n s)

-- Each row is entered once and left once. Beyond that steps do nothing.
abbrev pub step_count : ℕ → ℕ
step_count rows = min (rows * 4) (2 ^ 64 - 1)

-- the rows that are in no trace, and the traces, are at the root
abbrev pub begun_walk : List (List ℕ × List Item) → WalkState
begun_walk groups = record {
  groups = without_kept (key_of [] []) groups;
  frames = unwrap_or (kept_at (key_of [] []) groups) [] ∷ [];
  rows = [];
}

-- rows, sorted by their places, in drawing order
abbrev pub rows_in_order : List Item → List Row
rows_in_order items =
    (stepped_times (step_count (length items)) (begun_walk (grouped items))).rows
