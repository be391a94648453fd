-- Which items of a trace are drawn, and after which of them others of their thread and their
-- process are.
use Rattle.std.specs.Prelude.{ℕ, ◌-◌, nat_le, Bool, true, ◌&&◌, ◌||◌, List, [], ◌∷◌, Option, Some, None}
use Rattle.ttree_chrome.specs.Gather.{none_later, same_lane}
use Rattle.ttree_chrome.specs.Strings.{same_label}
use Rattle.ttree_chrome.specs.declared.gather.Item.{Item}
use Rattle.ttree_chrome.specs.declared.gather.Later.{Later}
use Rattle.ttree_chrome.specs.declared.gather.Shape.{Shape}
use Rattle.ttree_chrome.specs.declared.gather.Shape.TheVariants.{Event, Whole, Unended}

abbrev pub is_long_as : Shape → Item → ℕ → Bool
is_long_as Event item min_duration = true
is_long_as Whole item min_duration = nat_le min_duration (item.end.time - item.start.time)
is_long_as Unended item min_duration = true

-- an item is drawn, if shorter spans are left out
abbrev pub is_long_item : Item → ℕ → Bool
is_long_item item min_duration = is_long_as item.shape item min_duration

abbrev pub with_later : Later → Item → Item
with_later later item = record item { later = later }

-- what comes after an item, by the next one: that is drawn, or one after it
abbrev pub later_by : ℕ → Item → Option Item → Later
later_by min_duration item None = none_later
later_by min_duration item (Some next) = record {
  in_thread =
      same_lane next.lane item.lane && (is_long_item next min_duration || next.later.in_thread);
  in_process =
      same_label next.lane.process item.lane.process
      && (is_long_item next min_duration || next.later.in_process);
}

abbrev pub first_of : List Item → Option Item
first_of [] = None
first_of (item ∷ others) = Some item

-- items in their order, each with what comes after it: items of one thread are adjacent, and so are
-- those of one process
abbrev pub marked : ℕ → List Item → List Item
marked min_duration [] = []
marked min_duration (item ∷ others) =
    let rest : List Item = marked min_duration others in
    with_later (later_by min_duration item (first_of rest)) item ∷ rest
