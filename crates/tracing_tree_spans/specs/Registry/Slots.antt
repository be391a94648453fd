-- A list of spans with gaps, in the order of their ids.
use Rattle.std.specs.Prelude.{◌≡◌, ℕ, nat_lt, Bool, true, false, IsTrue, List, [], ◌∷◌, map, length, Option, Some, None, ⊤}
use Rattle.std.specs.List.{list_all}
use Rattle.tracing_tree_spans.specs.Registry.Ids.{same_id}
use Rattle.tracing_tree_spans.specs.Registry.Spans.{KeptSpan}
use Rattle.tracing_tree_base.specs.declared.context.Id.{Id}
use Rattle.tracing_tree_spans.specs.declared.registry.slot.Slot.{Slot}
use Rattle.tracing_tree_spans.specs.declared.registry.slot.Slot.TheVariants.{Live, Gone}

-- the id of the span that is or was stored here
abbrev pub slot_id : Slot → Id
slot_id (Live node) = node.span.id
slot_id (Gone i) = i

-- the span that is stored here, if it is live
abbrev pub slot_node : Slot → Option KeptSpan
slot_node (Live node) = Some node
slot_node (Gone i) = None

abbrev pub is_gone : Slot → Bool
is_gone (Live node) = false
is_gone (Gone i) = true

abbrev pub slot_has : Id → Slot → Bool
slot_has i slot = same_id (slot_id slot) i

-- the spans that are stored here, without the gaps
abbrev pub present : List Slot → List KeptSpan
present [] = []
present (Live node ∷ slots) = node ∷ present slots
present (Gone i ∷ slots) = present slots

abbrev pub slot_ids : List Slot → List Id
slot_ids slots = map slot_id slots

-- each id is below those after it
abbrev pub AreRising : List Id → Type 0
AreRising [] = ⊤
AreRising (i ∷ ids) = IsTrue (list_all (λ j. nat_lt i.0 j.0) ids) × AreRising ids

-- whether the last place is a gap
abbrev pub ends_in_gap : List Slot → Bool
ends_in_gap [] = false
ends_in_gap (slot ∷ []) = is_gone slot
ends_in_gap (slot ∷ next ∷ slots) = ends_in_gap (next ∷ slots)

-- the ids rise, the last place isn't a gap, and this many places aren't gaps
pub record IsLaidOut (slots : List Slot) (live : ℕ) : Type 0 where
  pub rising : AreRising (slot_ids slots)
  pub ends : ends_in_gap slots ≡ false
  pub counted : live ≡ length (present slots)
