-- Spans that have nothing in them, computed from the definitions.
use Rattle.std.proofs.Common.{◌≡◌, ℕ, ◌+◌, ◌^◌, List, [], ◌∷◌, Some, None, codes, refl}
use Rattle.tracing_tree_base.specs.declared.context.Id.{Id}
use Rattle.tracing_tree_base.specs.declared.context.Moment.{Moment}
use Rattle.tracing_tree_layer.specs.declared.call.Call.{Call}
use Rattle.tracing_tree_base.specs.declared.style.Level.TheVariants.{Info}
use Rattle.tracing_tree_spans.specs.Registry.Ids.{id_of}
use Rattle.ttree_source.specs.Calls.{close_call, event_call, message_field, span_call}
use Rattle.ttree_source.specs.declared.cut.Cut.{Cut}
use Rattle.ttree_chrome.specs.Gather.{none_later, nothing_gathered, point}
use Rattle.ttree_chrome.specs.Trace.{calls_in_order}
use Rattle.ttree_chrome.specs.Tree.{length_field}
use Rattle.ttree_chrome.specs.declared.gather.Item.{Item}
use Rattle.ttree_chrome.specs.declared.gather.Shape.{Shape}
use Rattle.ttree_chrome.specs.declared.gather.Shape.TheVariants.{Event, Whole, Unended}
use Rattle.ttree_chrome.specs.declared.leaves.Leaves.TheVariants.{Rows, Spans}

abbrev all_spans : Cut
all_spans = record { min_time = 0; depth = None }

abbrev at : ℕ → Moment → Moment
at nanoseconds m = record m { mono = nanoseconds }

-- an item without a process, from `start` to `end` on the trace's clock
abbrev one : List ℕ → Shape → ℕ → ℕ → ℕ → Item
one name shape start end index = record {
  lane = record { process = None; thread = None; track = None };
  start = point (2 ^ 63 + start) index;
  end = point (2 ^ 63 + end) 0;
  name = name;
  fields = [];
  shape = shape;
  later = none_later;
}

module _ (m : Moment) where
  pub a_leaf_is_an_event : calls_in_order 1 m all_spans Rows nothing_gathered (one (codes "a") Whole 5 9 0 ∷ [])
      ≡ event_call (at 5 m) Info (message_field (codes "a") ∷ length_field 4 ∷ []) None ∷ []
  a_leaf_is_an_event = refl

  pub a_leaf_of_a_page_is_a_span : calls_in_order 1 m all_spans Spans nothing_gathered (one (codes "a") Whole 5 9 0 ∷ [])
      ≡ span_call (at 5 m) (codes "a") (length_field 4 ∷ []) None ∷ close_call (at 9 m) (id_of 1) None ∷ []
  a_leaf_of_a_page_is_a_span = refl

  pub a_span_that_never_ended_is_no_leaf : calls_in_order 1 m all_spans Rows nothing_gathered (one (codes "a") Unended 5 9 0 ∷ [])
      ≡ span_call (at 5 m) (codes "a") [] None ∷ close_call (at 5 m) (id_of 1) None ∷ []
  a_span_that_never_ended_is_no_leaf = refl

  pub a_leaf_takes_no_id : calls_in_order 1 m all_spans Rows nothing_gathered (
      one (codes "a") Whole 0 20 0 ∷ one (codes "b") Whole 1 2 1
      ∷ one (codes "c") Whole 3 9 2 ∷ one (codes "d") Event 4 4 3 ∷ [])
      ≡ span_call (at 0 m) (codes "a") (length_field 20 ∷ []) None
      ∷ event_call (at 1 m) Info (message_field (codes "b") ∷ length_field 1 ∷ []) (Some (id_of 1))
      ∷ span_call (at 3 m) (codes "c") (length_field 6 ∷ []) (Some (id_of 1))
      ∷ event_call (at 4 m) Info (message_field (codes "d") ∷ []) (Some (id_of 2))
      ∷ close_call (at 9 m) (id_of 2) (Some (id_of 1))
      ∷ close_call (at 20 m) (id_of 1) None ∷ []
  a_leaf_takes_no_id = refl
