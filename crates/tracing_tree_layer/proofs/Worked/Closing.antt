-- Worked examples of handles, parents and closes.
use Rattle.std.specs.Prelude.{◌≡◌, true, false, [], ◌∷◌, Some, None, Ok, Err, refl, codes, encode_utf8_all}
use Rattle.std.specs.Char.{encode_utf8}
use Rattle.tracing_tree_spans.specs.Registry.Ids.{id_of}
use Rattle.tracing_tree_base.specs.Field.{rendered_field}
use Rattle.tracing_tree_time.specs.Clock.{no_timer}
use Rattle.tracing_tree_spans.specs.Registry.Forest.{closing_of}
use Rattle.tracing_tree_base.specs.declared.context.Refusal.TheVariants.{NotHeld, TooMany, Writer}
use Rattle.tracing_tree_spans.specs.declared.registry.Parent.TheVariants.{Root, Of}
use Rattle.tracing_tree_base.specs.declared.style.Level.TheVariants.{Info}
use Rattle.tracing_tree_layer.specs.Layered.State.{State, opening_state}
use Rattle.tracing_tree_layer.specs.Layered.Run.{answers_of, MayAnswer}
use Rattle.tracing_tree_layer.specs.declared.call.Call.TheVariants.{New, Clone, Record}
use Rattle.tracing_tree_layer.specs.declared.call.Reply.TheVariants.{Cloned, Done, Closed}
use Rattle.tracing_tree_layer.proofs.WorkedCalls.{plain, lined, outside, inside, made, message, emitted, informed, closed, left_by, written_after, root_and_child, two_roots, written_after_root}

-- a handle that is cloned keeps the parent
pub cloned_parent : answers_of lined no_timer (left_by lined root_and_child) (Clone (id_of 1) ∷ closed 1 ∷ closed 2 ∷ closed 1 ∷ [])
    ≡ Ok (Cloned (id_of 1)) ∷ Ok (Closed false) ∷ Ok (Closed true) ∷ Ok (Closed true) ∷ []
cloned_parent = refl

-- and both are drawn when they close
pub cloned_parent_text : written_after lined root_and_child (Clone (id_of 1) ∷ closed 1 ∷ closed 2 ∷ closed 1 ∷ [])
    ≡ encode_utf8_all (codes "┌─┘\n┘\n")
unfolding encode_utf8
cloned_parent_text = refl

-- a span that only a child holds can be cloned
pub cloned_late : answers_of lined no_timer (left_by lined root_and_child) (closed 1 ∷ Clone (id_of 1) ∷ closed 2 ∷ [])
    ≡ Ok (Closed false) ∷ Ok (Cloned (id_of 1)) ∷ Ok (Closed true) ∷ []
cloned_late = refl

-- and stays
pub cloned_late_text : written_after lined root_and_child (closed 1 ∷ Clone (id_of 1) ∷ closed 2 ∷ [])
    ≡ encode_utf8_all (codes "┌─┘\n")
unfolding encode_utf8
cloned_late_text = refl

-- what would close, the lowest first
pub closes_upward : closing_of (left_by lined (made (codes "a") outside ∷ made (codes "b") (inside 1) ∷ closed 1 ∷ [])).forest (id_of 2)
    ≡ id_of 2 ∷ id_of 1 ∷ []
closes_upward = refl

-- a parent by its id
pub named_parent : written_after lined two_roots (New (record { name = codes "c"; target = []; parent = Of (id_of 1); fields = [] }) (inside 2) ∷ [])
    ≡ encode_utf8_all (codes "└─┐c \n")
unfolding encode_utf8
named_parent = refl

-- an event below a span that is not its current one
pub event_below_named : written_after lined (made (codes "a") outside ∷ made (codes "b") outside ∷ New (record { name = codes "c"; target = []; parent = Of (id_of 1); fields = [] }) (inside 2) ∷ []) (emitted Info (Of (id_of 3)) (message (codes "x") ∷ []) (inside 2) ∷ [])
    ≡ encode_utf8_all (codes "  ├─ INFO x\n")
unfolding encode_utf8
event_below_named = refl

-- an event without a parent has level 0, and the space after the time in its current span stays
pub event_at_root : written_after lined (made (codes "a") outside ∷ made (codes "b") outside ∷ New (record { name = codes "c"; target = []; parent = Of (id_of 1); fields = [] }) (inside 2) ∷ []) (emitted Info Root (message (codes "x") ∷ []) (inside 2) ∷ [])
    ≡ encode_utf8_all (codes " INFO x\n")
unfolding encode_utf8
event_at_root = refl

-- a parent that is not live
pub unknown_parent : answers_of lined no_timer (left_by lined two_roots) (New (record { name = codes "c"; target = []; parent = Of (id_of 9); fields = [] }) outside ∷ [])
    ≡ Err (NotHeld (id_of 9)) ∷ []
unknown_parent = refl

-- equal names stay
pub recorded_twice : written_after_root (record lined { verbose_exit = true }) (Record (id_of 1) (record { fields = rendered_field (codes "k") (codes "1") ∷ [] }) ∷ Record (id_of 1) (record { fields = rendered_field (codes "k") (codes "2") ∷ [] }) ∷ closed 1 ∷ [])
    ≡ encode_utf8_all (codes "┘a k=1, k=2\n")
unfolding encode_utf8
recorded_twice = refl

-- calls on an empty layer
pub nothing_held : answers_of lined no_timer (opening_state (Some (id_of 1)))
    (closed 7 ∷ made (codes "a") (inside 7) ∷ informed (codes "x") (inside 7) ∷ Record (id_of 9) (record { fields = [] }) ∷ [])
    ≡ Err (NotHeld (id_of 7)) ∷ Err (NotHeld (id_of 7)) ∷ Ok Done ∷ Ok Done ∷ []
nothing_held = refl

-- a root that closed
pub gone_root : answers_of lined no_timer (left_by lined two_roots) (closed 1 ∷ closed 1 ∷ Clone (id_of 1) ∷ made (codes "c") (inside 1) ∷ Record (id_of 1) (record { fields = [] }) ∷ informed (codes "x") (inside 1) ∷ [])
    ≡ Ok (Closed true) ∷ Err (NotHeld (id_of 1)) ∷ Err (NotHeld (id_of 1)) ∷ Err (NotHeld (id_of 1)) ∷ Ok Done ∷ Ok Done ∷ []
gone_root = refl

-- the largest count of handles
abbrev pub full_state : State
full_state = record {
  forest = record {
    spans = record { id = id_of 1; parent = None; name = []; target = []; kept = record { start = 0; fields = []; written = true }; handles = 18_446_744_073_709_551_615 } ∷ [];
    next = Some (id_of 2);
  };
  last = None;
  failed = false;
}

pub too_many_handles : answers_of lined no_timer full_state (Clone (id_of 1) ∷ []) ≡ Err TooMany ∷ []
too_many_handles = refl

-- a close that draws nothing is never refused for the writer
pub silent_writer : ¬ (MayAnswer plain no_timer (left_by plain (made (codes "a") outside ∷ [])) (closed 1) (Err Writer))
silent_writer may = may.1 refl
