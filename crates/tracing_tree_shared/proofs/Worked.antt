-- Worked examples of what a book keeps, of receipts out of order, and of timers.
use Rattle.std.specs.Prelude.{◌≡◌, ℕ, Bool, List, [], ◌∷◌, Result, Err, Some, None, true, false, refl, codes, encode_utf8_all}
use Rattle.std.proofs.Common.{arith, ap, inr}
use Rattle.std.specs.Char.{encode_utf8}
use Rattle.tracing_tree_base.specs.declared.context.Refusal.{Refusal}
use Rattle.tracing_tree_base.specs.declared.context.Refusal.TheVariants.{Memory}
use Rattle.tracing_tree_output.specs.Outputs.{TapeView}
use Rattle.tracing_tree_spans.specs.Registry.Forest.{empty_forest}
use Rattle.tracing_tree_spans.specs.Registry.Ids.{id_of}
use Rattle.tracing_tree_time.specs.Clock.{Timer, no_timer}
use Rattle.tracing_tree_time.specs.declared.timer.FormatTime.{Ghosts as FormatTime}
use Rattle.tracing_tree_layer.specs.declared.call.Call.{Call}
use Rattle.tracing_tree_layer.specs.declared.call.Reply.{Reply}
use Rattle.tracing_tree_layer.specs.declared.call.Reply.TheVariants.{Span, Closed, Done}
use Rattle.tracing_tree_layer.specs.Layer.Layers.{LayerView, LayeredView, Changes}
use Rattle.tracing_tree_layer.specs.Layered.State.{opening_state}
use Rattle.tracing_tree_layer.proofs.WorkedCalls.{lined, outside, made, informed, closed, left_by}
use Rattle.tracing_tree_layer.proofs.Reading.Ancestors.{reading-laws}
use Rattle.tracing_tree_shared.specs.History.{Entry, IsKept, Slip, IsLateIn, calls_in}
use Rattle.tracing_tree_shared.specs.Finish.{IsReplay}
use Rattle.tracing_tree_shared.specs.Books.{IsAnsweredOrLacks, seen_on_tape}

-- a root that was made and closed
abbrev pub short_history : List Entry
short_history = (made (codes "a") outside, Span (id_of 1)) ∷ (closed 1, Closed true) ∷ []

pub short_replay : IsKept lined no_timer (Some (id_of 1)) short_history (left_by lined (made (codes "a") outside ∷ closed 1 ∷ []))
    (Some (encode_utf8_all (codes "┐a \n┘\n")))
unfolding encode_utf8
short_replay = record { forest = refl; last = refl; sound = refl; replies = refl; output = refl }

-- the receipt for place 0 comes after that for place 1
abbrev pub slip_at : ℕ → Slip
slip_at place = record { place = place; entry = (closed 1, Closed true) }

pub late_slip : IsLateIn (slip_at 1 ∷ slip_at 0 ∷ []) 0
late_slip = record { sooner = 0; later = 1; order = omega arith; not_smaller = omega arith; late = refl }

-- ---- timers

-- values that state no time, and yet differ
abbrev silent : FormatTime Bool
silent = record { timer = λ value. no_timer }

-- a timer that shows `now` at each event
abbrev now_timer : Timer
now_timer = record { moment_text = λ moment. Some (codes "now"); elapsed_text = λ ansi nanos. Some [] }

abbrev one_event : List Entry
one_event = (informed (codes "x") outside, Done) ∷ []

-- A drawing with times has some timer, but no timer of a type that never states a time.
pub timed_is_kept : IsKept lined now_timer (Some (id_of 1)) one_event (opening_state (Some (id_of 1))) (Some (encode_utf8_all (codes "now INFO x\n")))
unfolding encode_utf8
timed_is_kept = record { forest = refl; last = refl; sound = refl; replies = refl; output = refl }

pub timed_is_no_replay : IsReplay silent lined one_event (encode_utf8_all (codes "now INFO x\n")) → ⊥
unfolding encode_utf8
timed_is_no_replay r = let differ : Some (encode_utf8_all (codes "now INFO x\n")) ≡ Some (encode_utf8_all (codes "INFO x\n")) = r.kept.output in cc

-- a drawing without times has a timer of that type
pub untimed_replay : IsReplay silent lined one_event (encode_utf8_all (codes "INFO x\n"))
unfolding encode_utf8
untimed_replay = record {
  timer = false;
  first = Some (id_of 1);
  state = opening_state (Some (id_of 1));
  kept = record { forest = refl; last = refl; sound = refl; replies = refl; output = refl };
  reads = reading-laws lined no_timer (Some (id_of 1)) (calls_in one_event);
}

-- a layer with this timer
abbrev with_timer : Bool → LayeredView TapeView Bool
with_timer timer = record {
  forest = empty_forest (id_of 1);
  layer = record { settings = lined; writer = record { bytes = []; faults = 0 }; timer = timer; last = None; failed = false; unwritten = [] };
}

-- a call that is refused because memory ran out changes nothing
pub refused_call : (call : Call) → Changes (seen_on_tape silent) (IsAnsweredOrLacks call (Err Memory)) (with_timer false) (with_timer false)
refused_call call = record { changed = inr (record { cause = refl; sound = refl; same = refl }); fixed = refl }

-- A call never changes the timer, not even for one that states the same.
pub timer_stays : (call : Call) (answer : Result Reply Refusal)
    → Changes (seen_on_tape silent) (IsAnsweredOrLacks call answer) (with_timer false) (with_timer true) → ⊥
timer_stays call answer changes = let same : true ≡ false = ap (λ (l : LayerView TapeView Bool). l.timer) changes.fixed in cc
