-- The reading laws on worked runs: what they say if their premises hold, and that they fail without
-- the premise on closes.
use Rattle.std.proofs.Common.{◌≡◌, true, List, [], ◌∷◌, Option, Some, unwrap_or, refl, sym, ap, ◌∙◌, arith}
use Rattle.std.specs.Prelude.{codes}
use Rattle.tracing_tree_drawing.specs.Format.Settings.{Settings}
use Rattle.tracing_tree_spans.specs.Registry.Ids.{id_of}
use Rattle.tracing_tree_time.specs.Clock.{no_timer}
use Rattle.tracing_tree_base.specs.declared.context.Id.{Id}
use Rattle.tracing_tree_spans.specs.declared.registry.Parent.TheVariants.{Current}
use Rattle.tracing_tree_base.specs.declared.style.Level.TheVariants.{Info}
use Rattle.tracing_tree_layer.specs.Layered.State.{opening_state}
use Rattle.tracing_tree_layer.specs.Laws.Reading.{EventInRun, ReadingLaw, run_is_on_path, latest, rows_of}
use Rattle.tracing_tree_layer.specs.declared.call.Call.{Call}
use Rattle.tracing_tree_layer.proofs.WorkedCalls.{lined, outside, inside, made, message, informed, closed}
use Rattle.tracing_tree_lines.proofs.Worked.Readings.{close_off_path, stranger_above}
use Rattle.tracing_tree_layer.proofs.Reading.Laws.{reading-law}

abbrev pub retraced : Settings
retraced = record lined { span_retrace = true }

-- the event after a close off the current branch
abbrev pub event_off_path : EventInRun retraced no_timer (Some (id_of 1)) close_off_path
event_off_path = record {
  before = made (codes "a") outside ∷ made (codes "b") (inside 1) ∷ made (codes "c") outside ∷ closed 2 ∷ [];
  event = record { level = Info; target = []; parent = Current; fields = message (codes "x") ∷ [] };
  context = inside 1;
  after = [];
  whole = refl;
  no_cause = refl;
}

-- its root isn't the last one opened, so the law fails
pub fails_off_path : ReadingLaw retraced no_timer (Some (id_of 1)) close_off_path → ⊥
fails_off_path law =
    let root : latest (rows_of retraced no_timer (Some (id_of 1)) close_off_path) 4 0 ≡ Some (id_of 1) = law event_off_path (id_of 1) (refl, refl) 0 (omega arith) in
    let number : (id_of 3).0 ≡ (id_of 1).0 = ap (λ (o : Option Id). (unwrap_or o (id_of 0)).0) (sym stranger_above ∙ root) in
    omega arith

-- with the event before the close the premise holds
abbrev pub close_on_path : List Call
close_on_path = made (codes "a") outside ∷ made (codes "b") (inside 1) ∷ made (codes "c") outside ∷ informed (codes "x") (inside 2) ∷ closed 2 ∷ informed (codes "y") (inside 1) ∷ []

pub is_on_path : run_is_on_path retraced no_timer (opening_state (Some (id_of 1))) close_on_path ≡ true
is_on_path = refl

abbrev pub event_on_path : EventInRun retraced no_timer (Some (id_of 1)) close_on_path
event_on_path = record {
  before = made (codes "a") outside ∷ made (codes "b") (inside 1) ∷ made (codes "c") outside ∷ informed (codes "x") (inside 2) ∷ closed 2 ∷ [];
  event = record { level = Info; target = []; parent = Current; fields = message (codes "y") ∷ [] };
  context = inside 1;
  after = [];
  whole = refl;
  no_cause = refl;
}

-- and the law says that the event's root was opened last
pub holds_on_path : latest (rows_of retraced no_timer (Some (id_of 1)) close_on_path) 7 0 ≡ Some (id_of 1)
holds_on_path = reading-law retraced no_timer (Some (id_of 1)) close_on_path refl refl event_on_path (id_of 1) (refl, refl) 0 (omega arith)
