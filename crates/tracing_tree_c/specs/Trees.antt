-- What is done with a tree, and what each such act leaves.
use Rattle.std.specs.Prelude.{◌≡◌, ◌∷◌, ℕ, Bool, true, false, [], None, Some, Result, Ok, Err, IsTrue, if◌then◌else◌}
use Rattle.tracing_tree_base.specs.declared.context.Refusal.{Refusal}
use Rattle.tracing_tree_base.specs.declared.context.Refusal.TheVariants.{NotHeld, TooWide, TooMany, Memory, Timer, Writer, Failed}
use Rattle.tracing_tree_spans.specs.Registry.Forest.{is_live}
use Rattle.tracing_tree_spans.specs.Registry.Ids.{id_of}
use Rattle.tracing_tree_layer.specs.Layered.Answered.{IsAnswered}
use Rattle.tracing_tree_layer.specs.Layered.Seen.{Seen}
use Rattle.tracing_tree_layer.specs.declared.call.Call.{Call}
use Rattle.tracing_tree_layer.specs.declared.call.Reply.{Reply}
use Rattle.tracing_tree_layer.specs.declared.call.Reply.TheVariants.{Done}
use Rattle.tracing_tree_c.specs.Entered.{innermost, is_among, without_last}
use Rattle.tracing_tree_c.specs.Owned.{Contents}
use Rattle.tracing_tree_c.specs.Timers.{tree_timer}
use Rattle.tracing_tree_c.specs.declared.foreign.TimeRef.{TimeRef}
use Rattle.tracing_tree_c.specs.declared.foreign.Unreadable.{Unreadable}
use Rattle.tracing_tree_c.specs.declared.foreign.Unreadable.TheVariants.{Unknown, NotUtf8, Starved}
use Rattle.tracing_tree_c.specs.declared.drawing.Drawing.{Drawing}
use Rattle.tracing_tree_c.specs.declared.timer.TreeTimer.TheVariants.{Own}
use Rattle.tracing_tree_c.specs.declared.timer.Written.{Written}
use Rattle.tracing_tree_c.specs.declared.outcome.Outcome.{Outcome}
use Rattle.tracing_tree_c.specs.declared.outcome.Outcome.TheVariants.{Missing, NotRead, Answered}

-- what is seen of a tree; its writer takes each text whole
abbrev pub seen_tree : Drawing → Seen
seen_tree drawing = let layer = drawing.layered.layer in record {
  settings = layer.settings;
  timer = tree_timer layer.timer;
  state = record { forest = drawing.layered.forest; last = layer.last; failed = layer.failed };
  writer = record { bytes = Some layer.writer.bytes; faults = layer.writer.faults; whole = true };
}

-- the same tree, with its last text removed
abbrev pub blank : Drawing → Drawing
blank drawing = record drawing {
  layered = record drawing.layered {
    layer = record drawing.layered.layer { writer = record { bytes = []; faults = 0 } };
  };
}

-- the text of a call couldn't be kept
abbrev pub is_lost : Result Reply Refusal → Bool
is_lost (Err Writer) = true
is_lost answer = false

-- the tree's answer and state, by the layer's answer and state: if the text couldn't be kept,
-- memory ran out and nothing changed; otherwise the layer's
abbrev pub Mends : Bool → Result Reply Refusal → Seen → Seen → Result Reply Refusal → Seen → Type 0
Mends true given before left answer now = (answer ≡ Err Memory) × (now ≡ before)
Mends false given before left answer now = (answer ≡ given) × (now ≡ left)

-- A call is answered as by a registry with a layer, whose writer then has only the text of this
-- call. Settings, timer and entered spans stay.
pub record IsCalled (call : Call) (answer : Result Reply Refusal) (old new : Drawing) : Type 0 where
  pub given : Result Reply Refusal
  pub left : Seen
  pub answered : IsAnswered call given (seen_tree (blank old)) left
  pub mended : Mends (is_lost given) given (seen_tree (blank old)) left answer (seen_tree new)
  pub fixed : new.layered.layer ≡ record old.layered.layer {
    writer = new.layered.layer.writer;
    last = new.layered.layer.last;
    failed = new.layered.layer.failed;
    unwritten = new.layered.layer.unwritten;
  }
  pub entered : new.entered ≡ old.entered

-- the strings that C passes
abbrev pub written_of : TimeRef → Written
written_of given = record { moment = given.moment.now; elapsed = given.elapsed.now }

-- the same tree, with its last text removed, which shows these strings as the time
abbrev pub with_time_text : Written → Drawing → Drawing
with_time_text written drawing = record (blank drawing) {
  layered = record (blank drawing).layered {
    layer = record (blank drawing).layered.layer { timer = Own written };
  };
}

-- the tree shows these strings as the time from then on
abbrev pub SetsTime : Written → Result Reply Refusal → Drawing → Drawing → Type 0
SetsTime written answer old new = (answer ≡ Ok Done) × (new ≡ with_time_text written old)

abbrev pub is_live_in : Drawing → ℕ → Bool
is_live_in drawing id = is_live drawing.layered.forest (id_of id)

-- the id of the innermost entered span that is live, or 0
abbrev pub current_id : Drawing → ℕ
current_id drawing = innermost (is_live_in drawing) drawing.entered

-- A live span is entered, unless memory ran out. The last text is removed.
abbrev pub Enters : ℕ → Result Reply Refusal → Drawing → Drawing → Type 0
Enters id (Ok reply) old new =
    (reply ≡ Done) × IsTrue (is_live_in old id)
    × (new ≡ record (blank old) { entered = id ∷ old.entered })
Enters id (Err (NotHeld other)) old new =
    (other ≡ id_of id) × (is_live_in old id ≡ false) × (new ≡ blank old)
Enters id (Err Memory) old new = IsTrue (is_live_in old id) × (new ≡ blank old)
Enters id (Err TooWide) old new = ⊥
Enters id (Err TooMany) old new = ⊥
Enters id (Err Timer) old new = ⊥
Enters id (Err Writer) old new = ⊥
Enters id (Err Failed) old new = ⊥

-- The last entry into a span is removed, if there is one, and so is the last text.
abbrev pub Exits : ℕ → Result Reply Refusal → Drawing → Drawing → Type 0
Exits id answer old new =
    (answer ≡ (if is_among id old.entered then Ok Done else Err (NotHeld (id_of id))))
    × (new ≡ record (blank old) { entered = without_last id old.entered })

-- The outcome of what was read, or not: a missing tree stays missing, and a tree that exists
-- changes only as what was read says. If nothing could be read, its last text is removed.
abbrev pub Performs : {T : Type 0} → (T → Result Reply Refusal → Drawing → Drawing → Type 0)
    → Result T Unreadable → Outcome → Contents → Contents → Type 0
Performs Does read outcome None new = (outcome ≡ Missing) × (new ≡ None)
Performs Does (Ok act) outcome (Some old) new =
    (answer : Result Reply Refusal) × (left : Drawing) × (outcome ≡ Answered answer)
    × (new ≡ Some left) × Does act answer old left
Performs Does (Err fault) outcome (Some old) new =
    (outcome ≡ NotRead fault) × (new ≡ Some (blank old))

-- the outcome of an act that C passes
abbrev pub Makes : Type 0 → Type 0 → Type 0 → (Result Reply Refusal → Drawing → Drawing → Type 0)
    → Outcome → Contents → Contents → Type 0
Makes IsKnown IsText IsSmall Does Missing old new = (old ≡ None) × (new ≡ None)
Makes IsKnown IsText IsSmall Does (NotRead fault) None new = ⊥
Makes IsKnown IsText IsSmall Does (NotRead Unknown) (Some old) new = (IsKnown → ⊥)
    × (new ≡ Some (blank old))
Makes IsKnown IsText IsSmall Does (NotRead NotUtf8) (Some old) new = (IsText → ⊥)
    × (new ≡ Some (blank old))
Makes IsKnown IsText IsSmall Does (NotRead Starved) (Some old) new = (IsSmall → ⊥)
    × (new ≡ Some (blank old))
Makes IsKnown IsText IsSmall Does (Answered answer) None new = ⊥
Makes IsKnown IsText IsSmall Does (Answered answer) (Some old) None = ⊥
Makes IsKnown IsText IsSmall Does (Answered answer) (Some old) (Some new) =
    IsKnown × IsText × Does answer old new

-- a call with this property is made
abbrev pub MakesCall : (Call → Type 0) → Result Reply Refusal → Drawing → Drawing → Type 0
MakesCall IsThis answer old new = (call : Call) × IsThis call × IsCalled call answer old new
