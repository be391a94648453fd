-- What rows draw doesn't depend on the calls before them.
use Rattle.std.proofs.Common.{◌≡◌, ℕ, zero, suc, ◌-◌, ◌==◌, Bool, true, false, if◌then◌else◌, List, [], ◌∷◌, ◌++◌, length, Option, Some, None, refl, sym, ap, ◌∙◌, append_assoc, append-nil, pos}
use Rattle.tracing_tree_base.specs.declared.context.Id.{Id}
use Rattle.tracing_tree_base.specs.declared.field.Field.{Field}
use Rattle.tracing_tree_layer.specs.declared.call.Call.{Call}
use Rattle.ttree_source.specs.Calls.{close_call}
use Rattle.ttree_source.specs.Moments.{moment_at}
use Rattle.ttree_otlp.specs.Draw.{TreeState, at_time, closed_as, closed_one, closed_times, closed_to, frame_closed, frame_opened, id_on_top, left_counted, left_counted_in, left_emitted, row_call_emitted, row_drawn, row_shown, row_shown_as, rows_drawn, rows_finished}
use Rattle.ttree_otlp.specs.declared.draw.Frame.{Frame}
use Rattle.ttree_otlp.specs.declared.item.Item.{Item}
use Rattle.ttree_otlp.specs.declared.item.Shape.{Shape}
use Rattle.ttree_otlp.specs.declared.item.Shape.TheVariants.{Trace, Span, Note, LeftOut}
use Rattle.ttree_otlp.specs.declared.walk.Row.{Row}

-- with these calls before its own
abbrev pub following : List Call → TreeState → TreeState
following before s = record s { calls = before ++ s.calls }

-- without its calls
abbrev pub forgotten : TreeState → TreeState
forgotten s = record s { calls = [] }

pub follows_forgotten : (s : TreeState) → following s.calls (forgotten s) ≡ s
follows_forgotten s = ap (λ l. record s { calls = l }) (append-nil s.calls)

module _ (before : List Call) where
  emitted : (call : Call) (s : TreeState) → row_call_emitted call (following before s) ≡ following before (row_call_emitted call s)
  emitted call s = ap (λ l. record s { calls = l }) (append_assoc before s.calls (call ∷ []))

  timed : (time : ℕ) (s : TreeState) → at_time time (following before s) ≡ following before (at_time time s)
  timed time s = by (time == 0) where
    by : (b : Bool) → (if b then following before s else record (following before s) { moment = moment_at (pos time) })
        ≡ following before (if b then s else record s { moment = moment_at (pos time) })
    by true = refl
    by false = refl

  opened : (name : List ℕ) (fields : List Field) (end : ℕ) (service : List ℕ) (s : TreeState) → frame_opened name fields end service (following before s) ≡ following before (frame_opened name fields end service s)
  opened name fields end service s = ap (λ l. record (frame_opened name fields end service s) { calls = l }) (append_assoc before s.calls _)

  counted_in : (frames : List Frame) (count : ℕ) (s : TreeState) → left_counted_in frames count (following before s) ≡ following before (left_counted_in frames count s)
  counted_in [] count s = refl
  counted_in (frame ∷ below) count s = refl

  one_or_none : (b : Bool) (call : Call) (s : TreeState) → (if b then following before s else row_call_emitted call (following before s)) ≡ following before (if b then s else row_call_emitted call s)
  one_or_none true call s = refl
  one_or_none false call s = emitted call s

  left : (count : ℕ) (parent : Option Id) (s : TreeState) → left_emitted count parent (following before s) ≡ following before (left_emitted count parent s)
  left count parent s = one_or_none (count == 0) _ s

  shown_as : (shape : Shape) (item : Item) (s : TreeState) → row_shown_as shape item (following before s) ≡ following before (row_shown_as shape item s)
  shown_as (Trace id) item s = opened _ _ _ _ s
  shown_as (Span span) item s = opened _ _ _ _ s
  shown_as (Note note) item s = emitted _ s
  shown_as (LeftOut count) item s = counted_in s.frames count s

  shown : (item : Item) (s : TreeState) → row_shown item (following before s) ≡ following before (row_shown item s)
  shown item s = ap (row_shown_as item.shape item) (timed item.time s) ∙ shown_as item.shape item (at_time item.time s)

  closed : (frame : Frame) (s : TreeState) → frame_closed frame (following before s) ≡ following before (frame_closed frame s)
  closed frame s =
      let timed_at = at_time frame.end s in
      let ended = left_emitted frame.left (Some frame.id) timed_at in
      ap (λ (e : TreeState). row_call_emitted (close_call e.moment frame.id frame.parent) e)
      (ap (left_emitted frame.left (Some frame.id)) (timed frame.end s) ∙ left frame.left (Some frame.id) timed_at)
      ∙ emitted (close_call ended.moment frame.id frame.parent) ended

  closed_frames : (frames : List Frame) (s : TreeState) → closed_as frames (following before s) ≡ following before (closed_as frames s)
  closed_frames [] s = refl
  closed_frames (frame ∷ below) s = closed frame (record s { frames = below })

  closed_some : (n : ℕ) (s : TreeState) → closed_times n (following before s) ≡ following before (closed_times n s)
  closed_some zero s = refl
  closed_some (suc n) s = ap closed_one (closed_some n s) ∙ closed_frames (closed_times n s).frames (closed_times n s)

  drawn : (row : Row) (s : TreeState) → row_drawn row (following before s) ≡ following before (row_drawn row s)
  drawn row s = ap (row_shown row.item) (closed_some (length s.frames - row.depth) s) ∙ shown row.item (closed_to row.depth s)

  all_drawn : (rows : List Row) (s : TreeState) → rows_drawn rows (following before s) ≡ following before (rows_drawn rows s)
  all_drawn [] s = refl
  all_drawn (row ∷ rows) s = ap (rows_drawn rows) (drawn row s) ∙ all_drawn rows (row_drawn row s)

  finished : (s : TreeState) → rows_finished (following before s) ≡ following before (rows_finished s)
  finished s =
      let shut = closed_to 0 s in
      ap (λ (e : TreeState). left_emitted e.left None e) (closed_some (length s.frames - 0) s) ∙ left shut.left None shut

-- the calls of rows are those before them, and then those that the rows alone have
pub calls_follow : (rows : List Row) (s : TreeState) → (rows_finished (rows_drawn rows s)).calls ≡ s.calls ++ (rows_finished (rows_drawn rows (forgotten s))).calls
calls_follow rows s =
    ap (λ (e : TreeState). (rows_finished (rows_drawn rows e)).calls) (sym (follows_forgotten s))
    ∙ ap (λ (e : TreeState). (rows_finished e).calls) (all_drawn s.calls rows (forgotten s))
    ∙ ap (λ (e : TreeState). e.calls) (finished s.calls (rows_drawn rows (forgotten s)))
