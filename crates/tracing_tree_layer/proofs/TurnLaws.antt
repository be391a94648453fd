-- The turns of calls, and why they are refused.
use Rattle.std.proofs.Common.{◌≡◌, ◌==◌, ℕ, None, Ok, Err, subst, Bool, true, false, not, ◌||◌, length, is_none, is_some, unwrap_or, List, Option, refl, sym, ap, ◌∙◌}
use Rattle.std.specs.Option.{option_or}
use Rattle.std.specs.Bool.{then_some}
use Rattle.tracing_tree_drawing.specs.Format.Settings.{Settings}
use Rattle.tracing_tree_time.specs.Clock.{Timer}
use Rattle.tracing_tree_output.specs.Writers.{LeavesCut, seen_writer}
use Rattle.tracing_tree_base.specs.declared.context.Id.{Id}
use Rattle.tracing_tree_base.specs.declared.context.Refusal.{Refusal}
use Rattle.tracing_tree_base.specs.declared.context.Refusal.TheVariants as Refused
use Rattle.tracing_tree_base.specs.declared.context.Refusal.TheVariants.{NotHeld, TooWide, TooMany, Memory, Writer, Failed}
use Rattle.tracing_tree_drawing.specs.Format.Picture.{Row, draw}
use Rattle.tracing_tree_spans.specs.Registry.Ids.{id_of}
use Rattle.tracing_tree_spans.specs.Registry.Forest.{Forest, add_span, new_span, closing_of, take_handle, without_spans, unless_handle}
use Rattle.tracing_tree_spans.specs.Registry.Registered.{IsNewSpan, IsClosed}
use Rattle.tracing_tree_base.specs.declared.context.Context.{Context}
use Rattle.tracing_tree_spans.specs.declared.registry.Attributes.{Attributes}
use Rattle.tracing_tree_layer.specs.Layered.State.{State, Turn}
use Rattle.tracing_tree_layer.specs.Layer.Turns.{turn_of_new, turn_of_closes}
use Rattle.tracing_tree_layer.specs.Layer.Plan.{empty_plan, plan_of_closes}
use Rattle.tracing_tree_output.specs.declared.output.Output.{Ghosts as Output}
use Rattle.tracing_tree_time.specs.declared.timer.FormatTime.{Ghosts as FormatTime}
use Rattle.tracing_tree_layer.specs.Layer.Layers.{LayerView, LayeredView, Changes, seen}
use Rattle.tracing_tree_layer.specs.Layered.Seen.{Seen, seen_later}
use Rattle.tracing_tree_layer.specs.Layered.Step.{turn_of, new_id}
use Rattle.tracing_tree_layer.specs.Layered.Refused.{cause_of, id_not_held, is_too_many, timer_faults, takes_no_memory}
use Rattle.tracing_tree_layer.proofs.Causes.{first_cause}
use Rattle.tracing_tree_layer.specs.Layered.Run.{call_text}
use Rattle.tracing_tree_layer.specs.Layered.Answered.{IsAnswered}
use Rattle.tracing_tree_layer.specs.declared.call.Call.{Call}
use Rattle.tracing_tree_layer.specs.declared.call.Call.TheVariants.{New, Close}
use Rattle.tracing_tree_layer.specs.declared.call.Reply.TheVariants as Replied
use Rattle.tracing_tree_layer.specs.declared.call.Reply.TheVariants.{Closed}
use Rattle.tracing_tree_layer.proofs.MarkedCloses.{handles_of-marked, closing_of-marked, closes-marked}
use Rattle.tracing_tree_layer.specs.Layer.Drawn.{rows_cause, failed_by, IsWritten, DoesTurn, draws_too_wide}

-- ---- refusals

-- A refusal of rows is a refusal of the call that draws them: it has the same cause and effect. The
-- call takes memory.
pub answered_refused : (call : Call) (rows : List Row) (faults quiet : Bool) (refusal : Refusal) (old new : Seen) → old.state.failed ≡ false →
    cause_of old.settings old.timer old.state call ≡ rows_cause old.settings rows faults →
    call_text old.settings old.timer old.state call ≡ draw old.settings rows → (quiet ≡ false → (old.state.failed || takes_no_memory old.settings old.timer old.state.forest call) ≡ false) →
    IsWritten old.settings rows faults quiet (Err refusal) old.writer new.writer → new ≡ seen_later old (record old.state { failed = failed_by {A = Unit {0}} (Err refusal) }) new.writer →
    IsAnswered call (Err refusal) old new
answered_refused call rows faults quiet (NotHeld i) old new sound cause text memory h left =
    record { allowed = cause ∙ h.answer; left = left ∙ ap (λ failed. seen_later old (record old.state { failed = failed }) new.writer) (sym sound); written = h.written }
answered_refused call rows faults quiet TooWide old new sound cause text memory h left =
    record { allowed = cause ∙ h.answer; left = left ∙ ap (λ failed. seen_later old (record old.state { failed = failed }) new.writer) (sym sound); written = h.written }
answered_refused call rows faults quiet TooMany old new sound cause text memory h left =
    record { allowed = cause ∙ h.answer; left = left ∙ ap (λ failed. seen_later old (record old.state { failed = failed }) new.writer) (sym sound); written = h.written }
answered_refused call rows faults quiet Memory old new sound cause text memory h left =
    record { allowed = memory h.answer; left = left ∙ ap (λ failed. seen_later old (record old.state { failed = failed }) new.writer) (sym sound); written = h.written }
answered_refused call rows faults quiet Refused.Timer old new sound cause text memory h left =
    record { allowed = cause ∙ h.answer; left = left; written = h.written }
answered_refused call rows faults quiet Writer old new sound cause text memory h left =
    let P : List ℕ → Type 0 = λ t. LeavesCut t old.writer new.writer in
    record { allowed = (cause ∙ h.answer.0, λ none. h.answer.1 (sym text ∙ none)); left = left; written = subst P (sym text) h.written }
answered_refused call rows faults quiet Failed old new sound cause text memory h left =
    record { allowed = cause ∙ h.answer; left = left ∙ ap (λ failed. seen_later old (record old.state { failed = failed }) new.writer) (sym sound); written = h.written }

-- of causes only against rows, the first is that of the rows
pub first_cause_of_rows : (wide faults : Bool) →
    first_cause (record { failed = false; not_held = None; too_many = false; too_wide = wide; timer_faults = faults })
    ≡ option_or (then_some wide TooWide) (then_some faults Refused.Timer)
first_cause_of_rows true faults = refl
first_cause_of_rows false true = refl
first_cause_of_rows false false = refl

-- why a call that finds what it needs is refused: for its rows, or by the timer
pub cause-turn : (settings : Settings) (timer : Timer) (state : State) (call : Call) → state.failed ≡ false →
    id_not_held state.forest call ≡ None → is_too_many state.forest call ≡ false →
    cause_of settings timer state call
    ≡ rows_cause settings (turn_of settings timer state.forest state.last call).rows (timer_faults settings timer state.forest call)
cause-turn settings timer state call sound held few =
    let rows : List Row = (turn_of settings timer state.forest state.last call).rows in
    let faults : Bool = timer_faults settings timer state.forest call in
    (λ i. first_cause (record {
      failed = sound i;
      not_held = held i;
      too_many = few i;
      too_wide = draws_too_wide settings rows;
      timer_faults = faults;
    })) ∙ first_cause_of_rows (draws_too_wide settings rows) faults

-- ---- what is seen of a refusal

module _ {W FT : Type 0} (time : FormatTime FT) (output : Output W) where
  -- A call whose rows are refused is refused for their cause, and keeps the spans, the marks and
  -- the last span.
  pub turn_refused : (call : Call) (rows : List Row) (faults quiet : Bool) (refusal : Refusal) (old new : LayeredView W FT) →
      let before = seen time output old in
      old.layer.failed ≡ false →
      cause_of before.settings before.timer before.state call ≡ rows_cause before.settings rows faults →
      call_text before.settings before.timer before.state call ≡ draw before.settings rows →
      (quiet ≡ false → (before.state.failed || takes_no_memory before.settings before.timer before.state.forest call) ≡ false) →
      IsWritten old.layer.settings rows faults quiet (Err refusal) (seen_writer output old.layer.writer) (seen_writer output new.layer.writer) →
      new.layer ≡ record old.layer { writer = new.layer.writer; failed = failed_by {A = Unit {0}} (Err refusal); unwritten = new.layer.unwritten } → new.forest ≡ old.forest →
      Changes (seen time output) (IsAnswered call (Err refusal)) old new
  turn_refused call rows faults quiet refusal old new sound cause text memory written layer forest = record {
    changed = answered_refused call rows faults quiet refusal (seen time output old) (seen time output new) sound cause text memory written
        (λ i. seen time output (record { forest = forest i; layer = layer i }));
    fixed = layer ∙ (λ i. record old.layer {
      writer = new.layer.writer;
      last = sym (ap (λ (l : LayerView W FT). l.last) layer) i;
      failed = sym (ap (λ (l : LayerView W FT). l.failed) layer) i;
      unwritten = new.layer.unwritten;
    });
  }

  -- A new span whose rows are refused is taken back.
  pub new_refused : (attributes : Attributes) (context : Context) (i : Id) (quiet : Bool) (refusal : Refusal) (old new : LayeredView W FT) (made : Forest) →
      old.layer.failed ≡ false → IsNewSpan attributes context (Ok i) old.forest made →
      let turn = turn_of_new old.layer.settings context made old.layer.last i in
      IsWritten old.layer.settings turn.rows false quiet (Err refusal) (seen_writer output old.layer.writer) (seen_writer output new.layer.writer) →
      new.layer ≡ record old.layer { writer = new.layer.writer; failed = failed_by {A = Unit {0}} (Err refusal); unwritten = new.layer.unwritten } → new.forest ≡ old.forest →
      Changes (seen time output) (IsAnswered (New attributes context) (Err refusal)) old new
  new_refused attributes context i quiet refusal old new made sound is_new written layer forest =
      let settings = old.layer.settings in
      let timer = time.timer old.layer.timer in
      let state = (seen time output old).state in
      let id : new_id old.forest ≡ i = ap (λ (o : Option Id). unwrap_or o (id_of 0)) is_new.1 in
      let grown : add_span (new_span (new_id old.forest) attributes context.current context.moment.mono) old.forest ≡ made =
      ap (λ j. add_span (new_span j attributes context.current context.moment.mono) old.forest) id ∙ sym is_new.2 in
      let same : turn_of settings timer old.forest old.layer.last (New attributes context) ≡ turn_of_new settings context made old.layer.last i =
      (λ k. turn_of_new settings context (grown k) old.layer.last (id k)) in
      let rows = (turn_of_new settings context made old.layer.last i).rows in
      turn_refused (New attributes context) rows false quiet refusal old new sound
      (cause-turn settings timer state (New attributes context) sound is_new.0 (ap (λ (o : Option Id). is_none o) is_new.1)
      ∙ ap (λ (t : Turn). rows_cause settings t.rows false) same)
      (ap (λ (t : Turn). draw settings t.rows) same) (λ h. rw sound (λ k. is_some (is_new.0 k) || is_none (is_new.1 k))) written layer forest

  -- A new span whose rows are written stays.
  pub new_drawn : (attributes : Attributes) (context : Context) (i : Id) (quiet : Bool) (done : Unit {0}) (old new : LayeredView W FT) (made : Forest) →
      old.layer.failed ≡ false → IsNewSpan attributes context (Ok i) old.forest made →
      DoesTurn (seen_writer output) (turn_of_new old.layer.settings context made old.layer.last i) false quiet (Ok done) old.layer new.layer made new.forest →
      Changes (seen time output) (IsAnswered (New attributes context) (Ok (Replied.Span i))) old new
  new_drawn attributes context i quiet done old new made sound is_new does =
      let settings = old.layer.settings in
      let timer = time.timer old.layer.timer in
      let state = (seen time output old).state in
      let id : new_id old.forest ≡ i = ap (λ (o : Option Id). unwrap_or o (id_of 0)) is_new.1 in
      let grown : add_span (new_span (new_id old.forest) attributes context.current context.moment.mono) old.forest ≡ made =
      ap (λ j. add_span (new_span j attributes context.current context.moment.mono) old.forest) id ∙ sym is_new.2 in
      let turn = turn_of settings timer old.forest old.layer.last (New attributes context) in
      let same : turn ≡ turn_of_new settings context made old.layer.last i = (λ k. turn_of_new settings context (grown k) old.layer.last (id k)) in
      let P : Turn → Type 0 = λ t. DoesTurn (seen_writer output) t false quiet (Ok done) old.layer new.layer made new.forest in
      let does : P turn = subst P (sym same) does in
      let layer : new.layer ≡ record old.layer { writer = new.layer.writer; last = turn.last; failed = old.layer.failed; unwritten = new.layer.unwritten } =
      does.layer ∙ (λ k. record old.layer { writer = new.layer.writer; last = turn.last; failed = sym sound k; unwritten = new.layer.unwritten }) in
      record {
        changed = record {
          allowed = (
            cause-turn settings timer state (New attributes context) sound is_new.0 (ap (λ (o : Option Id). is_none o) is_new.1) ∙ does.written.answer,
            sym (ap Replied.Span id),
          );
          left = (λ k. seen time output (record { forest = does.marked k; layer = layer k }));
          written = does.written.written;
        };
        fixed = layer ∙ (λ k. record old.layer {
          writer = new.layer.writer;
          last = sym (ap (λ (l : LayerView W FT). l.last) layer) k;
          failed = sym (ap (λ (l : LayerView W FT). l.failed) layer) k;
          unwritten = new.layer.unwritten;
        });
      }

  -- What closes was written, and is removed.
  pub closes : (i : Id) (context : Context) (went quiet : Bool) (done : Unit {0}) (old new : LayeredView W FT) (ids : List Id) (marked : Forest) →
      old.layer.failed ≡ false → (unless_handle old.forest i ≡ None) × (ids ≡ closing_of old.forest i) →
      DoesTurn (seen_writer output) (turn_of_closes old.layer.settings context ids old.forest old.layer.last) false quiet (Ok done) old.layer new.layer old.forest marked →
      IsClosed i (Ok went) marked new.forest →
      Changes (seen time output) (IsAnswered (Close i context) (Ok (Closed went))) old new
  closes i context went quiet done old new ids marked sound lists does closed =
      let settings = old.layer.settings in
      let timer = time.timer old.layer.timer in
      let forest = old.forest in
      let last = old.layer.last in
      let state = (seen time output old).state in
      let all : List Id = closing_of forest i in
      let turn = turn_of_closes settings context all forest last in
      let P : List Id → Type 0 = λ xs. DoesTurn (seen_writer output) (turn_of_closes settings context xs forest last) false quiet (Ok done) old.layer new.layer forest marked in
      let does : DoesTurn (seen_writer output) turn false quiet (Ok done) old.layer new.layer forest marked = subst P lists.1 does in
      let marks = does.marked ∙ closes-marked settings context all forest last in
      let same : closing_of marked i ≡ all = ap (λ f. closing_of f i) marks ∙ closing_of-marked (plan_of_closes settings forest all (empty_plan last)).fresh forest i in
      let left : new.forest ≡ without_spans all (take_handle i turn.forest) =
      closed.2 ∙ (λ k. without_spans (same k) (take_handle i (does.marked k))) in
      let layer : new.layer ≡ record old.layer { writer = new.layer.writer; last = turn.last; failed = old.layer.failed; unwritten = new.layer.unwritten } =
      does.layer ∙ (λ k. record old.layer { writer = new.layer.writer; last = turn.last; failed = sym sound k; unwritten = new.layer.unwritten }) in
      record {
        changed = record {
          allowed = (
            cause-turn settings timer state (Close i context) sound lists.0 refl ∙ does.written.answer,
            ap Closed (closed.1 ∙ ap (λ (xs : List Id). not (length xs == 0)) same),
          );
          left = (λ k. seen time output (record { forest = left k; layer = layer k }));
          written = does.written.written;
        };
        fixed = layer ∙ (λ k. record old.layer {
          writer = new.layer.writer;
          last = sym (ap (λ (l : LayerView W FT). l.last) layer) k;
          failed = sym (ap (λ (l : LayerView W FT). l.failed) layer) k;
          unwritten = new.layer.unwritten;
        });
      }

-- Marks keep handles, and what closes with them.
pub closes_held : (settings : Settings) (context : Context) (i : Id) (forest marked : Forest) (last : Option Id) (ids : List Id) →
    unless_handle forest i ≡ None → marked ≡ (turn_of_closes settings context ids forest last).forest → unless_handle marked i ≡ None
closes_held settings context i forest marked last ids held marks =
    let fresh : List Id = (plan_of_closes settings forest ids (empty_plan last)).fresh in
    ap (λ f. unless_handle f i) (marks ∙ closes-marked settings context ids forest last)
    ∙ ap (λ (n : ℕ). then_some (n == 0) i) (handles_of-marked fresh forest i) ∙ held

pub closes_listed : (settings : Settings) (context : Context) (i : Id) (forest marked : Forest) (last : Option Id) (ids : List Id) →
    ids ≡ closing_of forest i → marked ≡ (turn_of_closes settings context ids forest last).forest → ids ≡ closing_of marked i
closes_listed settings context i forest marked last ids listed marks =
    let fresh : List Id = (plan_of_closes settings forest ids (empty_plan last)).fresh in
    listed ∙ sym (closing_of-marked fresh forest i) ∙ ap (λ f. closing_of f i) (sym (marks ∙ closes-marked settings context ids forest last))
