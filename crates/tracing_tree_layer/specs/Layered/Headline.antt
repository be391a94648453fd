-- What a run of calls on a registry with a layer answers, leaves and writes.
use Rattle.std.specs.Prelude.{◌≡◌, false, List, [], ◌∷◌, ◌++◌, Option, Result}
use Rattle.std.specs.Io.KnownBytes.{Appends}
use Rattle.tracing_tree_drawing.specs.Format.Picture.{Row, draw}
use Rattle.tracing_tree_base.specs.declared.context.Refusal.{Refusal}
use Rattle.tracing_tree_base.specs.declared.context.Id.{Id}
use Rattle.tracing_tree_layer.specs.Layered.State.{State, opening_state}
use Rattle.tracing_tree_layer.specs.Laws.Reading.{ReadingLaws}
use Rattle.tracing_tree_layer.specs.Layered.Seen.{Seen}
use Rattle.tracing_tree_layer.specs.Layered.Run.{Run, run, then_run, accepted_calls, replies_among}
use Rattle.tracing_tree_layer.specs.Layered.Step.{turn_of}
use Rattle.tracing_tree_layer.specs.Layered.Answered.{IsAnswered}
use Rattle.tracing_tree_layer.specs.Layer.Layers.{LayeredView, Changes}
use Rattle.tracing_tree_layer.specs.declared.call.Call.{Call}
use Rattle.tracing_tree_layer.specs.declared.call.Reply.{Reply}

-- the run of these calls from what was seen
abbrev pub run_from : Seen → List Call → Run
run_from seen calls = run seen.settings seen.timer seen.state calls

-- Bytes, state and replies are those of the run of these calls. Runs compose: after any earlier run
-- it is the rest of the run of the joined calls.
pub record Runs (calls : List Call) (given : List Reply) (old new : Seen) : Type 0 where
  pub bytes : Appends old.writer.bytes new.writer.bytes
      (draw old.settings (run_from old calls).rows)
  pub state : new.state ≡ (run_from old calls).state
  pub replies : given ≡ (run_from old calls).replies
  pub continued : (begun : State) (earlier : List Call) →
      let from = run old.settings old.timer in
      from begun (earlier ++ calls) ≡ then_run (from begun earlier) (λ state. from state calls)

module _ {W FT : Type 0} (see : LayeredView W FT → Seen) where
  -- The calls are made one after another, and each gets its answer. Each takes the registry with
  -- its layer from one value to the next, as a call by itself does.
  abbrev pub AreAnswered : List Call → List (Result Reply Refusal) → LayeredView W FT
      → LayeredView W FT → Type 0
  AreAnswered [] [] old new = new ≡ old
  AreAnswered (call ∷ calls) (answer ∷ answers) old new =
      (between : LayeredView W FT) × Changes see (IsAnswered call answer) old between
      × AreAnswered calls answers between new
  AreAnswered calls answers old new = ⊥

-- If these calls are made in the state after a run that began empty, the reading laws hold of the
-- joined calls: the rows above an event open its ancestors.
abbrev pub Reads : Seen → List Call → Type 0
Reads old calls =
    (first : Option Id) (earlier : List Call) →
    old.state ≡ (run old.settings old.timer (opening_state first) earlier).state →
    ReadingLaws old.settings old.timer first (earlier ++ calls)

-- While neither timer nor writer has failed, bytes, state and replies are those of the run of the
-- accepted calls. Whatever happens, the rows of that run keep the reading laws.
pub record IsRunOf (calls : List Call) (answers : List (Result Reply Refusal))
    (old new : Seen) : Type 0 where
  pub runs : new.state.failed ≡ false
      → Runs (accepted_calls calls answers) (replies_among answers) old new
  pub reads : Reads old (accepted_calls calls answers)

-- ---- one call

-- the rows that a call draws
abbrev pub rows_drawn : Seen → Call → List Row
rows_drawn old call =
    (turn_of old.settings old.timer old.state.forest old.state.last call).rows

-- An accepted call extends any run that led to the state before it: with the call the run leads to
-- the state after it, with its rows and its reply, and the text grows by the drawing of its rows.
pub record Continues (call : Call) (reply : Reply) (old new : Seen) : Type 0 where
  pub joined : (begun : State) (earlier : List Call) →
      let before = run old.settings old.timer begun earlier in
      old.state ≡ before.state →
      run old.settings old.timer begun (earlier ++ call ∷ [])
      ≡ record {
        state = new.state;
        rows = before.rows ++ rows_drawn old call;
        replies = before.replies ++ reply ∷ [];
      }
  pub text : Appends old.writer.bytes new.writer.bytes
      (draw old.settings (rows_drawn old call))
