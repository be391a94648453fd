-- Calls that are answered one after another are a run.
use Rattle.std.proofs.Common.{◌≡◌, ◌<◌, ℕ, false, List, [], ◌∷◌, ◌++◌, length, slice_index_or, slice_set, Result, Ok, Err, refl, sym, ap, subst, ◌∙◌, append-nil, append_assoc, arith}
use Rattle.std.proofs.Math.Seq.{get_or-append_seam, set-append_seam}
use Rattle.std.proofs.lemmas.List.{length-append}
use Rattle.std.specs.Io.KnownBytes.{Appends, Keeps}
use Rattle.std.proofs.KnownBytes.{Appends-nil, Appends-trans, Appends-kept}
use Rattle.tracing_tree_drawing.specs.Format.Settings.{Settings}
use Rattle.tracing_tree_time.specs.Clock.{Timer}
use Rattle.tracing_tree_drawing.specs.Format.Picture.{Row, draw}
use Rattle.tracing_tree_base.specs.declared.context.Refusal.{Refusal}
use Rattle.tracing_tree_base.specs.declared.context.Refusal.TheVariants as Refused
use Rattle.tracing_tree_base.specs.declared.context.Refusal.TheVariants.{NotHeld, TooWide, TooMany, Memory, Writer, Failed}
use Rattle.tracing_tree_layer.specs.Layered.State.{State}
use Rattle.tracing_tree_output.specs.Writers.{SeenWriter}
use Rattle.tracing_tree_layer.specs.Layered.Seen.{Seen, seen_later}
use Rattle.tracing_tree_layer.specs.Layered.Step.{turn_of, state_after}
use Rattle.tracing_tree_layer.specs.Layered.Run.{Run, run, run_by_cause, then_run, accepted_calls, replies_among, state_after_answer, MayAnswer, call_text}
use Rattle.tracing_tree_layer.specs.Layered.Answered.{IsAnswered, Writes}
use Rattle.tracing_tree_layer.specs.Layer.Layers.{LayeredView, Changes}
use Rattle.tracing_tree_layer.specs.Layered.Headline.{AreAnswered, Continues, IsRunOf, Runs, rows_drawn, run_from}
use Rattle.tracing_tree_layer.specs.declared.call.Call.{Call}
use Rattle.tracing_tree_layer.specs.declared.call.Reply.{Reply}
use Rattle.tracing_tree_layer.proofs.DrawnLaws.{draw-append}
use Rattle.tracing_tree_layer.proofs.RunLaws.{run-append}
use Rattle.tracing_tree_layer.proofs.Reading.Ancestors.{reading-laws}

-- ---- one call

-- a layer that has failed stays failed
sound_before : (settings : Settings) (timer : Timer) (state : State) (call : Call) (answer : Result Reply Refusal) →
    (state_after_answer settings timer state call answer).failed ≡ false → state.failed ≡ false
sound_before settings timer state call (Ok reply) e = e
sound_before settings timer state call (Err (NotHeld j)) e = e
sound_before settings timer state call (Err TooWide) e = e
sound_before settings timer state call (Err TooMany) e = e
sound_before settings timer state call (Err Memory) e = e
sound_before settings timer state call (Err Refused.Timer) e = cc
sound_before settings timer state call (Err Writer) e = cc
sound_before settings timer state call (Err Failed) e = e

-- an accepted call is the first of the run
run-accepted : (settings : Settings) (timer : Timer) (state : State) (call : Call) (reply : Reply) (calls : List Call) →
    MayAnswer settings timer state call (Ok reply) →
    let rest = run settings timer (state_after settings timer state call) calls in
    run settings timer state (call ∷ calls)
    ≡ record rest { rows = (turn_of settings timer state.forest state.last call).rows ++ rest.rows; replies = reply ∷ rest.replies }
run-accepted settings timer state call reply calls may =
    let next : State → Run = λ s. run settings timer s calls in
    let rest : Run = next (state_after settings timer state call) in
    let rows : List Row = (turn_of settings timer state.forest state.last call).rows ++ rest.rows in
    ap (λ cause. then_run (run_by_cause settings timer state call cause) next) may.0
    ∙ (λ i. record rest { rows = rows; replies = sym may.1 i ∷ rest.replies })

-- an accepted call is the last of a run that led to the state before it
pub run_more : (settings : Settings) (timer : Timer) (begun : State) (calls : List Call) (call : Call) (reply : Reply) →
    let before = run settings timer begun calls in
    MayAnswer settings timer before.state call (Ok reply) →
    run settings timer begun (calls ++ call ∷ [])
    ≡ record {
      state = state_after settings timer before.state call;
      rows = before.rows ++ (turn_of settings timer before.state.forest before.state.last call).rows;
      replies = before.replies ++ reply ∷ [];
    }
run_more settings timer begun calls call reply may =
    let before : Run = run settings timer begun calls in
    let next : State → Run = λ s. run settings timer s [] in
    let rows : List Row = (turn_of settings timer before.state.forest before.state.last call).rows in
    run-append settings timer begun calls (call ∷ [])
    ∙ ap (λ cause. then_run before (λ s. then_run (run_by_cause settings timer before.state call cause) next)) may.0
    ∙ (λ i. record {
      state = state_after settings timer before.state call;
      rows = before.rows ++ append-nil rows i;
      replies = before.replies ++ sym may.1 i ∷ [];
    })

-- so it extends any such run
pub continues : (call : Call) (reply : Reply) (old new : Seen) → IsAnswered call (Ok reply) old new → Continues call reply old new
continues call reply old new h = record { joined = joined; text = h.written.0 }
  where
    joined : (begun : State) (earlier : List Call) → old.state ≡ (run old.settings old.timer begun earlier).state →
        run old.settings old.timer begun (earlier ++ call ∷ [])
        ≡ record {
          state = new.state;
          rows = (run old.settings old.timer begun earlier).rows ++ rows_drawn old call;
          replies = (run old.settings old.timer begun earlier).replies ++ reply ∷ [];
        }
    joined begun earlier led =
        let before : Run = run old.settings old.timer begun earlier in
        let May : State → Type 0 = λ s. MayAnswer old.settings old.timer s call (Ok reply) in
        let drawn : State → List Row = λ s. before.rows ++ (turn_of old.settings old.timer s.forest s.last call).rows in
        let from : State → Run = λ s. record { state = state_after old.settings old.timer s call; rows = drawn s; replies = before.replies ++ reply ∷ [] } in
        let to : State → Run = λ s. record { state = s; rows = drawn old.state; replies = before.replies ++ reply ∷ [] } in
        run_more old.settings old.timer begun earlier call reply (subst May led h.allowed)
        ∙ ap from (sym led)
        ∙ ap to (sym (ap (λ (s : Seen). s.state) h.left))

-- a refused call that keeps state and bytes isn't in the run
runs_refused : (calls : List Call) (replies : List Reply) (old new : Seen) (writer : SeenWriter) → Keeps old.writer.bytes writer.bytes →
    Runs calls replies (record old { writer = writer }) new → Runs calls replies old new
runs_refused calls replies old new writer kept h = record {
  bytes = Appends-trans old.writer.bytes writer.bytes new.writer.bytes [] (draw old.settings (run_from old calls).rows)
      (Appends-kept old.writer.bytes old.writer.bytes writer.bytes [] (Appends-nil old.writer.bytes) kept) h.bytes;
  state = h.state;
  replies = h.replies;
  continued = h.continued;
}

-- an answered call before a run that continues from the state that it leaves
runs_first : (call : Call) (calls : List Call) (answer : Result Reply Refusal) (answers : List (Result Reply Refusal)) (old new : Seen) (writer : SeenWriter) →
    let after = state_after_answer old.settings old.timer old.state call answer in
    MayAnswer old.settings old.timer old.state call answer →
    Writes (call_text old.settings old.timer old.state call) answer old.writer writer → after.failed ≡ false →
    Runs (accepted_calls calls answers) (replies_among answers) (record old { state = after; writer = writer }) new →
    Runs (accepted_calls (call ∷ calls) (answer ∷ answers)) (replies_among (answer ∷ answers)) old new
runs_first call calls (Ok reply) answers old new writer may wrote sound h =
    let accepted : List Call = accepted_calls calls answers in
    let rows : List Row = (turn_of old.settings old.timer old.state.forest old.state.last call).rows in
    let rest : Run = run old.settings old.timer (state_after old.settings old.timer old.state call) accepted in
    let e = run-accepted old.settings old.timer old.state call reply accepted may in
    let text : draw old.settings (run_from old (call ∷ accepted)).rows ≡ draw old.settings rows ++ draw old.settings rest.rows =
    ap (λ (r : Run). draw old.settings r.rows) e ∙ draw-append old.settings rows rest.rows in
    record {
      bytes = subst (Appends old.writer.bytes new.writer.bytes) (sym text)
          (Appends-trans old.writer.bytes writer.bytes new.writer.bytes (draw old.settings rows) (draw old.settings rest.rows) wrote.0 h.bytes);
      state = h.state ∙ sym (ap (λ (r : Run). r.state) e);
      replies = ap (λ replies. reply ∷ replies) h.replies ∙ sym (ap (λ (r : Run). r.replies) e);
      continued = λ begun earlier. run-append old.settings old.timer begun earlier (call ∷ accepted);
    }
runs_first call calls (Err (NotHeld j)) answers old new writer may wrote sound h = runs_refused (accepted_calls calls answers) (replies_among answers) old new writer wrote.0 h
runs_first call calls (Err TooWide) answers old new writer may wrote sound h = runs_refused (accepted_calls calls answers) (replies_among answers) old new writer wrote.0 h
runs_first call calls (Err TooMany) answers old new writer may wrote sound h = runs_refused (accepted_calls calls answers) (replies_among answers) old new writer wrote.0 h
runs_first call calls (Err Memory) answers old new writer may wrote sound h = runs_refused (accepted_calls calls answers) (replies_among answers) old new writer wrote.0 h
runs_first call calls (Err Refused.Timer) answers old new writer may wrote sound h = cc
runs_first call calls (Err Writer) answers old new writer may wrote sound h = cc
runs_first call calls (Err Failed) answers old new writer may wrote sound h = runs_refused (accepted_calls calls answers) (replies_among answers) old new writer wrote.0 h

-- ---- calls one after another

-- what is seen of calls that are answered
abbrev AreSeenAnswered : List Call → List (Result Reply Refusal) → Seen → Seen → Type 0
AreSeenAnswered [] [] old new = new ≡ old
AreSeenAnswered (call ∷ calls) (answer ∷ answers) old new =
    (between : Seen) × IsAnswered call answer old between × AreSeenAnswered calls answers between new
AreSeenAnswered calls answers old new = ⊥

sound_from : (calls : List Call) (answers : List (Result Reply Refusal)) (old new : Seen) → AreSeenAnswered calls answers old new →
    new.state.failed ≡ false → old.state.failed ≡ false
sound_from [] [] old new h sound = ap (λ (s : Seen). s.state.failed) (sym h) ∙ sound
sound_from [] (answer ∷ answers) old new h sound = absurd h
sound_from (call ∷ calls) [] old new h sound = absurd h
sound_from (call ∷ calls) (answer ∷ answers) old new (between, h, rest) sound =
    sound_before old.settings old.timer old.state call answer
    (ap (λ (s : Seen). s.state.failed) (sym h.left) ∙ sound_from calls answers between new rest sound)

-- they are the run of those that were accepted
runs : (calls : List Call) (answers : List (Result Reply Refusal)) (old new : Seen) → AreSeenAnswered calls answers old new →
    new.state.failed ≡ false → Runs (accepted_calls calls answers) (replies_among answers) old new
runs [] [] old new h sound =
    let P : Seen → Type 0 = λ s. Runs [] [] old s in
    subst P (sym h) (record {
      bytes = Appends-nil old.writer.bytes;
      state = refl;
      replies = refl;
      continued = λ begun earlier. run-append old.settings old.timer begun earlier [];
    })
runs [] (answer ∷ answers) old new h sound = absurd h
runs (call ∷ calls) [] old new h sound = absurd h
runs (call ∷ calls) (answer ∷ answers) old new (between, h, rest) sound =
    let after : State = state_after_answer old.settings old.timer old.state call answer in
    let writer : SeenWriter = (seen_later old after between.writer).writer in
    let P : SeenWriter → Type 0 = λ w. Writes (call_text old.settings old.timer old.state call) answer old.writer w in
    let Q : Seen → Type 0 = λ s. Runs (accepted_calls calls answers) (replies_among answers) s new in
    runs_first call calls answer answers old new writer h.allowed (subst P (ap (λ (s : Seen). s.writer) h.left) h.written)
    (ap (λ (s : Seen). s.state.failed) (sym h.left) ∙ sound_from calls answers between new rest sound)
    (subst Q h.left (runs calls answers between new rest sound))

module _ {W FT : Type 0} (see : LayeredView W FT → Seen) where
  -- one change and then another
  pub change_then : {First Second Both : Seen → Seen → Type 0} → ((a b c : Seen) → First a b → Second b c → Both a c) →
      (old between new : LayeredView W FT) → Changes see First old between → Changes see Second between new → Changes see Both old new
  change_then join old between new h k = record {
    changed = join (see old) (see between) (see new) h.changed k.changed;
    fixed = k.fixed ∙ (λ i. record (h.fixed i) {
      writer = new.layer.writer;
      last = new.layer.last;
      failed = new.layer.failed;
      unwritten = new.layer.unwritten;
    });
  }

  -- what is seen of answered calls is answered in order
  answers_seen : (calls : List Call) (answers : List (Result Reply Refusal)) (old new : LayeredView W FT) → AreAnswered see calls answers old new →
      Changes see (AreSeenAnswered calls answers) old new
  answers_seen [] [] old new h =
      let P : LayeredView W FT → Type 0 = λ v. Changes see (AreSeenAnswered [] []) old v in
      subst P (sym h) (record { changed = refl; fixed = refl })
  answers_seen [] (answer ∷ answers) old new h = absurd h
  answers_seen (call ∷ calls) [] old new h = absurd h
  answers_seen (call ∷ calls) (answer ∷ answers) old new (between, h, rest) =
      change_then (λ a b c first others. (b, first, others)) old between new h (answers_seen calls answers between new rest)

  -- a run of calls that were answered
  pub is_run : (calls : List Call) (answers : List (Result Reply Refusal)) (old new : LayeredView W FT) → AreAnswered see calls answers old new →
      Changes see (IsRunOf calls answers) old new
  is_run calls answers old new h =
      let change = answers_seen calls answers old new h in
      let from : Seen = see old in
      record {
        changed = record {
          runs = runs calls answers from (see new) change.changed;
          reads = λ first earlier begun. reading-laws from.settings from.timer first (earlier ++ accepted_calls calls answers);
        };
        fixed = change.fixed;
      }

  -- one more answered call
  pub answered_more : (calls : List Call) (answers : List (Result Reply Refusal)) (call : Call) (answer : Result Reply Refusal)
      (old between new : LayeredView W FT) → AreAnswered see calls answers old between → Changes see (IsAnswered call answer) between new →
      AreAnswered see (calls ++ call ∷ []) (answers ++ answer ∷ []) old new
  answered_more [] [] call answer old between new h k =
      let P : LayeredView W FT → Type 0 = λ v. Changes see (IsAnswered call answer) v new in
      (new, subst P h k, refl)
  answered_more [] (other ∷ answers) call answer old between new h k = absurd h
  answered_more (other ∷ calls) [] call answer old between new h k = absurd h
  answered_more (one ∷ calls) (other ∷ answers) call answer old between new (next, h, rest) k =
      (next, h, answered_more calls answers call answer next between new rest k)

-- ---- calls that are answered in place

-- the first of the items that are left is at the current place, and another may be put there
pub next_item : {A : Type 0} (items taken rest : List A) (place : ℕ) (d : A) → items ≡ taken ++ rest → length taken ≡ place → place < length items
    → (others : List A) × (rest ≡ slice_index_or items place d ∷ others)
    × ((left : A) → slice_set items place left ≡ (taken ++ left ∷ []) ++ others)
next_item items taken [] place d split is less = absurd (omega (arith, is, less, ap length split, length-append taken []))
next_item items taken (item ∷ others) place d split is less = (
  others,
  rw (← is, split) (ap (λ first. first ∷ others) (sym (get_or-append_seam taken item others d))),
  λ left. rw (← is, split) (set-append_seam taken item others left ∙ sym (append_assoc taken (left ∷ []) others)),
)

pub none_left : {A : Type 0} (items : List A) → length items ≡ 0 → items ≡ []
none_left [] e = refl
none_left (item ∷ others) e = cc
