-- What one answered call leaves is the replay of the history with it.
use Rattle.std.proofs.Common.{◌≡◌, ℕ, Bool, true, false, List, [], ◌∷◌, ◌++◌, map, Option, Some, None, Result, Ok, Err, IsTrue, refl, sym, ap, subst, ◌∙◌, append-nil, inl, inr}
use Rattle.std.specs.Bool.{then_some}
use Rattle.std.specs.Option.{option_map}
use Rattle.std.specs.Io.KnownBytes.{Appends, Keeps}
use Rattle.tracing_tree_drawing.specs.Format.Settings.{Settings}
use Rattle.tracing_tree_time.specs.Clock.{Timer}
use Rattle.tracing_tree_drawing.specs.Format.Picture.{Row, draw}
use Rattle.tracing_tree_output.specs.Writers.{SeenWriter}
use Rattle.tracing_tree_base.specs.declared.context.Id.{Id}
use Rattle.tracing_tree_base.specs.declared.context.Refusal.{Refusal}
use Rattle.tracing_tree_base.specs.declared.context.Refusal.TheVariants as Refused
use Rattle.tracing_tree_base.specs.declared.context.Refusal.TheVariants.{NotHeld, TooWide, TooMany, Memory, Writer, Failed}
use Rattle.tracing_tree_layer.specs.Layered.State.{State, opening_state}
use Rattle.tracing_tree_layer.specs.Layered.Seen.{Seen}
use Rattle.tracing_tree_layer.specs.Layered.Step.{turn_of, state_after}
use Rattle.tracing_tree_layer.specs.Layer.Drawn.{draws_too_wide}
use Rattle.tracing_tree_layer.specs.Layered.Refused.{cause_of, first_of_all, id_not_held, is_too_many, timer_faults}
use Rattle.tracing_tree_layer.proofs.Causes.{first_cause, Causes}
use Rattle.tracing_tree_layer.specs.Layered.Run.{Run, run, state_after_answer, MayAnswer, call_text}
use Rattle.tracing_tree_layer.specs.Layered.Answered.{IsAnswered, Writes}
use Rattle.tracing_tree_layer.specs.Layer.Layers.{LayeredView}
use Rattle.tracing_tree_shared.specs.History.{Entry, Slip, IsKept, calls_in, replay}
use Rattle.tracing_tree_layer.specs.declared.call.Call.{Call}
use Rattle.tracing_tree_layer.specs.declared.call.Reply.{Reply}
use Rattle.tracing_tree_layer.proofs.DrawnLaws.{draw-append}
use Rattle.tracing_tree_layer.proofs.Runs.{run_more}
use Rattle.tracing_tree_layer.proofs.Reading.Ancestors.{reading-laws}
use Rattle.tracing_tree_shared.specs.Finish.{IsReplay}
use Rattle.tracing_tree_shared.specs.Books.{KeepsReplay, IsAnsweredOrLacks, entries_of, BookView, answer_shown, IsApplied, IsAnsweredOnSome, seen_on_tape}
use Rattle.tracing_tree_shared.specs.declared.draft.Refused as Answers
use Rattle.tracing_tree_output.specs.Outputs.{TapeView}
use Rattle.tracing_tree_time.specs.declared.timer.FormatTime.{Ghosts as FormatTime}

map-more : {A B : Type 0} (f : A → B) (xs : List A) (x : A) → map f (xs ++ x ∷ []) ≡ map f xs ++ f x ∷ []
map-more f [] x = refl
map-more f (y ∷ ys) x = ap (λ rest. f y ∷ rest) (map-more f ys x)

-- known bytes that grow stay known
grown : (xs : List ℕ) (new : Option (List ℕ)) (bs : List ℕ) → Appends (Some xs) new bs → new ≡ Some (xs ++ bs)
grown xs None bs h = absurd h
grown xs (Some ys) bs h = ap Some h

kept : (xs : List ℕ) (new : Option (List ℕ)) → Keeps (Some xs) new → new ≡ Some xs
kept xs None h = absurd h
kept xs (Some ys) h = ap Some h

-- a call without cause finds a layer that hasn't failed
no_first : (failed : Bool) (others : List (Option Refusal)) → first_of_all (then_some failed Failed ∷ others) ≡ None → failed ≡ false
no_first false others e = refl
no_first true others e = cc

no_failure : (causes : Causes) → first_cause causes ≡ None → causes.failed ≡ false
no_failure causes e = no_first causes.failed (
    option_map NotHeld causes.not_held
    ∷ then_some causes.too_many TooMany
    ∷ then_some causes.too_wide TooWide
    ∷ then_some causes.timer_faults Refused.Timer
    ∷ []) e

sound_at : (settings : Settings) (timer : Timer) (state : State) (call : Call) → cause_of settings timer state call ≡ None → state.failed ≡ false
sound_at settings timer state call e = no_failure (record {
  failed = state.failed;
  not_held = id_not_held state.forest call;
  too_many = is_too_many state.forest call;
  too_wide = draws_too_wide settings (turn_of settings timer state.forest state.last call).rows;
  timer_faults = timer_faults settings timer state.forest call;
}) e

-- the state that is kept is that of the replay
state_of_replay : (settings : Settings) (timer : Timer) (first : Option Id) (history : List Entry) (state : State) (bytes : Option (List ℕ)) →
    IsKept settings timer first history state bytes → state.failed ≡ false → state ≡ (replay settings timer first history).state
state_of_replay settings timer first history state bytes k sound =
    λ i. record { forest = k.forest i; last = k.last i; failed = (sound ∙ sym k.sound) i }

-- an accepted call
kept_accepted : (settings : Settings) (timer : Timer) (first : Option Id) (history : List Entry) (state : State) (old new : Option (List ℕ)) (call : Call) (reply : Reply) →
    IsKept settings timer first history state old → MayAnswer settings timer state call (Ok reply) →
    Appends old new (call_text settings timer state call) →
    IsKept settings timer first (history ++ (call, reply) ∷ []) (state_after settings timer state call) new
kept_accepted settings timer first history state old new call reply k may wrote =
    let before : Run = replay settings timer first history in
    let same : state ≡ before.state = state_of_replay settings timer first history state old k (sound_at settings timer state call may.0) in
    let May : State → Type 0 = λ s. MayAnswer settings timer s call (Ok reply) in
    let Wrote : State → Type 0 = λ s. Appends old new (call_text settings timer s call) in
    let rows : List Row = (turn_of settings timer before.state.forest before.state.last call).rows in
    let after : Run = record { state = state_after settings timer before.state call; rows = before.rows ++ rows; replies = before.replies ++ reply ∷ [] } in
    let whole : replay settings timer first (history ++ (call, reply) ∷ []) ≡ after =
    ap (λ calls. run settings timer (opening_state first) calls) (map-more (λ entry. entry.0) history (call, reply))
    ∙ run_more settings timer (opening_state first) (calls_in history) call reply (subst May same may) in
    let known : Option (List ℕ) → Type 0 = λ bytes. Appends bytes new (draw settings rows) in
    record {
      forest = ap (λ (s : State). (state_after settings timer s call).forest) same ∙ sym (ap (λ (r : Run). r.state.forest) whole);
      last = ap (λ (s : State). (state_after settings timer s call).last) same ∙ sym (ap (λ (r : Run). r.state.last) whole);
      sound = ap (λ (r : Run). r.state.failed) whole ∙ k.sound;
      replies = ap (λ (r : Run). r.replies) whole ∙ ap (λ replies. replies ++ reply ∷ []) k.replies
          ∙ sym (map-more (λ entry. entry.1) history (call, reply));
      output = grown (draw settings before.rows) new (draw settings rows) (subst known k.output (subst Wrote same wrote))
          ∙ ap Some (sym (draw-append settings before.rows rows))
          ∙ sym (ap (λ (r : Run). Some (draw settings r.rows)) whole);
    }

-- a refused call that wrote nothing
kept_refused : (settings : Settings) (timer : Timer) (first : Option Id) (history : List Entry) (state after : State) (old new : Option (List ℕ)) →
    IsKept settings timer first history state old → after.forest ≡ state.forest → after.last ≡ state.last → Keeps old new →
    IsKept settings timer first (history ++ []) after new
kept_refused settings timer first history state after old new k forest last wrote =
    let P : List Entry → Type 0 = λ entries. IsKept settings timer first entries after new in
    let known : Option (List ℕ) → Type 0 = λ bytes. Keeps bytes new in
    subst P (sym (append-nil history)) (record {
      forest = forest ∙ k.forest;
      last = last ∙ k.last;
      sound = k.sound;
      replies = k.replies;
      output = kept _ new (subst known k.output wrote);
    })

appends_nothing : (old new : Option (List ℕ)) (bs : List ℕ) → bs ≡ [] → Appends old new bs → Keeps old new
appends_nothing None new bs e h = tt
appends_nothing (Some xs) None bs e h = absurd h
appends_nothing (Some xs) (Some ys) bs e h = h ∙ ap (λ rest. xs ++ rest) e ∙ append-nil xs

kept_answer : (settings : Settings) (timer : Timer) (first : Option Id) (history : List Entry) (state : State) (old new : SeenWriter) (call : Call) (answer : Result Reply Refusal) →
    IsTrue old.whole → IsKept settings timer first history state old.bytes → MayAnswer settings timer state call answer →
    Writes (call_text settings timer state call) answer old new →
    IsKept settings timer first (history ++ entries_of call answer) (state_after_answer settings timer state call answer) new.bytes
kept_answer settings timer first history state old new call (Ok reply) whole k may wrote =
    kept_accepted settings timer first history state old.bytes new.bytes call reply k may wrote.0
kept_answer settings timer first history state old new call (Err (NotHeld j)) whole k may wrote = kept_refused settings timer first history state state old.bytes new.bytes k refl refl wrote.0
kept_answer settings timer first history state old new call (Err TooWide) whole k may wrote = kept_refused settings timer first history state state old.bytes new.bytes k refl refl wrote.0
kept_answer settings timer first history state old new call (Err TooMany) whole k may wrote = kept_refused settings timer first history state state old.bytes new.bytes k refl refl wrote.0
kept_answer settings timer first history state old new call (Err Memory) whole k may wrote = kept_refused settings timer first history state state old.bytes new.bytes k refl refl wrote.0
kept_answer settings timer first history state old new call (Err Refused.Timer) whole k may wrote =
    kept_refused settings timer first history state (record state { failed = true }) old.bytes new.bytes k refl refl wrote.0
kept_answer settings timer first history state old new call (Err Writer) whole k may wrote =
    kept_refused settings timer first history state (record state { failed = true }) old.bytes new.bytes k refl refl
    (appends_nothing old.bytes new.bytes wrote.front (wrote.nothing whole) wrote.appends)
kept_answer settings timer first history state old new call (Err Failed) whole k may wrote = kept_refused settings timer first history state state old.bytes new.bytes k refl refl wrote.0

-- Each answered call keeps what a book keeps, with what its answer adds to the history.
keeps_answered : (first : Option Id) (history : List Entry) (call : Call) (answer : Result Reply Refusal) (old new : Seen) →
    IsTrue old.writer.whole → IsAnswered call answer old new → KeepsReplay first history old →
    KeepsReplay first (history ++ entries_of call answer) new
keeps_answered first history call answer old new whole h k =
    let P : Seen → Type 0 = λ s. IsKept s.settings s.timer first (history ++ entries_of call answer) s.state new.writer.bytes in
    subst P (sym h.left) (kept_answer old.settings old.timer first history old.state old.writer new.writer call answer whole k h.allowed h.written)

-- A call that was refused because memory ran out, too.
pub keeps_replay : (first : Option Id) (history : List Entry) (call : Call) (answer : Result Reply Refusal) (old new : Seen) →
    IsTrue old.writer.whole → IsAnsweredOrLacks call answer old new → KeepsReplay first history old →
    KeepsReplay first (history ++ entries_of call answer) new
keeps_replay first history call answer old new whole (inl h) k = keeps_answered first history call answer old new whole h k
keeps_replay first history call answer old new whole (inr lacks) k =
    let P : Seen → Type 0 = λ s. KeepsReplay first (history ++ entries_of call answer) s in
    let Q : Result Reply Refusal → Type 0 = λ r. KeepsReplay first (history ++ entries_of call r) old in
    let R : List Entry → Type 0 = λ entries. KeepsReplay first entries old in
    subst P (sym lacks.same) (subst Q (sym lacks.cause) (subst R (sym (append-nil history)) k))

-- A draft's answer is a call's answer on some layer.
pub answered_on_some : {FT : Type 0} {time : FormatTime FT} {call : Call} {result : Result Slip Answers.Refused} {old new : BookView TapeView FT} →
    IsApplied time call result old new → IsAnsweredOnSome time call (answer_shown result)
answered_on_some {old = old} {new = new} applied = (old.layered, new.layered, applied.answered)

-- A book's history with its drawing.
pub replay_of : {FT : Type 0} (time : FormatTime FT) (first : Option Id) (history : List Entry) (layered : LayeredView TapeView FT) (written : List ℕ) →
    layered.layer.writer.bytes ≡ written → KeepsReplay first history (seen_on_tape time layered) → IsReplay time layered.layer.settings history written
replay_of time first history layered written e k =
    let settings = layered.layer.settings in
    let timer = time.timer layered.layer.timer in
    let state = (seen_on_tape time layered).state in
    let Keeps' : List ℕ → Type 0 = λ bytes. IsKept settings timer first history state (Some bytes) in
    record {
      timer = layered.layer.timer;
      first = first;
      state = state;
      kept = subst Keeps' e k;
      reads = reading-laws settings timer first (calls_in history);
    }
