-- What opening the input leaves.
use Rattle.std.specs.Prelude.{◌≡◌, ℕ, ◌==◌, true, false, List, [], ◌∷◌, map, slice_get, Option, Some, None, Result, Ok, Err, IfSome, is_some, if◌then◌else◌}
use Rattle.std.proofs.Common.{refl, sym, ap, ◌∙◌, subst, inr}
use Rattle.std.specs.Io.Buffered.{reader_remaining, reader_inner, reader_buffer, reader_capacity}
use Rattle.std.specs.declared.io.buffered.BufReader.{BufReader}
use Rattle.std.specs.Io.KnownBytes.{prepend_known}
use Rattle.std.proofs.KnownBytes.{prepend_known-nil}
use Rattle.serde_json.specs.Data.{Data, null, boolean, number, string, array, object}
use Rattle.serde_json.specs.Find.{as_null}
use Rattle.tracing_tree_drawing.specs.Format.Settings.{Settings}
use Rattle.tracing_tree_time.specs.Clock.{Timer}
use Rattle.tracing_tree_time.specs.declared.timer.FormatTime.{Ghosts as FormatTime}
use Rattle.tracing_tree_base.specs.declared.context.Refusal.{Refusal}
use Rattle.tracing_tree_output.specs.declared.output.Output.{Ghosts as Output}
use Rattle.tracing_tree_layer.specs.Layer.Layers.{LayeredView, Changes, Flushes, seen}
use Rattle.tracing_tree_layer.specs.Layered.Answered.{IsAnswered}
use Rattle.tracing_tree_layer.specs.Layered.Seen.{Seen}
use Rattle.tracing_tree_layer.specs.declared.call.Call.{Call}
use Rattle.tracing_tree_layer.specs.declared.call.Reply.{Reply}
use Rattle.tracing_tree_lines.specs.Lines.Runs.{AreAccepted, AreMade, EndsAtFirst, CountsEnd, MakesCalls, RunsOver, LeavesRun, opened_with, seen_over}
use Rattle.tracing_tree_lines.specs.Lines.Reads.{TakesLine, IsBeforeCalls, OpensWith}
use Rattle.tracing_tree_lines.specs.Lines.Values.{IsUnlessMemory, asked_timer}
use Rattle.tracing_tree_lines.specs.declared.lines.settings.timer.Timer.{Timer as AskedTimer}
use Rattle.tracing_tree_lines.specs.Lines.Spelled.{SpellsSettings, input_lines, unless_null}
use Rattle.tracing_tree_lines.specs.declared.lines.LineCause.{LineCause}
use Rattle.tracing_tree_lines.specs.declared.lines.LineCause.TheVariants.{Settings as NoSettings, NotACall, Read, Memory, Refused}
use Rattle.tracing_tree_lines.specs.declared.lines.LineFault.{LineFault}

-- ---- members

-- a null is absent
pub absent : (value : Data) → is_some (as_null value) ≡ true → unless_null value ≡ None
absent null e = refl
absent (boolean b) e = cc
absent (number n) e = cc
absent (string s) e = cc
absent (array ds) e = cc
absent (object ms) e = cc

-- another value is there
pub there : (value : Data) → is_some (as_null value) ≡ false → unless_null value ≡ Some value
there null e = cc
there (boolean b) e = refl
there (number n) e = refl
there (string s) e = refl
there (array ds) e = refl
there (object ms) e = refl

-- ---- the first line

-- the two causes differ
not_call : NoSettings ≡ NotACall → ⊥
not_call e = cc

-- a fresh buffer has nothing in front of the reader
pub opened_known : {T A : Type 0} (remaining : T → Option (List ℕ)) (lines : BufReader T A) (reader : T) → reader_inner lines ≡ reader → reader_buffer lines ≡ [] →
    reader_capacity lines ≡ 65_536 → reader_remaining remaining lines ≡ remaining reader
opened_known remaining lines reader inner empty capacity =
    let P : ℕ → Type 0 = λ n. (if n == 0 then None else prepend_known (reader_buffer lines) (remaining lines.inner)) ≡ remaining reader in
    subst P (sym capacity) (ap (λ bytes. prepend_known bytes (remaining lines.inner)) empty ∙ prepend_known-nil (remaining lines.inner) ∙ ap remaining inner)

-- a first line without readable settings
pub ends_first : (known left : Option (List ℕ)) (line : List ℕ) (cause : LineCause) → TakesLine known left line →
    IsUnlessMemory NoSettings ((settings : Settings) (timer : Timer) → ¬ SpellsSettings line settings timer) cause → IfSome known (λ input. EndsAtFirst input cause)
ends_first None left line cause first reads = tt
ends_first (Some input) None line cause first reads = absurd first
ends_first (Some input) (Some rest) line NoSettings first reads = λ settings timer others begins.
    let same : begins.0 ≡ line = first_same begins.0 line others (input_lines rest) (sym begins.1 ∙ first) in
    reads.1 settings timer (subst (λ l. SpellsSettings l settings timer) same begins.2)
  where
    first_same : (a b : List ℕ) (more others : List (List ℕ)) → a ∷ more ≡ b ∷ others → a ≡ b
    first_same a b more others e = cc
ends_first (Some input) (Some rest) line NotACall first reads = absurd (not_call reads.0)
ends_first (Some input) (Some rest) line Read first reads = absurd reads
ends_first (Some input) (Some rest) line Memory first reads = tt
ends_first (Some input) (Some rest) line (Refused refusal) first reads = absurd reads

-- no call was made, and no write refused
pub calm_early : (cause : LineCause) (faults : ℕ) → IsBeforeCalls cause → CountsEnd (Some cause) faults faults
calm_early NoSettings faults early = refl
calm_early NotACall faults early = refl
calm_early Read faults early = refl
calm_early Memory faults early = refl
calm_early (Refused refusal) faults early = absurd early

-- ---- the whole run

module _ {W : Type 0} (output : Output W) where
  -- a layered whose timer is what it states
  abbrev stated : {FT : Type 0} → FormatTime FT → LayeredView W FT → LayeredView W Timer
  stated time layered = record {
    forest = layered.forest;
    layer = record {
      settings = layered.layer.settings;
      writer = layered.layer.writer;
      timer = time.timer layered.layer.timer;
      last = layered.layer.last;
      failed = layered.layer.failed;
      unwritten = layered.layer.unwritten;
    };
  }

  module _ {FT : Type 0} (time : FormatTime FT) where
    -- what is changed, and calls that are made, if the timers are what they state
    changes-stated : (Holds : Seen → Seen → Type 0) (old new : LayeredView W FT) → Changes (seen time output) Holds old new →
        Changes (seen_over output) Holds (stated time old) (stated time new)
    changes-stated Holds old new h = record {
      changed = h.changed;
      fixed = (λ i. (stated time (record { forest = old.forest; layer = h.fixed i })).layer);
    }

    are_made-stated : (calls : List Call) (answers : List (Result Reply Refusal)) (old new : LayeredView W FT) → AreMade (seen time output) calls answers old new →
        AreMade (seen_over output) calls answers (stated time old) (stated time new)
    are_made-stated [] [] old new h = changes-stated Flushes old new h
    are_made-stated [] (answer ∷ answers) old new h = absurd h
    are_made-stated (call ∷ calls) [] old new h = absurd h
    are_made-stated (call ∷ calls) (answer ∷ answers) old new (shown, between, passed, one, rest) = (
      stated time shown,
      stated time between,
      changes-stated Flushes old shown passed,
      changes-stated (IsAnswered call answer) shown between one,
      are_made-stated calls answers between new rest,
    )

    accepted-stated : (calls : List Call) (old new : LayeredView W FT) → AreAccepted (seen time output) calls old new →
        AreAccepted (seen_over output) calls (stated time old) (stated time new)
    accepted-stated calls old new (replies, made) = (replies, are_made-stated calls (map Ok replies) old new made)

    makes-stated : (cause : Option LineCause) (line : Option (List ℕ)) (calls : List Call) (old new : LayeredView W FT) →
        MakesCalls (seen time output) old new cause line calls → MakesCalls (seen_over output) (stated time old) (stated time new) cause line calls
    makes-stated None line calls old new h = accepted-stated calls old new h
    makes-stated (Some NoSettings) line calls old new h = accepted-stated calls old new h
    makes-stated (Some NotACall) line calls old new h = accepted-stated calls old new h
    makes-stated (Some Read) line calls old new h = accepted-stated calls old new h
    makes-stated (Some Memory) line calls old new h = accepted-stated calls old new h
    makes-stated (Some (Refused refusal)) None calls old new h = accepted-stated calls old new h
    makes-stated (Some (Refused refusal)) (Some line) calls old new (last, made, call, spelled, one) =
        (stated time last, accepted-stated calls old last made, call, spelled, are_made-stated (call ∷ []) (Err refusal ∷ []) last new one)

    -- a run that makes its calls in one way makes them in the other
    runs-stated : (lines : List (List ℕ)) (accepted : ℕ) (fault : Option LineFault) (old new : LayeredView W FT) →
        RunsOver lines accepted fault (seen time output old) (seen time output new).writer (MakesCalls (seen time output) old new) →
        RunsOver lines accepted fault (seen time output old) (seen time output new).writer
        (MakesCalls (seen_over output) (stated time old) (stated time new))
    runs-stated lines accepted fault old new h = record {
      judged = h.judged;
      within = h.within;
      cause = h.cause;
      blamed = h.blamed;
      counted = h.counted;
      unjudged = h.unjudged;
      calls = h.calls;
      spelled = h.spelled;
      count = h.count;
      taken = h.taken;
      all = h.all;
      ends = h.ends;
      front = h.front;
      left = h.left;
      appends = h.appends;
      made = makes-stated h.cause (slice_get lines h.judged) h.calls old new h.made;
    }

    -- the first line encodes settings that can be set, and the run over the others is the whole run
    pub concludes : (known left : Option (List ℕ)) (setup : Settings × AskedTimer) (accepted : ℕ) (fault : Option LineFault) (writer end : W)
        (old new : LayeredView W FT) → OpensWith known left setup → stated time old ≡ opened_with setup.0 (asked_timer setup.1) writer → new.layer.writer ≡ end →
        IfSome left (λ rest. RunsOver (input_lines rest) accepted fault (seen time output old) (seen time output new).writer
        (MakesCalls (seen time output) old new)) →
        IfSome known (λ input. LeavesRun output input accepted fault writer end)
    concludes None left setup accepted fault writer end old new opened opens ends r = tt
    concludes (Some input) None setup accepted fault writer end old new opened opens ends r = absurd opened.first
    concludes (Some input) (Some rest) setup accepted fault writer end old new opened opens ends r =
        let see = seen_over output in
        let P : LayeredView W Timer → Type 0 = λ o. RunsOver (input_lines rest) accepted fault (see o) (see (stated time new)).writer
        (MakesCalls see o (stated time new)) in
        inr (
          setup.0,
          asked_timer setup.1,
          input_lines rest,
          (opened.line, opened.first, opened.spelled),
          stated time new,
          ends,
          subst P opens (runs-stated (input_lines rest) accepted fault old new r),
        )
