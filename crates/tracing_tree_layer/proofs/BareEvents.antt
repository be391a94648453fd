-- An event on a layer by itself, by the turn that the layer does.
use Rattle.std.proofs.Common.{◌≡◌, Bool, false, ℕ, List, Option, None, Result, Ok, Err, refl, sym, ap, subst, ◌∙◌}
use Rattle.tracing_tree_base.specs.declared.context.Context.{Context}
use Rattle.tracing_tree_base.specs.declared.context.Refusal.{Refusal}
use Rattle.tracing_tree_base.specs.declared.context.Refusal.TheVariants.{NotHeld, TooWide, TooMany, Memory, Timer, Writer, Failed}
use Rattle.tracing_tree_time.specs.declared.timer.FormatTime.{Ghosts as FormatTime}
use Rattle.tracing_tree_output.specs.declared.output.Output.{Ghosts as Output}
use Rattle.tracing_tree_output.specs.Writers.{seen_writer}
use Rattle.tracing_tree_spans.specs.declared.registry.Event.{Event}
use Rattle.tracing_tree_spans.specs.Registry.Forest.{Forest}
use Rattle.tracing_tree_time.specs.Clock.{Timer as Clock}
use Rattle.tracing_tree_drawing.specs.Format.Picture.{draw}
use Rattle.tracing_tree_layer.specs.Layered.State.{State, Turn}
use Rattle.tracing_tree_layer.specs.Layered.Refused.{timer_faults_at}
use Rattle.tracing_tree_layer.proofs.Causes.{first_cause}
use Rattle.tracing_tree_layer.specs.Layered.Run.{IsRefusedFor, after_refusal}
use Rattle.tracing_tree_layer.specs.Layered.Seen.{Seen, seen_later}
use Rattle.tracing_tree_layer.specs.Layer.Turns.{turn_of_event}
use Rattle.tracing_tree_layer.specs.Layer.Layers.{LayerView, Changes, seen}
use Rattle.tracing_tree_layer.specs.Layer.Bare.{on_event, bare_cause_of, IsBareAnswered}
use Rattle.tracing_tree_layer.specs.Layer.Drawn.{DoesTurn, failed_by, rows_cause, draws_too_wide}
use Rattle.tracing_tree_layer.proofs.TurnLaws.{first_cause_of_rows}

-- rows that are refused without a request for memory are refused as rows that take some
loud : (cause : Option Refusal) (quiet : Bool) (text : List ℕ) (refusal : Refusal) → IsRefusedFor cause text quiet refusal → IsRefusedFor cause text false refusal
loud cause quiet text (NotHeld i) h = h
loud cause quiet text TooWide h = h
loud cause quiet text TooMany h = h
loud cause quiet text Memory h = refl
loud cause quiet text Timer h = h
loud cause quiet text Writer h = h
loud cause quiet text Failed h = h

-- a refusal leaves whether the layer has failed
failed-after : (state : State) (refusal : Refusal) → state.failed ≡ false → record state { failed = failed_by {A = Unit {0}} (Err refusal) } ≡ after_refusal state refusal
failed-after state (NotHeld i) sound = λ k. record state { failed = sym sound k }
failed-after state TooWide sound = λ k. record state { failed = sym sound k }
failed-after state TooMany sound = λ k. record state { failed = sym sound k }
failed-after state Memory sound = λ k. record state { failed = sym sound k }
failed-after state Timer sound = refl
failed-after state Writer sound = refl
failed-after state Failed sound = λ k. record state { failed = sym sound k }

module _ {W FT : Type 0} (time : FormatTime FT) (output : Output W) where
  pub bare_event : (event : Event) (context : Context) (quiet : Bool) (result : Result (Unit {0}) Refusal) (old new : LayerView W FT) (forest after : Forest) →
      old.failed ≡ false →
      let timer = time.timer old.timer in
      DoesTurn (seen_writer output) (turn_of_event old.settings timer context forest old.last event) (timer_faults_at old.settings timer forest context) quiet result old new forest after →
      Changes (seen time output) (IsBareAnswered (on_event event context) result) (record { forest = forest; layer = old }) (record { forest = after; layer = new })
  bare_event event context quiet result old new forest after sound does = record {
    changed = by result does;
    fixed = does.layer ∙ (λ i. record old {
      writer = new.writer;
      last = sym (ap (λ (l : LayerView W FT). l.last) does.layer) i;
      failed = sym (ap (λ (l : LayerView W FT). l.failed) does.layer) i;
      unwritten = new.unwritten;
    });
  }
    where
      clock : Clock
      clock = time.timer old.timer

      turn : Turn
      turn = turn_of_event old.settings clock context forest old.last event

      faults : Bool
      faults = timer_faults_at old.settings clock forest context

      before : Seen
      before = seen time output (record { forest = forest; layer = old })

      cause : bare_cause_of old.settings clock before.state (on_event event context) ≡ rows_cause old.settings turn.rows faults
      cause = (λ i. first_cause (record {
        failed = sound i;
        not_held = None;
        too_many = false;
        too_wide = draws_too_wide old.settings turn.rows;
        timer_faults = faults;
      })) ∙ first_cause_of_rows (draws_too_wide old.settings turn.rows) faults

      by : (answer : Result (Unit {0}) Refusal) → DoesTurn (seen_writer output) turn faults quiet answer old new forest after →
          IsBareAnswered (on_event event context) answer before (seen time output (record { forest = after; layer = new }))
      by (Ok done) d = record {
        allowed = cause ∙ d.written.answer;
        left = (λ i. seen time output (record { forest = d.marked i; layer = d.layer i }))
            ∙ (λ i. seen_later before (record { forest = turn.forest; last = turn.last; failed = sym sound i }) (seen_writer output new.writer));
        written = d.written.written;
      }
      by (Err refusal) d = record {
        allowed = subst (λ (failed : Bool). IsRefusedFor (bare_cause_of old.settings clock before.state (on_event event context)) (draw old.settings turn.rows) failed refusal) (sym sound)
            (subst (λ (o : Option Refusal). IsRefusedFor o (draw old.settings turn.rows) false refusal) (sym cause)
            (loud (rows_cause old.settings turn.rows faults) quiet (draw old.settings turn.rows) refusal d.written.answer));
        left = (λ i. seen time output (record { forest = d.marked i; layer = d.layer i }))
            ∙ (λ i. seen_later before (failed-after before.state refusal sound i) (seen_writer output new.writer));
        written = d.written.written;
      }
