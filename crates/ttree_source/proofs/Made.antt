-- Calls that a `Layered` accepted one after another.
use Rattle.std.proofs.Common.{◌≡◌, List, [], ◌∷◌, ◌++◌, length, Ok, refl, sym, ap, subst, ◌∙◌, arith, append-nil, length-append}
use Rattle.std.specs.Io.KnownBytes.{Appends}
use Rattle.std.proofs.KnownBytes.{Appends-nil, Appends-trans, Appends-kept}
use Rattle.tracing_tree_drawing.specs.Format.Picture.{Row, draw}
use Rattle.tracing_tree_layer.specs.Layered.Seen.{Seen, seen_later}
use Rattle.tracing_tree_layer.specs.Layered.Step.{turn_of}
use Rattle.tracing_tree_layer.specs.Layered.Run.{Run, run, run_by_cause, then_run}
use Rattle.tracing_tree_layer.specs.Layered.Answered.{IsAnswered}
use Rattle.tracing_tree_layer.specs.Layered.Headline.{run_from}
use Rattle.tracing_tree_layer.specs.Layer.Layers.{Flushes}
use Rattle.tracing_tree_layer.specs.declared.call.Call.{Call}
use Rattle.tracing_tree_layer.specs.declared.call.Reply.{Reply}
use Rattle.tracing_tree_layer.proofs.DrawnLaws.{draw-append}
use Rattle.tracing_tree_layer.proofs.RunLaws.{run-append}
use Rattle.ttree_source.specs.Source.{Makes}

-- ---- accepted calls

pub makes_none : (s : Seen) → Makes [] s s
makes_none s = record { left = refl; bytes = Appends-nil s.writer.bytes; all = refl; calm = refl }

pub makes_one : (call : Call) (reply : Reply) (old new : Seen) → IsAnswered call (Ok reply) old new → Makes (call ∷ []) old new
makes_one call reply old new h =
    let rows : List Row = (turn_of old.settings old.timer old.state.forest old.state.last call).rows in
    let e = ap (λ cause. then_run (run_by_cause old.settings old.timer old.state call cause) (λ state. run old.settings old.timer state [])) h.allowed.0 in
    record {
      left = h.left ∙ ap (λ (r : Run). seen_later old r.state new.writer) (sym e);
      bytes = subst (Appends old.writer.bytes new.writer.bytes)
          (sym (ap (λ (r : Run). draw old.settings r.rows) e ∙ ap (draw old.settings) (append-nil rows))) h.written.0;
      all = ap (λ (r : Run). length r.replies) e;
      calm = h.written.1;
    }

pub makes_then : (first second : List Call) (old mid new : Seen) → Makes first old mid → Makes second mid new → Makes (first ++ second) old new
makes_then first second old mid new h k =
    let r : Run = run_from old first in
    let between : Seen = seen_later old r.state mid.writer in
    let P : Seen → Type 0 = λ s. Makes second s new in
    let after : Makes second between new = subst P h.left k in
    let rest : Run = run_from between second in
    let e = run-append old.settings old.timer old.state first second in
    let text : draw old.settings (run_from old (first ++ second)).rows ≡ draw old.settings r.rows ++ draw old.settings rest.rows =
    ap (λ (r : Run). draw old.settings r.rows) e ∙ draw-append old.settings r.rows rest.rows in
    record {
      left = after.left ∙ ap (λ (r : Run). seen_later old r.state new.writer) (sym e);
      bytes = subst (Appends old.writer.bytes new.writer.bytes) (sym text)
          (Appends-trans old.writer.bytes mid.writer.bytes new.writer.bytes (draw old.settings r.rows) (draw old.settings rest.rows) h.bytes after.bytes);
      all = omega (arith, ap (λ (r : Run). length r.replies) e, length-append r.replies rest.replies, length-append first second, h.all, after.all);
      calm = after.calm ∙ h.calm;
    }

-- the writer is flushed
pub makes_flushed : (calls : List Call) (old mid new : Seen) → Makes calls old mid → Flushes mid new → Makes calls old new
makes_flushed calls old mid new h k = record {
  left = k.same ∙ (λ i. record (h.left i) { writer = record (h.left i).writer { bytes = new.writer.bytes } })
      ∙ ap (λ faults. seen_later old (run_from old calls).state (record new.writer { faults = faults })) (sym (ap (λ (s : Seen). s.writer.faults) k.same));
  bytes = Appends-kept old.writer.bytes mid.writer.bytes new.writer.bytes _ h.bytes k.kept;
  all = h.all;
  calm = ap (λ (s : Seen). s.writer.faults) k.same ∙ h.calm;
}
