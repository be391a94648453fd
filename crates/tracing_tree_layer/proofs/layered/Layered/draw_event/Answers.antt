use Rattle.std.proofs.Common.{◌≡◌, false, refl, ap, ◌∙◌}
use Rattle.std.proofs.lemmas.Result.{err_from_is_err_and}
use Rattle.tracing_tree_layer.specs.Layer.Layers.{seen}
use Rattle.tracing_tree_layer.specs.Layer.Turns.{turn_of_event}
use Rattle.tracing_tree_layer.specs.Layer.Drawn.{is_event_too_wide}
use Rattle.tracing_tree_layer.specs.Layered.Refused.{timer_faults_at}
use Rattle.tracing_tree_layer.specs.declared.call.Call.TheVariants.{Event}
use Rattle.tracing_tree_layer.proofs.TurnLaws.{cause-turn, turn_refused}
use Rattle.tracing_tree_layer.proofs.layered.Layered.draw_event.Goals as goal

pub returns-in_err-write_event : goal.returns-in_err-write_event
returns-in_err-write_event g c =
    let before = c.self.inside in
    let settings = before.layer.settings in
    let timer = g.FT.FormatTime.timer before.layer.timer in
    let event = (g.E.EventParts.whole c.args.event.now) in
    let context = c.args.context.now in
    let turn = turn_of_event settings timer context before.registry before.layer.last event in
    let faults = timer_faults_at settings timer before.registry context in
    let wide = is_event_too_wide settings timer before.registry event context in
    let sound : before.layer.failed ≡ false = ap (λ l. l.layer.failed) c.self.view_is ∙ c.requires.sound in
    let old = seen g.FT.FormatTime g.W.Output (record { forest = before.registry; layer = before.layer }) in
    let p = err_from_is_err_and c.from_residual.result c.from_residual.ensures.1 in
    rw (p.1, p.2, ← c.self.view_is)
    (turn_refused g.FT.FormatTime g.W.Output (Event event context) turn.rows faults wide c.in_err-write_event.field-0.0
    (record { forest = before.registry; layer = before.layer }) (record { forest = c.write_event.new.spans; layer = c.write_event.new.self }) sound
    (cause-turn settings timer old.state (Event event context) sound refl refl) refl (λ h. rw sound h)
    c.in_err-write_event.ensures.written c.in_err-write_event.ensures.layer c.in_err-write_event.ensures.marked)
