use Rattle.std.proofs.Common.{ap, sym, subst, ◌∙◌, string_bytes}
use Rattle.tracing_tree_layer.specs.Layer.Drawn.{Drafts, is_event_too_wide}
use Rattle.tracing_tree_layer.specs.Layer.Turns.{turn_of_event}
use Rattle.tracing_tree_layer.specs.Layered.Refused.{timer_faults_at}
use Rattle.tracing_tree_layer.proofs.DrawnLaws.{gives_up}
use Rattle.tracing_tree_layer.proofs.layer.HierarchicalLayer.write_event.Goals as goal

pub returns-else-is_ok : goal.returns-else-is_ok
returns-else-is_ok g c =
    let inside = c.self.inside in
    let drawn = c.event-drawn in
    let timer = g.FT.FormatTime.timer inside.timer in
    let event = g.E.EventParts.whole c.args.event.now in
    let drafts = subst (λ d. let settings = d.config.now in
    let context = d.context.now in
    let forest = g.S.LookupSpan.forest d.spans.now in
    Drafts settings forest (turn_of_event settings timer context forest d.last event) (timer_faults_at settings timer forest context)
    (is_event_too_wide settings timer forest event context) drawn.result (string_bytes inside.page) (string_bytes drawn.new.page) drawn.new.plan)
    c.new-drawing.ensures drawn.ensures in
    let sound = c.self.invariant (ap (λ l. l.failed) c.self.view_is ∙ c.requires.sound) in
    let refused = sym c.is_ok.ensures.value ∙ c.if-is_ok.false in
    rw (← c.self.view_is) (gives_up _ inside.config _ _ _ _ drawn.result c.send-sent.result (string_bytes inside.page) (string_bytes drawn.new.page) (string_bytes c.send-sent.new.page) drawn.new.plan
    _ _ inside.timer inside.last _ _ drafts sound.0 c.send-sent.ensures.sends c.send-sent.ensures.failed refused)
