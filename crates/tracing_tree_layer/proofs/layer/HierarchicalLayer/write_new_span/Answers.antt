use Rattle.std.proofs.Common.{false, ap, sym, subst, ◌∙◌, string_bytes}
use Rattle.tracing_tree_layer.specs.Layer.Drawn.{Drafts}
use Rattle.tracing_tree_layer.specs.Layer.Turns.{turn_of_new}
use Rattle.tracing_tree_layer.proofs.DrawnLaws.{gives_up}
use Rattle.tracing_tree_layer.proofs.layer.HierarchicalLayer.write_new_span.Goals as goal

pub returns-else-is_ok : goal.returns-else-is_ok
returns-else-is_ok g c =
    let inside = c.self.inside in
    let drawn = c.new_span-drawn in
    let drafts = subst (λ d. let forest = g.S.LookupSpan.forest d.spans.now in
    Drafts d.config.now forest (turn_of_new d.config.now d.context.now forest d.last c.args.id) false false drawn.result (string_bytes inside.page) (string_bytes drawn.new.page) drawn.new.plan)
    c.new-drawing.ensures drawn.ensures in
    let sound = c.self.invariant (ap (λ l. l.failed) c.self.view_is ∙ c.requires) in
    let refused = sym c.is_ok.ensures.value ∙ c.if-is_ok.false in
    rw (← c.self.view_is) (gives_up _ inside.config _ _ _ _ drawn.result c.send-sent.result (string_bytes inside.page) (string_bytes drawn.new.page) (string_bytes c.send-sent.new.page) drawn.new.plan
    _ _ inside.timer inside.last _ _ drafts sound.0 c.send-sent.ensures.sends c.send-sent.ensures.failed refused)
