use Rattle.std.proofs.Common.{◌≡◌, false, ap, ◌∙◌}
use Rattle.tracing_tree_spans.specs.Registry.Forest.{take_back}
use Rattle.tracing_tree_layer.proofs.TurnLaws.{new_refused, new_drawn}
use Rattle.tracing_tree_layer.proofs.layered.Layered.add_span.Goals as goal

pub returns-in-Err : goal.returns-in-Err
returns-in-Err g c =
    let before = c.self.inside in
    let sound : before.layer.failed ≡ false = ap (λ l. l.layer.failed) c.self.view_is ∙ c.requires in
    rw (← c.self.view_is)
    (new_refused g.FT.FormatTime g.W.Output c.args.attributes c.args.context.now c.in_ok-id.id false c.in-Err.refusal
    (record { forest = before.registry; layer = before.layer }) (record { forest = c.take_back.new.self; layer = c.write_new_span.new.self }) c.new_span.new.self
    sound c.in_ok-id.ensures.made c.in-Err.ensures.written c.in-Err.ensures.layer
    (c.take_back.ensures ∙ ap (take_back c.in_ok-id.id) c.in-Err.ensures.marked ∙ c.in_ok-id.ensures.undone))

pub returns : goal.returns
returns g c =
    let before = c.self.inside in
    let sound : before.layer.failed ≡ false = ap (λ l. l.layer.failed) c.self.view_is ∙ c.requires in
    rw (← c.self.view_is)
    (new_drawn g.FT.FormatTime g.W.Output c.args.attributes c.args.context.now c.in_ok-id.id false c.in_default.field-0
    (record { forest = before.registry; layer = before.layer }) (record { forest = c.write_new_span.new.spans; layer = c.write_new_span.new.self }) c.new_span.new.self
    sound c.in_ok-id.ensures.made c.in_default.ensures)
