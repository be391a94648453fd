use Rattle.std.proofs.Common.{sym, ap, ◌∙◌}
use Rattle.tracing_tree_layer.proofs.BareEvents.{bare_event}
use Rattle.tracing_tree_layer.proofs.layer.HierarchicalLayer.on_event.Goals as goal

pub returns : goal.returns
returns g c =
    bare_event g.FT.FormatTime g.W.Output c.args.event.now c.args.context.now _ c.write_event.result c.args.self.now c.write_event.new.self
    (g.S.LookupSpan.forest c.args.spans.now) (g.S.LookupSpan.forest c.write_event.new.spans)
    (sym (ap (λ l. l.failed) c.self.view_is) ∙ c.if-self.false) c.write_event.ensures
