use Rattle.std.proofs.Common.{◌≡◌, false, ap, ◌∙◌}
use Rattle.tracing_tree_layer.specs.Layer.Drawn.{has_no_id}
use Rattle.tracing_tree_layer.proofs.TurnLaws.{closes, closes_held, closes_listed}
use Rattle.tracing_tree_layer.proofs.layered.Layered.close_handle.Goals as goal

pub close_listed-requires-clause-held : goal.close_listed-requires-clause-held
close_listed-requires-clause-held g c =
    let before = c.self.inside in
    closes_held before.layer.settings c.args.context.now c.args.id before.registry c.write_closes.new.spans before.layer.last c.as_slice-ids.result.now
    c.in_ok-closing_into.ensures.lists.0 c.in_ok-write_closes.ensures.marked

pub close_listed-requires-clause-listed : goal.close_listed-requires-clause-listed
close_listed-requires-clause-listed g c =
    let before = c.self.inside in
    closes_listed before.layer.settings c.args.context.now c.args.id before.registry c.write_closes.new.spans before.layer.last c.as_slice-ids.result.now
    (c.as_slice-ids.ensures.value ∙ c.in_ok-closing_into.ensures.lists.1) c.in_ok-write_closes.ensures.marked

pub returns : goal.returns
returns g c =
    let before = c.self.inside in
    let sound : before.layer.failed ≡ false = ap (λ l. l.layer.failed) c.self.view_is ∙ c.requires in
    let ids = c.as_slice-ids.result.now in
    rw (← c.self.view_is)
    (closes g.FT.FormatTime g.W.Output c.args.id c.args.context.now c.close_listed.result (has_no_id ids) c.in_ok-write_closes.field-0
    (record { forest = before.registry; layer = before.layer }) (record { forest = c.close_listed.new.self; layer = c.write_closes.new.self }) ids c.write_closes.new.spans
    sound (c.in_ok-closing_into.ensures.lists.0, c.as_slice-ids.ensures.value ∙ c.in_ok-closing_into.ensures.lists.1) c.in_ok-write_closes.ensures c.close_listed.ensures)
