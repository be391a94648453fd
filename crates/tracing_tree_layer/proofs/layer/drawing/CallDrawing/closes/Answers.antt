use Rattle.std.proofs.Common.{ap, ◌∙◌, string_bytes}
use Rattle.tracing_tree_layer.specs.Layer.Turns.{turn_of_closes}
use Rattle.tracing_tree_layer.specs.Layer.Plan.{plan_of_closes, turn_of_plan}
use Rattle.tracing_tree_layer.specs.Layer.Drawn.{has_no_id}
use Rattle.tracing_tree_layer.proofs.DrawnLaws.{drafts, closes-loud}
use Rattle.tracing_tree_layer.proofs.Plans.{turn-closes}
use Rattle.tracing_tree_layer.proofs.layer.drawing.CallDrawing.closes.Goals as goal

pub returns : goal.returns
returns g c =
    let self = c.args.self.now in
    let settings = self.config.now in
    let context = self.context.now in
    let forest = g.S.LookupSpan.forest self.spans.now in
    let last = self.last in
    let ids = c.args.ids.now in
    let planned = (rw c.planner.ensures at c.in_ok-closes.ensures.ok) ∙ ap (plan_of_closes settings forest ids) c.begin.ensures in
    let same = ap (turn_of_plan settings context forest) planned ∙ turn-closes settings context forest ids last in
    drafts settings context forest (turn_of_closes settings context ids forest last) (has_no_id ids) c.rows-2.result (string_bytes c.args.page.now) (string_bytes c.rows-2.new.page) c.closes.new.plan
    same (closes-loud settings context ids forest last) (rw c.rows.ensures at c.rows-2.ensures)
