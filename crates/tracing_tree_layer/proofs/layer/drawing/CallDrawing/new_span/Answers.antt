use Rattle.std.proofs.Common.{false, refl, ap, ◌∙◌, string_bytes}
use Rattle.tracing_tree_layer.specs.Layer.Turns.{turn_of_new}
use Rattle.tracing_tree_layer.specs.Layer.Plan.{plan_of_new, turn_of_plan}
use Rattle.tracing_tree_layer.proofs.DrawnLaws.{drafts}
use Rattle.tracing_tree_layer.proofs.Plans.{turn-new}
use Rattle.tracing_tree_layer.proofs.layer.drawing.CallDrawing.new_span.Goals as goal

pub returns : goal.returns
returns g c =
    let self = c.args.self.now in
    let settings = self.config.now in
    let context = self.context.now in
    let forest = g.S.LookupSpan.forest self.spans.now in
    let last = self.last in
    let planned = (rw c.planner.ensures at c.in_ok-new_span.ensures) ∙ ap (plan_of_new settings forest c.args.id) c.begin.ensures in
    let same = ap (turn_of_plan settings context forest) planned ∙ turn-new settings context forest c.args.id last in
    drafts settings context forest (turn_of_new settings context forest last c.args.id) false c.rows-2.result (string_bytes c.args.page.now) (string_bytes c.rows-2.new.page) c.new_span.new.plan
    same (λ h. refl) (rw c.rows.ensures at c.rows-2.ensures)
