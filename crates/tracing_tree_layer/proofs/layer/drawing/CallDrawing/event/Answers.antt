use Rattle.std.proofs.Common.{Bool, ap, sym, subst, ◌∙◌, string_bytes}
use Rattle.std.proofs.lemmas.Result.{err_from_is_err_and}
use Rattle.tracing_tree_layer.specs.Layer.Turns.{current_of, event_row, then_turn, turn_of_row, turn_before_event}
use Rattle.tracing_tree_layer.specs.Layered.Refused.{timer_faults_at}
use Rattle.tracing_tree_layer.specs.Layer.Drawn.{Drafts}
use Rattle.tracing_tree_layer.specs.Layer.Plan.{plan_before_event, turn_of_plan}
use Rattle.tracing_tree_layer.proofs.DrawnLaws.{drafts_event, refuses_event, fits-event}
use Rattle.tracing_tree_layer.proofs.Plans.{turn-event}
use Rattle.tracing_tree_layer.proofs.layer.drawing.CallDrawing.event.Goals as goal

pub returns : goal.returns
returns g c =
    let self = c.args.self.now in
    let settings = self.config.now in
    let context = self.context.now in
    let forest = g.S.LookupSpan.forest self.spans.now in
    let timer = g.FT.FormatTime.timer c.args.timer.now in
    let last = self.last in
    let current = current_of forest context in
    let planned = (rw c.planner.ensures at c.in_ok-event.ensures) ∙ ap (plan_before_event settings forest current) c.begin.ensures in
    let same = ap (turn_of_plan settings context forest) planned ∙ turn-event settings context forest current last in
    let row = event_row settings timer forest (g.E.EventParts.whole c.args.event.now) context in
    let faults = timer_faults_at settings timer forest context in
    let before = turn_before_event settings context forest last current in
    let Q : Bool → Type 0 = λ quiet. Drafts settings forest (then_turn before (turn_of_row row)) faults quiet c.event_row.result (string_bytes c.args.page.now) (string_bytes c.event_row.new.page) c.event.new.plan in
    subst Q (sym (fits-event settings timer forest (g.E.EventParts.whole c.args.event.now) context c.args.depth _ c.check_width.result c.requires.depth c.event_level-level.ensures c.check_width.ensures c.in_ok-check_width.was))
    (drafts_event settings context forest before row faults c.event_row.result (string_bytes c.args.page.now) (string_bytes c.rows-2.new.page) (string_bytes c.event_row.new.page) c.event.new.plan
    same (rw c.rows.ensures at c.in_ok-rows.ensures) c.event_row.ensures)

pub returns-in_err-rows : goal.returns-in_err-rows
returns-in_err-rows g c =
    let self = c.args.self.now in
    let settings = self.config.now in
    let context = self.context.now in
    let forest = g.S.LookupSpan.forest self.spans.now in
    let timer = g.FT.FormatTime.timer c.args.timer.now in
    let last = self.last in
    let current = current_of forest context in
    let planned = (rw c.planner.ensures at c.in_ok-event.ensures) ∙ ap (plan_before_event settings forest current) c.begin.ensures in
    let same = ap (turn_of_plan settings context forest) planned ∙ turn-event settings context forest current last in
    let p = err_from_is_err_and c.from_residual-in_err-rows.result c.from_residual-in_err-rows.ensures.1 in
    let row = event_row settings timer forest (g.E.EventParts.whole c.args.event.now) context in
    let faults = timer_faults_at settings timer forest context in
    let before = turn_before_event settings context forest last current in
    let Q : Bool → Type 0 = λ quiet. Drafts settings forest (then_turn before (turn_of_row row)) faults quiet c.from_residual-in_err-rows.result (string_bytes c.args.page.now) (string_bytes c.rows-2.new.page) c.event.new.plan in
    subst Q (sym (fits-event settings timer forest (g.E.EventParts.whole c.args.event.now) context c.args.depth _ c.check_width.result c.requires.depth c.event_level-level.ensures c.check_width.ensures c.in_ok-check_width.was))
    (rw (p.1, p.2) (refuses_event settings context forest before row faults _
    (string_bytes c.args.page.now) (string_bytes c.rows-2.new.page) c.event.new.plan
    same (rw c.rows.ensures at c.in_err-rows.ensures)))
