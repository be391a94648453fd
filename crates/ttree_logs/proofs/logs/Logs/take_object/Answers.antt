use Rattle.std.proofs.Common.{◌≡◌, OnOk, ap, ◌∙◌, subst}
use Rattle.json.specs.Value.{value_view}
use Rattle.ttree_logs.specs.LogLine.{group_in}
use Rattle.ttree_logs.specs.Logs.{LogsState, at_line_time, located, log_event_emitted}
use Rattle.ttree_logs.proofs.logs.Logs.take_object.Goals as goal

pub returns : goal.returns
returns c =
    let v = value_view c.args.value.now in
    let s = c.args.self.now in
    let here : c.locate.new.self ≡ located (group_in s.asked v) (at_line_time v s) =
    c.in_ok-locate.ensures ∙ ap (λ t. located (group_in t.asked v) t) c.place.ensures in
    subst (λ (t : LogsState). OnOk c.push_event.result (c.push_event.new.self ≡ log_event_emitted v t)) here c.push_event.ensures
