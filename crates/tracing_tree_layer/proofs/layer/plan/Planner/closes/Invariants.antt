use Rattle.std.proofs.Common.{◌≡◌, drop}
use Rattle.tracing_tree_layer.specs.Layer.Plan.{plan_of_closes}
use Rattle.tracing_tree_layer.proofs.layer.plan.Planner.closes.Given as goal

-- what the other closes make of the plan so far, they all make of the first one
abbrev pub invariant-loop-id : goal.invariant-loop-id
invariant-loop-id g l =
    let forest = g.S.LookupSpan.forest l.self.spans.now in
    plan_of_closes l.self.config.now forest (drop l.id-index l.ids) l.plan
    ≡ plan_of_closes l.self.config.now forest l.ids l.initial.plan
