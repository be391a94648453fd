use Rattle.std.proofs.Common.{◌≡◌, false, take, map}
use Rattle.tracing_tree_layer.specs.Layer.Plan.{with_rows, marked_by, planned_fresh}
use Rattle.tracing_tree_layer.proofs.layer.plan.Planner.fresh_rows.Given as goal

-- the rows of the spans so far are planned
abbrev pub invariant-loop-id : goal.invariant-loop-id
invariant-loop-id g l =
    let forest = g.S.LookupSpan.forest l.self.spans.now in
    let row = planned_fresh (marked_by l.initial.plan forest) forest false in
    l.plan ≡ with_rows (map row (take l.id-index l.others)) l.initial.plan
