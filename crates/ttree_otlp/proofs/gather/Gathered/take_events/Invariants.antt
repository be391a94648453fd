use Rattle.std.proofs.Common.{◌≡◌, drop}
use Rattle.json.specs.Value.{items_view}
use Rattle.ttree_otlp.specs.Gather.{events_taken}
use Rattle.ttree_otlp.proofs.gather.Gathered.take_events.Given as goal

-- the others are left to be taken
abbrev pub invariant-loop-event : goal.invariant-loop-event
invariant-loop-event l =
    events_taken l.trace l.span (items_view l.event-items) l.fn.self
    ≡ events_taken l.trace l.span (items_view (drop l.event-index l.event-items)) l.self
