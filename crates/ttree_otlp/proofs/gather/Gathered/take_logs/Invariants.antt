use Rattle.std.proofs.Common.{◌≡◌, drop}
use Rattle.json.specs.Value.{items_view}
use Rattle.ttree_otlp.specs.Gather.{logs_taken}
use Rattle.ttree_otlp.proofs.gather.Gathered.take_logs.Given as goal

-- the others are left to be taken
abbrev pub invariant-loop-log : goal.invariant-loop-log
invariant-loop-log l =
    logs_taken (items_view l.log-items) l.fn.self
    ≡ logs_taken (items_view (drop l.log-index l.log-items)) l.self
