use Rattle.std.proofs.Common.{◌≡◌, drop}
use Rattle.json.specs.Value.{items_view}
use Rattle.ttree_otlp.specs.Gather.{scopes_taken}
use Rattle.ttree_otlp.proofs.gather.Gathered.take_scopes.Given as goal

-- the others are left to be taken
abbrev pub invariant-loop-scope : goal.invariant-loop-scope
invariant-loop-scope l =
    scopes_taken (items_view l.scope-items) l.fn.self
    ≡ scopes_taken (items_view (drop l.scope-index l.scope-items)) l.self
