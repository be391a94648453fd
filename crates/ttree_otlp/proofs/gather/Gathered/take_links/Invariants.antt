use Rattle.std.proofs.Common.{◌≡◌, drop}
use Rattle.json.specs.Value.{items_view}
use Rattle.ttree_otlp.specs.Gather.{links_taken}
use Rattle.ttree_otlp.proofs.gather.Gathered.take_links.Given as goal

-- the others are left to be taken
abbrev pub invariant-loop-link : goal.invariant-loop-link
invariant-loop-link l =
    links_taken l.trace l.span l.time (items_view l.link-items) l.fn.self
    ≡ links_taken l.trace l.span l.time (items_view (drop l.link-index l.link-items)) l.self
