use Rattle.std.proofs.Common.{◌≡◌, drop}
use Rattle.json.specs.Value.{items_view}
use Rattle.ttree_otlp.specs.Gather.{spans_taken}
use Rattle.ttree_otlp.proofs.gather.Gathered.take_spans.Given as goal

-- the others are left to be taken
abbrev pub invariant-loop-span : goal.invariant-loop-span
invariant-loop-span l =
    spans_taken (items_view l.span-items) l.fn.self
    ≡ spans_taken (items_view (drop l.span-index l.span-items)) l.self
