use Rattle.std.proofs.Common.{◌≡◌, drop, map}
use Rattle.ttree_otlp.specs.Gather.{lines_taken}
use Rattle.ttree_otlp.proofs.gather.Gathered.take_each_line.Given as goal

-- the others are left to be taken
abbrev pub invariant-loop-line : goal.invariant-loop-line
invariant-loop-line l =
    lines_taken (map (λ line. line.now) l.found) l.fn.self
    ≡ lines_taken (map (λ line. line.now) (drop l.line-index l.found)) l.self
