use Rattle.std.proofs.Common.{◌≡◌, ◌++◌, take, map, string_bytes}
use Rattle.ttree_page.specs.Writing.{lines_of}
use Rattle.ttree_page.specs.Steps.{close_step}
use Rattle.ttree_page.proofs.writer.push_closes.Given as goal

-- the lines so far
abbrev pub invariant-loop-id : goal.invariant-loop-id
invariant-loop-id l = string_bytes l.out ≡ string_bytes l.fn.out ++ lines_of l.form (map (close_step l.context) (take l.id-index l.ids))
