use Rattle.std.proofs.Common.{◌+◌, drop, refl, sym, take-append-drop}
use Rattle.tracing_tree_lines.proofs.LineEnds.{no_end_from}
use Rattle.tracing_tree_lines.proofs.lines.read.whole_lines.Goals as goal

pub returns-in-Some : goal.returns-in-Some
returns-in-Some c = record {
  rest = drop (c.in-Some.last + 1) c.args.held.now;
  front = sym (take-append-drop (c.in-Some.last + 1) c.args.held.now);
  within = no_end_from c.args.held.now (c.in-Some.last + 1) c.in-Some.ensures.0.after;
}

pub returns-in-None : goal.returns-in-None
returns-in-None c = record { rest = c.args.held.now; front = refl; within = no_end_from c.args.held.now 0 c.in-None.ensures }
