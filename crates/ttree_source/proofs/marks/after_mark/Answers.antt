use Rattle.ttree_source.proofs.Marked.{strips}
use Rattle.ttree_source.proofs.marks.after_mark.Goals as goal

pub returns : goal.returns
returns c = strips c.strip_prefix.result c.args.mark.now c.args.line.now c.strip_prefix.ensures.cases
