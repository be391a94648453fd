use Rattle.xml.proofs.Marked.{strips_end}
use Rattle.xml.proofs.cut.without_end.Goals as goal

pub returns : goal.returns
returns c = strips_end c.strip_suffix.result c.args.mark.now c.args.text.now c.strip_suffix.ensures.cases
