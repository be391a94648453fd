use Rattle.xml.proofs.Marked.{strips}
use Rattle.xml.proofs.cut.after_mark.Goals as goal

pub returns : goal.returns
returns c = strips c.strip_prefix.result c.args.mark.now c.args.text.now c.strip_prefix.ensures.cases
