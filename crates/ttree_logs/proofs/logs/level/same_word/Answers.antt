use Rattle.std.proofs.Common.{rules}
use Rattle.ttree_logs.specs.LogLine.{same_word}
use Rattle.ttree_logs.proofs.logs.level.same_word.Goals as goal

pub returns : goal.returns
unfolding same_word
returns c = search rules
