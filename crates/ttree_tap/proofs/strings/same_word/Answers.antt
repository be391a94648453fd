use Rattle.std.proofs.Common.{rules}
use Rattle.ttree_tap.specs.Strings.{same_word}
use Rattle.ttree_tap.proofs.strings.same_word.Goals as goal

pub returns : goal.returns
unfolding same_word
returns c = search rules
