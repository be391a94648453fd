use Rattle.std.proofs.Common.{rules}
use Rattle.ttree_otlp.specs.Named.{same_word}
use Rattle.ttree_otlp.proofs.named.same_word.Goals as goal

pub returns : goal.returns
unfolding same_word
returns c = search rules
