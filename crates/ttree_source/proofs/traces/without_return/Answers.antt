use Rattle.std.proofs.Common.{refl, sym, false, codes}
use Rattle.std.proofs.lemmas.Str.Pattern.{ends_text}
use Rattle.ttree_source.proofs.traces.without_return.Goals as goal

pub returns-in-None : goal.returns-in-None
returns-in-None c = rw (sym (ends_text false (codes "\r") c.args.line.now c.in-None.ensures.cases)) refl
