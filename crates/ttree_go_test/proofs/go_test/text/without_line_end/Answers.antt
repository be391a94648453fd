use Rattle.std.proofs.Common.{refl, sym, false, codes}
use Rattle.std.proofs.lemmas.Str.Pattern.{ends_text}
use Rattle.ttree_go_test.proofs.go_test.text.without_line_end.Goals as goal

pub returns-in-None : goal.returns-in-None
returns-in-None c = rw (sym (ends_text false (codes "\n") c.args.text.now c.in-None.ensures.cases)) refl
