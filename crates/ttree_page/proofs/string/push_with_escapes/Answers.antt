use Rattle.ttree_page.proofs.Appended.{grown}
use Rattle.ttree_page.proofs.Unescaped.{one-more-char}
use Rattle.ttree_page.proofs.string.push_with_escapes.Goals as goal

pub loop-c-preserved : goal.loop-c-preserved
loop-c-preserved c = one-more-char _ _ _ c.loop-c.yielded c.in-Some.c c.loop-c.invariant c.in_ok-push_char.ensures.ok

pub returns-in_err-push_char-clause-extended : goal.returns-in_err-push_char-clause-extended
returns-in_err-push_char-clause-extended c = grown _ _ _ _ c.loop-c.invariant c.push_char.ensures.extended
