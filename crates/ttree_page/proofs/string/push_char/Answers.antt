use Rattle.std.proofs.Common.{arith, rules}
use Rattle.ttree_page.proofs.Unescaped.{char-kept}
use Rattle.ttree_page.proofs.string.push_char.Goals as goal

pub returns-in_default-clause-ok : goal.returns-in_default-clause-ok
returns-in_default-clause-ok c =
    let same = char-kept c.args.c (omega arith) (λ e. omega arith) (λ e. omega arith) (λ e. omega arith) in rw same (search rules)
