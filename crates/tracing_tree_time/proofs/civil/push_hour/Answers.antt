use Rattle.std.proofs.Common.{◌++◌, ◌∙◌, arith, sym, ap, List, ℕ}
use Rattle.std.proofs.lemmas.Fmt.{decimal_digit}
use Rattle.tracing_tree_time.proofs.Numbers.{digits_in_two}
use Rattle.tracing_tree_time.proofs.civil.push_hour.Goals as goal

pub returns-then-hour-lt10-clause-text : goal.returns-then-hour-lt10-clause-text
returns-then-hour-lt10-clause-text c =
    c.push.ensures.text
    ∙ ap (λ (text : List ℕ). c.args.text.now ++ text) (sym (decimal_digit c.args.hour (omega arith)))

pub returns-else-hour-lt10-clause-text : goal.returns-else-hour-lt10-clause-text
returns-else-hour-lt10-clause-text c =
    c.push_pair.ensures.text
    ∙ ap (λ (text : List ℕ). c.args.text.now ++ text)
    (digits_in_two c.args.hour (omega arith) c.requires.below)
