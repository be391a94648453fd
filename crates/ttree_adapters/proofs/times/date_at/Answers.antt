use Rattle.std.proofs.Common.{◌≡◌, ◌∙◌, IfOk, rules, subst, sym}
use Rattle.tracing_tree_time.specs.Clock.{Civil}
use Rattle.tracing_tree_time.proofs.DateTexts.{at_zero}
use Rattle.ttree_adapters.specs.Times.{date_of}
use Rattle.ttree_adapters.proofs.ShownMoments.{civil_shown}
use Rattle.ttree_adapters.proofs.times.date_at.Goals as goal

pub returns : goal.returns
returns c =
    let shown = c.to_datetime-shown.ensures ∙ at_zero c.args.moment.now.wall.nanosecond in
    subst (λ (civil : Civil). IfOk c.date_text.result (λ date. date ≡ date_of civil))
    (sym (civil_shown c.to_datetime-shown.result shown)) (search rules)
