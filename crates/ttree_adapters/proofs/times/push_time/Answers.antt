use Rattle.std.proofs.Common.{◌≡◌, ◌∙◌, ◌++◌, OnOk, rules, string_bytes, subst, sym}
use Rattle.tracing_tree_time.specs.Clock.{Civil}
use Rattle.tracing_tree_time.proofs.DateTexts.{at_zero}
use Rattle.ttree_adapters.specs.Times.{civil_time_text}
use Rattle.ttree_adapters.proofs.ShownMoments.{civil_shown}
use Rattle.ttree_adapters.proofs.times.push_time.Goals as goal

pub returns : goal.returns
returns c =
    let shown = c.to_datetime-shown.ensures ∙ at_zero c.args.moment.now.wall.nanosecond in
    subst (λ (civil : Civil). OnOk c.push_clock.result (string_bytes c.push_clock.new.out ≡ string_bytes c.args.out.now ++ civil_time_text c.args.precision civil))
    (sym (civil_shown c.to_datetime-shown.result shown)) (search rules)
