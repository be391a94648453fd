use Rattle.std.proofs.Common.{◌++◌, ◌∙◌, ap, subst, Some, List, ℕ, string_bytes}
use Rattle.tracing_tree_time.specs.Clock.{date_text}
use Rattle.tracing_tree_time.specs.Timers.{AppendsStated}
use Rattle.tracing_tree_time.proofs.DateTexts.{date_and_time, at_zero}
use Rattle.tracing_tree_time.proofs.utc.UtcDateTimeFormatTime.format_time.Goals as goal

pub returns-clause-stated : goal.returns-clause-stated
returns-clause-stated c =
    let date = c.date.result in
    let dates = c.push_date.ensures.text
    ∙ ap (λ (empty : List ℕ). empty ++ date_text date.year date.month date.day) c.new-text.ensures in
    let text = date_and_time c.to_datetime-shown.result date c.time.result
    c.push_date.new.text c.push_time.new.text
    c.date.ensures c.time.ensures dates c.push_time.ensures.text
    (c.to_datetime-shown.ensures ∙ at_zero c.args.moment.now.wall.nanosecond) in
    subst (λ stated. AppendsStated (Some stated) (string_bytes c.args.out.now) (string_bytes c.append_to.new.out) c.append_to.result)
    text c.append_to.ensures
