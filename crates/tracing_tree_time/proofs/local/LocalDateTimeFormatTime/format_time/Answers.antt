use Rattle.std.proofs.Common.{◌++◌, ◌∙◌, ap, subst, Some, List, ℕ, string_bytes}
use Rattle.tracing_tree_time.specs.Clock.{date_text, local_text}
use Rattle.tracing_tree_time.specs.Timers.{AppendsStated}
use Rattle.tracing_tree_time.proofs.DateTexts.{date_time_offset}
use Rattle.tracing_tree_time.proofs.local.LocalDateTimeFormatTime.format_time.Goals as goal

pub returns-clause-stated : goal.returns-clause-stated
returns-clause-stated c =
    let instant = c.args.moment.now.wall.nanosecond in
    let date = c.date.result in
    let dates = c.push_date.ensures.text
    ∙ ap (λ (empty : List ℕ). empty ++ date_text date.year date.month date.day) c.new-text.ensures in
    let text = date_time_offset c.to_datetime-shown.result date c.time.result
    c.push_date.new.text c.push_time.new.text c.push_offset.new.text instant c.to_offset-offset.result.seconds
    c.date.ensures c.time.ensures dates c.push_time.ensures.text c.push_offset.ensures
    c.to_datetime-shown.ensures in
    subst (λ stated. AppendsStated (Some stated) (string_bytes c.args.out.now) (string_bytes c.append_to.new.out) c.append_to.result)
    (text ∙ ap (local_text instant) c.to_offset-offset.ensures) c.append_to.ensures
