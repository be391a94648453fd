use Rattle.std.specs.Option.{option_flatten}
use Rattle.std.proofs.Common.{◌≡◌, None, Some, ap, codes, rules, sym}
use Rattle.serde_json.specs.Find.{as_str}
use Rattle.serde_json.specs.View.{view}
use Rattle.tracing_tree_lines.specs.Lines.Spelled.{read_or, timers_in}
use Rattle.tracing_tree_lines.proofs.Choices.{chosen_none}
use Rattle.tracing_tree_lines.proofs.lines.settings.timer.timer_value.Goals as goal

pub returns-in_default : goal.returns-in_default
returns-in_default c =
    let other = c.in_default in
    let value = view c.args.value.now in
    let kind = c.in_ok-as_str.field-0.now in
    let named : read_or None as_str (codes "kind") value ≡ Some kind = search rules in
    rw named (sym (ap option_flatten (chosen_none (timers_in value) kind (other.not-none, (other.not-utc, (other.not-local, (other.not-uptime, tt)))))))
