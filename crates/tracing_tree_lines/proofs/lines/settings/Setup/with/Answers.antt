use Rattle.std.proofs.Common.{ap, sym}
use Rattle.serde_json.specs.View.{view}
use Rattle.tracing_tree_lines.specs.Lines.Spelled.{◌>>=◌, all_settings}
use Rattle.tracing_tree_lines.specs.Lines.Values.{asked_of}
use Rattle.tracing_tree_lines.proofs.Choices.{chosen_none}
use Rattle.tracing_tree_lines.proofs.lines.settings.Setup.with.Goals as goal

pub returns-in_default : goal.returns-in_default
returns-in_default c =
    let other = c.in_default in
    sym (ap (λ found. found >>= (λ setting. setting (view c.args.value.now) (asked_of c.args.self))) (chosen_none all_settings c.args.key.now
    (other.not-indent_amount, (other.not-wraparound, (other.not-timer, (other.not-ansi, (other.not-indent_lines, (other.not-targets, (other.not-thread_ids, (other.not-thread_names, (other.not-verbose_entry, (other.not-verbose_exit, (other.not-span_retrace, (other.not-deferred_spans, (other.not-close_retrace, (other.not-span_modes, (other.not-bracketed_fields, (tt))))))))))))))))))
