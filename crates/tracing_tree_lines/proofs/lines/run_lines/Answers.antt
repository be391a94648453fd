use Rattle.std.proofs.Common.{◌≡◌, refl, sym, ap, ◌∙◌}
use Rattle.std.specs.Io.Buffered.{reader_remaining}
use Rattle.tracing_tree_time.specs.contracts.clocks.ClockFormatTime.TheImpl.{ghosts as clock}
use Rattle.tracing_tree_lines.proofs.OpenedLines.{concludes, calm_early}
use Rattle.tracing_tree_lines.proofs.lines.run_lines.Goals as goal

pub returns-clause-ran : goal.returns-clause-ran
returns-clause-ran g c =
    let remaining = g.R.Read.remaining in
    let opened = c.in-Ok.opened in
    let setup = c.into_parts-config.ensures in
    let writer : c.into_writer.result ≡ c.draw_lines-accepted.new.layered.layer.writer = c.into_writer.ensures ∙ ap (λ l. l.writer) c.into_parts-registry.ensures.layer in
    concludes g.W.Output clock (remaining c.args.reader) (reader_remaining remaining opened.0) opened.1 c.draw_lines-accepted.result.0 c.draw_lines-accepted.result.1
    c.args.writer c.into_writer.result c.new-layered.result c.draw_lines-accepted.new.layered c.in-Ok.ensures.opened
    (rw (c.new-layered.ensures, c.with_timer-layer.ensures, c.with_config.ensures, setup.settings, setup.timer) refl)
    (sym writer)
    c.draw_lines-accepted.ensures.ran

pub returns-clause-counted : goal.returns-clause-counted
returns-clause-counted g c =
    let setup = c.into_parts-config.ensures in
    let writer : c.into_writer.result ≡ c.draw_lines-accepted.new.layered.layer.writer = c.into_writer.ensures ∙ ap (λ l. l.writer) c.into_parts-registry.ensures.layer in
    let runs = rw (c.new-layered.ensures, c.with_timer-layer.ensures, c.with_config.ensures) at c.draw_lines-accepted.ensures in
    rw writer runs.counted

pub returns-in-Err-clause-counted : goal.returns-in-Err-clause-counted
returns-in-Err-clause-counted g c = calm_early c.in-Err.cause (g.W.Output.fault_count c.args.writer) c.in-Err.ensures.early
