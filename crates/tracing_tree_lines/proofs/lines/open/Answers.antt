use Rattle.std.proofs.Common.{subst}
use Rattle.std.specs.Io.Buffered.{reader_remaining}
use Rattle.std.proofs.lemmas.Result.{err_from_is_err_and}
use Rattle.tracing_tree_lines.specs.Lines.Reads.{TakesLine}
use Rattle.tracing_tree_lines.proofs.OpenedLines.{opened_known, ends_first}
use Rattle.tracing_tree_lines.proofs.lines.open.Goals as goal

pub returns-in_err-setup-clause-opened : goal.returns-in_err-setup-clause-opened
returns-in_err-setup-clause-opened g c =
    let p = err_from_is_err_and c.from_residual-in_err-setup.result c.from_residual-in_err-setup.ensures.1 in
    let remaining = g.R.Read.remaining in
    let opened = c.in-Ok.ensures in
    let known = opened_known remaining c.in-Ok.lines c.args.reader opened.inner opened.empty opened.capacity in
    let left = reader_remaining remaining c.read_line.new.reader in
    let read : TakesLine (reader_remaining remaining c.in-Ok.lines) left c.read_line.new.line.items = rw c.if-not-branch.false at c.in_ok-read_line.ensures in
    let first : TakesLine (remaining c.args.reader) left c.as_slice.result.now = subst (λ k. TakesLine k left c.as_slice.result.now) known (rw c.as_slice.ensures.value read) in
    rw (p.1, p.2) (ends_first (remaining c.args.reader) left c.as_slice.result.now c.in_err-setup.field-0.0 first c.in_err-setup.ensures)
