use Rattle.std.proofs.Common.{◌∙◌, ◌==◌, ap, sym, subst, ℕ, List}
use Rattle.std.proofs.lemmas.Result.{err_from_is_err_and}
use Rattle.tracing_tree_lines.specs.Rows.JsonSteps.{SoFar}
use Rattle.tracing_tree_lines.proofs.RowsRead.JsonRuns.{refused}
use Rattle.tracing_tree_lines.proofs.RowsRead.JsonLines.{before-lent, all-rest, no-end-line}
use Rattle.tracing_tree_lines.proofs.rows.json_text.RowsRead.read_line.Goals as goal

pub returns-in-Err-Memory : goal.returns-in-Err-Memory
returns-in-Err-Memory g c amount text rest start count room known so = refused so _ so.written.appended

pub returns-in_err-take_line : goal.returns-in_err-take_line
returns-in_err-take_line g c amount text rest start count room known so =
    let line = c.as_slice.result.now in
    let here = before-lent _ _ rest _ line known c.as_slice.ensures.value (rw c.if-ended.true at c.in-Ok.ensures) in
    let so = subst (λ (bytes : List ℕ). SoFar amount text start count bytes c.args.self.now (g.W.Write.contents c.args.writer.now)) here.split so in
    let p = err_from_is_err_and c.from_residual.result c.from_residual.ensures.1 in
    rw (p.1, p.2) (c.in_err-take_line.ensures amount text here.after start count room here.clean so)

pub returns : goal.returns
returns g c amount text rest start count room known so =
    let all = all-rest _ _ rest c.read_ended.new.line.items known (rw c.if-ended.false at c.in-Ok.ensures) in
    let so = subst (λ (bytes : List ℕ). SoFar amount text start count bytes c.args.self.now (g.W.Write.contents c.args.writer.now)) all.1 so in
    ((_, so), no-end-line _ so all.0 (ap (λ (n : ℕ). n == 0) (sym c.read_ended.new.line.ok.0) ∙ sym c.is_empty.ensures ∙ c.if-is_empty.false))
