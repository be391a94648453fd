use Rattle.std.proofs.Common.{◌≡◌, ◌∙◌, ◌+◌, ◌<◌, ◌^◌, Option, Some, None, sym, subst, arith, length}
use Rattle.std.specs.Io.KnownBytes.{Appends}
use Rattle.tracing_tree_lines.specs.Rows.Json.{json_lines}
use Rattle.tracing_tree_drawing.specs.Rows.Line.{with_last}
use Rattle.tracing_tree_drawing.specs.Rows.RowText.{TextRow}
use Rattle.tracing_tree_lines.proofs.RowsRead.JsonRuns.{concludes, drops}
use Rattle.tracing_tree_lines.proofs.rows.json_text.RowsRead.finish.Goals as goal

pub returns-in_default : goal.returns-in_default
returns-in_default g c amount text start read =
    let goes = sym c.drops_last.ensures ∙ c.if-drops_last.false in
    let now = g.W.Write.contents c.args.writer.now in
    let last : c.args.self.reader.last ≡ None = sym c.finish.ensures ∙ c.in_default.is in
    let all = concludes c.args.ended.line c.args.ended.cause now read.numbered goes read.left
    (λ rest so. subst (λ (o : Option TextRow). Appends start now (json_lines (with_last so.rows o))) (sym last) so.written.appended) in
    rw c.fault_at-in_default.ensures all

pub returns-in-Ok : goal.returns-in-Ok
returns-in-Ok g c amount text start read =
    let goes = sym c.drops_last.ensures ∙ c.if-drops_last.false in
    let new = g.W.Write.contents c.write.new.writer in
    let last : c.args.self.reader.last ≡ Some c.in-Some.row = sym c.finish.ensures ∙ c.in-Some.is in
    let number = read.numbered in
    let all = concludes c.args.ended.line c.args.ended.cause new read.numbered goes read.left (λ rest so.
    let fewer = so.fewer in
    let few : length so.rows + 1 < 2 ^ 64 = omega arith in
    subst (λ (o : Option TextRow). Appends start new (json_lines (with_last so.rows o))) (sym last) (c.in-Ok.ensures start so.rows few so.written).appended) in
    rw c.fault_at-in-Ok.ensures all

pub returns : goal.returns
returns g c amount text start read =
    let goes = sym c.drops_last.ensures ∙ c.if-drops_last.false in
    let last : c.args.self.reader.last ≡ Some c.in-Some.row = sym c.finish.ensures ∙ c.in-Some.is in
    let number = read.numbered in
    drops c.args.ended.line c.args.ended.cause c.in-Err.cause c.in-Some.row c.write.new.self (g.W.Write.contents c.write.new.writer) read.numbered goes read.left last (λ rest so.
    let fewer = so.fewer in
    let few : length so.rows + 1 < 2 ^ 64 = omega arith in
    c.in-Err.ensures start so.rows few so.written)
