use Rattle.std.proofs.Common.{◌∷◌, ◌++◌, ◌∙◌, ◌+◌, ◌<◌, ◌^◌, ap, sym, subst, arith, length}
use Rattle.std.proofs.lemmas.Result.{err_from_is_err_and}
use Rattle.tracing_tree_lines.specs.Rows.JsonSteps.{SoFar}
use Rattle.tracing_tree_drawing.specs.Rows.Texts.{ReaderView}
use Rattle.tracing_tree_drawing.specs.declared.rows.read.Taken.TheVariants.{First}
use Rattle.tracing_tree_lines.proofs.RowsRead.JsonRuns.{refused}
use Rattle.tracing_tree_lines.proofs.RowsRead.JsonLines.{no-text, no-row, later-line, first-line, next-line, taken-as}
use Rattle.tracing_tree_lines.proofs.rows.json_text.RowsRead.take_line.Goals as goal

pub returns-in_default : goal.returns-in_default
returns-in_default g c amount text after start count room clean so = ((_, so), no-text c.args.line.now after so clean c.in_default.ensures.cases.0)

pub returns-in_err-take : goal.returns-in_err-take
returns-in_err-take g c amount text after start count room clean so =
    let p = err_from_is_err_and c.from_residual.result c.from_residual.ensures.1 in
    rw (p.1, p.2) (refused so _ so.written.appended)

pub returns-in-Neither : goal.returns-in-Neither
returns-in-Neither g c amount text after start count room clean so =
    let line = c.args.line.now in
    let rest = line ++ (10 ∷ after) in
    let taken = taken-as _ c.take.new.self c.in-Ok.text.now line _ _ c.in-Ok.ensures.cases.0 c.in-Neither.is clean c.in_ok-take.ensures.taken in (
      (rest, subst (λ (r : ReaderView). SoFar amount text start count rest (record c.args.self.now { reader = r }) (g.W.Write.contents c.args.writer.now)) (sym taken.1) so),
      no-row line after c.take.new.self so clean taken,
    )

pub returns-in-First-Some : goal.returns-in-First-Some
returns-in-First-Some g c amount text after start count room clean so =
    let line = c.args.line.now in
    let is = c.in-First-Some.is ∙ ap First c.in-First-Some.field-0-is in
    let taken = taken-as _ c.take.new.self c.in-Ok.text.now line _ _ c.in-Ok.ensures.cases.0 is clean c.in_ok-take.ensures.taken in
    let fewer = so.fewer in
    let few : length so.rows + 1 < 2 ^ 64 = omega arith in
    next-line line after c.take.new.self c.in-First-Some.row c.write.new.self c.write.result _ so clean taken (c.write.ensures start so.rows few so.written)

pub returns-in-First-None : goal.returns-in-First-None
returns-in-First-None g c amount text after start count room clean so =
    let is = c.in-First-None.is ∙ ap First c.in-First-None.field-0-is in
    first-line c.args.line.now after c.take.new.self so clean (taken-as _ _ c.in-Ok.text.now _ _ _ c.in-Ok.ensures.cases.0 is clean c.in_ok-take.ensures.taken)

pub returns-in-Later : goal.returns-in-Later
returns-in-Later g c amount text after start count room clean so =
    later-line c.args.line.now after c.take.new.self so clean (taken-as _ _ c.in-Ok.text.now _ _ _ c.in-Ok.ensures.cases.0 c.in-Later.is clean c.in_ok-take.ensures.taken)
