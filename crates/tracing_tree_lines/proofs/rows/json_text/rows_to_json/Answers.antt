use Rattle.std.proofs.Common.{◌∙◌, refl, Err}
use Rattle.tracing_tree_lines.specs.declared.rows.json_text.RowCause.TheVariants.{Memory}
use Rattle.tracing_tree_lines.proofs.OpenedLines.{opened_known}
use Rattle.tracing_tree_lines.proofs.RowsRead.JsonRuns.{refused-first, so-far-none, where-known, writes-drawings}
use Rattle.tracing_tree_lines.proofs.rows.json_text.rows_to_json.Goals as goal

pub returns-in_default-clause-rows : goal.returns-in_default-clause-rows
returns-in_default-clause-rows g c = where-known _ _ (λ input known. refused-first c.args.amount c.requires input (g.W.Write.contents c.args.writer.now))

pub returns-clause-rows : goal.returns-clause-rows
returns-clause-rows g c = where-known _ _ (λ input known.
    let start = g.W.Write.contents c.args.writer.now in
    let opened = c.in-Ok.ensures in
    let left = opened_known g.R.Read.remaining c.in-Ok.input c.args.reader opened.inner opened.empty opened.capacity ∙ known in
    let none = so-far-none c.args.amount c.requires input start _ c.new.ensures c.new-2.ensures refl in
    c.finish.ensures c.args.amount input start (c.read_lines-ended.ensures c.args.amount input input start left none))

pub returns-in_default-clause-drawn : goal.returns-in_default-clause-drawn
returns-in_default-clause-drawn g c =
    let now = g.W.Write.contents c.args.writer.now in
    writes-drawings (g.R.Read.remaining c.args.reader) c.args.amount c.requires (Err (record { line = 1; cause = Memory })) now now (returns-in_default-clause-rows g c)

pub returns-clause-drawn : goal.returns-clause-drawn
returns-clause-drawn g c =
    let old = g.W.Write.contents c.args.writer.now in
    let new = g.W.Write.contents c.finish.new.writer in
    writes-drawings (g.R.Read.remaining c.args.reader) c.args.amount c.requires c.finish.result old new (returns-clause-rows g c)
