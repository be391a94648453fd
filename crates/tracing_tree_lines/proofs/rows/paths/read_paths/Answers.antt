use Rattle.std.proofs.lemmas.Result.{IfOk-weaker}
use Rattle.tracing_tree_lines.specs.Laws.Ancestry.{FindsInRuns}
use Rattle.tracing_tree_drawing.specs.Rows.Paths.{AreEventPaths}
use Rattle.tracing_tree_lines.proofs.RowsRead.PathsFound.{paths-found}
use Rattle.tracing_tree_lines.proofs.rows.paths.read_paths.Goals as goal

pub returns-clause-found : goal.returns-clause-found
returns-clause-found c =
    let amount = c.args.amount in
    let text = c.args.text.now in
    IfOk-weaker c.read_event_paths.result (λ paths. AreEventPaths amount text paths.items) (λ paths. FindsInRuns amount text paths.items)
    (λ paths h. paths-found amount text paths.items h) c.read_event_paths.ensures.paths
