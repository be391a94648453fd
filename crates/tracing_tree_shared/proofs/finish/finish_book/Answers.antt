use Rattle.std.proofs.Common.{sym, ap}
use Rattle.tracing_tree_output.specs.Outputs.{TapeView}
use Rattle.tracing_tree_shared.proofs.Replays.{replay_of}
use Rattle.tracing_tree_shared.proofs.finish.finish_book.Goals as goal

pub returns-clause-replay : goal.returns-clause-replay
returns-clause-replay g c =
    rw c.into_parts-config.ensures.settings
    (replay_of g.FT.FormatTime c.args.book.first c.args.book.history c.args.book.layered c.into_parts-config.result.2.bytes
    (ap (λ (tape : TapeView). tape.bytes) (sym c.into_parts-config.ensures.output)) c.into_parts-config.ensures.kept)
