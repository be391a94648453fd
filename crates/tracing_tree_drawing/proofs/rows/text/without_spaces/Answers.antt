use Rattle.tracing_tree_drawing.proofs.RowsRead.Trims.{trimmed-spaces, AreSpacesOff}
use Rattle.tracing_tree_drawing.proofs.rows.text.without_spaces.Goals as goal

pub returns : goal.returns
returns c =
    let off : AreSpacesOff c.args.text.now c.trim_start_matches.result.now = trimmed-spaces c.args.text.now c.trim_start_matches.result.now c.trim_start_matches.ensures.matches in
    record { rest = off.rest_is; count = off.counted }
