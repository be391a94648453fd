use Rattle.tracing_tree_laws.proofs.FrameColumns.{lined-columns}
use Rattle.tracing_tree_laws.proofs.frames.frames_are_their_columns.Goals as goal

pub returns : goal.returns
returns c = lined-columns
