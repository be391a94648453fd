use Rattle.std.proofs.Common.{refl}
use Rattle.std.specs.Char.{encode_utf8}
use Rattle.tracing_tree_drawing.proofs.format.draw.FramePieces.corners.Goals as goal

pub returns : goal.returns
unfolding encode_utf8
returns c = refl
