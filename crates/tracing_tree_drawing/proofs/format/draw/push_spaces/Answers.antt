use Rattle.std.proofs.Common.{◌≡◌, ◌∙◌, arith, rules}
use Rattle.std.proofs.lemmas.Str.{IsCharBoundary-from_ascii}
use Rattle.std.specs.Prelude.{replicate}
use Rattle.tracing_tree_drawing.specs.Format.Picture.{columns}
use Rattle.tracing_tree_drawing.proofs.Characters.{space}
use Rattle.tracing_tree_drawing.proofs.Spaces.{ready-spaces, ascii-spaces}
use Rattle.tracing_tree_drawing.proofs.format.draw.push_spaces.Goals as goal

pub range-requires-clause-end_boundary : goal.range-requires-clause-end_boundary
range-requires-clause-end_boundary c = IsCharBoundary-from_ascii (replicate 64 space) c.args.count (ascii-spaces 64) (omega arith)

pub returns-clause-ok : goal.returns-clause-ok
returns-clause-ok c =
    let same : c.range.result.now ≡ columns c.args.count space =
    c.range.ensures.value ∙ ready-spaces 64 c.args.count c.if-count.false in
    search rules
