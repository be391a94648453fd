use Rattle.std.proofs.Common.{◌≡◌, ◌∙◌, ◌+◌, false, ap, arith, nat_le}
use Rattle.std.specs.Char.{encode_utf8}
use Rattle.std.proofs.lemmas.Bool.Decides.{nat_tests}
use Rattle.tracing_tree_drawing.specs.Format.Picture.{columns}
use Rattle.tracing_tree_drawing.proofs.Characters.{space}
use Rattle.tracing_tree_drawing.proofs.FrameTexts.{blank-pieces}
use Rattle.tracing_tree_drawing.proofs.format.draw.FramePieces.span.Goals as goal

pub returns-then-amount-lt2 : goal.returns-then-amount-lt2
unfolding encode_utf8
returns-then-amount-lt2 c =
    let small : nat_le 2 c.args.amount ≡ false = grind (arith, nat_tests) in
    let width : c.args.before + 2 ≡ c.args.before + c.args.amount + 1 = omega arith in
    rw (c.if-not-verbose.false, small) (c.plain.ensures ∙ blank-pieces c.args.before 2 ∙ ap (λ many. columns many space) width)
