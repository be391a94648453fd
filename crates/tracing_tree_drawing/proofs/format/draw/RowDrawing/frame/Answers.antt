use Rattle.std.proofs.Common.{◌≡◌, ◌∙◌, ◌+◌, ◌*◌, ℕ, List, [], Bor, refl, sym, ap}
use Rattle.std.specs.Char.{encode_utf8}
use Rattle.tracing_tree_drawing.specs.Format.Frames.{frame_pieces}
use Rattle.tracing_tree_drawing.specs.Format.Picture.{columns, wrapped_level}
use Rattle.tracing_tree_drawing.proofs.Characters.{space}
use Rattle.tracing_tree_drawing.proofs.FrameTexts.{blank-pieces}
use Rattle.tracing_tree_drawing.proofs.format.draw.RowDrawing.frame.Goals as goal
use Rattle.tracing_tree_drawing.proofs.format.draw.RowDrawing.frame.Goals.{then-first, else-first}

pub returns-then-not-indent_lines : goal.returns-then-not-indent_lines
unfolding encode_utf8
returns-then-not-indent_lines c =
    let self = c.args.self.now in
    let settings = self.config.now in
    let spaces = c.wrapped_level-wrapped.result * c.indent_amount-amount.result in
    let indent : spaces ≡ wrapped_level settings self.level * settings.indent_amount =
    rw (c.wrapped_level-wrapped.ensures.value, c.indent_amount-amount.ensures) refl in
    let unlined = sym c.indent_lines.ensures ∙ c.if-not-indent_lines.true in
    let pieces = λ (branch : Bor (List ℕ)). frame_pieces spaces branch.now [] 0 [] in
    let whole = λ (more : ℕ). blank-pieces spaces more ∙ ap (λ width. columns (width + more) space) indent in
    elim c.if-first.branch [
      | then-first w ↦
          rw (w.if-first.true, unlined) (c.plain.ensures ∙ ap pieces w.plain-is ∙ whole 1)
      | else-first w ↦
          rw (w.if-first.false, unlined) (c.plain.ensures ∙ ap pieces w.plain-is ∙ whole 3)
    ]
