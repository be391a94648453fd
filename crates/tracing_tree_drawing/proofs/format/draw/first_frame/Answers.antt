use Rattle.std.proofs.Common.{◌≡◌, ◌∙◌, ◌+◌, ◌++◌, ℕ, [], List, ap, sym, refl, inl, inr, append_assoc}
use Rattle.std.proofs.lemmas.List.{append-nil}
use Rattle.std.specs.Char.{encode_utf8}
use Rattle.std.specs.List.{repeat}
use Rattle.tracing_tree_drawing.specs.declared.format.SpanMode.TheVariants.{Event}
use Rattle.tracing_tree_drawing.specs.Format.Picture.{columns, corners, first_frame}
use Rattle.tracing_tree_drawing.proofs.Characters.{space, branch, corner_up_right, corner_down_left, corner_down_right, corner_up_left, horizontal}
use Rattle.tracing_tree_drawing.specs.Format.Frames.{frame_pieces}
use Rattle.tracing_tree_drawing.proofs.FrameTexts.{span-pieces}
use Rattle.tracing_tree_drawing.proofs.format.draw.first_frame.Goals as goal

pub returns-in-PreOpen : goal.returns-in-PreOpen
unfolding encode_utf8
returns-in-PreOpen c =
    rw c.in-PreOpen.is (c.corners.ensures
    ∙ ap (λ apart. corners corner_up_right corner_down_left c.args.before (c.args.before + apart)) c.max.ensures)

pub returns-in-PostClose : goal.returns-in-PostClose
unfolding encode_utf8
returns-in-PostClose c =
    rw c.in-PostClose.is (c.corners-in-PostClose.ensures
    ∙ ap (λ apart. corners corner_down_right corner_up_left c.args.before (c.args.before + apart)) c.max.ensures)

pub returns-in-Open : goal.returns-in-Open
unfolding encode_utf8
returns-in-Open c = elim c.in-Open.is [
  | inl h ↦ rw h (c.span-in-Open.ensures ∙ span-pieces corner_up_right corner_down_left c.in-Open.verbose c.args.amount c.args.before)
  | inr h ↦ rw h (c.span-in-Open.ensures ∙ span-pieces corner_up_right corner_down_left c.in-Open.verbose c.args.amount c.args.before)
]

pub returns-in-Close : goal.returns-in-Close
unfolding encode_utf8
returns-in-Close c =
    rw c.in-Close.is (c.span.ensures ∙ span-pieces corner_down_right corner_up_left c.in-Close.verbose c.args.amount c.args.before)

pub corners-requires-clause-near : goal.corners-requires-clause-near
unfolding encode_utf8
corners-requires-clause-near c = refl

pub corners-requires-in-PostClose-clause-near : goal.corners-requires-in-PostClose-clause-near
unfolding encode_utf8
corners-requires-in-PostClose-clause-near c = refl

pub span-requires-clause-near : goal.span-requires-clause-near
unfolding encode_utf8
span-requires-clause-near c = refl

pub span-requires-in-Open-clause-near : goal.span-requires-in-Open-clause-near
unfolding encode_utf8
span-requires-in-Open-clause-near c = refl

-- a branch and one column of its line
near-branch : (before : ℕ) (left line : List ℕ) → frame_pieces before (left ++ line) [] 0 [] ≡ columns before space ++ left ++ repeat 1 line
near-branch before left line = simp (append-nil, append_assoc)

pub returns-in-Event : goal.returns-in-Event
unfolding encode_utf8
returns-in-Event c =
    rw c.in-Event.is (c.plain.ensures
    ∙ near-branch c.args.before (encode_utf8 branch) (encode_utf8 horizontal)
    ∙ ap (λ amount. first_frame Event amount c.args.before) (sym c.if-amount-eq2.true))

pub returns-in-Event-2 : goal.returns-in-Event-2
unfolding encode_utf8
returns-in-Event-2 c = rw c.in-Event-2.is (append-nil (first_frame Event c.args.amount c.args.before))
