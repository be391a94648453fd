use Rattle.std.proofs.Common.{ℕ, inl, inr}
use Rattle.std.specs.Char.{encode_utf8}
use Rattle.tracing_tree_drawing.proofs.FrameTexts.{later-pieces}
use Rattle.tracing_tree_drawing.proofs.format.draw.later_frame.Goals as goal
use Rattle.tracing_tree_drawing.proofs.format.draw.later_frame.Goals.{in-Open, in-Close, in-PreOpen}

pub returns : goal.returns
unfolding encode_utf8
returns c =
    let text = λ (shift : ℕ). later-pieces c.args.before shift c.args.amount in
    elim c.match-mode.branch [
      | in-Open w ↦ elim w.in-Open.is [ inl h ↦ rw (h.1, w.branch'-is) (text 2) | inr h ↦ rw (h.1, w.branch'-is) (text 2) ]
      | in-Close w ↦ rw (w.in-Close.is, w.branch'-is) (text 1)
      | in-PreOpen w ↦ elim w.in-PreOpen.is [
        | inl h ↦ rw (h, w.branch'-is) (text 0)
        | inr other ↦ elim other [ inl h ↦ rw (h, w.branch'-is) (text 0) | inr h ↦ rw (h, w.branch'-is) (text 0) ]
      ]
    ]
