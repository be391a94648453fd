use Rattle.std.proofs.Common.{inl, inr}
use Rattle.std.specs.Char.{encode_utf8}
use Rattle.tracing_tree_drawing.proofs.format.draw.edge_frame.Goals as goal

pub returns-in-Open : goal.returns-in-Open
unfolding encode_utf8
returns-in-Open c = elim c.in-Open.is [ inl h ↦ rw h.1 c.plain.ensures | inr h ↦ rw h.1 c.plain.ensures ]

pub returns-in-Close : goal.returns-in-Close
unfolding encode_utf8
returns-in-Close c = rw c.in-Close.is c.plain-in-Close.ensures
