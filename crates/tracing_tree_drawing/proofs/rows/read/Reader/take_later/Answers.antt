use Rattle.std.proofs.Common.{sym, subst, Some}
use Rattle.tracing_tree_drawing.specs.Rows.RowText.{TextRow}
use Rattle.tracing_tree_drawing.specs.Rows.Texts.{ReaderView, TakesLater}
use Rattle.tracing_tree_drawing.proofs.RowsRead.Taken.{later-by, later-row}
use Rattle.tracing_tree_drawing.proofs.rows.read.Reader.take_later.Goals as goal

pub push-requires : goal.push-requires
push-requires c =
    let read = rw (c.shape.ensures.shape, c.level.ensures) at c.in-Some-read_later.ensures in
    later-row c.self.inside.amount c.self.invariant c.in-Some.row c.args.line.now c.in-Some-read_later.text.now c.shape.ensures.proper c.requires read

pub returns : goal.returns
returns c =
    let read = rw (c.shape.ensures.shape, c.level.ensures) at c.in-Some-read_later.ensures in
    let amount = c.self.inside.amount in
    let line = c.args.line.now in
    subst (λ (v : ReaderView). TakesLater v line (record { amount = amount; last = Some c.push.new.self })) c.self.view_is
    (subst (λ (r : TextRow). TakesLater (record { amount = amount; last = c.self.inside.last }) line (record { amount = amount; last = Some r })) (sym c.in_ok-push.ensures.ok)
    (later-by amount c.self.inside.last c.in-Some.row line c.in-Some-read_later.text.now c.in-Some.is read))
