use Rattle.std.proofs.Common.{Bool, ◌∷◌, [], Ok, string_bytes, sym, subst, refl}
use Rattle.tracing_tree_layer.specs.Layer.Turns.{event_row}
use Rattle.tracing_tree_layer.specs.Layer.Drawn.{DrawsRows}
use Rattle.tracing_tree_layer.proofs.DrawnLaws.{row-begun, row-drawn}
use Rattle.tracing_tree_layer.proofs.layer.drawing.CallDrawing.event_row.Goals as goal

pub end-requires : goal.end-requires
end-requires g c =
    row-begun c.drawing-drawing.result c.in_ok-place.place c.args.page.now c.begin.new.out c.event_block.new.out _
    c.in_ok-place.ensures.place c.in_ok-place.ensures.fits c.in_ok-place.ensures.ok c.in_ok-event_block.ensures.ok

pub returns : goal.returns
returns g c =
    let self = c.args.self.now in
    let timer = g.FT.FormatTime.timer c.args.timer.now in
    let row = event_row self.config.now timer (g.S.LookupSpan.forest self.spans.now) (g.E.EventParts.whole c.args.event.now) self.context.now in
    let P : Bool → Type 0 = λ faults. DrawsRows self.config.now (row ∷ []) faults (Ok tt) (string_bytes c.args.page.now) (string_bytes c.end.new.out) in
    subst P (sym c.in_ok-event_block.ensures.has)
    (row-drawn self.config.now row c.drawing-drawing.result c.in_ok-place.place
    (string_bytes c.args.page.now) (string_bytes c.begin.new.out) (string_bytes c.event_block.new.out) (string_bytes c.end.new.out)
    (rw c.drawing-drawing.ensures refl) (rw (c.drawing-drawing.ensures, c.requires.level) refl)
    c.in_ok-place.ensures.place c.in_ok-place.ensures.fits c.in_ok-place.ensures.ok c.in_ok-event_block.ensures.ok c.in_ok-end.ensures.ok)
