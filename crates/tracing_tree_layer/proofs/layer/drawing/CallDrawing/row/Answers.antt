use Rattle.std.proofs.Common.{string_bytes, refl}
use Rattle.tracing_tree_layer.specs.Layer.Plan.{row_of_planned}
use Rattle.tracing_tree_layer.proofs.DrawnLaws.{row-begun, row-drawn}
use Rattle.tracing_tree_layer.proofs.layer.drawing.CallDrawing.row.Goals as goal

pub end-requires : goal.end-requires
end-requires g c =
    row-begun c.drawing-drawing.result c.in_ok-place.place c.args.page.now c.begin.new.out c.block.new.out _
    c.in_ok-place.ensures.place c.in_ok-place.ensures.fits c.in_ok-place.ensures.ok c.in_ok-block.ensures

pub returns : goal.returns
returns g c =
    let self = c.args.self.now in
    let row = row_of_planned self.config.now self.context.now (g.S.LookupSpan.forest self.spans.now) c.args.row in
    row-drawn self.config.now row c.drawing-drawing.result c.in_ok-place.place
    (string_bytes c.args.page.now) (string_bytes c.begin.new.out) (string_bytes c.block.new.out) (string_bytes c.end.new.out)
    (rw c.drawing-drawing.ensures refl) (rw c.drawing-drawing.ensures refl)
    c.in_ok-place.ensures.place c.in_ok-place.ensures.fits c.in_ok-place.ensures.ok c.in_ok-block.ensures c.in_ok-end.ensures.ok
