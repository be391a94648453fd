use Rattle.std.proofs.Common.{◌≡◌, ◌+◌, ◌<◌, length, arith, sym, ap, ◌∙◌}
use Rattle.tracing_tree_spans.specs.Registry.Slots.{slot_id}
use Rattle.tracing_tree_spans.proofs.SlotLists.{here-found, left-above, left-below, none-left}
use Rattle.tracing_tree_spans.proofs.registry.nodes.search.Goals as goal
use Rattle.tracing_tree_spans.proofs.registry.nodes.search.Goals.{then-here-id-2, else-here-id-2}

pub returns-then-here-id : goal.returns-then-here-id
returns-then-here-id c =
    let here : c.loop-from.from + c.min.result < length c.args.slots.now = omega (arith, c.min.ensures, c.loop-from-test.true, c.loop-from.invariant.within) in
    here-found c.args.slots.now c.args.id _ _ c.requires here c.index-slots-at.is (ap (λ i. i.0) (sym c.id-here.ensures) ∙ c.if-here-id.true)

pub loop-from-preserved : goal.loop-from-preserved
loop-from-preserved c =
    let slots = c.args.slots.now in
    let i = c.args.id in
    let inside = c.loop-from.invariant.within in
    let here : c.loop-from.from + c.min.result < length slots = omega (arith, c.min.ensures, c.loop-from-test.true, inside) in
    let read : c.id-here.result.0 ≡ (slot_id c.index-slots-at.result).0 = ap (λ j. j.0) c.id-here.ensures in
    elim c.if-here-id-2.branch [
      | then-here-id-2 w ↦
          let low : (slot_id c.index-slots-at.result).0 < i.0 = omega (arith, read, w.if-here-id-2.true) in
          record {
            within = omega (arith, w.to-is, inside);
            left = rw (w.from-is, w.to-is) (left-above slots i _ _ _ _ c.requires c.loop-from.invariant.left here c.index-slots-at.is low);
          }
      | else-here-id-2 w ↦
          let high : i.0 < (slot_id c.index-slots-at.result).0 = omega (arith, read, c.if-here-id.false, w.if-here-id-2.false) in
          record {
            within = omega (arith, w.to-is, here);
            left = rw (w.from-is, w.to-is) (left-below slots i _ _ _ _ c.requires c.loop-from.invariant.left here c.index-slots-at.is high);
          }
    ]

pub returns : goal.returns
returns c = none-left c.args.slots.now c.args.id _ _ c.loop-from.invariant.left c.loop-from-test.false
