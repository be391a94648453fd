use Rattle.std.proofs.Common.{[], ◌∷◌, ◌++◌, length, sym, ap, ◌∙◌, arith, append_assoc}
use Rattle.std.specs.Vec.Iter.{into_iter_items}
use Rattle.ttree_source.proofs.Accepted.{accepts_more}
use Rattle.ttree_source.proofs.run.make.Goals as goal

pub loop-call-preserved : goal.loop-call-preserved
loop-call-preserved g c =
    let (done, split, made, length_is) = c.loop-call.invariant in
    let s = c.in-Some.ensures.steps in (
      done ++ c.in-Some.call ∷ [],
      split ∙ ap (λ rest. done ++ rest) s.0 ∙ sym (append_assoc done (c.in-Some.call ∷ []) (into_iter_items c.next.new.self)),
      accepts_more g.C.Calls.answers g.C.Calls.flushes done c.in-Some.call _ c.args.receiver.now c.loop-call.receiver c.call.new.self made c.in_ok-call.ensures.answered,
      omega (arith, s.1, length_is, ap length s.0),
    )
