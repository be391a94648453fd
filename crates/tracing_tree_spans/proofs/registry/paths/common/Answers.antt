use Rattle.std.proofs.Common.{◌≤◌, arith, sym, ◌∙◌, length}
use Rattle.tracing_tree_spans.specs.Registry.Ids.{id_of}
use Rattle.tracing_tree_spans.proofs.CommonLaws.{prefix-none, prefix-some}
use Rattle.tracing_tree_spans.proofs.registry.paths.common.Goals as goal

pub returns-after-loop-length-clause-length : goal.returns-after-loop-length-clause-length
returns-after-loop-length-clause-length c =
    prefix-none c.args.old.now c.args.new.now c.loop-length.length c.loop-length.invariant.apart (omega (arith, c.loop-length-test.false))

pub returns-then-eq-clause-length : goal.returns-then-eq-clause-length
returns-then-eq-clause-length c =
    let within : c.loop-length.length ≤ length c.args.old.now = omega (arith, c.loop-length.invariant.counted) in
    let within' : c.loop-length.length ≤ length c.args.new.now = omega (arith, c.loop-length.invariant.counted) in
    prefix-some c.args.old.now c.args.new.now c.loop-length.length (id_of 0) (id_of 0) c.requires c.loop-length.invariant.apart
    c.loop-length-test.true within within' (sym c.eq.ensures ∙ c.if-eq.true)
