use Rattle.std.proofs.Common.{◌++◌, sym, ap, subst, ◌∙◌, append_assoc}
use Rattle.std.specs.Prelude.{option_map}
use Rattle.tracing_tree_lines.specs.declared.lines.LineCause.TheVariants.{Refused}
use Rattle.ttree_source.specs.Source.{Accepts, StopsIn}
use Rattle.ttree_source.proofs.Accepted.{accepts_then, stops_after, stops_more}
use Rattle.ttree_otlp.specs.Tree.{ReturnsCalls, calls_of_tree}
use Rattle.ttree_otlp.proofs.tree.OtlpTree.make.Goals as goal

pub loop-next-preserved : goal.loop-next-preserved
loop-next-preserved g c =
    let (made, accepted, split) = c.loop-next.invariant in
    let calls = c.in-Some.calls.items in
    let after = c.next_calls.new.self in
    let step = subst (λ o. ReturnsCalls (option_map (λ some. some.items) o) c.loop-next.tree after) c.in-Some.is c.in-Ok.ensures in (
      made ++ calls,
      accepts_then g.C.Calls.answers g.C.Calls.flushes made calls c.args.receiver.now c.loop-next.receiver c.make.new.receiver accepted c.in_default-make.ensures,
      split ∙ ap (λ l. made ++ l) step.0 ∙ sym (append_assoc made calls (calls_of_tree after)),
    )

pub returns-in-Err : goal.returns-in-Err
returns-in-Err g c =
    let (made, accepted, split) = c.loop-next.invariant in
    let calls = c.in-Some.calls.items in
    let after = c.next_calls.new.self in
    let step = subst (λ o. ReturnsCalls (option_map (λ some. some.items) o) c.loop-next.tree after) c.in-Some.is c.in-Ok.ensures in
    let whole = split ∙ ap (λ l. made ++ l) step.0 ∙ sym (append_assoc made calls (calls_of_tree after)) in
    let cause = Refused c.in-Err.refusal in
    let stopped = stops_after g.C.Calls.answers g.C.Calls.flushes made calls cause c.args.receiver.now c.loop-next.receiver c.make.new.receiver accepted c.in-Err.ensures in
    let all = stops_more g.C.Calls.answers g.C.Calls.flushes (made ++ calls) (calls_of_tree after) cause c.args.receiver.now c.make.new.receiver stopped in
    subst (λ l. StopsIn (Accepts g.C.Calls.answers g.C.Calls.flushes) g.C.Calls.answers l cause c.args.receiver.now c.make.new.receiver) (sym whole) all
