use Rattle.std.proofs.Common.{rules, ◌≡◌, false, subst}
use Rattle.tracing_tree_layer.specs.Layered.Answered.{IsAnswered}
use Rattle.tracing_tree_c.specs.declared.drawing.Drawing.{Drawing}
use Rattle.tracing_tree_c.proofs.Makes.{stays}
use Rattle.tracing_tree_c.specs.Trees.{blank, is_lost, seen_tree}
use Rattle.tracing_tree_c.proofs.drawing.Drawing.call.Goals as goal

pub returns-then-not-is_lost : goal.returns-then-not-is_lost
returns-then-not-is_lost g c =
    let answer = c.make-answer.result in
    let kept : is_lost answer ≡ false = search rules in
    let left = seen_tree (record c.clear.new.self { layered = c.make-answer.new.calls }) in
    record {
      given = answer;
      left = left;
      answered = subst (λ (drawing : Drawing). IsAnswered (g.T.ReadCall.call c.args.call) answer (seen_tree drawing) left)
          c.clear.ensures c.make-answer.ensures.changed;
      mended = stays answer (seen_tree (blank c.args.self.now)) left kept;
      fixed = search rules;
      entered = search rules;
    }
