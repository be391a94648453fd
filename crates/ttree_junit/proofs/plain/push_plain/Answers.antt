use Rattle.std.proofs.Common.{rules, arith, ◌≡◌, ◌∙◌, ◌++◌, ◌+◌, ◌-◌, suc, length, ap, sym, true, false}
use Rattle.std.specs.Prelude.{◌==◌}
use Rattle.ttree_junit.specs.Lines.{text_first_line}
use Rattle.ttree_junit.specs.Plain.{plain_line, plain_within}
use Rattle.ttree_junit.proofs.Turns.{no_plain_left, plain_turned}
use Rattle.ttree_junit.proofs.plain.push_plain.Goals as goal

pub returns-then-is_empty : goal.returns-then-is_empty
returns-then-is_empty c =
    let rest = c.loop-turn.rest.now in
    let empty : (length rest == 0) ≡ true = sym c.is_empty.ensures ∙ c.if-is_empty.true in
    sym (c.loop-turn.invariant.1
    ∙ no_plain_left (length c.args.text.now - c.loop-turn._turn) c.args.moment.now rest c.loop-turn.calls.items empty)

pub loop-turn-preserved : goal.loop-turn-preserved
loop-turn-preserved c =
    let moment = c.args.moment.now in
    let rest = c.loop-turn.rest.now in
    let calls = c.loop-turn.calls.items in
    let others = c.first_line.result.1.now in
    let n = length c.args.text.now - (c.loop-turn._turn + 1) in
    let fuel : length c.args.text.now - c.loop-turn._turn ≡ suc n = omega arith in
    let filled : (length rest == 0) ≡ false = sym c.is_empty.ensures ∙ c.if-is_empty.false in
    let written : c.push_plain_line.new.calls.items ≡ calls
    ++ plain_line moment (text_first_line rest) =
    c.in_ok-push_plain_line.ensures ∙ ap (λ l. calls ++ plain_line moment l) c.first_line.ensures.line in (
      search rules,
      c.loop-turn.invariant.1 ∙ ap (λ k. calls ++ plain_within k moment rest) fuel ∙ plain_turned n moment rest calls filled
          ∙ sym (ap (λ r. r ++ plain_within n moment others) written
          ∙ ap (λ r. (calls ++ plain_line moment (text_first_line rest)) ++ plain_within n moment r) c.first_line.ensures.others),
    )
