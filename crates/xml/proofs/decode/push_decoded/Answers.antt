use Rattle.std.proofs.Common.{rules, arith, ◌≡◌, ◌∙◌, ◌++◌, ◌+◌, ◌-◌, suc, length, ap, sym, false, string_bytes}
use Rattle.std.specs.Prelude.{◌==◌}
use Rattle.xml.specs.Cut.{after_piece, piece}
use Rattle.xml.specs.Decoded.{decoded_within, special}
use Rattle.xml.proofs.Turns.{turned}
use Rattle.xml.proofs.decode.push_decoded.Goals as goal

pub loop-turn-preserved : goal.loop-turn-preserved
loop-turn-preserved c =
    let until = c.args.until in
    let rest = c.loop-turn.rest.now in
    let out = string_bytes c.loop-turn.out in
    let mark = after_piece until rest in
    let n = length c.args.text.now - (c.loop-turn._turn + 1) in
    let fuel : length c.args.text.now - c.loop-turn._turn ≡ suc n = omega arith in
    let filled : (length rest == 0) ≡ false = sym c.is_empty.ensures ∙ c.if-is_empty.false in
    let written : string_bytes c.push_special.new.out ≡ (out ++ piece until rest) ++ (special until mark).0 =
    c.in_ok-rest.ensures.pushed
    ∙ ap (λ p. p ++ (special until c.cut.result.1.now).0) (c.in_ok-push_str.ensures.bytes ∙ ap (λ b. out ++ b) c.cut.ensures.before)
    ∙ ap (λ r. (out ++ piece until rest) ++ (special until r).0) c.cut.ensures.after in
    let left : c.in_ok-rest.rest.now ≡ (special until mark).1 = c.in_ok-rest.ensures.rest ∙ ap (λ r. (special until r).1) c.cut.ensures.after in (
      search rules,
      c.loop-turn.invariant.1 ∙ ap (λ k. out ++ decoded_within k until rest) fuel ∙ turned n until rest out filled
          ∙ sym (ap (λ p. p ++ decoded_within n until c.in_ok-rest.rest.now) written
          ∙ ap (λ r. ((out ++ piece until rest) ++ (special until mark).0) ++ decoded_within n until r) left),
    )
