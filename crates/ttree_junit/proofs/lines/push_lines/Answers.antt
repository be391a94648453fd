use Rattle.std.proofs.Common.{rules, arith, ◌≡◌, ◌∙◌, ◌++◌, ◌+◌, ◌-◌, suc, length, ap, sym, true, false, option_map}
use Rattle.std.specs.Prelude.{◌==◌}
use Rattle.ttree_junit.specs.Lines.{kept_after, line_rows, rows_within, text_first_line}
use Rattle.ttree_junit.proofs.Turns.{nothing_left, turned}
use Rattle.ttree_junit.proofs.lines.push_lines.Goals as goal

pub returns-then-is_empty : goal.returns-then-is_empty
returns-then-is_empty c =
    let rest = c.loop-turn.rest.now in
    let empty : (length rest == 0) ≡ true = sym c.is_empty.ensures ∙ c.if-is_empty.true in
    sym (c.loop-turn.invariant.1
    ∙ nothing_left (length c.args.text.now - c.loop-turn._turn) (option_map (λ k. k.now) c.loop-turn.kept) rest c.loop-turn.rows.items empty)

pub loop-turn-preserved : goal.loop-turn-preserved
loop-turn-preserved c =
    let rest = c.loop-turn.rest.now in
    let rows = c.loop-turn.rows.items in
    let kept = option_map (λ k. k.now) c.loop-turn.kept in
    let now = option_map (λ k. k.now) c.in_ok-kept.kept in
    let others = c.first_line.result.1.now in
    let n = length c.args.text.now - (c.loop-turn._turn + 1) in
    let fuel : length c.args.text.now - c.loop-turn._turn ≡ suc n = omega arith in
    let filled : (length rest == 0) ≡ false = sym c.is_empty.ensures ∙ c.if-is_empty.false in
    let written : c.push_line.new.rows.items ≡ rows ++ line_rows kept (text_first_line rest) =
    c.in_ok-kept.ensures.pushed ∙ ap (λ l. rows ++ line_rows kept l) c.first_line.ensures.line in
    let waits : now ≡ kept_after kept (text_first_line rest) = c.in_ok-kept.ensures.kept ∙ ap (kept_after kept) c.first_line.ensures.line in (
      search rules,
      c.loop-turn.invariant.1 ∙ ap (λ k. rows ++ rows_within k kept rest) fuel ∙ turned n kept rest rows filled
          ∙ sym (ap (λ r. r ++ rows_within n now others) written
          ∙ ap (λ k. (rows ++ line_rows kept (text_first_line rest)) ++ rows_within n k others)
          waits
          ∙ ap (λ r. (rows ++ line_rows kept (text_first_line rest)) ++ rows_within n (kept_after kept (text_first_line rest)) r) c.first_line.ensures.others),
    )
