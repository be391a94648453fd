use Rattle.std.proofs.Common.{◌≡◌, ◌+◌, ◌<◌, drop, position, Some, refl, ap, ◌∙◌, arith}
use Rattle.std.proofs.lemmas.Result.{err_from_is_err_and}
use Rattle.tracing_tree_layer.specs.Layer.Layers.{seen}
use Rattle.tracing_tree_lines.specs.Lines.Runs.{last_number}
use Rattle.tracing_tree_lines.specs.Lines.SoFar.{counted}
use Rattle.tracing_tree_lines.proofs.LineEnds.{is_end}
use Rattle.tracing_tree_lines.proofs.HeldLines.{none_held, held_more, held_ends, found_at, whole_text, cut_at_end, cut_after_end, place_after_end, counted_number, counted_room, onward as further}
use Rattle.tracing_tree_lines.proofs.lines.run_held.Goals as goal

pub loop-length-init : goal.loop-length-init
loop-length-init g c =
    let held = c.args.held.now in
    record {
      room = (c.requires.room, omega (arith, c.requires.below));
      within = omega arith;
      cut = rw c.ok-whole.ensures.value (whole_text (λ text. text.now) c.from_utf8.result held c.from_utf8.ensures);
      onward = λ some. absurd (omega (arith, some));
      none = λ none. refl;
      change = none_held (seen g.FT.FormatTime g.W.Output) held c.args.run.now c.args.layered.now;
    }

pub line_text-text-requires-clause-cut : goal.line_text-text-requires-clause-cut
line_text-text-requires-clause-cut g c =
    let start = c.loop-length.start in
    let found : position is_end (drop start c.args.held.now) ≡ Some c.in-Some.length = found_at c.args.held.now start c.in-Some.length c.line_end.result c.line_end.ensures c.in-Some.is in
    cut_at_end (λ text. text.now) c.ok-whole.result c.args.held.now start c.in-Some.length found c.loop-length.invariant.cut

pub returns-in_err-judged-clause-ran : goal.returns-in_err-judged-clause-ran
returns-in_err-judged-clause-ran g c =
    let p = err_from_is_err_and c.from_residual.result c.from_residual.ensures.1 in
    let held = c.args.held.now in
    let l = c.loop-length in
    let n = c.in-Some.length in
    let cause = c.in_err-judged.field-0.0 in
    let found : position is_end (drop l.start held) ≡ Some n = found_at held l.start n c.line_end.result c.line_end.ensures c.in-Some.is in
    let below : l.run.number < last_number = omega (arith, l.invariant.room.1) in
    let see = seen g.FT.FormatTime g.W.Output in
    rw (p.1, p.2) (held_ends see held c.args.run.now l.run l.start n cause found below c.args.layered.now l.layered c.judge.new.layered l.invariant.change
    c.in_err-judged.ensures.judged)

pub loop-length-preserved : goal.loop-length-preserved
loop-length-preserved g c =
    let held = c.args.held.now in
    let l = c.loop-length in
    let n = c.in-Some.length in
    let judged = c.in_ok-judged.judged in
    let found : position is_end (drop l.start held) ≡ Some n = found_at held l.start n c.line_end.result c.line_end.ensures c.in-Some.is in
    let below : l.run.number < last_number = omega (arith, l.invariant.room.1) in
    let run = c.count.new.self in
    let is : run ≡ counted judged l.run = c.count.ensures in
    let number : run.number ≡ l.run.number + 1 = ap (λ r. r.number) is ∙ counted_number judged l.run in
    let see = seen g.FT.FormatTime g.W.Output in
    record {
      room = rw is (counted_room judged l.run l.invariant.room.0 below);
      within = place_after_end held l.start n found;
      cut = cut_after_end (λ text. text.now) c.ok-whole.result held l.start n found l.invariant.cut;
      onward = λ some. further l.start c.args.run.now.number l.run.number run.number l.invariant.onward l.invariant.none number;
      none = λ none. absurd (omega (arith, none));
      change = rw is (held_more see held c.args.run.now l.run l.start n judged found c.in_ok-judged.ensures.there c.args.layered.now l.layered c.judge.new.layered
          l.invariant.change c.in_ok-judged.ensures.judged);
    }
