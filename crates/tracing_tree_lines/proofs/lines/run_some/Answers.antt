use Rattle.std.proofs.Common.{◌≡◌, ◌+◌, ◌<◌, ◌++◌, Ok, sym, ap, subst, ◌∙◌, arith}
use Rattle.std.proofs.lemmas.Result.{err_from_is_err_and}
use Rattle.tracing_tree_layer.specs.Layer.Layers.{seen}
use Rattle.tracing_tree_lines.specs.Lines.Runs.{last_number}
use Rattle.tracing_tree_lines.specs.Lines.SoFar.{counted, RunsHeld}
use Rattle.tracing_tree_lines.specs.declared.lines.Judged.TheVariants.{End}
use Rattle.tracing_tree_lines.proofs.HeldLines.{is_input, consumed, held_fault, next_more, next_none, next_fault, counted_number, counted_room}
use Rattle.tracing_tree_lines.proofs.lines.run_some.Goals as goal

pub returns-in_err-judged-clause-ran : goal.returns-in_err-judged-clause-ran
returns-in_err-judged-clause-ran g c =
    let p = err_from_is_err_and c.from_residual.result c.from_residual.ensures.1 in
    let remaining = g.L.LineInput.remaining in
    let held = c.whole_lines.result.now in
    let rest = c.whole_lines.ensures.rest in
    let holds : g.L.LineInput.held c.args.lines.now ≡ held ++ rest = sym c.held.ensures.held ∙ c.whole_lines.ensures.front in
    let input = is_input (g.L.LineInput.remaining c.args.lines.now) (g.L.LineInput.held c.args.lines.now) held rest c.held.ensures.front holds in
    let ran = c.in_err-judged.ensures.ran in
    let see = seen g.FT.FormatTime g.W.Output in
    rw (p.1, p.2) (held_fault see (remaining c.args.lines.now) (remaining c.args.lines.now) held rest c.args.run.now c.run_held.new.run
    c.in_err-judged.field-0.0 input _ _ ran)

pub returns-then-judged-gt0-clause-ran : goal.returns-then-judged-gt0-clause-ran
returns-then-judged-gt0-clause-ran g c =
    let held = c.whole_lines.result.now in
    let rest = c.whole_lines.ensures.rest in
    let holds : g.L.LineInput.held c.args.lines.now ≡ held ++ rest = sym c.held.ensures.held ∙ c.whole_lines.ensures.front in
    let done = c.in_ok-judged.ensures in
    consumed (seen g.FT.FormatTime g.W.Output) (g.L.LineInput.remaining c.args.lines.now) (g.L.LineInput.remaining c.consume.new.self) (g.L.LineInput.held c.args.lines.now) held rest
    c.args.run.now c.run_held.new.run c.in_ok-judged.judged c.held.ensures.front holds done.within c.consume.ensures _ _ done.ran

pub returns-in_err-judged-2-clause-ran : goal.returns-in_err-judged-2-clause-ran
returns-in_err-judged-2-clause-ran g c =
    let p = err_from_is_err_and c.from_residual-in_err-judged-2.result c.from_residual-in_err-judged-2.ensures.1 in
    let remaining = g.L.LineInput.remaining in
    let held = c.whole_lines.result.now in
    let rest = c.whole_lines.ensures.rest in
    let holds : g.L.LineInput.held c.args.lines.now ≡ held ++ rest = sym c.held.ensures.held ∙ c.whole_lines.ensures.front in
    let input = is_input (g.L.LineInput.remaining c.args.lines.now) (g.L.LineInput.held c.args.lines.now) held rest c.held.ensures.front holds in
    let see = seen g.FT.FormatTime g.W.Output in
    let run = c.run_held.new.run in
    let nothing : c.in_ok-judged.judged ≡ 0 = omega arith in
    let below : run.number < last_number = omega (arith, c.in_ok-judged.ensures.none nothing, c.requires.below) in
    let ran = subst (λ judged. RunsHeld see held c.args.run.now run (Ok judged) c.args.layered.now c.run_held.new.layered) nothing c.in_ok-judged.ensures.ran in
    rw (p.1, p.2) (next_fault see (remaining c.args.lines.now) (remaining c.run_line.new.lines) held rest c.args.run.now run c.in_err-judged-2.field-0.0 input below
    c.args.layered.now c.run_held.new.layered c.run_line.new.layered ran c.in_err-judged-2.ensures)

pub returns-in-End-clause-ran : goal.returns-in-End-clause-ran
returns-in-End-clause-ran g c =
    let remaining = g.L.LineInput.remaining in
    let held = c.whole_lines.result.now in
    let rest = c.whole_lines.ensures.rest in
    let holds : g.L.LineInput.held c.args.lines.now ≡ held ++ rest = sym c.held.ensures.held ∙ c.whole_lines.ensures.front in
    let input = is_input (g.L.LineInput.remaining c.args.lines.now) (g.L.LineInput.held c.args.lines.now) held rest c.held.ensures.front holds in
    let see = seen g.FT.FormatTime g.W.Output in
    let run = c.run_held.new.run in
    let nothing : c.in_ok-judged.judged ≡ 0 = omega arith in
    let below : run.number < last_number = omega (arith, c.in_ok-judged.ensures.none nothing, c.requires.below) in
    let ran = subst (λ judged. RunsHeld see held c.args.run.now run (Ok judged) c.args.layered.now c.run_held.new.layered) nothing c.in_ok-judged.ensures.ran in
    let line = rw c.in-End.is at c.in_ok-judged-2.ensures in
    next_none see (remaining c.args.lines.now) (remaining c.run_line.new.lines) held rest c.args.run.now run input below
    c.args.layered.now c.run_held.new.layered c.run_line.new.layered ran line

pub returns-in_default : goal.returns-in_default
returns-in_default g c =
    let remaining = g.L.LineInput.remaining in
    let held = c.whole_lines.result.now in
    let rest = c.whole_lines.ensures.rest in
    let holds : g.L.LineInput.held c.args.lines.now ≡ held ++ rest = sym c.held.ensures.held ∙ c.whole_lines.ensures.front in
    let input = is_input (g.L.LineInput.remaining c.args.lines.now) (g.L.LineInput.held c.args.lines.now) held rest c.held.ensures.front holds in
    let see = seen g.FT.FormatTime g.W.Output in
    let run = c.run_held.new.run in
    let nothing : c.in_ok-judged.judged ≡ 0 = omega arith in
    let below : run.number < last_number = omega (arith, c.in_ok-judged.ensures.none nothing, c.requires.below) in
    let ran = subst (λ judged. RunsHeld see held c.args.run.now run (Ok judged) c.args.layered.now c.run_held.new.layered) nothing c.in_ok-judged.ensures.ran in
    let judged = c.in_ok-judged-2.judged in
    let more : judged ≡ End → ⊥ = c.in_default.not-End in
    let is : c.count.new.self ≡ counted judged run = c.count.ensures in
    let number : c.count.new.self.number ≡ run.number + 1 = ap (λ r. r.number) is ∙ counted_number judged run in
    record {
      room = rw is (counted_room judged run c.in_ok-judged.ensures.room.0 below);
      onward = λ more. omega (arith, number, c.in_ok-judged.ensures.none nothing);
      ran = rw is (next_more see (remaining c.args.lines.now) (remaining c.run_line.new.lines) held rest c.args.run.now run judged input more
          c.args.layered.now c.run_held.new.layered c.run_line.new.layered ran c.in_ok-judged-2.ensures);
    }
