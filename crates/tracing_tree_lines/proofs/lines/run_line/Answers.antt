use Rattle.std.proofs.Common.{refl}
use Rattle.std.proofs.lemmas.Result.{err_from_is_err_and}
use Rattle.tracing_tree_layer.specs.Layer.Layers.{seen}
use Rattle.tracing_tree_lines.specs.Lines.Reads.{TakesLine}
use Rattle.tracing_tree_lines.proofs.LineRuns.{outside_line}
use Rattle.tracing_tree_lines.proofs.lines.run_line.Goals as goal

pub returns-in_err-read_next : goal.returns-in_err-read_next
returns-in_err-read_next g c =
    let p = err_from_is_err_and c.from_residual.result c.from_residual.ensures.1 in
    let remaining = g.L.LineInput.remaining in
    rw (p.1, p.2) (record {
      shown = c.read_next.new.layered;
      flushed = c.in_err-read_next.ensures.shown;
      judged = record {
        changed = outside_line (remaining c.args.lines.now) (remaining c.read_next.new.lines) c.in_err-read_next.field-0.0
            (seen g.FT.FormatTime g.W.Output c.read_next.new.layered) c.in_err-read_next.ensures.read;
        fixed = refl;
      };
    })

pub returns-then-not-branch : goal.returns-then-not-branch
returns-then-not-branch g c = record {
  shown = c.read_next.new.layered;
  flushed = c.in_ok-read_next.ensures.shown;
  judged = record { changed = (rw c.if-not-branch.true at c.in_ok-read_next.ensures.read, refl); fixed = refl };
}

pub returns : goal.returns
returns g c =
    let remaining = g.L.LineInput.remaining in
    let read : TakesLine (remaining c.args.lines.now) (remaining c.read_next.new.lines) c.read_next.new.line.items =
    rw c.if-not-branch.false at c.in_ok-read_next.ensures.read in
    let first : TakesLine (remaining c.args.lines.now) (remaining c.read_next.new.lines) c.as_slice-2.result.now = rw c.as_slice-2.ensures.value read in
    record {
      shown = c.read_next.new.layered;
      flushed = c.in_ok-read_next.ensures.shown;
      judged = c.judge.ensures.judged (remaining c.args.lines.now) (remaining c.read_next.new.lines) first;
    }
