use Rattle.std.proofs.Common.{◌∙◌, false, Ok, ap, subst}
use Rattle.tracing_tree_lines.specs.Lines.Reads.{ReadsNext, TakesLine}
use Rattle.ttree_source.proofs.Interpreted.{next_ends, next_outside, next_stops}
use Rattle.ttree_source.proofs.run.run_read.Goals as goal

pub returns-in-Err-run_line-clause-next : goal.returns-in-Err-run_line-clause-next
returns-in-Err-run_line-clause-next g c = λ known left read.
    let line = c.args.line.now in
    let first : TakesLine known left line = subst (ReadsNext known left line) (c.in-Ok-true.is ∙ ap Ok c.in-Ok-true.field-0-test) read in
    next_stops g.C.Calls.answers g.C.Calls.flushes g.S.Source.takes g.S.Source.ends g.S.Source.ended known left line c.args.source.now c.run_line.new.source c.in-Err-run_line.cause
    c.args.receiver.now c.run_line.new.receiver first c.in-Err-run_line.ensures.line

pub returns-in-Err-run_end-clause-next : goal.returns-in-Err-run_end-clause-next
returns-in-Err-run_end-clause-next g c = λ known left read.
    let line = c.args.line.now in
    let none : ReadsNext known left line (Ok false) = subst (ReadsNext known left line) (c.in-Ok-false.is ∙ ap Ok c.in-Ok-false.field-0-test) read in
    next_ends g.C.Calls.answers g.C.Calls.flushes g.S.Source.takes g.S.Source.ends g.S.Source.ended known left line c.args.source.now c.run_end.new.source c.in-Err-run_end.cause
    c.args.receiver.now c.run_end.new.receiver none c.in-Err-run_end.ensures.end

pub returns-in-Err-clause-next : goal.returns-in-Err-clause-next
returns-in-Err-clause-next g c = λ known left read.
    let line = c.args.line.now in
    next_outside g.C.Calls.answers g.C.Calls.flushes g.S.Source.takes g.S.Source.ends g.S.Source.ended known left line c.args.source.now c.args.source.now c.in-Err.cause c.args.receiver.now
    (subst (ReadsNext known left line) c.in-Err.is read)
