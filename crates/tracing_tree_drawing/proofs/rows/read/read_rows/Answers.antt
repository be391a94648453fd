use Rattle.std.proofs.Common.{◌≡◌, ◌∙◌, ◌≤◌, ℕ, List, Vec, Global, ap, sym, subst}
use Rattle.std.proofs.lemmas.Result.{err_from_is_err_and}
use Rattle.tracing_tree_drawing.specs.Rows.RowText.{TextRow, IsOnlyReading}
use Rattle.tracing_tree_drawing.specs.Rows.Line.{with_last}
use Rattle.tracing_tree_drawing.specs.Rows.Texts.{ReportsFault}
use Rattle.tracing_tree_drawing.proofs.RowsRead.ReadPlaces.{read_end}
use Rattle.tracing_tree_drawing.proofs.RowsRead.ReadBack.{drawn-rows, drawn-faults}
use Rattle.tracing_tree_drawing.proofs.rows.read.read_rows.Goals as goal
use Rattle.tracing_tree_drawing.proofs.rows.read.read_rows.Goals.{in-Some-finish+in_ok-push-2, in_default-finish}

pub returns-in_err-taken-clause-fault : goal.returns-in_err-taken-clause-fault
returns-in_err-taken-clause-fault c =
    let invariant = c.loop-rows.invariant in
    let emits = c.in_err-taken.ensures.next c.args.text.now c.loop-rows.rows.items invariant.1 in
    let emits = subst (λ (amount : ℕ). ReportsFault amount c.args.text.now c.in_err-taken.field-0.0) invariant.0 emits in
    let p = err_from_is_err_and c.from_residual.result c.from_residual.ensures.1 in
    rw (p.1, p.2) emits

pub returns-in_err-taken-clause-drawn_fault : goal.returns-in_err-taken-clause-drawn_fault
returns-in_err-taken-clause-drawn_fault c =
    drawn-faults c.args.amount c.requires c.args.text.now c.from_residual.result (returns-in_err-taken-clause-fault c)

pub returns-clause-rows : goal.returns-clause-rows
returns-clause-rows c =
    let invariant = c.loop-rows.invariant in
    let left = c.take_line.new.self in
    let next = rw c.in_default.is at (c.in_ok-taken.ensures.next c.args.text.now c.loop-rows.rows.items invariant.1) in
    let same = rw c.in_default.is at c.in_ok-taken.ensures.less in
    let amount : left.reader.amount ≡ c.args.amount = same ∙ invariant.0 in
    let rows : List TextRow = c.loop-rows.rows.items in
    let only : IsOnlyReading left.reader.amount c.args.text.now (with_last rows left.reader.last) =
    read_end c.args.text.now rows left (subst (λ (n : ℕ). 2 ≤ n) (sym amount) c.requires) next.1 next.0 in
    let all : c.match-finish.rows.items ≡ with_last rows left.reader.last = elim c.match-finish.branch [
      | in-Some-finish+in_ok-push-2 w ↦
          ap (λ (v : Vec TextRow Global). v.items) w.rows-is ∙ w.in_ok-push-2.ensures.items ∙ ap (with_last rows) (sym w.in-Some-finish.is ∙ c.finish.ensures)
      | in_default-finish w ↦
          ap (λ (v : Vec TextRow Global). v.items) w.rows-is ∙ ap (with_last rows) (sym w.in_default-finish.is ∙ c.finish.ensures)
    ] in
    subst (λ (n : ℕ). IsOnlyReading n c.args.text.now c.match-finish.rows.items) amount
    (subst (λ (out : List TextRow). IsOnlyReading left.reader.amount c.args.text.now out) (sym all) only)

pub returns-clause-drawn : goal.returns-clause-drawn
returns-clause-drawn c = drawn-rows c.args.amount c.args.text.now c.match-finish.rows.items (returns-clause-rows c)
