use Rattle.std.proofs.Common.{◌≡◌, ◌∙◌, ◌+◌, ◌++◌, ◌∷◌, [], ◌≤◌, ℕ, List, Option, length, ap, sym, subst, refl, arith}
use Rattle.std.proofs.lemmas.Result.{err_from_is_err_and}
use Rattle.tracing_tree_drawing.specs.Rows.Paths.{AreLastPlaces}
use Rattle.tracing_tree_drawing.specs.Rows.Line.{with_last}
use Rattle.tracing_tree_drawing.specs.Rows.Texts.{IsReadTo, ReportsFault, TextLeft}
use Rattle.tracing_tree_drawing.specs.Rows.RowText.{TextRow, IsOnlyReading, event_paths}
use Rattle.tracing_tree_drawing.specs.declared.rows.paths.Paths.{Paths}
use Rattle.tracing_tree_drawing.proofs.RowsRead.AncestryLaws.{last_none}
use Rattle.tracing_tree_drawing.proofs.RowsRead.ReadBack.{drawn-faults}
use Rattle.tracing_tree_drawing.proofs.RowsRead.ReadPlaces.{read_start, read_end}
use Rattle.tracing_tree_drawing.proofs.rows.paths.read_event_paths.Goals as goal
use Rattle.tracing_tree_drawing.proofs.rows.paths.read_event_paths.Goals.{in-Some-finish+in_ok-take-2, in_default-finish}

pub loop-so_far-init : goal.loop-so_far-init
loop-so_far-init c =
    let text = c.args.text.now in
    let rest : length c.new-lines.result.rest ≡ length text = ap (λ (v : TextLeft). length v.rest) c.new-lines.ensures in (
      ap (λ (v : TextLeft). v.reader.amount) c.new-lines.ensures,
      omega arith,
      (
        [],
        subst (λ (v : TextLeft). IsReadTo text [] v) (sym c.new-lines.ensures) (read_start c.args.amount text),
        record { last = subst (λ (ps : List (Option ℕ)). AreLastPlaces [] ps) (sym c.new.ensures) last_none; counted = refl; found = c.new-2.ensures.items },
      ),
    )

pub returns-in_err-taken-clause-fault : goal.returns-in_err-taken-clause-fault
returns-in_err-taken-clause-fault c =
    let invariant = c.loop-so_far.invariant in
    let emits = c.in_err-taken.ensures.next c.args.text.now invariant.2.0 invariant.2.1 in
    let emits = subst (λ (amount : ℕ). ReportsFault amount c.args.text.now c.in_err-taken.field-0.0) invariant.0 emits in
    let p = err_from_is_err_and c.from_residual.result c.from_residual.ensures.1 in
    rw (p.1, p.2) emits

pub returns-in_err-taken-clause-drawn_fault : goal.returns-in_err-taken-clause-drawn_fault
returns-in_err-taken-clause-drawn_fault c =
    drawn-faults c.args.amount c.requires c.args.text.now c.from_residual.result (returns-in_err-taken-clause-fault c)

pub loop-so_far-preserved-in-Some-taken-2 : goal.loop-so_far-preserved-in-Some-taken-2
loop-so_far-preserved-in-Some-taken-2 c =
    let invariant = c.loop-so_far.invariant in
    let rows : List TextRow = invariant.2.0 in
    let row = c.in-First-Some.row in
    let next = rw (c.in-Some.is, c.in-First-Some.is, c.in-First-Some.field-0-is) at (c.in_ok-taken.ensures.next c.args.text.now rows invariant.2.1) in
    let less = rw c.in-Some.is at c.in_ok-taken.ensures.less in
    let count : c.take.new.self.rows ≡ c.loop-so_far.so_far.rows + 1 = c.in_ok-take.ensures.counted in (
      less.1 ∙ invariant.0,
      omega (arith, less.0, invariant.1),
      (rows ++ row ∷ [], next, c.in_ok-take.ensures.paths rows invariant.2.2),
    )

pub returns-clause-paths : goal.returns-clause-paths
returns-clause-paths c =
    let invariant = c.loop-so_far.invariant in
    let rows : List TextRow = invariant.2.0 in
    let left = c.take_line.new.self in
    let next = rw c.in_default.is at (c.in_ok-taken.ensures.next c.args.text.now rows invariant.2.1) in
    let same = rw c.in_default.is at c.in_ok-taken.ensures.less in
    let amount : left.reader.amount ≡ c.args.amount = same ∙ invariant.0 in
    let only : IsOnlyReading left.reader.amount c.args.text.now (with_last rows left.reader.last) =
    read_end c.args.text.now rows left (subst (λ (n : ℕ). 2 ≤ n) (sym amount) c.requires) next.1 next.0 in
    let all : c.match-finish.so_far.paths.items ≡ event_paths (with_last rows left.reader.last) = elim c.match-finish.branch [
      | in-Some-finish+in_ok-take-2 w ↦
          ap (λ (s : Paths). s.paths.items) w.so_far-is ∙ (w.in_ok-take-2.ensures.paths rows invariant.2.2).found
          ∙ ap (λ last. event_paths (with_last rows last)) (sym w.in-Some-finish.is ∙ c.finish.ensures)
      | in_default-finish w ↦
          ap (λ (s : Paths). s.paths.items) w.so_far-is ∙ invariant.2.2.found
          ∙ ap (λ last. event_paths (with_last rows last)) (sym w.in_default-finish.is ∙ c.finish.ensures)
    ] in
    record {
      rows = with_last rows left.reader.last;
      reading = subst (λ (n : ℕ). IsOnlyReading n c.args.text.now (with_last rows left.reader.last)) amount only;
      paths_are = all;
    }
