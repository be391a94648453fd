use Rattle.std.proofs.Common.{◌≡◌, ◌+◌, ℕ, List, refl, sym, subst, ◌∙◌, arith, true, false, [], ◌∷◌, take, Some, IfSome, IfOk, Ok}
use Rattle.std.specs.Prelude.{MatchOption}
use Rattle.tracing_tree_lines.specs.declared.lines.LineCause.TheVariants.{Read}
use Rattle.tracing_tree_lines.specs.Lines.Reads.{ReadsNext}
use Rattle.tracing_tree_lines.specs.Lines.Spelled.{input_lines}
use Rattle.ttree_source.specs.Noted.{AddsNotes}
use Rattle.ttree_source.specs.Source.{Accepts, EndsAt, MakesSome, problem_of, note_of, noted_at, noted_lines, notes_of}
use Rattle.ttree_source.specs.declared.run.Judged.TheVariants.{End, Known, Unknown}
use Rattle.ttree_source.proofs.Ended.{of_notes as is_of_notes}
use Rattle.ttree_source.proofs.Interpreted.{starts, flushed, more, stops, stops_noted, finishes, next_outside, noted_outside, noted_last, noted_whole}
use Rattle.ttree_source.proofs.Noted.{adds_none, note_last, note_made, noted_by_number}
use Rattle.ttree_source.proofs.run.run_source.Goals.{in-Ok-Known, in-Ok-Unknown+in_default}
use Rattle.ttree_source.proofs.run.run_source.Goals as goal

pub loop-number-init : goal.loop-number-init
loop-number-init g c = record {
  room = omega arith;
  so_far = starts g.C.Calls.answers g.C.Calls.flushes g.S.Source.takes g.S.Source.value_problem (g.L.LineInput.remaining c.args.lines.now) c.args.source.now
      (g.N.Notes.noted c.args.notes.now) c.args.receiver.now;
}

pub returns-in-Ok-End-clause-run : goal.returns-in-Ok-End-clause-run
returns-in-Ok-End-clause-run g c =
    let answers = g.C.Calls.answers in
    let flushes = g.C.Calls.flushes in
    let takes = g.S.Source.takes in
    let value_problem = g.S.Source.value_problem in
    let known = g.L.LineInput.remaining c.args.lines.now in
    let middle = g.L.LineInput.remaining c.loop-number.lines in
    let left = g.L.LineInput.remaining c.read_next-read.new.lines in
    let line = c.as_slice.result.now in
    let read : ReadsNext middle left line c.read_next-read.result = subst (λ (it : List ℕ). ReadsNext middle left it c.read_next-read.result) (sym c.as_slice.ensures.value) c.read_next-read.ensures.read in
    let noted = g.N.Notes.noted c.args.notes.now in
    let notes = g.N.Notes.noted c.loop-number.notes in
    let shown = flushed answers flushes takes value_problem known middle c.args.source.now c.loop-number.source c.loop-number.number c.loop-number.unknown noted notes
    c.args.receiver.now c.loop-number.receiver c.read_next-read.new.receiver c.loop-number.invariant.so_far c.read_next-read.ensures.flushed in
    let is : c.run_read.result ≡ Ok End = cc in
    let next = rw is at (c.run_read.ensures.next middle left read) in
    finishes answers flushes takes value_problem g.S.Source.ends g.S.Source.ended known middle left line c.args.source.now c.loop-number.source c.run_read.new.source c.loop-number.number c.loop-number.unknown noted notes
    c.args.receiver.now c.read_next-read.new.receiver c.run_read.new.receiver shown next

pub returns-in-Ok-End-clause-noted : goal.returns-in-Ok-End-clause-noted
returns-in-Ok-End-clause-noted g c =
    let answers = g.C.Calls.answers in
    let flushes = g.C.Calls.flushes in
    let takes = g.S.Source.takes in
    let value_problem = g.S.Source.value_problem in
    let known = g.L.LineInput.remaining c.args.lines.now in
    let middle = g.L.LineInput.remaining c.loop-number.lines in
    let left = g.L.LineInput.remaining c.read_next-read.new.lines in
    let line = c.as_slice.result.now in
    let read : ReadsNext middle left line c.read_next-read.result = subst (λ (it : List ℕ). ReadsNext middle left it c.read_next-read.result) (sym c.as_slice.ensures.value) c.read_next-read.ensures.read in
    let noted = g.N.Notes.noted c.args.notes.now in
    let notes = g.N.Notes.noted c.loop-number.notes in
    let shown = flushed answers flushes takes value_problem known middle c.args.source.now c.loop-number.source c.loop-number.number c.loop-number.unknown noted notes
    c.args.receiver.now c.loop-number.receiver c.read_next-read.new.receiver c.loop-number.invariant.so_far c.read_next-read.ensures.flushed in
    let is : c.run_read.result ≡ Ok End = cc in
    let next = rw is at (c.run_read.ensures.next middle left read) in
    noted_whole answers flushes takes value_problem g.S.Source.ends g.S.Source.ended known middle left line c.args.source.now c.loop-number.source c.run_read.new.source c.loop-number.number c.loop-number.unknown noted notes
    c.args.receiver.now c.read_next-read.new.receiver c.run_read.new.receiver shown next

pub returns-in-Err-clause-run : goal.returns-in-Err-clause-run
returns-in-Err-clause-run g c =
    let answers = g.C.Calls.answers in
    let flushes = g.C.Calls.flushes in
    let takes = g.S.Source.takes in
    let value_problem = g.S.Source.value_problem in
    let known = g.L.LineInput.remaining c.args.lines.now in
    let middle = g.L.LineInput.remaining c.loop-number.lines in
    let left = g.L.LineInput.remaining c.read_next-read.new.lines in
    let line = c.as_slice.result.now in
    let read : ReadsNext middle left line c.read_next-read.result = subst (λ (it : List ℕ). ReadsNext middle left it c.read_next-read.result) (sym c.as_slice.ensures.value) c.read_next-read.ensures.read in
    let noted = g.N.Notes.noted c.args.notes.now in
    let notes = g.N.Notes.noted c.loop-number.notes in
    let shown = flushed answers flushes takes value_problem known middle c.args.source.now c.loop-number.source c.loop-number.number c.loop-number.unknown noted notes
    c.args.receiver.now c.loop-number.receiver c.read_next-read.new.receiver c.loop-number.invariant.so_far c.read_next-read.ensures.flushed in
    stops answers flushes takes value_problem g.S.Source.ends g.S.Source.ended known middle left line c.args.source.now c.loop-number.source c.run_read.new.source c.loop-number.number c.loop-number.unknown noted notes c.in-Err.cause c.in-Err.ensures.cause
    c.args.receiver.now c.read_next-read.new.receiver c.run_read.new.receiver shown (c.in-Err.ensures.next middle left read)

pub returns-in-Err-clause-noted : goal.returns-in-Err-clause-noted
returns-in-Err-clause-noted g c =
    let answers = g.C.Calls.answers in
    let flushes = g.C.Calls.flushes in
    let takes = g.S.Source.takes in
    let value_problem = g.S.Source.value_problem in
    let known = g.L.LineInput.remaining c.args.lines.now in
    let middle = g.L.LineInput.remaining c.loop-number.lines in
    let left = g.L.LineInput.remaining c.read_next-read.new.lines in
    let line = c.as_slice.result.now in
    let read : ReadsNext middle left line c.read_next-read.result = subst (λ (it : List ℕ). ReadsNext middle left it c.read_next-read.result) (sym c.as_slice.ensures.value) c.read_next-read.ensures.read in
    let noted = g.N.Notes.noted c.args.notes.now in
    let notes = g.N.Notes.noted c.loop-number.notes in
    let shown = flushed answers flushes takes value_problem known middle c.args.source.now c.loop-number.source c.loop-number.number c.loop-number.unknown noted notes
    c.args.receiver.now c.loop-number.receiver c.read_next-read.new.receiver c.loop-number.invariant.so_far c.read_next-read.ensures.flushed in
    noted_outside answers flushes takes value_problem known middle c.args.source.now c.loop-number.source c.loop-number.number c.loop-number.unknown noted notes
    c.args.receiver.now c.read_next-read.new.receiver shown c.in-Err.cause c.in-Err.ensures.cause

pub returns-in-Err-skip-clause-run : goal.returns-in-Err-skip-clause-run
returns-in-Err-skip-clause-run g c =
    let answers = g.C.Calls.answers in
    let flushes = g.C.Calls.flushes in
    let takes = g.S.Source.takes in
    let value_problem = g.S.Source.value_problem in
    let known = g.L.LineInput.remaining c.args.lines.now in
    let middle = g.L.LineInput.remaining c.loop-number.lines in
    let left = g.L.LineInput.remaining c.read_next-read.new.lines in
    let line = c.as_slice.result.now in
    let read : ReadsNext middle left line c.read_next-read.result = subst (λ (it : List ℕ). ReadsNext middle left it c.read_next-read.result) (sym c.as_slice.ensures.value) c.read_next-read.ensures.read in
    let noted = g.N.Notes.noted c.args.notes.now in
    let notes = g.N.Notes.noted c.loop-number.notes in
    let shown = flushed answers flushes takes value_problem known middle c.args.source.now c.loop-number.source c.loop-number.number c.loop-number.unknown noted notes
    c.args.receiver.now c.loop-number.receiver c.read_next-read.new.receiver c.loop-number.invariant.so_far c.read_next-read.ensures.flushed in
    let is : c.run_read.result ≡ Ok Unknown = cc in
    let next = rw is at (c.run_read.ensures.next middle left read) in
    let of_notes = is_of_notes c.problem_of-problem.result c.skip.result c.in-Err-skip.cause c.skip.ensures.ended c.in-Err-skip.is in
    stops_noted answers flushes takes value_problem g.S.Source.ends g.S.Source.ended known middle left line c.args.source.now c.loop-number.source c.run_read.new.source c.loop-number.number c.loop-number.unknown noted notes c.in-Err-skip.cause of_notes
    c.args.receiver.now c.read_next-read.new.receiver c.run_read.new.receiver shown next

pub returns-in-Err-skip-clause-noted : goal.returns-in-Err-skip-clause-noted
returns-in-Err-skip-clause-noted g c =
    let answers = g.C.Calls.answers in
    let flushes = g.C.Calls.flushes in
    let takes = g.S.Source.takes in
    let value_problem = g.S.Source.value_problem in
    let known = g.L.LineInput.remaining c.args.lines.now in
    let middle = g.L.LineInput.remaining c.loop-number.lines in
    let left = g.L.LineInput.remaining c.read_next-read.new.lines in
    let line = c.as_slice.result.now in
    let read : ReadsNext middle left line c.read_next-read.result = subst (λ (it : List ℕ). ReadsNext middle left it c.read_next-read.result) (sym c.as_slice.ensures.value) c.read_next-read.ensures.read in
    let noted = g.N.Notes.noted c.args.notes.now in
    let notes = g.N.Notes.noted c.loop-number.notes in
    let shown = flushed answers flushes takes value_problem known middle c.args.source.now c.loop-number.source c.loop-number.number c.loop-number.unknown noted notes
    c.args.receiver.now c.loop-number.receiver c.read_next-read.new.receiver c.loop-number.invariant.so_far c.read_next-read.ensures.flushed in
    let is : c.run_read.result ≡ Ok Unknown = cc in
    let next = rw is at (c.run_read.ensures.next middle left read) in
    let of_notes = is_of_notes c.problem_of-problem.result c.skip.result c.in-Err-skip.cause c.skip.ensures.ended c.in-Err-skip.is in
    let problem : IfOk c.problem_of-problem.result (λ problem. problem ≡ problem_of value_problem line) =
    subst (λ (it : List ℕ). IfOk c.problem_of-problem.result (λ problem. problem ≡ problem_of value_problem it)) (c.as_slice-in-Ok-Unknown.ensures.value ∙ sym c.as_slice.ensures.value) c.problem_of-problem.ensures in
    let left_notes = g.N.Notes.noted c.skip.new.notes in
    let note : AddsNotes (take (noted_at c.in-Err-skip.cause) ((c.loop-number.number, problem_of value_problem line) ∷ [])) notes left_notes =
    noted_by_number c.problem_of-problem.result notes left_notes c.loop-number.number _ _ c.skip.ensures.noted (omega arith)
    (note_last c.loop-number.number (problem_of value_problem line) c.problem_of-problem.result c.skip.result c.in-Err-skip.cause c.skip.ensures.ended c.in-Err-skip.is problem) in
    noted_last answers flushes takes value_problem known middle left line c.args.source.now c.loop-number.source c.run_read.new.source c.loop-number.number c.loop-number.unknown noted notes left_notes
    c.args.receiver.now c.read_next-read.new.receiver c.run_read.new.receiver shown next c.in-Err-skip.cause of_notes note

pub loop-number-preserved : goal.loop-number-preserved
loop-number-preserved g c =
    let answers = g.C.Calls.answers in
    let flushes = g.C.Calls.flushes in
    let takes = g.S.Source.takes in
    let value_problem = g.S.Source.value_problem in
    let known = g.L.LineInput.remaining c.args.lines.now in
    let middle = g.L.LineInput.remaining c.loop-number.lines in
    let left = g.L.LineInput.remaining c.read_next-read.new.lines in
    let line = c.as_slice.result.now in
    let read : ReadsNext middle left line c.read_next-read.result = subst (λ (it : List ℕ). ReadsNext middle left it c.read_next-read.result) (sym c.as_slice.ensures.value) c.read_next-read.ensures.read in
    let noted = g.N.Notes.noted c.args.notes.now in
    let notes = g.N.Notes.noted c.loop-number.notes in
    let shown = flushed answers flushes takes value_problem known middle c.args.source.now c.loop-number.source c.loop-number.number c.loop-number.unknown noted notes
    c.args.receiver.now c.loop-number.receiver c.read_next-read.new.receiver c.loop-number.invariant.so_far c.read_next-read.ensures.flushed in
    elim c.match-run_read-2.branch [
      | in-Ok-Known w ↦
          let is : c.run_read.result ≡ Ok Known = cc in
          let next = rw is at (c.run_read.ensures.next middle left read) in
          record {
            room = omega (arith, w.unknown-is, c.loop-number.invariant.room);
            so_far = rw (w.unknown-is, w.notes-is) (more answers flushes takes value_problem known middle left line c.args.source.now c.loop-number.source c.run_read.new.source c.loop-number.number c.loop-number.unknown c.loop-number.unknown true (omega arith) noted notes notes (adds_none notes)
                c.args.receiver.now c.read_next-read.new.receiver c.run_read.new.receiver shown next);
          }
      | in-Ok-Unknown+in_default w ↦
          let is : c.run_read.result ≡ Ok Unknown = cc in
          let next = rw is at (c.run_read.ensures.next middle left read) in
          let problem : IfOk w.problem_of-problem.result (λ problem. problem ≡ problem_of value_problem line) =
          subst (λ (it : List ℕ). IfOk w.problem_of-problem.result (λ problem. problem ≡ problem_of value_problem it)) (w.as_slice-in-Ok-Unknown.ensures.value ∙ sym c.as_slice.ensures.value) w.problem_of-problem.ensures in
          let left_notes = g.N.Notes.noted w.skip.new.notes in
          let note : AddsNotes (note_of value_problem c.loop-number.number line 1) notes left_notes =
          noted_by_number w.problem_of-problem.result notes left_notes c.loop-number.number _ _ w.skip.ensures.noted (omega arith)
          (note_made c.loop-number.number (problem_of value_problem line) w.problem_of-problem.result w.skip.result w.in_default.field-0 w.skip.ensures.ended w.in_default.is problem) in
          record {
            room = omega (arith, w.unknown-is, c.loop-number.invariant.room);
            so_far = rw (w.unknown-is, w.notes-is) (more answers flushes takes value_problem known middle left line c.args.source.now c.loop-number.source c.run_read.new.source c.loop-number.number c.loop-number.unknown (c.loop-number.unknown + 1) false refl noted notes left_notes note
                c.args.receiver.now c.read_next-read.new.receiver c.run_read.new.receiver shown next);
          }
    ]

pub returns-clause-run : goal.returns-clause-run
returns-clause-run g c =
    let answers = g.C.Calls.answers in
    let flushes = g.C.Calls.flushes in
    let takes = g.S.Source.takes in
    let value_problem = g.S.Source.value_problem in
    let known = g.L.LineInput.remaining c.args.lines.now in
    let middle = g.L.LineInput.remaining c.loop-number.lines in
    let noted = g.N.Notes.noted c.args.notes.now in
    let notes = g.N.Notes.noted c.loop-number.notes in
    let now = c.loop-number.receiver in
    let last : c.loop-number.number ≡ 18446744073709551615 = omega arith in
    let P : ℕ → Type 0 = λ number. MatchOption known (MakesSome (Accepts answers flushes) answers (Some Read) c.args.receiver.now now)
    (λ input. EndsAt (Accepts answers flushes) answers takes g.S.Source.ends (input_lines input) c.args.source.now
    (record { unknown = c.loop-number.unknown; fault = Some (record { line = number; cause = Read }) }) (record { line = number; cause = Read }) c.args.receiver.now now) in
    subst P last (stops answers flushes takes value_problem g.S.Source.ends g.S.Source.ended known middle middle [] c.args.source.now c.loop-number.source c.loop-number.source c.loop-number.number c.loop-number.unknown
    noted notes Read tt c.args.receiver.now now now c.loop-number.invariant.so_far
    (next_outside answers flushes takes g.S.Source.ends g.S.Source.ended middle middle [] c.loop-number.source c.loop-number.source Read now refl))

pub returns-clause-noted : goal.returns-clause-noted
returns-clause-noted g c =
    let answers = g.C.Calls.answers in
    let flushes = g.C.Calls.flushes in
    let takes = g.S.Source.takes in
    let value_problem = g.S.Source.value_problem in
    let known = g.L.LineInput.remaining c.args.lines.now in
    let middle = g.L.LineInput.remaining c.loop-number.lines in
    let noted = g.N.Notes.noted c.args.notes.now in
    let notes = g.N.Notes.noted c.loop-number.notes in
    let now = c.loop-number.receiver in
    let last : c.loop-number.number ≡ 18446744073709551615 = omega arith in
    let P : ℕ → Type 0 = λ number. IfSome known (λ input. AddsNotes (notes_of takes value_problem 1 c.args.source.now
    (noted_lines (record { unknown = c.loop-number.unknown; fault = Some (record { line = number; cause = Read }) }) (input_lines input))) noted notes) in
    subst P last (noted_outside answers flushes takes value_problem known middle c.args.source.now c.loop-number.source c.loop-number.number c.loop-number.unknown noted notes
    c.args.receiver.now now c.loop-number.invariant.so_far Read tt)
