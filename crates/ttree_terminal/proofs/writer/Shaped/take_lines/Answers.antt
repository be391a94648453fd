use Rattle.std.proofs.Common.{[], ◌++◌, sym, ap, subst, ◌∙◌, append_assoc, append-nil}
use Rattle.std.proofs.KnownBytes.{Appends-trans}
use Rattle.std.proofs.lemmas.Result.{err_from_is_err_and}
use Rattle.std.specs.Io.KnownBytes.{Appends}
use Rattle.ttree_terminal.specs.Lines.{held_after_bytes, lines_ended, shaped}
use Rattle.ttree_terminal.proofs.Taken.{all_or_part, ends_line, ends_none, held_when_ok}
use Rattle.ttree_terminal.proofs.writer.Shaped.take_lines.Goals as goal

pub returns-in_err-write_line-clause-written : goal.returns-in_err-write_line-clause-written
returns-in_err-write_line-clause-written g c =
    let (done, lines, appended, rest_held, same) = c.loop-length.invariant in
    let (part, more, split, written) = c.in_err-write_line.ensures.written in
    let it = c.loop-length.self in
    let line = c.split_at.result.0.now in
    let rest = c.split_at.result.1.now in
    let first = ends_line it.shaping it.held c.loop-length.rest.now line rest c.in-Some.length c.in-Some.ensures c.split_at.ensures.front c.split_at.ensures.back in
    let after = lines_ended it.shaping [] rest in
    let failed = err_from_is_err_and c.from_residual.result c.from_residual.ensures.1 in
    rw failed.1 (
      done ++ part,
      more ++ after,
      lines ∙ ap (λ l. done ++ l) (first.lines ∙ ap (λ l. l ++ after) split ∙ append_assoc part more after) ∙ sym (append_assoc done part (more ++ after)),
      Appends-trans _ _ _ _ _ appended written,
    )

pub loop-length-preserved : goal.loop-length-preserved
loop-length-preserved g c =
    let (done, lines, appended, rest_held, same) = c.loop-length.invariant in
    let it = c.loop-length.self in
    let line = c.split_at.result.0.now in
    let rest = c.split_at.result.1.now in
    let next = c.write_line.new.self in
    let first = ends_line it.shaping it.held c.loop-length.rest.now line rest c.in-Some.length c.in-Some.ensures c.split_at.ensures.front c.split_at.ensures.back in
    let written = shaped it.shaping (it.held ++ line) in (
      done ++ written,
      lines ∙ ap (λ l. done ++ l) (first.lines ∙ ap (λ s. written ++ lines_ended s _ rest) (sym c.in_ok-write_line.ensures.same) ∙ ap (λ h. written ++ lines_ended next.shaping h rest) (sym c.in_ok-write_line.ensures.held))
          ∙ sym (append_assoc done written (lines_ended next.shaping next.held rest)),
      Appends-trans _ _ _ _ _ appended c.in_ok-write_line.ensures.written,
      rest_held ∙ first.rest_held
          ∙ ap (λ h. held_after_bytes h rest) (sym c.in_ok-write_line.ensures.held),
      c.in_ok-write_line.ensures.same ∙ same,
    )

pub returns-clause-written : goal.returns-clause-written
returns-clause-written g c =
    let (done, lines, appended, rest_held, same) = c.loop-length.invariant in
    let it = c.loop-length.self in
    let none = ends_none it.shaping it.held c.loop-length.rest.now c.in_default.ensures in
    all_or_part _ done c.hold.result _ _ (lines ∙ ap (λ l. done ++ l) none.lines ∙ append-nil done)
    (subst (λ w. Appends (g.W.Write.contents c.args.self.now.writer) (g.W.Write.contents w) done) (sym c.hold.ensures.writer) appended)

pub returns-clause-held : goal.returns-clause-held
returns-clause-held g c =
    let (done, lines, appended, rest_held, same) = c.loop-length.invariant in
    let it = c.loop-length.self in
    let none = ends_none it.shaping it.held c.loop-length.rest.now c.in_default.ensures in
    held_when_ok c.hold.result _ _ _ c.hold.ensures.held (rest_held ∙ none.rest_held)
