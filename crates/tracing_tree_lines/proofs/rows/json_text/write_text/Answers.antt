use Rattle.std.proofs.Common.{◌++◌, take, refl}
use Rattle.std.proofs.KnownBytes.{Appends-trans}
use Rattle.tracing_tree_output.proofs.Written.{moves_front}
use Rattle.tracing_tree_lines.proofs.RowsRead.JsonTexts.{writes-no-more}
use Rattle.tracing_tree_lines.proofs.rows.json_text.write_text.Goals as goal

pub returns-in_default : goal.returns-in_default
returns-in_default g c =
    let (done, split, appended) = c.loop-rest.invariant in
    (refl, writes-no-more _ _ _ _ done c.loop-rest.rest.now split appended c.in_default.ensures.err)

pub loop-rest-preserved : goal.loop-rest-preserved
loop-rest-preserved g c =
    let (done, split, appended) = c.loop-rest.invariant in
    let rest = c.loop-rest.rest.now in
    let n = c.in-Some.taken in
    (done ++ take n rest, moves_front _ done rest n split, Appends-trans _ _ _ _ _ appended c.in-Some.ensures.ok)
