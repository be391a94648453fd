use Rattle.std.proofs.Common.{◌++◌, take, ◌∙◌}
use Rattle.std.proofs.KnownBytes.{Appends-trans}
use Rattle.tracing_tree_output.proofs.Written.{moves_front, none_left}
use Rattle.tracing_tree_output.proofs.write.write_all.Goals as goal

pub loop-rest-preserved : goal.loop-rest-preserved
loop-rest-preserved g c =
    let (done, split, appended, same, whole) = c.loop-rest.invariant in
    let rest = c.loop-rest.rest.now in
    let n = c.in_ok-taken.taken in (
      done ++ take n rest,
      moves_front _ done rest n split,
      Appends-trans _ _ _ _ _ appended c.in_ok-taken.ensures.contents,
      c.in_ok-taken.ensures.count ∙ same,
      λ w _. none_left rest n (c.in_ok-taken.ensures.taken.all w),
    )
