use Rattle.std.proofs.Common.{◌∙◌, ◌+◌, ◌++◌, ◌∷◌, [], ap, sym, subst, refl, option_to_list}
use Rattle.std.proofs.lemmas.List.{append-nil}
use Rattle.tracing_tree_drawing.specs.Rows.Paths.{ArePathsOf, FollowsRows}
use Rattle.tracing_tree_drawing.specs.declared.rows.paths.Paths.{Paths}
use Rattle.tracing_tree_drawing.proofs.RowsRead.AncestryLaws.{paths-more}
use Rattle.tracing_tree_drawing.proofs.rows.paths.Paths.take.Goals as goal
use Rattle.tracing_tree_drawing.proofs.rows.paths.Paths.take.Goals.{in-Some+in_ok-push, in_default}

pub returns-clause-paths : goal.returns-clause-paths
returns-clause-paths c rows h =
    let old = c.args.self.now in
    let row = c.args.row.now in
    let path = c.in_ok-path.field-0 in
    let follows : FollowsRows rows row path c.take.new.self = c.in_ok-path.ensures rows h.counted h.last in
    elim c.match-branch-2.branch [
      | in-Some+in_ok-push w ↦
          subst (λ (s : Paths). ArePathsOf (rows ++ row ∷ []) s.ancestry (s.rows + 1) s.paths.items) (sym w.self-is)
          (paths-more rows row old.ancestry c.take.new.self old.rows (old.rows + 1) old.paths.items w.push.new.self.items path h follows refl
          (w.in_ok-push.ensures.items ∙ ap (λ o. old.paths.items ++ option_to_list o) (sym w.in-Some.is)))
      | in_default w ↦
          subst (λ (s : Paths). ArePathsOf (rows ++ row ∷ []) s.ancestry (s.rows + 1) s.paths.items) (sym w.self-is)
          (paths-more rows row old.ancestry c.take.new.self old.rows (old.rows + 1) old.paths.items old.paths.items path h follows refl
          (sym (ap (λ o. old.paths.items ++ option_to_list o) w.in_default.is ∙ append-nil old.paths.items)))
    ]
