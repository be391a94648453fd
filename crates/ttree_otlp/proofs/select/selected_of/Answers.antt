use Rattle.std.proofs.Common.{rules, ◌≡◌, ℕ, Bool, List, [], ◌∷◌, ◌++◌, ap, ◌∙◌, append_assoc, sym}
use Rattle.ttree_otlp.specs.Nested.{reach_with}
use Rattle.ttree_otlp.specs.Select.{is_selected, is_with_selected_by, kept_with}
use Rattle.ttree_otlp.specs.declared.walk.Row.{Row}
use Rattle.ttree_otlp.proofs.Reach.{selected_more}
use Rattle.ttree_otlp.proofs.select.selected_of.Goals as goal

pub loop-row-preserved : goal.loop-row-preserved
loop-row-preserved c =
    let (done, split, same, up) = c.loop-row.invariant in
    let selection = c.args.selection.now in
    let row = c.in-Some.row in
    let popped : c.loop-row.rows.items ≡ c.pop.new.self.items ++ row ∷ [] = search rules in
    let keeps : c.is_with_selected_by-is_kept.result ≡ is_with_selected_by selection row (is_selected selection row) c.loop-row.reach = search rules in
    let reached : c.reach_with-reach.result ≡ reach_with (is_selected selection row) row.depth c.loop-row.reach = search rules in (
      row ∷ done,
      split ∙ ap (λ (l : List Row). l ++ done) popped ∙ append_assoc c.pop.new.self.items (row ∷ []) done
          ∙ ap (λ (l : List Row). l ++ row ∷ done) (sym c.trim.ensures),
      c.in_ok-keep.ensures ∙ ap (λ (b : Bool). kept_with b row c.loop-row.kept) keeps
          ∙ selected_more selection row done c.loop-row.kept c.loop-row.reach same up,
      reached ∙ ap (λ (n : ℕ). reach_with (is_selected selection row) row.depth n) up,
    )
