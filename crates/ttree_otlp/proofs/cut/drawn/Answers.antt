use Rattle.std.proofs.Common.{rules, ◌≡◌, ℕ, Bool, List, [], ◌∷◌, ◌++◌, ap, ◌∙◌, append_assoc, sym}
use Rattle.ttree_otlp.specs.Cut.{drawn_with, is_drawn_by, lasts}
use Rattle.ttree_otlp.specs.Nested.{reach_with}
use Rattle.ttree_otlp.specs.declared.walk.Row.{Row}
use Rattle.ttree_otlp.proofs.Reach.{drawn_more}
use Rattle.ttree_otlp.proofs.cut.drawn.Goals as goal

pub loop-row-preserved : goal.loop-row-preserved
loop-row-preserved c =
    let (done, split, same, up) = c.loop-row.invariant in
    let cut = c.args.cut in
    let row = c.in-Some.row in
    let popped : c.loop-row.rows.items ≡ c.pop.new.self.items ++ row ∷ [] = search rules in
    let draws : c.is_drawn_by-is_drawn.result ≡ is_drawn_by cut row (lasts cut.min_time row) c.loop-row.reach = search rules in
    let reached : c.reach_with-reach.result ≡ reach_with (lasts cut.min_time row) row.depth c.loop-row.reach = search rules in (
      row ∷ done,
      split ∙ ap (λ (l : List Row). l ++ done) popped ∙ append_assoc c.pop.new.self.items (row ∷ []) done
          ∙ ap (λ (l : List Row). l ++ row ∷ done) (sym c.trim.ensures),
      c.in_ok-draw.ensures ∙ ap (λ (b : Bool). drawn_with b row c.loop-row.left) draws
          ∙ drawn_more cut row done c.loop-row.left c.loop-row.reach same up,
      reached ∙ ap (λ (n : ℕ). reach_with (lasts cut.min_time row) row.depth n) up,
    )
