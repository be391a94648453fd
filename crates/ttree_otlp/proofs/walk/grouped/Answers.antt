use Rattle.std.proofs.Common.{rules, ◌≡◌, List, [], ◌∷◌, ◌++◌, ap, ◌∙◌, append_assoc, sym}
use Rattle.ttree_otlp.specs.Walk.{put_first}
use Rattle.ttree_otlp.specs.declared.item.Item.{Item}
use Rattle.ttree_otlp.proofs.walk.grouped.Goals as goal

pub loop-item-preserved : goal.loop-item-preserved
loop-item-preserved c =
    let (done, split, same) = c.loop-item.invariant in
    let item = c.in-Some.item in
    let popped : c.loop-item.items.items ≡ c.pop.new.self.items ++ item ∷ [] = search rules in (
      item ∷ done,
      split ∙ ap (λ (l : List Item). l ++ done) popped ∙ append_assoc c.pop.new.self.items (item ∷ []) done
          ∙ ap (λ (l : List Item). l ++ item ∷ done) (sym c.trim.ensures),
      c.in_ok-put_first.ensures ∙ ap (put_first item) same,
    )
