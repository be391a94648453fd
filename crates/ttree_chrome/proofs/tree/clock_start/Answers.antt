use Rattle.std.proofs.Common.{◌≡◌, ◌≤◌, ◌∷◌, ◌+◌, ◌^◌, List, [], length, drop, sym, ap, ◌∙◌, arith}
use Rattle.std.specs.Prelude.{min}
use Rattle.std.proofs.lemmas.List.{drop_more}
use Rattle.ttree_chrome.specs.Tree.{clock_start}
use Rattle.ttree_chrome.specs.declared.gather.Item.{Item}
use Rattle.ttree_chrome.proofs.tree.clock_start.Goals as goal

starts_by_zero : (items : List Item) → clock_start items ≤ 2 ^ 63
starts_by_zero [] = omega arith
starts_by_zero (item ∷ others) = omega (arith, starts_by_zero others)

pub loop-item-init : goal.loop-item-init
loop-item-init c = record { same = omega (arith, starts_by_zero c.args.items.now); small = omega arith }

pub loop-item-preserved : goal.loop-item-preserved
loop-item-preserved c =
    let l = c.loop-item in
    let xs = c.args.items.now in
    let x = c.item-item.result in
    let others = drop (l.item-index + 1) xs in
    let here : drop l.item-index xs ≡ x ∷ others = drop_more xs l.item-index x (omega arith) ∙ ap (λ y. y ∷ others) (sym c.item-item.is) in
    let next : clock_start (drop l.item-index xs) ≡ min x.start.time (clock_start others) = ap clock_start here in
    record {
      same = omega (arith, l.invariant.same, next, c.min-start.ensures);
      small = omega (arith, l.invariant.small, c.min-start.ensures);
    }
