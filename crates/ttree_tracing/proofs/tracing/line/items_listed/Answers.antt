use Rattle.std.proofs.Common.{◌≡◌, ◌+◌, ◌++◌, ◌∷◌, [], drop, ap, sym, ◌∙◌, arith, rules, append_assoc}
use Rattle.std.proofs.lemmas.List.{drop_more}
use Rattle.json.specs.Value.{items_view, value_view}
use Rattle.ttree_tracing.specs.TracingLine.{items_listed, listed_of}
use Rattle.ttree_tracing.proofs.tracing.line.items_listed.Goals as goal

pub loop-item-preserved : goal.loop-item-preserved
loop-item-preserved c =
    let l = c.loop-item in
    let xs = c.deref-item-items.result.now in
    let x = c.item-item.result in
    let others = drop (l.item-index + 1) xs in
    let here : drop l.item-index xs ≡ x ∷ others = drop_more xs l.item-index x (omega arith) ∙ ap (λ y. y ∷ others) (sym c.item-item.is) in
    let done = l.spans.items in
    let pushed : c.push.new.self.items ≡ done ++ listed_of (value_view x) ∷ [] = search rules in
    l.invariant
    ∙ ap (λ vs. done ++ items_listed (items_view vs)) here
    ∙ sym (append_assoc done (listed_of (value_view x) ∷ []) (items_listed (items_view others)))
    ∙ ap (λ front. front ++ items_listed (items_view others)) (sym pushed)
